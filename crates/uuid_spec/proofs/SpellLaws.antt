-- What a UUID text spells: 16 octets, and those alone (specs/Uuid.antt). The laws hold of any groups of octets. Assumes nothing.
use mathlib.Core.Path.{◌≡◌, refl, sym, ap, ap₂, ◌∙◌, subst}
use mathlib.Core.Bool.{true}
use mathlib.Core.List.{List, [], ◌∷◌, ◌++◌, append-nil}
use Prim.Native.Nat.{ℕ, zero, suc, ◌+◌, ◌*◌, ◌/◌, ◌%◌, ◌<◌}
use native.Mathlib.Omega.{arith}
use lib.ListN.{length, take, drop, get_or, length-append, length-drop, take-append-drop}
use lib.Seq.{take_all, take_at, drop_at, length-take-le, get_or-drop}
use lib.Dec.{leb, eqb}
use borrow.Author.Tests.{leb-true, eqb-true, eq-eqb}
use Rattle.octets.specs.Bytes.{AreBytes}
use Rattle.octets.proofs.Tests.{by_cond, and_left, and_right, and_both, no_flag}
use Rattle.resource_spec.specs.Identifier.{between, is_hex, Slot, digit as a_digit, char, has_form, uuid_form}
use Rattle.uuid_spec.specs.Uuid.{digit, hex, grouped, text, lower, lowered, Spells}
use Rattle.uuid_spec.specs.Promises.{TextsSpell, SpelledOnce}
use Rattle.uuid_spec.proofs.DigitLaws.{digit_lower, value, octet_value, hex_digit, digit_hex}

-- ---- octets

-- an octet before others
byte_first : (x : ℕ) (b : List ℕ) → x < 256 → AreBytes b → AreBytes (x ∷ b)
byte_first x b h f zero = h
byte_first x b h f (suc i) = f i

-- octets before others
bytes_append : (a b : List ℕ) → AreBytes a → AreBytes b → AreBytes (a ++ b)
bytes_append [] b f g i = g i
bytes_append (x ∷ a) b f g zero = f 0
bytes_append (x ∷ a) b f g (suc i) = bytes_append a b (λ j. f (suc j)) g i

-- the first of some octets
bytes_take : (n : ℕ) (b : List ℕ) → AreBytes b → AreBytes (take n b)
bytes_take zero b f i = omega arith
bytes_take (suc n) [] f i = omega arith
bytes_take (suc n) (x ∷ b) f zero = f 0
bytes_take (suc n) (x ∷ b) f (suc i) = bytes_take n b (λ j. f (suc j)) i

-- and the others
bytes_drop : (n : ℕ) (b : List ℕ) → AreBytes b → AreBytes (drop n b)
bytes_drop n b f i = subst (λ (x : ℕ). x < 256) (sym (get_or-drop n b i 0)) (f (n + i))

-- the two digits of an octet before a text
abbrev pair : ℕ → List ℕ → List ℕ
pair x u = digit (x / 16) ∷ digit (x % 16) ∷ u

-- ---- the form of groups

-- two digits for each of n octets, before other slots
abbrev digits : ℕ → List Slot → List Slot
digits zero fs = fs
digits (suc n) fs = a_digit ∷ a_digit ∷ digits n fs

-- the slots of groups of so many octets
abbrev slots : List ℕ → List Slot
slots [] = []
slots (n ∷ []) = digits n []
slots (n ∷ m ∷ ns) = digits n (char 45 ∷ slots (m ∷ ns))

-- how many octets they have
abbrev sum : List ℕ → ℕ
sum [] = 0
sum (n ∷ ns) = n + sum ns

-- document 01's form of a UUID text is that of groups of 4, 2, 2, 2 and 6
uuid_slots : uuid_form ≡ slots (4 ∷ 2 ∷ 2 ∷ 2 ∷ 6 ∷ [])
unfolding uuid_form
uuid_slots = refl

-- ---- from the form to the octets

-- two digits spell an octet
two_read : (fs : List Slot) (t : List ℕ) → has_form (a_digit ∷ a_digit ∷ fs) t ≡ true
    → (x : ℕ) × (x < 256) × ((r : List ℕ) × (has_form fs r ≡ true) × (lowered t ≡ pair x (lowered r)))
unfolding has_form
two_read fs [] e = no_flag e
two_read fs (c ∷ []) e = no_flag (and_right (is_hex c) _ e)
two_read fs (c ∷ d ∷ r) e =
    let h = hex_digit c (and_left (is_hex c) _ e) in
    let k = hex_digit d (and_left (is_hex d) _ (and_right (is_hex c) _ e)) in
    let m : ℕ = h.0 in
    let n : ℕ = k.0 in
    let high : m ≡ (m * 16 + n) / 16 = omega (arith, h.1, k.1) in
    let low : n ≡ (m * 16 + n) % 16 = omega (arith, h.1, k.1) in (
      m * 16 + n,
      omega (arith, h.1, k.1),
      (
        r,
        and_right (is_hex d) _ (and_right (is_hex c) _ e),
        ap₂ (λ (x y : ℕ). x ∷ y ∷ lowered r) (h.2 ∙ ap digit high) (k.2 ∙ ap digit low),
      ),
    )

-- "-" is itself
dash_read : (fs : List Slot) (t : List ℕ) → has_form (char 45 ∷ fs) t ≡ true
    → (r : List ℕ) × (has_form fs r ≡ true) × (lowered t ≡ 45 ∷ lowered r)
unfolding has_form
dash_read fs [] e = no_flag e
dash_read fs (c ∷ r) e =
    let k : c ≡ 45 = eqb-true c 45 (and_left (eqb c 45) _ e) in
    (r, and_right (eqb c 45) _ e, ap (λ (x : ℕ). lower x ∷ lowered r) k)

-- nothing is left
end_read : (t : List ℕ) → has_form [] t ≡ true → lowered t ≡ []
unfolding has_form
end_read [] e = refl
end_read (c ∷ t) e = no_flag e

-- the octets that the digits at the start of a text spell, and what is left of it
record Group (n : ℕ) (fs : List Slot) (t : List ℕ) : Type 0 where
  octets : List ℕ
  bytes : AreBytes octets
  size : length octets ≡ n
  rest : List ℕ
  form : has_form fs rest ≡ true
  spelled : lowered t ≡ hex octets ++ lowered rest

group_read : (n : ℕ) (fs : List Slot) (t : List ℕ) → has_form (digits n fs) t ≡ true → Group n fs t
group_read zero fs t e = record { octets = []; bytes = λ i. omega arith; size = refl; rest = t; form = e; spelled = refl }
group_read (suc n) fs t e =
    let p = two_read (digits n fs) t e in
    let g = group_read n fs p.2.0 p.2.1 in
    record {
      octets = p.0 ∷ g.octets;
      bytes = byte_first p.0 g.octets p.1 g.bytes;
      size = ap suc g.size;
      rest = g.rest;
      form = g.form;
      spelled = p.2.2 ∙ ap (pair p.0) g.spelled;
    }

-- the octets that a text of groups spells
record Read (ns t : List ℕ) : Type 0 where
  octets : List ℕ
  bytes : AreBytes octets
  size : length octets ≡ sum ns
  spelled : lowered t ≡ grouped ns octets

groups_read : (ns t : List ℕ) → has_form (slots ns) t ≡ true → Read ns t
groups_read [] t e = record { octets = []; bytes = λ i. omega arith; size = refl; spelled = end_read t e }
groups_read (n ∷ []) t e =
    let g = group_read n [] t e in
    let all : take n g.octets ≡ g.octets = take_all n g.octets (omega (arith, g.size)) in
    record {
      octets = g.octets;
      bytes = g.bytes;
      size = omega (arith, g.size);
      spelled = g.spelled ∙ ap (λ (u : List ℕ). hex g.octets ++ u) (end_read g.rest g.form) ∙ append-nil (hex g.octets)
          ∙ ap hex (sym all);
    }
groups_read (n ∷ m ∷ ns) t e =
    let g = group_read n (char 45 ∷ slots (m ∷ ns)) t e in
    let d = dash_read (slots (m ∷ ns)) g.rest g.form in
    let k = groups_read (m ∷ ns) d.0 d.1 in
    let a : List ℕ = g.octets in
    let b : List ℕ = k.octets in
    record {
      octets = a ++ b;
      bytes = bytes_append a b g.bytes k.bytes;
      size = omega (arith, length-append a b, g.size, k.size);
      spelled = g.spelled ∙ ap (λ (u : List ℕ). hex a ++ u) (d.2 ∙ ap (λ (u : List ℕ). 45 ∷ u) k.spelled)
          ∙ sym (ap₂ (λ (x y : List ℕ). hex x ++ (45 ∷ grouped (m ∷ ns) y)) (take_at a b n g.size) (drop_at a b n g.size));
    }

-- ---- from the octets to the form

-- the two digits of an octet
two_back : (fs : List Slot) (x : ℕ) (u t : List ℕ) → x < 256 → lowered t ≡ pair x u
    → ((r : List ℕ) → lowered r ≡ u → has_form fs r ≡ true) → has_form (a_digit ∷ a_digit ∷ fs) t ≡ true
unfolding has_form
two_back fs x u [] h e f = absurd (omega (arith, ap length e))
two_back fs x u (c ∷ []) h e f = absurd (omega (arith, ap length e))
two_back fs x u (c ∷ d ∷ r) h e f =
    and_both (is_hex c) _ (digit_hex c (x / 16) (omega arith) (ap (λ (l : List ℕ). get_or l 0 0) e))
    (and_both (is_hex d) _ (digit_hex d (x % 16) (omega arith) (ap (λ (l : List ℕ). get_or l 1 0) e)) (f r (ap (drop 2) e)))

-- a character that is "-" in lower case is "-"
lower_dash : (c : ℕ) → lower c ≡ 45 → c ≡ 45
lower_dash c = by_cond (λ (x : ℕ). x ≡ 45 → c ≡ 45) (between 65 90 c)
    (λ t e. absurd (omega (arith, leb-true 65 c (and_left (leb 65 c) (leb c 90) t)))) (λ t e. e)

-- "-"
dash_back : (fs : List Slot) (u t : List ℕ) → lowered t ≡ 45 ∷ u
    → ((r : List ℕ) → lowered r ≡ u → has_form fs r ≡ true) → has_form (char 45 ∷ fs) t ≡ true
unfolding has_form
dash_back fs u [] e f = absurd (omega (arith, ap length e))
dash_back fs u (c ∷ r) e f =
    and_both (eqb c 45) _ (eq-eqb c 45 (lower_dash c (ap (λ (l : List ℕ). get_or l 0 0) e))) (f r (ap (drop 1) e))

-- nothing
end_back : (t : List ℕ) → lowered t ≡ [] → has_form [] t ≡ true
unfolding has_form
end_back [] e = refl
end_back (c ∷ t) e = absurd (omega (arith, ap length e))

-- the digits of some octets
group_back : (n : ℕ) (fs : List Slot) (xs u t : List ℕ) → AreBytes xs → length xs ≡ n → lowered t ≡ hex xs ++ u
    → ((r : List ℕ) → lowered r ≡ u → has_form fs r ≡ true) → has_form (digits n fs) t ≡ true
group_back zero fs [] u t b l e f = f t e
group_back zero fs (x ∷ xs) u t b l e f = absurd (omega arith)
group_back (suc n) fs [] u t b l e f = absurd (omega arith)
group_back (suc n) fs (x ∷ xs) u t b l e f =
    two_back (digits n fs) x (hex xs ++ u) t (b 0) e (λ r k. group_back n fs xs u r (λ i. b (suc i)) (omega arith) k f)

-- groups of octets
groups_back : (ns b t : List ℕ) → AreBytes b → length b ≡ sum ns → lowered t ≡ grouped ns b → has_form (slots ns) t ≡ true
groups_back [] b t f l e = end_back t e
groups_back (n ∷ []) b t f l e =
    group_back n [] (take n b) [] t (bytes_take n b f) (length-take-le n b (omega arith)) (e ∙ sym (append-nil (hex (take n b)))) end_back
groups_back (n ∷ m ∷ ns) b t f l e =
    group_back n (char 45 ∷ slots (m ∷ ns)) (take n b) (45 ∷ grouped (m ∷ ns) (drop n b)) t (bytes_take n b f)
    (length-take-le n b (omega arith)) e
    (λ r k. dash_back (slots (m ∷ ns)) (grouped (m ∷ ns) (drop n b)) r k
    (λ q i. groups_back (m ∷ ns) (drop n b) q (bytes_drop n b f) (omega (arith, length-drop n b)) i))

-- `TextsSpell`
pub texts_spell : TextsSpell
unfolding uuid_form
texts_spell t = (
  λ e. let r = groups_read (4 ∷ 2 ∷ 2 ∷ 2 ∷ 6 ∷ []) t e in
      (r.octets, record { octets = r.bytes; size = r.size; text = r.spelled }),
  λ w. groups_back (4 ∷ 2 ∷ 2 ∷ 2 ∷ 6 ∷ []) w.0 t w.1.octets w.1.size w.1.text,
)

-- ---- the text of octets is lower case

-- so are the digits of octets
hex_lowered : (xs : List ℕ) → AreBytes xs → lowered (hex xs) ≡ hex xs
hex_lowered [] f = refl
hex_lowered (x ∷ xs) f =
    let same : (n : ℕ) → n < 16 → lower (digit n) ≡ digit n = λ n h. rw (digit_lower n h) in
    let high : lower (digit (x / 16)) ≡ digit (x / 16) = same (x / 16) (omega (arith, f 0)) in
    let low : lower (digit (x % 16)) ≡ digit (x % 16) = same (x % 16) (omega arith) in
    ap₂ (λ (c d : ℕ). c ∷ d ∷ lowered (hex xs)) high low ∙ ap (pair x) (hex_lowered xs (λ i. f (suc i)))

-- a text before another
lowered_append : (t u : List ℕ) → lowered (t ++ u) ≡ lowered t ++ lowered u
lowered_append [] u = refl
lowered_append (c ∷ t) u = ap (λ (l : List ℕ). lower c ∷ l) (lowered_append t u)

-- and groups of them
groups_lowered : (ns b : List ℕ) → AreBytes b → lowered (grouped ns b) ≡ grouped ns b
groups_lowered [] b f = refl
groups_lowered (n ∷ []) b f = hex_lowered (take n b) (bytes_take n b f)
groups_lowered (n ∷ m ∷ ns) b f =
    lowered_append (hex (take n b)) (45 ∷ grouped (m ∷ ns) (drop n b))
    ∙ ap₂ (λ (x y : List ℕ). x ++ (45 ∷ y)) (hex_lowered (take n b) (bytes_take n b f)) (groups_lowered (m ∷ ns) (drop n b) (bytes_drop n b f))

-- so the text of 16 octets spells them
pub text_spells : (b : List ℕ) → AreBytes b → length b ≡ 16 → Spells (text b) b
text_spells b f l = record { octets = f; size = l; text = groups_lowered (4 ∷ 2 ∷ 2 ∷ 2 ∷ 6 ∷ []) b f }

-- ---- the octets are those alone

-- equal digits before texts are those of equal octets
hex_once : (x y u v : List ℕ) → AreBytes x → AreBytes y → length x ≡ length y → hex x ++ u ≡ hex y ++ v → (x ≡ y) × (u ≡ v)
hex_once [] [] u v f g l e = (refl, e)
hex_once [] (b ∷ y) u v f g l e = absurd (omega arith)
hex_once (a ∷ x) [] u v f g l e = absurd (omega arith)
hex_once (a ∷ x) (b ∷ y) u v f g l e =
    let high : digit (a / 16) ≡ digit (b / 16) = ap (λ (l : List ℕ). get_or l 0 0) e in
    let low : digit (a % 16) ≡ digit (b % 16) = ap (λ (l : List ℕ). get_or l 1 0) e in
    let one : a ≡ b = sym (octet_value a (f 0)) ∙ ap₂ (λ (m n : ℕ). value m * 16 + value n) high low ∙ octet_value b (g 0) in
    let more = hex_once x y u v (λ i. f (suc i)) (λ i. g (suc i)) (omega arith) (ap (drop 2) e) in
    (ap₂ (λ (c : ℕ) (z : List ℕ). c ∷ z) one more.0, more.1)

groups_once : (ns a b : List ℕ) → AreBytes a → AreBytes b → length a ≡ sum ns → length b ≡ sum ns → grouped ns a ≡ grouped ns b → a ≡ b
groups_once [] [] [] f g k l e = refl
groups_once [] [] (y ∷ b) f g k l e = absurd (omega arith)
groups_once [] (x ∷ a) b f g k l e = absurd (omega arith)
groups_once (n ∷ []) a b f g k l e =
    let ta : take n a ≡ a = take_all n a (omega arith) in
    let tb : take n b ≡ b = take_all n b (omega arith) in
    (hex_once a b [] [] f g (omega arith)
    (append-nil (hex a) ∙ ap hex (sym ta) ∙ e ∙ ap hex tb ∙ sym (append-nil (hex b)))).0
groups_once (n ∷ m ∷ ns) a b f g k l e =
    let la : length (take n a) ≡ n = length-take-le n a (omega arith) in
    let lb : length (take n b) ≡ n = length-take-le n b (omega arith) in
    let h = hex_once (take n a) (take n b) (45 ∷ grouped (m ∷ ns) (drop n a)) (45 ∷ grouped (m ∷ ns) (drop n b))
    (bytes_take n a f) (bytes_take n b g) (la ∙ sym lb) e in
    let r = groups_once (m ∷ ns) (drop n a) (drop n b) (bytes_drop n a f) (bytes_drop n b g) (omega (arith, length-drop n a))
    (omega (arith, length-drop n b)) (ap (drop 1) h.1) in
    sym (take-append-drop n a) ∙ ap₂ (λ (x y : List ℕ). x ++ y) h.0 r ∙ take-append-drop n b

-- `SpelledOnce`
pub spelled_once : SpelledOnce
spelled_once t a b s r =
    groups_once (4 ∷ 2 ∷ 2 ∷ 2 ∷ 6 ∷ []) a b s.octets r.octets s.size r.size (sym s.text ∙ r.text)
