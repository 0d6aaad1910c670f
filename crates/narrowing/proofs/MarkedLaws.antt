-- Laws of the masks that are marked of the grants of a parent (specs/Code.antt): they tell which rules cover a pattern. Assumes nothing.
use mathlib.Core.Path.{◌≡◌, refl, sym, ap, ap₂, ◌∙◌}
use mathlib.Core.Bool.{Bool, true, false, cond, ◌&&◌, ◌||◌, and-true, and-false, or-false}
use mathlib.Core.List.{List, [], ◌∷◌}
use Prim.Native.Nat.{ℕ, zero, suc, ◌+◌, ◌*◌, ◌^◌, ◌≤◌, ◌<◌}
use native.Mathlib.Nat.{zero-div}
use native.Mathlib.Omega.{arith}
use lib.ListN.{length, get_or, replicate, length-append, length-replicate}
use lib.Dec.{leb}
use lib.Bits.{bit_or}
use Rattle.exact.specs.Reads.{got}
use Rattle.octets.specs.Bytes.{same}
use Rattle.resource_spec.specs.Level.{is_name, levels, joined}
use Rattle.resource_spec.specs.Pattern.{Levels, done, deep, name, star, Pattern, IsPattern, NamesIn, spelled, pattern_text, levels_before}
use Rattle.resource_spec.specs.Text.{is_pattern, longest_text, pattern_ok, levels_of, pattern_in, pattern_of}
use Rattle.resource_spec.specs.Cover.{covers}
use Rattle.octets.proofs.Tests.{and_right, no_flag}
use Rattle.octets.proofs.SameLaws.{same_self}
use Rattle.resource_spec.proofs.Promises.{patterns_exact, patterns_once}
use Rattle.descriptor_spec.specs.Model.{Grant}
use Rattle.descriptor_spec.specs.Reader.{has_mode, GrantSeen, grant_at}
use Rattle.descriptor_spec.specs.View.{mask_of}
use Rattle.resource_spec.proofs.Laws.{terminal_length, pattern_short, pattern_levels}
use Rattle.descriptor_spec.specs.Laws.{SeenAs, InTurn, no_more, one_more}
use Rattle.narrowing.specs.Range.{Range}
use Rattle.narrowing_spec.specs.Escape.{pattern_covers, covered, can_take, deepest}
use Rattle.narrowing.specs.Range.{in_range, most, text_range, marked}
use Rattle.narrowing.specs.Code.{below, marked_at, zeros}
use Rattle.narrowing_spec.specs.Laws.{rules_of}
use Rattle.narrowing.proofs.RangeLaws.{range_covers, marked_length, marked_at_lem, or_mode}

-- ---- the text of a pattern

-- the pattern of a terminal id and a text of levels
abbrev pub pattern_with : List ℕ → List ℕ → Pattern
pattern_with t p = record { terminal = t; below = levels_of (levels p) }

-- that of a grant that is seen in s has the terminal id t, and the levels that are seen
pub pattern_seen : {s t : List ℕ} {g : Grant} {v : GrantSeen} → SeenAs s t g v
    → pattern_of g.pattern ≡ pattern_with t (below s v.pattern)
unfolding pattern_of
pattern_seen {g = g} f =
    ap pattern_in (pattern_levels g.pattern f.allowed.pattern)
    ∙ ap₂ (λ (u p : List ℕ). pattern_with u p) f.terminal (sym f.below)

-- a name has a character
name_some : (n : List ℕ) → is_name n ≡ true → 1 ≤ length n
name_some [] e = no_flag e
name_some (b ∷ n) e = omega arith

-- each level before "**" is spelled with two characters or more
spelled_long : (l : List ℕ) (p : Levels) → NamesIn p → length l + 2 * levels_before p ≤ length (joined (l ∷ spelled p))
spelled_long l done i = omega arith
spelled_long l deep i = omega (arith, length-append l (47 ∷ 42 ∷ 42 ∷ []))
spelled_long l (name n p) i = omega (arith, length-append l (47 ∷ joined (n ∷ spelled p)), spelled_long n p i.1, name_some n i.0)
spelled_long l (star p) i = omega (arith, length-append l (47 ∷ joined ((42 ∷ []) ∷ spelled p)), spelled_long (42 ∷ []) p i)

-- a pattern of 256 bytes has at most 105 levels before "**"
pattern_few : (x : List ℕ) → pattern_ok x ≡ true → levels_before (pattern_of x).below ≤ 105
unfolding pattern_ok
pattern_few x e =
    let r : (p : Pattern) × IsPattern p × (x ≡ pattern_text p) =
    (patterns_exact x).0 (and_right (leb (length x) longest_text) (is_pattern x) e) in
    let p : Pattern = r.0 in
    let same-pattern : pattern_of x ≡ p = ap pattern_of r.2 ∙ patterns_once p r.1 in
    let size : length x ≡ length (pattern_text p) = ap length r.2 in
    rw same-pattern
    (omega (
      arith,
      size,
      (pattern_short x e).1,
      terminal_length p.terminal r.1.terminal,
      spelled_long p.terminal p.below
          r.1.names,
    ))

-- the rules of grants that are read in turn have at most 105 levels before "**"
pub turn_few : (s t : List ℕ) {n at : ℕ} {gs : List Grant} → InTurn s t n at gs → deepest (rules_of gs) ≤ 105
turn_few s t (no_more at) = omega arith
turn_few s t (one_more n at next v g gs e f r) = omega (arith, pattern_few g.pattern f.allowed.pattern, turn_few s t r)

-- ---- the masks

-- one grant that is read is marked
marked_step : (s p d : List ℕ) (n at next : ℕ) (g : GrantSeen) → grant_at s at ≡ got g next
    → marked_at s p d (suc n) at ≡ marked_at s p (marked 0 d (text_range (below s g.pattern) p) g.mask) n next
unfolding marked_at
marked_step s p d n at next g e = rw (marked_at, e)

-- a mask joined where a test holds
pub or_where : (b : Bool) (x mask m : ℕ) → has_mode (cond b (bit_or x mask) x) m ≡ (has_mode x m || (has_mode mask m && b))
or_where true x mask m = or_mode x mask m ∙ ap (λ (c : Bool). has_mode x m || c) (sym (and-true (has_mode mask m)))
or_where false x mask m = sym (ap (λ (c : Bool). has_mode x m || c) (and-false (has_mode mask m)) ∙ or-false (has_mode x m))

-- three tests in a row
or_row : (a b c : Bool) → ((a || b) || c) ≡ (a || (b || c))
or_row true b c = refl
or_row false b c = refl

-- a grant's pattern covers another of the same terminal id exactly where the range of the two texts has k
range_says : (s t p : List ℕ) (g : Grant) (v : GrantSeen) (k : ℕ) → SeenAs s t g v → can_take (levels_of (levels p)) k ≡ true → k < most
    → in_range (text_range (below s v.pattern) p) k ≡ pattern_covers (pattern_of g.pattern) (pattern_with t p) k
unfolding text_range
range_says s t p g v k f c h =
    let q : Levels = levels_of (levels (below s v.pattern)) in
    sym
    (ap (λ (x : Pattern). pattern_covers x (pattern_with t p) k) (pattern_seen f)
    ∙ ap (λ (b : Bool). b && covers q (levels_of (levels p)) k) (same_self t)
    ∙ range_covers q (levels_of (levels p)) k c h)

-- after one grant is marked, the mask at k has the modes that it had and those in which the grant's rule covers the pattern with k names
marked_one : (s t p d : List ℕ) (g : Grant) (v : GrantSeen) (m k : ℕ) → SeenAs s t g v → length d ≡ most
    → can_take (levels_of (levels p)) k ≡ true → k < most
    → has_mode (get_or (marked 0 d (text_range (below s v.pattern) p) v.mask) k 0) m
    ≡ (has_mode (get_or d k 0) m || (has_mode (mask_of g.modes) m && pattern_covers (pattern_of g.pattern) (pattern_with t p) k))
marked_one s t p d g v m k f l c h =
    let r : Range = text_range (below s v.pattern) p in
    ap (λ (x : ℕ). has_mode x m) (marked_at_lem d r v.mask k (omega arith)) ∙ or_where (in_range r k) (get_or d k 0) v.mask m
    ∙ ap₂ (λ (x : ℕ) (b : Bool). has_mode (get_or d k 0) m || (has_mode x m && b)) f.mask (range_says s t p g v k f c h)

-- after the grants are marked, the mask at k has the modes that it had and those in which their rules cover the pattern with k names
marked_more : (s t p : List ℕ) {n at : ℕ} {gs : List Grant} → InTurn s t n at gs → (d : List ℕ) (m k : ℕ)
    → length d ≡ most → can_take (levels_of (levels p)) k ≡ true → k < most
    → has_mode (get_or (marked_at s p d n at) k 0) m ≡ (has_mode (get_or d k 0) m || covered (rules_of gs) m (pattern_with t p) k)
unfolding marked_at
marked_more s t p (no_more at) d m k l c h = sym (or-false (has_mode (get_or d k 0) m))
marked_more s t p (one_more n at next v g gs e f st) d m k l c h =
    let r : Range = text_range (below s v.pattern) p in
    let d₁ : List ℕ = marked 0 d r v.mask in
    let rest : Bool = covered (rules_of gs) m (pattern_with t p) k in
    ap (λ (x : List ℕ). has_mode (get_or x k 0) m) (marked_step s p d n at next v e)
    ∙ marked_more s t p st d₁ m k (marked_length 0 d r v.mask ∙ l) c h
    ∙ ap (λ (b : Bool). b || rest) (marked_one s t p d g v m k f l c h)
    ∙ or_row (has_mode (get_or d k 0) m) (has_mode (mask_of g.modes) m && pattern_covers (pattern_of g.pattern) (pattern_with t p) k) rest

-- each of n zeros, and what follows them, is 0
zero_at : (n k : ℕ) → ◌≡◌ {A = ℕ} (get_or (replicate n 0) k 0) 0
zero_at zero k = refl
zero_at (suc n) zero = refl
zero_at (suc n) (suc k) = zero_at n k

-- 0 has no mode
pub zero_lacks : (m : ℕ) → has_mode 0 m ≡ false
unfolding has_mode
zero_lacks m = rw (zero-div (2 ^ m))

-- no mode is marked at first
pub zeros_lack : (m k : ℕ) → has_mode (get_or zeros k 0) m ≡ false
zeros_lack m k = ap (λ (x : ℕ). has_mode x m) (zero_at most k) ∙ zero_lacks m

-- after the grants are marked, the mask at k has exactly the modes in which their rules cover the pattern with k names
pub marked_covered : (s t p : List ℕ) {n at : ℕ} {gs : List Grant} → InTurn s t n at gs → (m k : ℕ)
    → can_take (levels_of (levels p)) k ≡ true → k < most
    → has_mode (get_or (marked_at s p zeros n at) k 0) m ≡ covered (rules_of gs) m (pattern_with t p) k
marked_covered s t p {gs = gs} st m k c h =
    marked_more s t p st zeros m k (length-replicate {A = ℕ} most 0) c h
    ∙ ap (λ (b : Bool). b || covered (rules_of gs) m (pattern_with t p) k) (zeros_lack m k)

-- rules with another terminal id cover nothing
pub other_covered : (s t u p : List ℕ) {n at : ℕ} {gs : List Grant} → InTurn s t n at gs → same t u ≡ false → (m k : ℕ)
    → covered (rules_of gs) m (pattern_with u p) k ≡ false
other_covered s t u p (no_more at) e m k = refl
other_covered s t u p (one_more n at next v g gs i f r) e m k =
    let none_here : pattern_covers (pattern_of g.pattern) (pattern_with u p) k ≡ false =
    ap (λ (x : Pattern). pattern_covers x (pattern_with u p) k) (pattern_seen f)
    ∙ ap (λ (b : Bool). b && covers (levels_of (levels (below s v.pattern))) (levels_of (levels p)) k) e in
    ap₂ (λ (a b : Bool). (has_mode (mask_of g.modes) m && a) || b) none_here (other_covered s t u p r e m k)
    ∙ ap (λ (b : Bool). b || false) (and-false (has_mode (mask_of g.modes) m))
