-- Laws of texts that begin with a terminal id, and of matching two texts (specs/Text.antt of `resource_spec`), in the code's own form.
-- Assumes nothing.
use mathlib.Core.Path.{◌≡◌, refl, sym, ap, ◌∙◌}
use mathlib.Core.Bool.{Bool, true, false, cond, ◌&&◌, and-false, and-true}
use mathlib.Core.List.{List, [], ◌∷◌, ◌++◌}
use Prim.Native.Nat.{ℕ, ◌+◌, ◌-◌, ◌≤◌}
use native.Mathlib.Omega.{arith}
use lib.ListN.{length, get_or, drop, take, length-take, get_or-append}
use lib.Seq.{length-take-le, split_at, take_all}
use lib.Dec.{leb, eqb}
use borrow.Author.Tests.{leb-true, eqb-true, le-leb, eq-eqb}
use Rattle.octets.specs.Bytes.{same}
use Rattle.octets.specs.Scan.{without}
use Rattle.octets.proofs.PartLaws.{part_to_end}
use Rattle.octets.proofs.SameLaws.{same_equal, start_answer}
use Rattle.octets.proofs.Tests.{and_left, and_right}
use Rattle.resource_spec.specs.Identifier.{Slot, is_terminal, uuid_form, terminal_form, levels_place, terminal_size}
use Rattle.std.proofs.Common.{None, Ok, Err}
use Rattle.resource_spec.specs.Level.{levels, levels_ok}
use Rattle.resource_spec.specs.Text.{longest_text, well_formed, is_resource, is_pattern, resource_ok, pattern_ok, levels_match, levels_named}
use Rattle.resource_spec.specs.Text.{yes_with, matching}
use Rattle.resource_spec.specs.Laws.{Begins}
use Rattle.resource_spec.proofs.Laws.{well_begins, begins_well, admits_text, names_text, pattern_terminal, pattern_short, resource_short}
use Rattle.resource_spec.proofs.Laws.{terminal_length, resource_starless}
use Rattle.resource.specs.Code.{form_at, below_ok, same_terminal, pattern_under, answer_of}
use Rattle.resource.specs.Laws.{PatternUnder}
use Rattle.resource.proofs.FormCode.{terminal_form_lem}
use Rattle.resource.proofs.FollowCode.{both_hold}

-- ---- forms

-- what follows a text does not matter to a form that ends within it
form_prefix : (f : List Slot) (s r : List ℕ) (i : ℕ) → i + length f ≤ length s → form_at f (s ++ r) i ≡ form_at f s i
unfolding form_at
form_prefix [] s r i k = refl
form_prefix (x ∷ f) s r i k = rw (get_or-append s r 0 i (omega arith), form_prefix f s r (i + 1) (omega arith))

-- a text of 45 bytes is one where a longer text that begins with it fits the form
terminal_before : (l r : List ℕ) → length l ≡ terminal_size → is_terminal l ≡ form_at terminal_form (l ++ r) 0
unfolding terminal_form uuid_form
terminal_before l r h = terminal_form_lem l h ∙ sym (form_prefix terminal_form l r 0 (omega arith))

-- ---- a text that may enter but for its first 45 bytes

-- what is known of it
pub record Below (wild : Bool) (s : List ℕ) : Type 0 where
  pub short : leb (length s) longest_text ≡ true
  pub long : levels_place ≤ length s
  pub slash : get_or s terminal_size 0 ≡ 47
  pub fine : levels_ok wild (levels (drop levels_place s)) ≡ true

-- the test says so
pub below_says : (wild : Bool) (s : List ℕ) → below_ok wild s ≡ true → Below wild s
unfolding below_ok
below_says wild s e =
    let rest = and_right (leb (length s) longest_text) _ e in
    let more = and_right (leb levels_place (length s)) _ rest in
    record {
      short = and_left (leb (length s) longest_text) _ e;
      long = leb-true levels_place (length s) (and_left (leb levels_place (length s)) _ rest);
      slash = eqb-true (get_or s terminal_size 0) 47 (and_left (eqb (get_or s terminal_size 0) 47) _ more);
      fine = and_right (eqb (get_or s terminal_size 0) 47) _ more;
    }

-- and where it is known, the test holds
below_known : (wild : Bool) (s : List ℕ) → Below wild s → below_ok wild s ≡ true
unfolding below_ok
below_known wild s b = rw (b.short, le-leb levels_place (length s) b.long, eq-eqb (get_or s terminal_size 0) 47 b.slash, b.fine)

-- a text that may enter is such a text whose first 45 bytes are a terminal id
pub text_below : (wild : Bool) (s : List ℕ)
    → (leb (length s) longest_text && well_formed wild (levels s)) ≡ (below_ok wild s && is_terminal (take terminal_size s))
text_below wild s = both_hold _ _ there back
  where
    there : (leb (length s) longest_text && well_formed wild (levels s)) ≡ true → (below_ok wild s && is_terminal (take terminal_size s)) ≡ true
    there e =
        let well = and_right (leb (length s) longest_text) _ e in
        let b : Begins s = well_begins wild s well in
        let below : Below wild s =
        record {
          short = and_left (leb (length s) longest_text) _ e;
          long = b.long;
          slash = b.slash;
          fine =
              sym (begins_well wild s b) ∙ well;
        } in
        rw (below_known wild s below, b.terminal)

    back : (below_ok wild s && is_terminal (take terminal_size s)) ≡ true → (leb (length s) longest_text && well_formed wild (levels s)) ≡ true
    back e =
        let b = below_says wild s (and_left (below_ok wild s) _ e) in
        let begins : Begins s = record { long = b.long; slash = b.slash; terminal = and_right (below_ok wild s) _ e } in
        rw (b.short, begins_well wild s begins, b.fine)

-- the code's test of the form is that of the first 45 bytes
pub form_terminal : (s : List ℕ) → levels_place ≤ length s → is_terminal (take terminal_size s) ≡ form_at terminal_form s 0
form_terminal s long =
    terminal_before (take terminal_size s) (get_or s terminal_size 0 ∷ drop levels_place s)
    (length-take-le terminal_size s (omega (arith, long)))
    ∙ ap (λ (x : List ℕ). form_at terminal_form x 0) (sym (split_at s terminal_size 0 long))

module _ (wild : Bool) (s : List ℕ) where
  -- so a text that is not such a text may not enter
  pub text_not : below_ok wild s ≡ false → false ≡ (leb (length s) longest_text && well_formed wild (levels s))
  text_not e = sym (text_below wild s ∙ rw e)

  -- and of one that is the code's test of the form decides
  pub text_form : below_ok wild s ≡ true → form_at terminal_form s 0 ≡ (leb (length s) longest_text && well_formed wild (levels s))
  text_form e = sym (text_below wild s ∙ rw e (form_terminal s (below_says wild s e).long))

-- what `text` stands on
pub ruleset text_laws = (below_says, text_not, text_form)

-- where such a text begins with a terminal id, whether it may enter is decided without it
pub below_resource : (s : List ℕ) → is_terminal (take terminal_size s) ≡ true → resource_ok s ≡ below_ok false s
unfolding resource_ok is_resource
below_resource s e = text_below false s ∙ rw (e, and-true (below_ok false s))

below_pattern : (s : List ℕ) → is_terminal (take terminal_size s) ≡ true → pattern_ok s ≡ below_ok true s
unfolding pattern_ok is_pattern
below_pattern s e = text_below true s ∙ rw (e, and-true (below_ok true s))

-- so it is under the terminal id of another
pub under_pattern : PatternUnder
unfolding pattern_under
under_pattern t s e = go (same (take terminal_size s) t) refl
  where
    whole : take terminal_size t ≡ t
    whole = take_all terminal_size t (omega (arith, terminal_length t e))

    known : same_terminal s t ≡ (leb terminal_size (length s) && same (take terminal_size s) t)
    known = rw (le-leb terminal_size (length t) (omega (arith, terminal_length t e)), whole)

    go : (b : Bool) → same (take terminal_size s) t ≡ b
        → (same_terminal s t && below_ok true s) ≡ (pattern_ok s && same (take terminal_size s) t)
    go true f =
        let front : take terminal_size s ≡ t = same_equal (take terminal_size s) t f in
        let long : terminal_size ≤ length s = omega (arith, ap length front, terminal_length t e, length-take terminal_size s) in
        rw (known, f, le-leb terminal_size (length s) long, below_pattern s (ap is_terminal front ∙ e), and-true (below_ok true s))
    go false f = rw (known, f, and-false (leb terminal_size (length s)), and-false (pattern_ok s))

-- ---- matching two texts

-- yes with the number of names, where terminal ids and levels match
counted_below : (t u : Bool) (n : ℕ) → yes_with (t && u) (cond (t && u) n 0) ≡ cond t (yes_with u n) None
counted_below true true n = refl
counted_below true false n = refl
counted_below false u n = refl

module _ (p r : List ℕ) where
  -- a text that is no pattern is malformed
  pub match_no_pattern : false ≡ pattern_ok p → Err (record {}) ≡ matching p r
  unfolding matching
  match_no_pattern e = rw (← e)

  -- a text that is no resource id is malformed
  match_no_resource : resource_ok r ≡ false → matching p r ≡ Err (record {})
  unfolding matching
  match_no_resource e = rw (e, and-false (pattern_ok p))

module _ (p r : List ℕ) (e : true ≡ pattern_ok p) where
  -- of two well-formed texts the terminal ids are compared, and then the levels below
  match_well : resource_ok r ≡ true → matching p r
      ≡ Ok (cond (same (take terminal_size p) (take terminal_size r)) (answer_of (drop levels_place p) (drop levels_place r)) None)
  unfolding matching
  match_well f =
      let same-ids : Bool = same (take terminal_size p) (take terminal_size r) in
      let below : Bool = levels_match (drop levels_place p) (drop levels_place r) in
      rw (← e, f, admits_text p r (sym e) f, names_text p r (sym e) f)
      (ap Ok (counted_below same-ids below (levels_named (drop levels_place p) (drop levels_place r))))

  -- where the terminal ids differ the answer is no, or the text is malformed
  pub match_terminals : false ≡ same_terminal p r → cond (resource_ok r) (Ok None) (Err (record {})) ≡ matching p r
  match_terminals d = sym (go (resource_ok r) refl)
    where
      go : (b : Bool) → resource_ok r ≡ b → matching p r ≡ cond b (Ok None) (Err (record {}))
      go false f = match_no_resource p r f
      go true f =
          let unlike : same (take terminal_size p) (take terminal_size r) ≡ false =
          sym (start_answer p r terminal_size (omega (arith, (pattern_short p (sym e)).0)) (omega (arith, (resource_short r f).0)) d) in
          match_well f ∙ rw unlike

-- p is a pattern and r a resource id with the same terminal id: the levels below decide, as the code hands them on
pub record Matched (p r : List ℕ) : Type 0 where
  pub p_long : levels_place ≤ length p
  pub r_long : levels_place ≤ length r
  pub starless : without 42 (take (length r - levels_place) (drop levels_place r)) ≡ true
  pub answer : Ok (answer_of (take (length p - levels_place) (drop levels_place p)) (take (length r - levels_place) (drop levels_place r)))
      ≡ matching p r

module _ (p r : List ℕ) (e : true ≡ pattern_ok p) (d : true ≡ same_terminal p r) where
  -- the terminal ids are the same
  same-ids : same (take terminal_size p) (take terminal_size r) ≡ true
  same-ids = and_right (leb terminal_size (length r)) _ (and_right (leb terminal_size (length p)) _ (sym d))

  -- so the text is a resource id where it is well formed below
  under : resource_ok r ≡ below_ok false r
  under =
      below_resource r (ap is_terminal (sym (same_equal (take terminal_size p) (take terminal_size r) same-ids)) ∙ pattern_terminal p (sym e))

  -- it is not
  pub match_malformed : false ≡ below_ok false r → Err (record {}) ≡ matching p r
  match_malformed f = sym (match_no_resource p r (under ∙ sym f))

  -- it is
  pub matched : true ≡ below_ok false r → Matched p r
  matched f =
      let well : resource_ok r ≡ true = under ∙ sym f in
      record {
        p_long = (pattern_short p (sym e)).0;
        r_long = (resource_short r well).0;
        starless = ap (without 42) (part_to_end r levels_place) ∙ resource_starless r well;
        answer = rw (part_to_end p levels_place, part_to_end r levels_place) (sym (match_well p r e well ∙ rw same-ids));
      }
