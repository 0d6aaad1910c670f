-- Laws of how many levels are matched by equal names (specs/Pattern.antt), and of the names of a resource id. Assumes nothing.
use mathlib.Core.Path.{◌≡◌, refl, sym, ap, ◌∙◌}
use mathlib.Core.Bool.{true, false, cond}
use mathlib.Core.List.{List, [], ◌∷◌}
use Prim.Native.Nat.{ℕ, ◌+◌}
use native.Mathlib.Nat.{zero-add}
use native.Mathlib.Omega.{arith}
use lib.ListN.{length, drop}
use lib.Dec.{leb}
use Rattle.octets.specs.Bytes.{same}
use Rattle.octets.specs.Scan.{without}
use Rattle.octets.proofs.SameLaws.{not_same}
use Rattle.octets.proofs.Tests.{and_left, and_right, no_flag}
use Rattle.resource_spec.specs.Identifier.{levels_place}
use Rattle.resource_spec.specs.Level.{is_name_char, all_name_chars, is_name, levels, joined, levels_ok}
use Rattle.resource_spec.specs.Pattern.{Levels, done, deep, name, star, matches, admits, equal_names}
use Rattle.resource_spec.specs.Pattern.{AllNames, NamesIn, spelled}
use Rattle.resource_spec.specs.Text.{is_resource, longest_text, resource_ok}
use Rattle.resource_spec.specs.Promises.{same_texts, name_count, NamesCounted, NamesAll}
use Rattle.resource_spec.specs.Laws.{ResourceStarless}
use Rattle.resource_spec.proofs.WithoutLaws.{names_without, joined_without}
use Rattle.resource_spec.proofs.SpellLaws.{joined_levels, ok_names}
use Rattle.resource_spec.proofs.TextLaws.{resource_begins, begins_well}

-- ---- equal names are equal texts

-- a wildcard is no name
wild_other : (w x : List ℕ) → is_name w ≡ false → is_name x ≡ true → same w x ≡ false
wild_other w x n e = not_same w x (λ i. no_flag (sym n ∙ ap is_name i ∙ e))

-- the names of a pattern that are the path's are the texts that both have at one place
equal_texts : (p : Levels) (xs : List (List ℕ)) → NamesIn p → AllNames xs → equal_names p xs ≡ same_texts (spelled p) xs
unfolding all_name_chars is_name_char
equal_texts done xs h k = refl
equal_texts deep [] h k = refl
equal_texts deep (x ∷ xs) h k = rw (wild_other (42 ∷ 42 ∷ []) x refl k.0)
equal_texts (name n p) [] h k = refl
equal_texts (name n p) (x ∷ xs) h k = ap (λ (c : ℕ). cond (same n x) 1 0 + c) (equal_texts p xs h.1 k.1)
equal_texts (star p) [] h k = refl
equal_texts (star p) (x ∷ xs) h k =
    rw (wild_other (42 ∷ []) x refl k.0) (equal_texts p xs h k.1 ∙ sym (zero-add (same_texts (spelled p) xs)))

-- `NamesCounted`
pub names_are_counted : NamesCounted
names_are_counted p x h k = ap (λ (c : ℕ). cond (admits p x) c 0) (equal_texts p.below x.names h.names k.names)

-- ---- where the pattern matches, each of its names counts

-- over levels
all_equal : (p : Levels) (xs : List (List ℕ)) → matches p xs ≡ true → equal_names p xs ≡ name_count p
all_equal done xs e = refl
all_equal deep xs e = refl
all_equal (name n p) [] e = no_flag e
all_equal (name n p) (x ∷ xs) e =
    rw (and_left (same n x) (matches p xs) e, all_equal p xs (and_right (same n x) (matches p xs) e)) (omega arith)
all_equal (star p) [] e = no_flag e
all_equal (star p) (x ∷ xs) e = all_equal p xs e

-- `NamesAll`
pub names_all_count : NamesAll
names_all_count p x e = rw e (all_equal p.below x.names (and_right (same p.terminal x.terminal) _ e))

-- ---- the names of a resource id

-- names have no "*"
names_starless : (ls : List (List ℕ)) → AllNames ls → without 42 (joined ls) ≡ true
unfolding without is_name_char
names_starless [] h = refl
names_starless (l ∷ ls) h = joined_without 42 l ls refl (names_without 42 refl (l ∷ ls) h)

-- `ResourceStarless`
pub resource_without : ResourceStarless
unfolding resource_ok is_resource
resource_without r e =
    let b = resource_begins r e in
    let ok : levels_ok false (levels (drop levels_place r)) ≡ true =
    sym (begins_well false r b) ∙ and_right (leb (length r) longest_text) _ e in
    ap (without 42) (sym (joined_levels (drop levels_place r))) ∙ names_starless (levels (drop levels_place r)) (ok_names _ ok)
