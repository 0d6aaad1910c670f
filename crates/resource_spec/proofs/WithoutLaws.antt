-- Laws of bytes that stand in no name, no identifier and no pattern. Assumes nothing.
use mathlib.Core.Path.{◌≡◌, refl, ap}
use mathlib.Core.Bool.{Bool, true, false, not, ◌&&◌}
use mathlib.Core.List.{List, [], ◌∷◌}
use Prim.Native.Nat.{ℕ}
use lib.Dec.{eqb}
use borrow.Author.Tests.{not-true}
use Rattle.octets.specs.Scan.{without}
use Rattle.octets.proofs.Tests.{and_left, and_right, no_flag}
use Rattle.octets.proofs.ScanLaws.{other_by, without_more, without_append}
use Rattle.resource_spec.specs.Identifier.{is_hex, Slot, fits, has_form, uuid_form, terminal_form, is_terminal}
use Rattle.resource_spec.specs.Level.{is_name_char, all_name_chars, is_name, joined}
use Rattle.resource_spec.specs.Pattern.{Levels, done, deep, name, star, AllNames, NamesIn, spelled}
use Rattle.resource_spec.specs.Laws.{PatternSpaceless}

-- c fits no slot of a form
abbrev pub fits_none : ℕ → List Slot → Bool
fits_none c [] = true
fits_none c (f ∷ fs) = not (fits f c) && fits_none c fs

-- no level has a c
abbrev pub AllWithout : ℕ → List (List ℕ) → Type 0
AllWithout c [] = Unit {0}
AllWithout c (l ∷ ls) = (without c l ≡ true) × AllWithout c ls

-- a text of a form has no character that fits no slot of it
form_without : (c : ℕ) (fs : List Slot) (bs : List ℕ) → fits_none c fs ≡ true → has_form fs bs ≡ true → without c bs ≡ true
unfolding has_form without
form_without c [] [] n e = refl
form_without c [] (b ∷ bs) n e = no_flag e
form_without c (f ∷ fs) [] n e = refl
form_without c (f ∷ fs) (b ∷ bs) n e =
    without_more c b bs
    (other_by (fits f) c b (not-true (fits f c) (and_left (not (fits f c)) (fits_none c fs) n)) (and_left (fits f b) (has_form fs bs) e))
    (form_without c fs bs (and_right (not (fits f c)) (fits_none c fs) n) (and_right (fits f b) (has_form fs bs) e))

-- a terminal id has no such character of its form
pub terminal_without : (c : ℕ) (t : List ℕ) → fits_none c terminal_form ≡ true → is_terminal t ≡ true → without c t ≡ true
unfolding is_terminal
terminal_without c t n e = form_without c terminal_form t n e

-- a terminal id has no "/"
pub terminal_slashless : (t : List ℕ) → is_terminal t ≡ true → without 47 t ≡ true
unfolding terminal_form uuid_form is_hex
terminal_slashless t e = terminal_without 47 t refl e

module _ (c : ℕ) (n : is_name_char c ≡ false) where
  -- each character of a name is another than c
  chars_without : (l : List ℕ) → all_name_chars l ≡ true → without c l ≡ true
  unfolding all_name_chars without
  chars_without [] e = refl
  chars_without (b ∷ bs) e =
      without_more c b bs (other_by is_name_char c b n (and_left (is_name_char b) (all_name_chars bs) e))
      (chars_without bs (and_right (is_name_char b) (all_name_chars bs) e))

  -- a name has no c
  name_without : (l : List ℕ) → is_name l ≡ true → without c l ≡ true
  name_without [] e = no_flag e
  name_without (b ∷ bs) e = chars_without (b ∷ bs) e

  -- names have no c
  pub names_without : (ls : List (List ℕ)) → AllNames ls → AllWithout c ls
  names_without [] h = tt
  names_without (l ∷ ls) h = (name_without l h.0, names_without ls h.1)

  module _ (other : eqb 42 c ≡ false) where
    -- levels as they are spelled have no c
    pub spelled_without : (p : Levels) → NamesIn p → AllWithout c (spelled p)
    unfolding without
    spelled_without done h = tt
    spelled_without deep h = (rw other, tt)
    spelled_without (name l p) h = (name_without l h.0, spelled_without p h.1)
    spelled_without (star p) h = (rw other, spelled_without p h)

-- joined levels without c have none
pub joined_without : (c : ℕ) (l : List ℕ) (ls : List (List ℕ)) → eqb 47 c ≡ false → AllWithout c (l ∷ ls)
    → without c (joined (l ∷ ls)) ≡ true
joined_without c l [] s f = f.0
joined_without c l (k ∷ ls) s f =
    without_append c l (47 ∷ joined (k ∷ ls)) f.0 (without_more c 47 (joined (k ∷ ls)) (ap not s) (joined_without c k ls s f.1))

-- the text of a pattern has no space
pub pattern_without : PatternSpaceless
unfolding terminal_form uuid_form is_hex is_name_char
pattern_without p h = joined_without 32 p.terminal (spelled p.below) refl
    (terminal_without 32 p.terminal refl h.terminal, spelled_without 32 refl refl p.below h.names)
