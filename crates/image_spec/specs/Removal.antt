-- Which rows a submission removes, in the words of document 02 §5.
use Rattle.std.specs.Prelude.{◌≡◌, Bool, true, false, List, [], ◌∷◌, ℕ, zero, suc, ◌≤◌, ◌<◌, length, get_or}
use Rattle.image_spec.specs.declared.layout.Layout.{Layout}
use Rattle.image_spec.specs.Image.{Row, row_of}
use Rattle.image_spec.specs.Choose.{is_expired}
use Rattle.image_spec.specs.Grow.{has_room}

-- the row at a place of the list
abbrev pub row_in : List Row → ℕ → Row
row_in rs i = get_or rs i (row_of [])

-- the rows that are left, by whether each goes
abbrev pub left : List Bool → List Row → List Row
left [] rs = []
left (g ∷ gs) [] = []
left (true ∷ gs) (r ∷ rs) = left gs rs
left (false ∷ gs) (r ∷ rs) = r ∷ left gs rs

-- the row at the place stays after all
abbrev pub put_back : List Bool → ℕ → List Bool
put_back [] i = []
put_back (g ∷ gs) zero = false ∷ gs
put_back (g ∷ gs) (suc i) = g ∷ put_back gs i

-- the row at place i comes before the one at place j in the order of last use: it was used less recently, or not more recently and is
-- the earlier row
abbrev pub Before : List Row → ℕ → ℕ → Type 0
Before rs i j = ((row_in rs i).used ≤ (row_in rs j).used) × ((row_in rs j).used ≤ (row_in rs i).used → i < j)

-- the row at the place goes
pub record Goes (goes : List Bool) (i : ℕ) : Type 0 where
  pub place : i < length goes
  pub flag : get_or goes i false ≡ true

-- the row at the place stays, and is expired
pub record StaysExpired (clock : ℕ) (rs : List Row) (goes : List Bool) (i : ℕ) : Type 0 where
  pub place : i < length goes
  pub flag : get_or goes i true ≡ false
  pub over : is_expired clock (row_in rs i) ≡ true

-- The rows that go so that the new one fits the buffer d: each is expired; no expired row that stays comes before one that goes; those that
-- are left and the new one fit; and with the last that goes they would not have fitted.
pub record Removal (l : Layout) (d : List ℕ) (clock : ℕ) (rs : List Row) (new : Row) (goes : List Bool) : Type 0 where
  pub one_each : length goes ≡ length rs
  pub due : (i : ℕ) → Goes goes i → is_expired clock (row_in rs i) ≡ true
  pub order : (i j : ℕ) → Goes goes i → StaysExpired clock rs goes j → Before rs i j
  pub fits : has_room l d (left goes rs) new ≡ true
  pub fewest : (j : ℕ) → Goes goes j → ((i : ℕ) → Goes goes i → (i ≡ j → ⊥) → Before rs i j)
      → has_room l d (left (put_back goes j) rs) new ≡ false
