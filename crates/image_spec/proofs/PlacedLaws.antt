-- Rows with the places of their bodies, which need not lie back to back. Assumes nothing.
use mathlib.Core.Path.{◌≡◌, refl, ap}
use mathlib.Core.Bool.{Bool, true, false}
use mathlib.Core.List.{List, [], ◌∷◌, ◌++◌}
use Prim.Native.Nat.{ℕ, suc, ◌+◌, ◌≤◌}
use native.Mathlib.Omega.{arith}
use native.Mathlib.Nat.{add-zero}
use lib.ListN.{length, length-append}
use Rattle.image_spec.specs.declared.Mark.{Mark}
use Rattle.image_spec.specs.declared.layout.Layout.{Layout}
use Rattle.image_spec.specs.Layout.{row_place, LayoutOk}
use Rattle.image_spec.specs.Image.{Row, row, rows_of}
use Rattle.image_spec.specs.Close.{stays, keep, kept, one_more, count_kept}
use Rattle.image_spec.proofs.RowPlaceLaws.{place_next}
use Rattle.image_spec.proofs.RowLaws.{row_length_lem}

-- a row, and the place of its body
pub record Placed : Type 0 where
  pub from : ℕ
  pub entry : Row

-- its body
abbrev pub body_of : Placed → List ℕ
body_of p = p.entry.body

-- rows whose bodies lie back to back from the place on
unfoldable pub placed : ℕ → List Row → List Placed
placed at [] = []
placed at (r ∷ rs) = record { from = at; entry = r } ∷ placed (at + length r.body) rs

-- the rows without the places
unfoldable pub entries : List Placed → List Row
entries [] = []
entries (p ∷ ps) = p.entry ∷ entries ps

-- the bytes of the rows, each with the place of its body
unfoldable pub rows_at : Layout → List Placed → List ℕ
rows_at l [] = []
rows_at l (p ∷ ps) = row l p.from p.entry ++ rows_at l ps

-- there are as many with places as without
pub placed_length : (at : ℕ) (rs : List Row) → length (placed at rs) ≡ length rs
unfolding placed
placed_length at [] = refl
placed_length at (r ∷ rs) = ap suc (placed_length (at + length r.body) rs)

-- there are as many without places as with them
pub entries_length : (ps : List Placed) → length (entries ps) ≡ length ps
unfolding entries
entries_length [] = refl
entries_length (p ∷ ps) = ap suc (entries_length ps)

-- the bytes of rows whose bodies lie back to back
pub placed_rows : (l : Layout) (at : ℕ) (rs : List Row) → rows_at l (placed at rs) ≡ rows_of l at rs
unfolding rows_at rows_of placed
placed_rows l at [] = refl
placed_rows l at (r ∷ rs) = ap (λ (x : List ℕ). row l at r ++ x) (placed_rows l (at + length r.body) rs)

-- the rows themselves
pub placed_entries : (at : ℕ) (rs : List Row) → entries (placed at rs) ≡ rs
unfolding entries placed
placed_entries at [] = refl
placed_entries at (r ∷ rs) = ap (λ (x : List Row). r ∷ x) (placed_entries (at + length r.body) rs)

-- the rows end where the row after them would stand
pub rows_at_end : (l : Layout) → LayoutOk l → (i : ℕ) (ps : List Placed) → row_place l i + length (rows_at l ps) ≡ row_place l (i + length ps)
unfolding rows_at
rows_at_end l ok i [] = omega (arith, ap (row_place l) (add-zero i))
rows_at_end l ok i (p ∷ ps) =
    let e : (i + 1) + length ps ≡ i + suc (length ps) = omega arith in
    omega (
      arith,
      length-append (row l p.from p.entry) (rows_at l ps),
      row_length_lem l ok p.from p.entry,
      place_next l i,
      rows_at_end l ok (i + 1) ps,
      ap (row_place l) e,
    )

-- ---- those that stay

-- the rows of those that stay are the rows that stay
pub kept_entries : (gs : List Mark) (ps : List Placed) → entries (kept gs ps) ≡ kept gs (entries ps)
unfolding entries kept
kept_entries [] ps = refl
kept_entries (g ∷ gs) [] = refl
kept_entries (g ∷ gs) (p ∷ ps) = go (stays g) (kept_entries gs ps)
  where
    go : (t : Bool) → entries (kept gs ps) ≡ kept gs (entries ps)
        → entries (keep t p (kept gs ps)) ≡ keep t p.entry (kept gs (entries ps))
    go true more = ap (λ (x : List Row). p.entry ∷ x) more
    go false more = more

-- so many stay as are counted
pub kept_count : {A : Type 0} (gs : List Mark) (xs : List A) (k : ℕ) → length gs ≡ length xs → count_kept gs k ≡ k + length (kept gs xs)
unfolding count_kept kept
kept_count [] xs k n = omega arith
kept_count (g ∷ gs) [] k n = absurd (omega arith)
kept_count (g ∷ gs) (x ∷ xs) k n = go (stays g) (λ k'. kept_count gs xs k' (omega arith))
  where
    go : (t : Bool) → ((k' : ℕ) → count_kept gs k' ≡ k' + length (kept gs xs))
        → count_kept gs (one_more t k) ≡ k + length (keep t x (kept gs xs))
    go true more = omega (arith, more (k + 1))
    go false more = more k

-- no more stay than there are
pub kept_few : {A : Type 0} (gs : List Mark) (xs : List A) → length (kept gs xs) ≤ length xs
unfolding kept
kept_few [] xs = omega arith
kept_few (g ∷ gs) [] = omega arith
kept_few (g ∷ gs) (x ∷ xs) = go (stays g) (kept_few gs xs)
  where
    go : (t : Bool) → length (kept gs xs) ≤ length xs → length (keep t x (kept gs xs)) ≤ suc (length xs)
    go true more = omega arith
    go false more = omega arith
