-- Removing rows of an image in place: what the code writes, and what that is over a list of rows. First all rows that stay move down, with
-- their old offsets; then their bodies, each found by its row's old offset, which is then written anew; then the row count. A reader of the
-- promises does not need this page.
use Rattle.std.specs.Prelude.{Bool, true, false, not, List, [], ◌∷◌, ◌++◌, ℕ, zero, suc, ◌+◌, length, drop}
use Rattle.octets.specs.Number.{big_endian, number_in}
use Rattle.octets.specs.Write.{put_at, moved_down}
use Rattle.image_spec.specs.declared.layout.Layout.{Layout}
use Rattle.image_spec.specs.declared.Mark.{Mark}
use Rattle.image_spec.specs.declared.Mark.TheVariants.{Current, Expired, Gone}
use Rattle.image_spec.specs.Layout.{header_width, count_place, body_width, offset_place, length_place, row_size, row_place}
use Rattle.image_spec.specs.Image.{Row, image_of}

-- ---- what is marked of each row

-- a row with the mark goes
abbrev pub is_gone : Mark → Bool
is_gone Current = false
is_gone Expired = false
is_gone Gone = true

-- or stays
abbrev pub stays : Mark → Bool
stays g = not (is_gone g)

-- ---- over lists

-- one element, kept or not
abbrev pub keep : {A : Type 0} → Bool → A → List A → List A
keep true x xs = x ∷ xs
keep false x xs = xs

-- the elements whose mark says that they stay
unfoldable pub kept : {A : Type 0} → List Mark → List A → List A
kept [] xs = []
kept (g ∷ gs) [] = []
kept (g ∷ gs) (x ∷ xs) = keep (stays g) x (kept gs xs)

-- what a buffer comes to that is to hold these rows: their image, and beyond it what stood there
unfoldable pub with_rows : Layout → List ℕ → List Row → List ℕ
with_rows l d rs = image_of l rs ++ drop (length (image_of l rs)) d

-- ---- what is written

-- row i is moved down to row k, if it stays
abbrev pub row_kept : Layout → Bool → List ℕ → ℕ → ℕ → List ℕ
row_kept l true d i k = moved_down d (row_place l i) (row_place l k) (row_size l)
row_kept l false d i k = d

-- so many rows stay then
abbrev pub one_more : Bool → ℕ → ℕ
one_more true k = k + 1
one_more false k = k

-- the rows from row i on, of which those that stay are moved down to row k and the following
unfoldable pub closed_rows : Layout → List ℕ → List Mark → ℕ → ℕ → List ℕ
closed_rows l d [] i k = d
closed_rows l d (g ∷ gs) i k = closed_rows l (row_kept l (stays g) d i k) gs (i + 1) (one_more (stays g) k)

-- so many rows stay, counted from k on
unfoldable pub count_kept : List Mark → ℕ → ℕ
count_kept [] k = k
count_kept (g ∷ gs) k = count_kept gs (one_more (stays g) k)

-- the body of the row at r is moved down to the place, and its offset follows
unfoldable pub body_moved : Layout → List ℕ → ℕ → ℕ → List ℕ
body_moved l d r at =
    put_at (moved_down d (number_in d (r + offset_place) body_width) at (number_in d (r + length_place) body_width)) (r + offset_place)
    (big_endian body_width at)

-- the bodies of m rows from row i on, moved down to the place and the following ones
unfoldable pub closed_bodies : Layout → List ℕ → ℕ → ℕ → ℕ → List ℕ
closed_bodies l d zero i at = d
closed_bodies l d (suc m) i at =
    let r = row_place l i in
    closed_bodies l (body_moved l d r at) m (i + 1) (at + number_in d (r + length_place) body_width)

-- all of it: the rows first, since the first body's new place may lie in the rows; then the bodies, then the row count
unfoldable pub closed_up : Layout → List ℕ → List Mark → List ℕ
closed_up l d gs =
    let k = count_kept gs 0 in
    let d₁ = closed_rows l d gs 0 0 in
    let d₂ = closed_bodies l d₁ k 0 (row_place l k) in
    put_at d₂ count_place (big_endian header_width k)
