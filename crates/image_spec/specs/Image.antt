-- The image of a list of rows, and which lists an image may hold. Document 01, "The stored image": a table of contents first, then the
-- bodies. Numbers are big-endian. What depends on the edition takes its layout. Nothing here reads an image.
use Rattle.std.specs.Prelude.{◌≡◌, Bool, true, false, ◌||◌, List, [], ◌∷◌, ◌++◌, ℕ, ◌+◌, ◌^◌, ◌≤◌, ◌<◌, length, replicate}
use Rattle.std.proofs.Math.Option.{Option, none, some}
use Rattle.octets.specs.Bytes.{part, same}
use Rattle.octets.specs.Number.{big_endian}
use Rattle.exact.specs.Reads.{AllFrom}
use Rattle.descriptor_spec.specs.Reading.{Reading}
use Rattle.std.specs.Prelude.{Ok, Err}
use Rattle.descriptor_spec.specs.Reader.{read_of}
use Rattle.descriptor_spec.specs.Code.{reading_of}
use Rattle.image_spec.specs.declared.layout.Layout.{Layout}
use Rattle.descriptor_spec.specs.Allowed.{id_size}
use Rattle.image_spec.specs.Layout.{mode_edition, header_width, body_width, mask_width, most_rows, zero_size, moment_size, row_place}

-- ---- what reading says of a body

-- what reading a body answers
unfoldable pub reading : List ℕ → Reading
reading b = reading_of (read_of b)

-- it is read with 0
abbrev pub is_read : Reading → Bool
is_read (Ok f) = true
is_read (Err refusal) = false

-- the descriptor id that was read; zeros where none was
abbrev pub id_in : List ℕ → Reading → List ℕ
id_in b (Ok f) = part b f.id id_size
id_in b (Err refusal) = replicate id_size 0

-- the union of the modes that were read; none where nothing was
abbrev pub mask_in : Reading → ℕ
mask_in (Ok f) = f.mask
mask_in (Err refusal) = 0

-- a body's descriptor id
unfoldable pub id_of : List ℕ → List ℕ
id_of b = id_in b (reading b)

-- the union of a body's modes, as a mask
unfoldable pub modes_of : List ℕ → ℕ
modes_of b = mask_in (reading b)

-- ---- the image of a list of rows

-- a row of the table of contents: the body that it names, and the moment of its last use, in seconds
pub record Row : Type 0 where
  pub body : List ℕ
  pub used : ℕ

-- the row of a body that was last used at 0, as every row of edition 1 is
abbrev pub row_of : List ℕ → Row
row_of b = record { body = b; used = 0 }

-- image edition (2 bytes), mode edition (2), row count (2), zero (2)
unfoldable pub header : Layout → ℕ → List ℕ
header l n = big_endian header_width l.edition
    ++ (big_endian header_width mode_edition ++ (big_endian header_width n ++ big_endian header_width 0))

-- the bytes of a row whose body lies at the place: descriptor id (16), body offset (4), body length (4), mask (1), zero (7), and the
-- last-used moment (none in edition 1, 8 in edition 2)
unfoldable pub row : Layout → ℕ → Row → List ℕ
row l at r = id_of r.body
    ++ (big_endian body_width at
    ++ (big_endian body_width (length r.body)
    ++ (big_endian mask_width (modes_of r.body) ++ (big_endian (zero_size l) 0 ++ big_endian (moment_size l) r.used))))

-- the bytes of rows whose bodies lie back to back from the place on
unfoldable pub rows_of : Layout → ℕ → List Row → List ℕ
rows_of l at [] = []
rows_of l at (r ∷ rs) = row l at r ++ rows_of l (at + length r.body) rs

-- the bodies of rows, back to back
unfoldable pub joined : List Row → List ℕ
joined [] = []
joined (r ∷ rs) = r.body ++ joined rs

-- the image of a list of rows
unfoldable pub image_of : Layout → List Row → List ℕ
image_of l rs = header l (length rs) ++ (rows_of l (row_place l (length rs)) rs ++ joined rs)

-- ---- the lists that an image may hold

-- one of the rows has the id
unfoldable pub has_id : List ℕ → List Row → Bool
has_id id [] = false
has_id id (r ∷ rs) = same (id_of r.body) id || has_id id rs

-- a row after those of `seen`: its body reads with 0, and none of those has its id
pub record BodyOk (seen : List Row) (r : Row) : Type 0 where
  pub reads : is_read (reading r.body) ≡ true
  pub new : has_id (id_of r.body) seen ≡ false

-- those of `seen` and one more
abbrev pub seen_with : List Row → Row → List Row
seen_with seen r = seen ++ (r ∷ [])

-- each row of the list is so
abbrev pub Every : (Row → Type 0) → List Row → Type 0
Every P [] = Unit {0}
Every P (r ∷ rs) = P r × Every P rs

-- the last-used moment of a row fits its bytes
pub record MomentOk (l : Layout) (r : Row) : Type 0 where
  pub fits : r.used < 256 ^ moment_size l

-- no more rows than there may be, whose bodies read with 0, whose ids differ, and whose moments fit
pub record RowsOk (l : Layout) (rs : List Row) : Type 0 where
  pub few : length rs ≤ most_rows l
  pub each : AllFrom BodyOk seen_with [] rs
  pub moments : Every (MomentOk l) rs

-- the image of the rows, followed by anything
pub record Holds (l : Layout) (s : List ℕ) (rs : List Row) : Type 0 where
  pub rows : RowsOk l rs
  pub rest : List ℕ
  pub whole : s ≡ image_of l rs ++ rest

-- the body that has the id
unfoldable pub body_with : List ℕ → List Row → Option (List ℕ)
body_with id [] = none
body_with id (r ∷ rs) = elim (same (id_of r.body) id) [ true ↦ some r.body | false ↦ body_with id rs ]
