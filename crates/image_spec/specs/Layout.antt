-- The sizes, places, limits and editions of a stored image, each named once. A reader of the promises does not need this page: they have
-- the numbers.
use Rattle.std.specs.Prelude.{cond, ◌&&◌, ℕ, ◌+◌, ◌-◌, ◌*◌, ◌≤◌, ◌<◌, leb}
use Rattle.image_spec.specs.declared.layout.Layout.{Layout}

-- ---- what is the same in every edition

-- the edition of the modes' numbers: read 0, write 1, execute 2, configure 3
abbrev pub mode_edition : ℕ
mode_edition = 1

-- the bytes of the header
abbrev pub header_size : ℕ
header_size = 8

-- the bytes of each of the four numbers of the header
abbrev pub header_width : ℕ
header_width = 2

-- where the image edition stands in the header
abbrev pub edition_place : ℕ
edition_place = 0

-- where the mode edition stands in the header
abbrev pub modes_place : ℕ
modes_place = 2

-- where the row count stands in the header
abbrev pub count_place : ℕ
count_place = 4

-- where zero stands in the header
abbrev pub header_zero : ℕ
header_zero = 6

-- the bytes of a body's offset, and of its length
abbrev pub body_width : ℕ
body_width = 4

-- the bytes of a mask
abbrev pub mask_width : ℕ
mask_width = 1

-- where the body's offset stands in a row
abbrev pub offset_place : ℕ
offset_place = 16

-- where the body's length stands in a row
abbrev pub length_place : ℕ
length_place = 20

-- where the mask stands in a row
abbrev pub mask_place : ℕ
mask_place = 24

-- where zero stands in a row, up to the last-used moment
abbrev pub zero_place : ℕ
zero_place = 25

-- ---- what an edition fixes

-- edition 1: rows of 32 bytes without a last-used moment, at most 64 of them
abbrev pub edition1 : Layout
edition1 = record { edition = 1; most_rows = 64; moment_place = 32; row_size = 32 }

-- edition 2: rows of 40 bytes, of which the last 8 are the last-used moment, at most 1,024 of them
abbrev pub edition2 : Layout
edition2 = record { edition = 2; most_rows = 1024; moment_place = 32; row_size = 40 }

-- the bytes of a row
abbrev pub row_size : Layout → ℕ
row_size l = l.row_size

-- the most rows
abbrev pub most_rows : Layout → ℕ
most_rows l = l.most_rows

-- where the last-used moment stands in a row, up to the row's end
abbrev pub moment_place : Layout → ℕ
moment_place l = l.moment_place

-- the bytes of zero in a row
abbrev pub zero_size : Layout → ℕ
zero_size l = moment_place l - zero_place

-- the bytes of a last-used moment
abbrev pub moment_size : Layout → ℕ
moment_size l = row_size l - moment_place l

-- where row i stands; where the bodies of so many rows begin
unfoldable pub row_place : Layout → ℕ → ℕ
row_place l i = header_size + row_size l * i

-- the same, where an image may have rows of that size, and so many; else 0
unfoldable pub place_within : Layout → ℕ → ℕ
place_within l i = cond (leb (row_size l) 1024 && leb i 65535) (row_place l i) 0

-- what an edition may fix: its number and a row count fit their bytes in the header, a row has room for its fields, a moment has at most 8
-- bytes, and every offset fits its bytes in a row
pub record LayoutOk (l : Layout) : Type 0 where
  pub numbered : l.edition < 65536
  pub wide : zero_place ≤ moment_place l
  pub last : moment_place l ≤ row_size l
  pub moment : moment_size l ≤ 8
  pub narrow : row_size l ≤ 1024
  pub few : most_rows l < 65536
