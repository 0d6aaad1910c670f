-- A new image: what the code answers and writes. A reader of the promises does not need this page.
use Rattle.std.specs.Prelude.{cond, Result, Ok, Err, List, ℕ, length, ltb}
use Rattle.octets.specs.Number.{big_endian}
use Rattle.octets.specs.Write.{put_at}
use Rattle.image_spec.specs.declared.layout.Layout.{Layout}
use Rattle.image_spec.specs.declared.CreateError.{CreateError}
use Rattle.image_spec.specs.declared.CreateError.TheVariants.{TooShort}
use Rattle.image_spec.specs.Layout.{mode_edition, header_size, header_width, edition_place, modes_place, count_place, header_zero}

-- the header of no rows: the two editions, the row count, and zero
unfoldable pub new_bytes : Layout → List ℕ → List ℕ
new_bytes l d =
    let d₁ = put_at d edition_place (big_endian header_width l.edition) in
    let d₂ = put_at d₁ modes_place (big_endian header_width mode_edition) in
    let d₃ = put_at d₂ count_place (big_endian header_width 0) in
    put_at d₃ header_zero (big_endian header_width 0)

-- a buffer under 8 bytes is too short
unfoldable pub creation_of : List ℕ → Result Unit CreateError
creation_of d = cond (ltb (length d) header_size) (Err TooShort) (Ok tt)

-- and is left as it was; another has the header first, and no other byte is changed
unfoldable pub after_new : Layout → List ℕ → List ℕ
after_new l d = cond (ltb (length d) header_size) d (new_bytes l d)

-- document 01's number
abbrev pub number_of : Result Unit CreateError → ℕ
number_of (Ok u) = 0
number_of (Err TooShort) = 17
