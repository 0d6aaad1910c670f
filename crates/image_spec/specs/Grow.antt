-- One body more in an image: what the code answers and writes, and what that is over a list of rows. A reader of the promises does not
-- need this page.
use Rattle.std.specs.Prelude.{Bool, cond, Result, Ok, Err, ◌&&◌, List, [], ◌∷◌, ◌++◌, ℕ, zero, suc, ◌+◌, length, drop, leb, ltb}
use Rattle.octets.specs.Bytes.{part}
use Rattle.octets.specs.Number.{big_endian, number_in}
use Rattle.octets.specs.Write.{put_at, moved_up}
use Rattle.image_spec.specs.declared.AddError.{AddError}
use Rattle.image_spec.specs.declared.AddError.TheVariants.{Full}
use Rattle.image_spec.specs.declared.layout.Layout.{Layout}
use Rattle.descriptor_spec.specs.Allowed.{id_size}
use Rattle.image_spec.specs.Layout.{header_width, count_place, body_width, mask_width, offset_place, length_place, mask_place, zero_place}
use Rattle.image_spec.specs.Layout.{row_size, most_rows, zero_size, moment_place, moment_size, row_place}
use Rattle.image_spec.specs.Image.{Row, image_of}

-- ---- what is written

-- the offsets of k rows from row i on are raised by a row
unfoldable pub raised : Layout → List ℕ → ℕ → ℕ → List ℕ
raised l d zero i = d
raised l d (suc k) i =
    let at = row_place l i + offset_place in
    raised l (put_at d at (big_endian body_width (number_in d at body_width + row_size l))) k (i + 1)

-- the row at r of a body at `at`: its id, which stands at `id` in it, its offset and length, its mask, zero, and its last-used moment
unfoldable pub with_row : Layout → List ℕ → ℕ → ℕ → List ℕ → ℕ → ℕ → ℕ → List ℕ
with_row l d r at b id mask used =
    let d₁ = put_at d r (part b id id_size) in
    let d₂ = put_at d₁ (r + offset_place) (big_endian body_width at) in
    let d₃ = put_at d₂ (r + length_place) (big_endian body_width (length b)) in
    let d₄ = put_at d₃ (r + mask_place) (big_endian mask_width mask) in
    let d₅ = put_at d₄ (r + zero_place) (big_endian (zero_size l) 0) in
    put_at d₅ (r + moment_place l) (big_endian (moment_size l) used)

-- n rows are held, whose bodies end at `end`: the bodies move up by a row, the offsets follow, row and body are added last, and the row
-- count is one more
unfoldable pub grown : Layout → List ℕ → ℕ → ℕ → List ℕ → ℕ → ℕ → ℕ → List ℕ
grown l d n end b id mask used =
    let d₁ = moved_up d (row_place l n) end (row_size l) in
    let d₂ = raised l d₁ n 0 in
    let d₃ = with_row l d₂ (row_place l n) (end + row_size l) b id mask used in
    let d₄ = put_at d₃ (end + row_size l) b in
    put_at d₄ count_place (big_endian header_width (n + 1))

-- ---- what is answered

-- fewer rows are held than there may be, whose bodies begin after them and end at `end`; the larger image does not exceed the buffer; and
-- the id lies in the body
unfoldable pub fits : Layout → List ℕ → ℕ → ℕ → List ℕ → ℕ → Bool
fits l d n end b id =
    ltb n (most_rows l)
    && (leb (row_place l n) end && (leb (end + row_size l + length b) (length d) && leb (id + id_size) (length b)))

-- the body is added where it fits
unfoldable pub added_of : Layout → List ℕ → ℕ → ℕ → List ℕ → ℕ → Result Unit AddError
added_of l d n end b id = cond (fits l d n end b id) (Ok tt) (Err Full)

-- else the buffer is as it was
unfoldable pub after_add : Layout → List ℕ → ℕ → ℕ → List ℕ → ℕ → ℕ → ℕ → List ℕ
after_add l d n end b id mask used = cond (fits l d n end b id) (grown l d n end b id mask used) d

-- ---- over a buffer that holds rows

-- fewer rows are held than there may be, and the larger image does not exceed the buffer
unfoldable pub has_room : Layout → List ℕ → List Row → Row → Bool
has_room l d rs r = ltb (length rs) (most_rows l) && leb (length (image_of l (rs ++ (r ∷ [])))) (length d)

-- the image of the rows and the new one, and beyond it what stood there
unfoldable pub with_body : Layout → List ℕ → List Row → Row → List ℕ
with_body l d rs r = let larger = image_of l (rs ++ (r ∷ [])) in larger ++ drop (length larger) d
