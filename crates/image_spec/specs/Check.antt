-- The check of an image and the lookup of an id, in one pass over the rows: what the code answers. A reader of the promises does not
-- need this page.
use Rattle.image_spec.specs.declared.StoredBody.{StoredBody}
use Rattle.image_spec.specs.declared.Contents.{Contents}
use Rattle.std.specs.Prelude.{Bool, true, false, not, cond, ◌&&◌, List, [], ◌∷◌, ℕ, zero, suc, ◌+◌, length, leb, eqb}
use Rattle.octets.specs.Bytes.{part, same}
use Rattle.octets.specs.Span.{Span, span_of, inside}
use Rattle.octets.specs.Number.{number_at, number_in}
use Rattle.exact.specs.Reads.{Got, got, refused, bind, guard}
use Rattle.descriptor_spec.specs.declared.Fields.{Fields}
use Rattle.descriptor_spec.specs.Reading.{Reading}
use Rattle.std.specs.Prelude.{Option, Some, None, Result, Ok, Err}
use Rattle.descriptor_spec.specs.declared.Part.{Part}
use Rattle.image_spec.specs.declared.FindError.{FindError}
use Rattle.image_spec.specs.declared.StoredNumbers.{StoredNumbers}
use Rattle.image_spec.specs.declared.FindError.TheVariants.{Malformed, BadImage, NotFound}
use Rattle.image_spec.specs.declared.layout.Layout.{Layout}
use Rattle.descriptor_spec.specs.Allowed.{id_size}
use Rattle.image_spec.specs.Layout.{mode_edition, header_size, header_width, edition_place, modes_place, count_place, header_zero}
use Rattle.image_spec.specs.Layout.{body_width, mask_width, offset_place, length_place, mask_place, zero_place, most_rows, zero_size}
use Rattle.image_spec.specs.Layout.{row_place, moment_place, moment_size, edition1, edition2}
use Rattle.image_spec.specs.Image.{Row, reading}

-- ---- what is answered of an image

-- the body with an id, or none has it
abbrev pub Held : Type 0
Held = Option StoredBody

-- row i has it, of n bytes at the place, of which f was read
abbrev pub held_body : ℕ → ℕ → ℕ → Fields → Held
held_body i at n f = Some (record { row = i; at = at; len = n; fields = f })

-- what a check of an image tells of it, or that it is not sound
abbrev pub ImageCheck : Type 0
ImageCheck = Option Contents

-- it has n rows and ends at `end`, and that is held
abbrev pub contents : ℕ → ℕ → Held → ImageCheck
contents n end h = Some (record { rows = n; end = end; held = h })

-- ---- numbers of the header and of the row at r

-- the layout that the image edition in the header names: that of edition 2 for 2, and else that of edition 1, whose check refuses another
unfoldable pub layout_of : List ℕ → Layout
layout_of s = cond (eqb (number_in s edition_place header_width) edition2.edition) edition2 edition1

-- the row count
unfoldable pub row_count : List ℕ → ℕ
row_count s = number_at s count_place header_width

-- the id of the row
abbrev pub row_id : List ℕ → ℕ → List ℕ
row_id s r = part s r id_size

-- the body's offset
abbrev pub row_offset : List ℕ → ℕ → ℕ
row_offset s r = number_at s (r + offset_place) body_width

-- the body's length
abbrev pub row_length : List ℕ → ℕ → ℕ
row_length s r = number_at s (r + length_place) body_width

-- the last-used moment
abbrev pub row_moment : Layout → List ℕ → ℕ → ℕ
row_moment l s r = number_at s (r + moment_place l) (moment_size l)

-- the editions are these, there are no more rows than the most, and zero follows
unfoldable pub header_fits : Layout → List ℕ → Bool
header_fits l s =
    eqb (number_at s edition_place header_width) l.edition
    && (eqb (number_at s modes_place header_width) mode_edition
    && (leb (row_count s) (most_rows l) && eqb (number_at s header_zero header_width) 0))

-- ---- one row

-- one of the first n rows has the id
unfoldable pub id_among : Layout → List ℕ → List ℕ → ℕ → Bool
id_among l s id zero = false
id_among l s id (suc n) = elim (same (row_id s (row_place l n)) id) [ true ↦ true | false ↦ id_among l s id n ]

-- the row at r is that of the body at `at`, of which f was read: its id, its offset, the union of its modes, and zero
unfoldable pub row_fits : Layout → List ℕ → ℕ → ℕ → Fields → Bool
row_fits l s r at f =
    same (row_id s r) (part s (at + f.id) id_size)
    && (eqb (row_offset s r) at
    && (eqb (number_at s (r + mask_place) mask_width) f.mask && eqb (number_at s (r + zero_place) (zero_size l)) 0))

-- what was read, and then a reader
abbrev pub on_read : {R : Type 0} → Reading → (Fields → Got R) → Got R
on_read (Ok f) k = k f
on_read (Err refusal) k = refused

-- row i, whose body begins at `at`: what was read of the body, and the place after it
unfoldable pub row_at : Layout → List ℕ → ℕ → ℕ → Got Fields
row_at l s i at =
    let r = row_place l i in
    let n = row_length s r in
    guard (leb (at + n) (length s))
    (on_read (reading (part s at n)) (λ f.
    guard (row_fits l s r at f) (guard (not (id_among l s (row_id s r) i)) (got f (at + n)))))

-- ---- all rows

-- the body of row i at a place is the one looked for, or what was held before stays
abbrev pub held_with : Bool → Held → ℕ → ℕ → ℕ → Fields → Held
held_with true h i at n f = held_body i at n f
held_with false h i at n f = h

-- k rows from row i on, whose bodies begin at `at`: the body with the id, and the place after the last
unfoldable pub rows_from : Layout → List ℕ → List ℕ → ℕ → ℕ → ℕ → Held → Got Held
rows_from l s id zero i at h = got h at
rows_from l s id (suc k) i at h =
    let r = row_place l i in
    bind (row_at l s i at) (λ f next. rows_from l s id k (i + 1) next (held_with (same (row_id s r) id) h i at (row_length s r) f))

-- the check of the image that s begins with: the body with the id, and where the image ends
unfoldable pub checked : Layout → List ℕ → List ℕ → Got Held
checked l s id =
    let start = row_place l (row_count s) in
    guard (leb header_size (length s))
    (guard (header_fits l s)
    (guard (leb start (length s)) (rows_from l s id (row_count s) 0 start None)))

-- ---- what is answered

-- the answer of a check, of an image of n rows
abbrev pub check_answer : ℕ → Got Held → ImageCheck
check_answer n (got h end) = contents n end h
check_answer n refused = None

-- the check of an image for an id
unfoldable pub check_of : Layout → List ℕ → List ℕ → ImageCheck
check_of l s id = check_answer (row_count s) (checked l s id)

-- the image is sound
abbrev pub is_sound : ImageCheck → Bool
is_sound (Some v) = true
is_sound None = false

-- a body is held
abbrev pub is_body : Held → Bool
is_body (Some b) = true
is_body None = false

-- a body with the id is held
abbrev pub is_held : ImageCheck → Bool
is_held (Some v) = is_body v.held
is_held None = false

-- what a lookup answers: where the body lies, or why none is found
abbrev pub Finding : Type 0
Finding = Result Part FindError

-- where the body is held
abbrev pub held_at : Held → Finding
held_at (Some b) = Ok (record { at = b.at; len = b.len })
held_at None = Err NotFound

-- the lookup by what the check of the image says
abbrev pub found_in : ImageCheck → Finding
found_in (Some v) = held_at v.held
found_in None = Err BadImage

-- the lookup of an id: an id that is not 16 bytes, then the image, then the row
unfoldable pub find_of : Layout → List ℕ → List ℕ → Finding
find_of l s id = elim (eqb (length id) id_size) [ true ↦ found_in (check_of l s id) | false ↦ Err Malformed ]

-- document 01's answer for a lookup, and the place and length of the body
abbrev pub numbers_of : Finding → StoredNumbers
numbers_of (Ok p) = record { answer = 0; body_at = p.at; body_len = p.len }
numbers_of (Err Malformed) = record { answer = 15; body_at = 0; body_len = 0 }
numbers_of (Err BadImage) = record { answer = 16; body_at = 0; body_len = 0 }
numbers_of (Err NotFound) = record { answer = 7; body_at = 0; body_len = 0 }

-- where the body that was found stands in s; nothing at the start where none was
abbrev pub body_span : List ℕ → Finding → Span
body_span s (Ok p) = inside s p.at p.len
body_span s (Err refusal) = span_of 0 0

-- ---- the rows that an image has

-- k rows from row i on
unfoldable pub rows_held_from : Layout → List ℕ → ℕ → ℕ → List Row
rows_held_from l s zero i = []
rows_held_from l s (suc k) i =
    let r = row_place l i in
    record { body = part s (row_offset s r) (row_length s r); used = row_moment l s r } ∷ rows_held_from l s k (i + 1)

-- the rows of an image
unfoldable pub rows_held : Layout → List ℕ → List Row
rows_held l s = rows_held_from l s (row_count s) 0
