-- What the crates above stand on, in the code's own answers, for any layout that may be. A reader of the promises does not
-- need this page.
use Rattle.std.specs.Prelude.{◌≡◌, ◌↔◌, ◌⊎◌, Bool, true, cond, List, [], ◌∷◌, ◌++◌, ℕ, ◌+◌, ◌*◌, ◌≤◌, ◌<◌, length, get_or, ◌^◌, Some, None}
use Rattle.image_spec.specs.Check.{contents, Held, ImageCheck, row_length, row_at, layout_of, check_of, rows_held}
use Rattle.std.proofs.Math.Option.{none, some}
use Rattle.resource_spec.specs.Identifier.{fay_size, terminal_size}
use Rattle.octets.specs.Bytes.{AreBytes, part}
use Rattle.octets.specs.Number.{number_at}
use Rattle.exact.specs.Reads.{got}
use Rattle.descriptor_spec.specs.declared.Fields.{Fields}
use Rattle.std.specs.Prelude.{None, Ok, Err}
use Rattle.descriptor_spec.specs.Model.{Descriptor, encode}
use Rattle.descriptor_spec.specs.Allowed.{Allowed, id_size}
use Rattle.descriptor_spec.specs.Modes.{union_of}
use Rattle.image_spec.specs.declared.AddError.TheVariants.{Full}
use Rattle.image_spec.specs.declared.layout.Layout.{Layout}
use Rattle.image_spec.specs.declared.Mark.{Mark}
use Rattle.image_spec.specs.Layout.{mode_edition, header_width, edition_place, modes_place, edition1, edition2, row_size, most_rows}
use Rattle.image_spec.specs.Layout.{row_place, place_within}
use Rattle.image_spec.specs.Layout.{LayoutOk}
use Rattle.image_spec.specs.Image.{Row, row_of, reading, is_read, id_of, modes_of, image_of, MomentOk, RowsOk, Holds, body_with}
use Rattle.image_spec.specs.Close.{kept, with_rows, closed_up}
use Rattle.image_spec.specs.Grow.{added_of, after_add, has_room, with_body}
use Rattle.image_spec.specs.Choose.{end_of, is_expired, unexpired, choice_of, staying_of, goes_of, made, room_of, after_room}
use Rattle.image_spec.specs.Removal.{row_in, left, Goes, Removal}
use Rattle.octets.specs.Bytes.{same}
use Rattle.image_spec.specs.Layout.{moment_size}
use Rattle.image_spec.specs.Touch.{touched, touched_at, after_touch}

-- ---- where rows stand

-- the place of a row that there may be
abbrev pub PlaceWithin : Type 0
PlaceWithin = (l : Layout) → LayoutOk l → (i : ℕ) → i ≤ most_rows l → place_within l i ≡ row_place l i

-- a row ends before any after it begins
abbrev pub RowsInOrder : Type 0
RowsInOrder = (l : Layout) (i n : ℕ) → i < n → row_place l i + row_size l ≤ row_place l n

-- the offsets of bodies of at most 32768 bytes each fit 4 bytes
abbrev pub OffsetsFit : Type 0
OffsetsFit = (l : Layout) → LayoutOk l → (n : ℕ) → n ≤ most_rows l → row_place l n + 32768 * n < 4294967296

-- the body after that of a row that passes the check begins where that ends, within the bytes
abbrev pub RowNext : Type 0
RowNext = (l : Layout) (s : List ℕ) (i at : ℕ) (f : Fields) (next : ℕ) → got f next ≡ row_at l s i at
    → (next ≡ at + row_length s (row_place l i)) × (next ≤ length s)

-- ---- a body that reads

-- what is known of a body of which f was read: it is short, and its identifiers lie in it
pub record BodyIn (b : List ℕ) (f : Fields) : Type 0 where
  pub short : length b ≤ 32768
  pub filled : 0 < length b
  pub id : f.id + id_size ≤ length b
  pub fay : f.fay + fay_size ≤ length b
  pub terminal : f.terminal + terminal_size ≤ length b
  pub mask : f.mask < 16

-- it is known of every body of which something was read
abbrev pub ReadIn : Type 0
ReadIn = (b : List ℕ) (f : Fields) → reading b ≡ Ok f → BodyIn b f

-- such a body is the encoding of an allowed descriptor, and has its id and modes
abbrev pub BodyRead : Type 0
BodyRead = (b : List ℕ) → AreBytes b → is_read (reading b) ≡ true
    → (d : Descriptor) × Allowed d × (b ≡ encode d) × (id_of b ≡ d.payload.id) × (modes_of b ≡ union_of d.payload.grants)

-- the encoding of an allowed descriptor is read, with its beginning, its id and its end
abbrev pub EncodingRead : Type 0
EncodingRead = (d : Descriptor) → AreBytes (encode d) → Allowed d
    → (f : Fields) × (reading (encode d) ≡ Ok f) × (f.not_before.0 ≡ d.payload.not_before) × (id_of (encode d) ≡ d.payload.id)
    × (f.not_after.0 ≡ d.payload.not_after)

-- ---- the body with an id

-- the body that has an id is that of a row in the list, and has it
abbrev pub BodyWithExactlyFor : Layout → Type 0
BodyWithExactlyFor l = (id : List ℕ) (rs : List Row) (b : List ℕ) → RowsOk l rs
    → (body_with id rs ≡ some b) ↔ ((id_of b ≡ id) × ((i : ℕ) × (i < length rs) × ((get_or rs i (row_of [])).body ≡ b)))

-- the rows that a buffer holds are those that stand in it
abbrev pub RowsNamedFor : Layout → Type 0
RowsNamedFor l = (s : List ℕ) (rs : List Row) → Holds l s rs → rows_held l s ≡ rs

-- ---- what a check says

-- row `row` has the body of `len` bytes at `at` in s, of which f was read, and it is the one with the id
pub record HeldBody (s id : List ℕ) (rs : List Row) (row at len : ℕ) (f : Fields) : Type 0 where
  pub which : body_with id rs ≡ some (part s at len)
  pub inside : at + len ≤ length s
  pub reads : reading (part s at len) ≡ Ok f
  pub below : row < length rs
  pub there : (get_or rs row (row_of [])).body ≡ part s at len

-- what is held is the body with the id, or none has it
abbrev pub HeldIs : List ℕ → List ℕ → List Row → Held → Type 0
HeldIs s id rs None = body_with id rs ≡ none
HeldIs s id rs (Some b) = HeldBody s id rs b.row b.at b.len b.fields

-- the check of an image says how many rows it has, where it ends, and which body has the id
abbrev pub CheckTellsFor : Layout → Type 0
CheckTellsFor l = (s id : List ℕ) (rs : List Row) → Holds l s rs
    → (h : Held) × (check_of l s id ≡ contents (length rs) (length (image_of l rs)) h) × HeldIs s id rs h

-- what is so of an image that a check calls sound
pub record SoundCheck (l : Layout) (s id : List ℕ) (n end : ℕ) (h : Held) : Type 0 where
  pub holds : Holds l s (rows_held l s)
  pub rows : n ≡ length (rows_held l s)
  pub ends : end ≡ length (image_of l (rows_held l s))
  pub held : HeldIs s id (rows_held l s) h

-- bytes that a check calls sound hold the rows that stand in them, and what it says of them is so
abbrev pub CheckSaysFor : Layout → Type 0
CheckSaysFor l = (s id : List ℕ) → AreBytes s → (n end : ℕ) (h : Held) → check_of l s id ≡ contents n end h → SoundCheck l s id n end h

-- bytes that a check calls unsound hold no list of rows
abbrev pub CheckUnsoundFor : Layout → Type 0
CheckUnsoundFor l = (s id : List ℕ) → AreBytes s → (check_of l s id ≡ None) ↔ ((rs : List Row) → Holds l s rs → ⊥)

-- a check calls an image of other editions unsound
abbrev pub EditionsCheckedFor : Layout → Type 0
EditionsCheckedFor l = (s id : List ℕ)
    → (number_at s edition_place header_width ≡ l.edition → ⊥) ⊎ (number_at s modes_place header_width ≡ mode_edition → ⊥)
    → check_of l s id ≡ None

-- a check of an image that may be read calls one of another edition than 1 and 2, or of another mode edition, unsound
abbrev pub EditionsNamed : Type 0
EditionsNamed = (s id : List ℕ)
    → ((number_at s edition_place header_width ≡ 1 → ⊥) × (number_at s edition_place header_width ≡ 2 → ⊥))
    ⊎ (number_at s modes_place header_width ≡ mode_edition → ⊥)
    → check_of (layout_of s) s id ≡ None

-- the header of a buffer that holds rows in edition 1, or 2, names that edition
abbrev pub HeaderNames : Type 0
HeaderNames =
    ((s : List ℕ) (rs : List Row) → Holds edition1 s rs → layout_of s ≡ edition1)
    × ((s : List ℕ) (rs : List Row) → Holds edition2 s rs → layout_of s ≡ edition2)

-- the body that is held lies in the image, and its fields are those that were read of it
abbrev pub HeldFits : List ℕ → Held → Type 0
HeldFits s None = Unit {0}
HeldFits s (Some b) = (b.at + b.len ≤ length s) × (reading (part s b.at b.len) ≡ Ok b.fields)

-- the image ends in the buffer, and so does what is held
abbrev pub CheckFits : List ℕ → ImageCheck → Type 0
CheckFits s (Some v) = (v.end ≤ length s) × HeldFits s v.held
CheckFits s None = Unit {0}

-- the places that a check answers lie in the image
abbrev pub CheckInsideFor : Layout → Type 0
CheckInsideFor l = (s id : List ℕ) → AreBytes s → CheckFits s (check_of l s id)

-- ---- one body more

-- A body that reads is added to a buffer that holds rows exactly where there is room for it; the buffer is then the image of the rows and
-- the new one, and beyond it what stood there. Else no byte is changed.
abbrev pub BodyAddedFor : Layout → Type 0
BodyAddedFor l = (d : List ℕ) (rs : List Row) (r : Row) (f : Fields) → Holds l d rs → reading r.body ≡ Ok f
    → (added_of l d (length rs) (length (image_of l rs)) r.body f.id ≡ cond (has_room l d rs r) (Ok tt) (Err Full))
    × (after_add l d (length rs) (length (image_of l rs)) r.body f.id f.mask r.used ≡ cond (has_room l d rs r) (with_body l d rs r) d)

-- where there is room, and none of the rows has its id, the larger buffer holds the rows and the new one; its id then has its body, and
-- any other id what it had
pub record OneMoreFor (l : Layout) : Type 0 where
  pub holds : (d : List ℕ) (rs : List Row) (r : Row) → Holds l d rs → has_room l d rs r ≡ true → is_read (reading r.body) ≡ true
      → body_with (id_of r.body) rs ≡ none → MomentOk l r
      → Holds l (with_body l d rs r) (rs ++ (r ∷ []))
  pub mine : (rs : List Row) (r : Row) → body_with (id_of r.body) rs ≡ none → body_with (id_of r.body) (rs ++ (r ∷ [])) ≡ some r.body
  pub others : (id : List ℕ) (rs : List Row) (r : Row) → (id_of r.body ≡ id → ⊥) → body_with id (rs ++ (r ∷ [])) ≡ body_with id rs

-- ---- rows that go

-- in a buffer that holds rows, of which each has a mark, the writes of a removal leave the image of the rows that stay, and beyond it what
-- stood there
abbrev pub ClosedUp : Type 0
ClosedUp = (l : Layout) → LayoutOk l → (d : List ℕ) (rs : List Row) (gs : List Mark) → Holds l d rs → length gs ≡ length rs
    → closed_up l d gs ≡ with_rows l d (kept gs rs)

-- the buffer then holds the rows that stay
abbrev pub KeptHolds : Type 0
KeptHolds = (l : Layout) → LayoutOk l → (d : List ℕ) (rs : List Row) (gs : List Mark) → Holds l d rs → length gs ≡ length rs
    → Holds l (with_rows l d (kept gs rs)) (kept gs rs)

-- ---- which rows go for a new one

-- the answer of the choice is whether there is room beside the rows that stay
abbrev pub ChoiceRoomFor : Layout → Type 0
ChoiceRoomFor l = (d : List ℕ) (clock : ℕ) (rs : List Row) (new : Row)
    → (choice_of l (length d) clock rs (length new.body)).ok ≡ has_room l d (staying_of l (length d) clock rs (length new.body)) new

-- where the answer is yes the chosen rows are those that go for the new one, and those that are left are those that stay
abbrev pub ChoiceRemovalFor : Layout → Type 0
ChoiceRemovalFor l = (d : List ℕ) (clock : ℕ) (rs : List Row) (new : Row) → (choice_of l (length d) clock rs (length new.body)).ok ≡ true
    → Removal l d clock rs new (goes_of (choice_of l (length d) clock rs (length new.body)).marks)
    × (left (goes_of (choice_of l (length d) clock rs (length new.body)).marks) rs ≡ staying_of l (length d) clock rs (length new.body))

-- what is said of the rows that go is so of one list of them at most
abbrev pub RemovalOnceFor : Layout → Type 0
RemovalOnceFor l = (d : List ℕ) (clock : ℕ) (rs : List Row) (new : Row) (g h : List Bool) → Removal l d clock rs new g
    → Removal l d clock rs new h → g ≡ h

-- the answer is no exactly where there would be no room beside the rows that are not expired
abbrev pub ChoiceExactlyFor : Layout → Type 0
ChoiceExactlyFor l = (d : List ℕ) (clock : ℕ) (rs : List Row) (new : Row)
    → (choice_of l (length d) clock rs (length new.body)).ok ≡ has_room l d (unexpired clock rs) new

-- where there is room already all rows stay, and the answer is yes
abbrev pub FitsNoneGoesFor : Layout → Type 0
FitsNoneGoesFor l = (d : List ℕ) (clock : ℕ) (rs : List Row) (new : Row) → has_room l d rs new ≡ true
    → (staying_of l (length d) clock rs (length new.body) ≡ rs) × ((choice_of l (length d) clock rs (length new.body)).ok ≡ true)

-- every row that is not expired stays
abbrev pub UnexpiredStayFor : Layout → Type 0
UnexpiredStayFor l = (d : List ℕ) (clock : ℕ) (rs : List Row) (new : Row)
    → unexpired clock (staying_of l (length d) clock rs (length new.body)) ≡ unexpired clock rs

-- In a buffer that holds rows room is made exactly where the choice among them says so, by removing the chosen rows; the answer then says
-- how many stay and where their image ends. Else no byte is changed.
abbrev pub RoomMadeFor : Layout → Type 0
RoomMadeFor l = (d : List ℕ) (rs : List Row) → Holds l d rs → (clock more : ℕ) → more ≤ 32768
    → (room_of l d (length rs) (length (image_of l rs)) clock more ≡ cond (choice_of l (length d) clock rs more).ok
    (made (length (staying_of l (length d) clock rs more)) (length (image_of l (staying_of l (length d) clock rs more)))) None)
    × (after_room l d (length rs) (length (image_of l rs)) clock more ≡ cond (choice_of l (length d) clock rs more).ok
    (closed_up l d (choice_of l (length d) clock rs more).marks) d)
    × (length (choice_of l (length d) clock rs more).marks ≡ length rs)

-- ---- a new row, after the removal of expired ones

-- where there is room after a removal, a new row whose body reads is added, and the buffer is the image of the rows that stay and the new
-- one, and beyond it what stood there
abbrev pub StoredAfterFor : Layout → Type 0
StoredAfterFor l = (d : List ℕ) (clock : ℕ) (rs : List Row) (new : Row) (f : Fields) → Holds l d rs → reading new.body ≡ Ok f
    → (choice_of l (length d) clock rs (length new.body)).ok ≡ true
    → let ks = staying_of l (length d) clock rs (length new.body) in
    let d₁ = after_room l d (length rs) (length (image_of l rs)) clock (length new.body) in
    (added_of l d₁ (length ks) (length (image_of l ks)) new.body f.id ≡ Ok tt)
    × (after_add l d₁ (length ks) (length (image_of l ks)) new.body f.id f.mask new.used ≡ with_body l d ks new)

-- where its id is new, the buffer then holds them
abbrev pub StoredHoldsFor : Layout → Type 0
StoredHoldsFor l = (d : List ℕ) (clock : ℕ) (rs : List Row) (new : Row) → Holds l d rs → is_read (reading new.body) ≡ true
    → (choice_of l (length d) clock rs (length new.body)).ok ≡ true → body_with (id_of new.body) rs ≡ none → MomentOk l new
    → let ks = staying_of l (length d) clock rs (length new.body) in
    Holds l (with_body l d ks new) (ks ++ (new ∷ []))

-- of rows of which expired ones go, each id finds what it found, or it found an expired body and finds none
abbrev pub LeftFinds : Type 0
LeftFinds = (l : Layout) (clock : ℕ) (rs : List Row) (goes : List Bool) → RowsOk l rs → length goes ≡ length rs
    → ((i : ℕ) → Goes goes i → is_expired clock (row_in rs i) ≡ true) → (id : List ℕ)
    → (body_with id (left goes rs) ≡ body_with id rs)
    ⊎ ((body_with id (left goes rs) ≡ none) × ((c : List ℕ) × (body_with id rs ≡ some c) × (end_of c ≤ clock)))

-- ---- for every layout that may be

abbrev pub StoredAfter : Type 0
StoredAfter = (l : Layout) → LayoutOk l → StoredAfterFor l

abbrev pub StoredHolds : Type 0
StoredHolds = (l : Layout) → LayoutOk l → StoredHoldsFor l

abbrev pub BodyWithExactly : Type 0
BodyWithExactly = (l : Layout) → BodyWithExactlyFor l

abbrev pub RowsNamed : Type 0
RowsNamed = (l : Layout) → LayoutOk l → RowsNamedFor l

abbrev pub CheckTells : Type 0
CheckTells = (l : Layout) → LayoutOk l → CheckTellsFor l

abbrev pub CheckSays : Type 0
CheckSays = (l : Layout) → LayoutOk l → CheckSaysFor l

abbrev pub CheckUnsound : Type 0
CheckUnsound = (l : Layout) → LayoutOk l → CheckUnsoundFor l

abbrev pub EditionsChecked : Type 0
EditionsChecked = (l : Layout) → LayoutOk l → EditionsCheckedFor l

abbrev pub CheckInside : Type 0
CheckInside = (l : Layout) → LayoutOk l → CheckInsideFor l

abbrev pub BodyAdded : Type 0
BodyAdded = (l : Layout) → LayoutOk l → BodyAddedFor l

abbrev pub OneMore : Type 0
OneMore = (l : Layout) → LayoutOk l → OneMoreFor l

abbrev pub ChoiceRoom : Type 0
ChoiceRoom = (l : Layout) → LayoutOk l → ChoiceRoomFor l

abbrev pub ChoiceRemoval : Type 0
ChoiceRemoval = (l : Layout) → LayoutOk l → ChoiceRemovalFor l

abbrev pub RemovalOnce : Type 0
RemovalOnce = (l : Layout) → LayoutOk l → RemovalOnceFor l

abbrev pub ChoiceExactly : Type 0
ChoiceExactly = (l : Layout) → LayoutOk l → ChoiceExactlyFor l

abbrev pub FitsNoneGoes : Type 0
FitsNoneGoes = (l : Layout) → LayoutOk l → FitsNoneGoesFor l

abbrev pub UnexpiredStay : Type 0
UnexpiredStay = (l : Layout) → LayoutOk l → UnexpiredStayFor l

abbrev pub RoomMade : Type 0
RoomMade = (l : Layout) → LayoutOk l → RoomMadeFor l

-- edition 1 and edition 2 may be, and so may the layout that the header of an image names
abbrev pub Edition1Ok : Type 0
Edition1Ok = LayoutOk edition1

abbrev pub Edition2Ok : Type 0
Edition2Ok = LayoutOk edition2

abbrev pub NamedOk : Type 0
NamedOk = (s : List ℕ) → LayoutOk (layout_of s)

-- ---- a row that was used

-- a moment changes no body
abbrev pub TouchedBodies : Type 0
TouchedBodies = (id other : List ℕ) (t : ℕ) (rs : List Row)
    → (body_with other (touched id t rs) ≡ body_with other rs) × (length (touched id t rs) ≡ length rs)

-- in a buffer that holds rows, of which row i has the id, the write of its moment leaves the image of the rows of which that one was used,
-- and beyond it what stood there; the buffer then holds these rows
abbrev pub TouchedImage : Type 0
TouchedImage = (l : Layout) → LayoutOk l → (s : List ℕ) (rs : List Row) (i : ℕ) (id : List ℕ) (t : ℕ) → Holds l s rs → i < length rs
    → same (id_of (get_or rs i (row_of [])).body) id ≡ true → t < 256 ^ moment_size l
    → (touched_at l s i t ≡ with_rows l s (touched id t rs)) × Holds l (touched_at l s i t) (touched id t rs)

-- in edition 1, whose rows have no moment, nothing is written
abbrev pub TouchedNone : Type 0
TouchedNone = (s : List ℕ) (i t : ℕ) → touched_at edition1 s i t ≡ s

-- the same in the edition that the header names: an image of edition 2
abbrev pub AfterTouch2 : Type 0
AfterTouch2 = (s : List ℕ) (rs : List Row) (i : ℕ) (id : List ℕ) (t : ℕ) → Holds edition2 s rs → i < length rs
    → same (id_of (get_or rs i (row_of [])).body) id ≡ true → t < 2 ^ 64
    → (after_touch s i t ≡ with_rows edition2 s (touched id t rs)) × Holds edition2 (after_touch s i t) (touched id t rs)

-- and one of edition 1
abbrev pub AfterTouch1 : Type 0
AfterTouch1 = (s : List ℕ) (rs : List Row) (i t : ℕ) → Holds edition1 s rs → after_touch s i t ≡ s

-- ---- one edition turned into another

-- rows that are no shorter stand no earlier
abbrev pub PlacesWider : Type 0
PlacesWider = (from to : Layout) → row_size from ≤ row_size to → (n : ℕ) → row_place from n ≤ row_place to n

-- an image that a check calls sound has no more rows than there may be, and its bodies begin after them and end in the bytes, below 2 ^ 32
abbrev pub SoundBounds : Type 0
SoundBounds = (l : Layout) → LayoutOk l → (s id : List ℕ) → AreBytes s → (n end : ℕ) (h : Held) → check_of l s id ≡ contents n end h
    → (n ≤ most_rows l) × (row_place l n ≤ end) × (end ≤ length s) × (end < 4294967296)
