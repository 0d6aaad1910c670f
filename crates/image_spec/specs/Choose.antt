-- Which rows go where there is no room: the expired ones, least recently used first, the earlier row on a tie, only until there is room.
-- These definitions compute. A reader of the promises does not need this page.
use Rattle.std.specs.Prelude.{Bool, true, false, not, cond, ◌&&◌, List, [], ◌∷◌, ℕ, zero, suc, ◌+◌, ◌-◌, length, get_or, set, leb, ltb}
use Rattle.octets.specs.Bytes.{part}
use Rattle.octets.specs.Span.{inside}
use Rattle.octets.specs.Number.{number_in}
use Rattle.descriptor_spec.specs.Reading.{Reading}
use Rattle.std.specs.Prelude.{Option, Some, None, Ok, Err}
use Rattle.image_spec.specs.declared.layout.Layout.{Layout}
use Rattle.image_spec.specs.declared.Mark.{Mark}
use Rattle.image_spec.specs.declared.Mark.TheVariants.{Current, Expired, Gone}
use Rattle.image_spec.specs.declared.Room.{Room}
use Rattle.descriptor_spec.specs.Allowed.{longest}
use Rattle.image_spec.specs.Layout.{body_width, offset_place, length_place, row_size, most_rows, moment_place, moment_size, row_place}
use Rattle.image_spec.specs.Image.{Row, row_of, reading, image_of}
use Rattle.image_spec.specs.Close.{is_gone, keep, kept, closed_up}

-- ---- which bodies are expired

-- not_after of what was read; 0 where nothing was
abbrev pub end_in : Reading → ℕ
end_in (Ok f) = f.not_after.0
end_in (Err refusal) = 0

-- a body's not_after
unfoldable pub end_of : List ℕ → ℕ
end_of b = end_in (reading b)

-- a row is expired: now is not before its body's not_after
unfoldable pub is_expired : ℕ → Row → Bool
is_expired clock r = leb (end_of r.body) clock

-- the rows that are not expired
unfoldable pub unexpired : ℕ → List Row → List Row
unexpired clock [] = []
unexpired clock (r ∷ rs) = keep (not (is_expired clock r)) r (unexpired clock rs)

-- the mark of a body: expired or not
abbrev pub mark_by : Bool → Mark
mark_by true = Expired
mark_by false = Current

-- the marks of rows before any goes
unfoldable pub marked : ℕ → List Row → List Mark
marked clock [] = []
marked clock (r ∷ rs) = mark_by (is_expired clock r) ∷ marked clock rs

-- ---- what the rows of a buffer say

-- the last-used moment of row i
unfoldable pub used_at : Layout → List ℕ → ℕ → ℕ
used_at l d i = number_in d (row_place l i + moment_place l) (moment_size l)

-- the length of its body
unfoldable pub size_at : Layout → List ℕ → ℕ → ℕ
size_at l d i = number_in d (row_place l i + length_place) body_width

-- its body, where the row says that it lies; none where it does not lie in the buffer
unfoldable pub body_at : Layout → List ℕ → ℕ → List ℕ
body_at l d i =
    let p = inside d (number_in d (row_place l i + offset_place) body_width) (size_at l d i) in
    part d p.start p.len

-- its mark, from its body
unfoldable pub mark_at : Layout → List ℕ → ℕ → ℕ → Mark
mark_at l d clock i = mark_by (leb (end_of (body_at l d i)) clock)

-- the marks of k rows from row i on
unfoldable pub marks_from : Layout → List ℕ → ℕ → ℕ → ℕ → List Mark
marks_from l d clock zero i = []
marks_from l d clock (suc k) i = mark_at l d clock i ∷ marks_from l d clock k (i + 1)

-- ---- the choice

-- what a choice is made by: each row's last-used moment and body length, how many rows are held, and how many bytes the buffer is short of
pub record Ask : Type 0 where
  pub used : ℕ → ℕ
  pub size : ℕ → ℕ
  pub rows : ℕ
  pub short : ℕ

-- how many bytes a buffer of `room` bytes is short of, for a row and a body of `more` bytes after an image that ends at `end`
unfoldable pub short_of : Layout → ℕ → ℕ → ℕ → ℕ
short_of l end more room = (end + row_size l + more) - room

-- a row with the mark is expired and still there
abbrev pub may_go : Mark → Bool
may_go Current = false
may_go Expired = true
may_go Gone = false

-- the row that goes first, of the one found so far and, if it is expired and still there, row i; each with its last-used moment
unfoldable pub lesser : Bool → ℕ → ℕ → Option (ℕ × ℕ) → Option (ℕ × ℕ)
lesser false i u b = b
lesser true i u None = Some (i, u)
lesser true i u (Some b) = cond (ltb u b.1) (Some (i, u)) (Some b)

-- the least recently used of the expired rows from row i on that are still there, the earlier on a tie, and of the one found so far
unfoldable pub least_from : (ℕ → ℕ) → List Mark → ℕ → Option (ℕ × ℕ) → Option (ℕ × ℕ)
least_from used [] i b = b
least_from used (g ∷ gs) i b = least_from used gs (i + 1) (lesser (may_go g) i (used i) b)

-- the row that goes next
abbrev pub least_of : Ask → List Mark → Option (ℕ × ℕ)
least_of a gs = least_from a.used gs 0 None

-- a row and the new body have room after so many rows and bytes were removed
unfoldable pub fits_after : Layout → ℕ → ℕ → ℕ → ℕ → Bool
fits_after l rows short removed freed = ltb rows (most_rows l + removed) && leb short freed

-- the same of a choice
abbrev pub fits_in : Layout → Ask → ℕ → ℕ → Bool
fits_in l a removed freed = fits_after l a.rows a.short removed freed

-- the answer: whether there is room, the marks of the rows, and how many rows and bytes are removed
pub record Chosen : Type 0 where
  pub ok : Bool
  pub marks : List Mark
  pub removed : ℕ
  pub freed : ℕ

abbrev pub chosen_of : Bool → List Mark → ℕ → ℕ → Chosen
chosen_of ok gs removed freed = record { ok = ok; marks = gs; removed = removed; freed = freed }

-- there is room; or there is none, and no row may go; or one more goes
abbrev pub one_step : Bool → Option (ℕ × ℕ) → List Mark → ℕ → ℕ → (ℕ → Chosen) → Chosen
one_step true b gs removed freed next = chosen_of true gs removed freed
one_step false None gs removed freed next = chosen_of false gs removed freed
one_step false (Some b) gs removed freed next = next b.0

-- at most m more rows are chosen
unfoldable pub chosen : Layout → Ask → ℕ → List Mark → ℕ → ℕ → Chosen
chosen l a zero gs removed freed = chosen_of (fits_in l a removed freed) gs removed freed
chosen l a (suc m) gs removed freed =
    one_step (fits_in l a removed freed) (least_of a gs) gs removed freed
    (λ j. chosen l a m (set gs j Gone) (removed + 1) (freed + (row_size l + a.size j)))

-- ---- over a list of rows

-- a choice by a list of rows, for a new body of `more` bytes in a buffer of `room` bytes
abbrev pub ask_of : Layout → List Row → ℕ → ℕ → Ask
ask_of l rs more room = record {
  used = λ i. (get_or rs i (row_of [])).used;
  size = λ i. length (get_or rs i (row_of [])).body;
  rows = length rs;
  short = short_of l (length (image_of l rs)) more room;
}

-- the choice among the rows of a list at a clock
unfoldable pub choice_of : Layout → ℕ → ℕ → List Row → ℕ → Chosen
choice_of l room clock rs more = chosen l (ask_of l rs more room) (length rs) (marked clock rs) 0 0

-- whether each row goes, by its mark
abbrev pub goes_of : List Mark → List Bool
goes_of [] = []
goes_of (g ∷ gs) = is_gone g ∷ goes_of gs

-- the rows that stay so that there is room for a body of `more` bytes
unfoldable pub staying_of : Layout → ℕ → ℕ → List Row → ℕ → List Row
staying_of l room clock rs more = kept (choice_of l room clock rs more).marks rs

-- ---- over the bytes of a buffer

-- a choice by the rows of a buffer
abbrev pub ask_at : Layout → List ℕ → ℕ → ℕ → Ask
ask_at l d rows short = record { used = used_at l d; size = size_at l d; rows = rows; short = short }

-- the choice in a buffer of so many rows, which end at `end`
unfoldable pub choice_at : Layout → List ℕ → ℕ → ℕ → ℕ → ℕ → Chosen
choice_at l d rows end clock more =
    chosen l (ask_at l d rows (short_of l end more (length d))) rows (marks_from l d clock rows 0) 0 0

-- so many rows stay, and they end there
abbrev pub made : ℕ → ℕ → Option Room
made n e = Some (record { rows = n; end = e })

-- by a choice, of an image of so many rows that ends at `end`: how many rows stay and where they end, or that there is no room
abbrev pub room_by : ℕ → ℕ → Chosen → Option Room
room_by rows end c = cond (c.ok && leb c.freed end) (made (rows - c.removed) (end - c.freed)) None

-- the answer: by the choice, where there are not more rows than there may be, they end in the buffer, and the body is not longer than it may
-- be; else there is no room
unfoldable pub room_of : Layout → List ℕ → ℕ → ℕ → ℕ → ℕ → Option Room
room_of l d rows end clock more =
    cond (leb rows (most_rows l) && (leb end (length d) && leb more longest)) (room_by rows end (choice_at l d rows end clock more)) None

-- the rows that go are removed
abbrev pub after_by : Layout → List ℕ → ℕ → ℕ → ℕ → ℕ → Option Room → List ℕ
after_by l d rows end clock more (Some r) = closed_up l d (choice_at l d rows end clock more).marks
after_by l d rows end clock more None = d

-- the buffer after room was made
unfoldable pub after_room : Layout → List ℕ → ℕ → ℕ → ℕ → ℕ → List ℕ
after_room l d rows end clock more = after_by l d rows end clock more (room_of l d rows end clock more)
