-- What is promised of submission, and nothing else. Each statement `NameOfIt` is proved in proofs/Promises.antt as `name_of_it`.
-- Document 01, "Submission, in this order", as document 02 §5 and §6 amend it.
use Rattle.std.specs.Prelude.{◌≡◌, ◌↔◌, ◌⊎◌, Bool, true, false, not, ◌&&◌, ◌||◌, List, [], ◌∷◌, ◌++◌, ℕ, ◌+◌, ◌-◌, ◌^◌, ◌≤◌, ◌<◌, length, drop, leb, ltb, eqb, IfSome}
use Rattle.std.specs.Option.{option_map_or}
use Rattle.std.proofs.Math.Option.{Option, none, some}
use Prim.Native.String.{String}
use Rattle.octets.specs.Bytes.{AreBytes, part, same}
use Rattle.octets.specs.Number.{number_at}
use Rattle.resource_spec.specs.Characters.{codes}
use Rattle.uuid_spec.specs.Uuid.{IsVersion7, text}
use Rattle.uuid_spec.specs.Version7.{is_version7, is_version7_text}
use Rattle.descriptor_spec.specs.Model.{Descriptor, encode}
use Rattle.descriptor_spec.specs.Allowed.{Formed, Allowed}
use Rattle.steps.specs.declared.Window.{Window}
use Rattle.steps.specs.Order.{Step, step, in_order, AllPass, FirstFails}
use Rattle.image_spec.specs.Layout.{edition2}
use Rattle.image_spec.specs.Image.{Row, row_of, id_of, body_with}
use Rattle.image_spec.specs.Check.{numbers_of}
use Rattle.image_spec.specs.Grow.{has_room}
use Rattle.image_spec.specs.Choose.{is_expired, unexpired}
use Rattle.image_spec.specs.Removal.{left, Removal}
use Rattle.image_spec.specs.Readable.{find_of}
use Rattle.image_spec.specs.Edition2.{image_of, Holds}
use Rattle.image_spec.specs.Promises.{answer_of, refusal, FoundAt}
use Rattle.submission_spec.specs.Submission.{submitted, after_of, number_of}

-- ---- what is submitted to what

-- what a buffer holds in edition 2, which alone is written: no list of rows, or these rows
pub data Stored : Type 0 where
  bad_image : Stored
  rows : List Row → Stored

-- what is submitted: bytes that reading answers with 1, or the encoding of a descriptor that is allowed but for its period
pub data Body : Type 0 where
  structure : Body
  descriptor : Descriptor → Body

-- the buffer d holds that
abbrev pub IsStored : List ℕ → Stored → Type 0
IsStored d bad_image = (rs : List Row) → Holds d rs → ⊥
IsStored d (rows rs) = Holds d rs

-- the bytes b are that
abbrev pub IsBody : List ℕ → Body → Type 0
IsBody b structure = answer_of b ≡ 1
IsBody b (descriptor c) = Formed c × (b ≡ encode c)

-- the bytes d and b are a buffer that holds s, and x
pub record Meets (d b : List ℕ) (s : Stored) (x : Body) : Type 0 where
  pub buffer_bytes : AreBytes d
  pub body_bytes : AreBytes b
  pub stored : IsStored d s
  pub body : IsBody b x

-- every buffer and every body are one of these
abbrev pub AlwaysMeets : Type 0
AlwaysMeets = (d b : List ℕ) → AreBytes d → AreBytes b → (s : Stored) × (x : Body) × Meets d b s x

-- ---- the three ids (document 02 §6)

-- a text is the prefix and the lower-case text of a UUID of version 7 with RFC 9562's variant
abbrev pub Version7After : String → List ℕ → Type 0
Version7After prefix t = (b : List ℕ) × IsVersion7 b × (t ≡ codes prefix ++ text b)

-- the descriptor id is a UUID of version 7 with that variant, and so are those of the fay id and the terminal id, in lower case
pub record AreVersion7 (c : Descriptor) : Type 0 where
  pub id : IsVersion7 c.payload.id
  pub fay : Version7After "fay:" c.payload.fay
  pub terminal : Version7After "terminal:" c.payload.terminal

-- the same as a test: of the id, and of what follows "fay:" and "terminal:"
abbrev pub version7_ids : Descriptor → Bool
version7_ids c =
    is_version7 c.payload.id && (is_version7_text (drop 4 c.payload.fay) && is_version7_text (drop 9 c.payload.terminal))

-- the test passes exactly when they are
abbrev pub IdsExactly : Type 0
IdsExactly = (c : Descriptor) → AreBytes (encode c) → Formed c → (version7_ids c ≡ true) ↔ AreVersion7 c

-- ---- room, and the rows that may go for it

-- the row of bytes that are stored now: these bytes, last used now
abbrev pub new_row : List ℕ → ℕ → Row
new_row b clock = record { body = b; used = clock }

-- beside the rows there is room for the new one in a buffer of so many bytes: fewer than 1,024 rows are held, and the larger image does not
-- exceed the buffer
abbrev pub room_for : ℕ → List Row → Row → Bool
room_for room rs new = ltb (length rs) 1024 && leb (length (image_of (rs ++ (new ∷ [])))) room

-- that is what the rows that go are to leave (`Removal`)
abbrev pub RoomExactly : Type 0
RoomExactly = (d : List ℕ) (rs : List Row) (new : Row) → has_room edition2 d rs new ≡ room_for (length d) rs new

-- a row is expired: now ≥ not_after of its descriptor
abbrev pub ExpiredExactly : Type 0
ExpiredExactly = (clock : ℕ) (r : Row) (c : Descriptor) → AreBytes (encode c) → Allowed c → r.body ≡ encode c
    → is_expired clock r ≡ leb c.payload.not_after clock

-- the rows that are not expired, in their order
abbrev pub UnexpiredExactly : Type 0
UnexpiredExactly = (clock : ℕ)
    → (unexpired clock [] ≡ [])
    × ((r : Row) (rs : List Row) → is_expired clock r ≡ true → unexpired clock (r ∷ rs) ≡ unexpired clock rs)
    × ((r : Row) (rs : List Row) → is_expired clock r ≡ false → unexpired clock (r ∷ rs) ≡ r ∷ unexpired clock rs)

-- what is said of the rows that go (`Removal`) is so of one list of them at most
abbrev pub RemovalOnce : Type 0
RemovalOnce = (d : List ℕ) (clock : ℕ) (rs : List Row) (new : Row) (g h : List Bool) → Removal edition2 d clock rs new g
    → Removal edition2 d clock rs new h → g ≡ h

-- ---- the steps in order

-- the body that is held under an id, if any, is these bytes
abbrev pub is_same : Option (List ℕ) → List ℕ → Bool
is_same none b = true
is_same (some c) b = same c b

-- a body is held under an id
abbrev pub is_held : Option (List ℕ) → Bool
is_held none = false
is_held (some c) = true

-- The steps of a submission to a buffer of `room` bytes, each with its number. 15: host verdict above 2. 16. Then 1 from reading, and 1 for
-- another id; 2 for a period of over 7,776,000 seconds; 2 if not_before > now + 86,400. 3: verdict 2. 14: now < valid_from, or there is a valid_until and now > valid_until. 4: verdict 1.
-- Then, if the id is held, other bytes 5. 6 exactly when it is not, and there is no room beside the rows that are not expired.
abbrev pub steps_for : Stored → Body → ℕ → ℕ → ℕ → Window → List (Step ℕ)
steps_for bad_image x room clock verdict window =
    step (leb verdict 2) 15
    ∷ step false 16
    ∷ []
steps_for (rows rs) structure room clock verdict window =
    step (leb verdict 2) 15
    ∷ step true 16
    ∷ step false 1
    ∷ []
steps_for (rows rs) (descriptor c) room clock verdict window =
    step (leb verdict 2) 15
    ∷ step true 16
    ∷ step (version7_ids c) 1
    ∷ step (leb (c.payload.not_after - c.payload.not_before) 7776000) 2
    ∷ step (leb c.payload.not_before (clock + 86400)) 2
    ∷ step (not (eqb verdict 2)) 3
    ∷ step (leb window.from.0 clock && option_map_or (λ until. leb clock until.0) window.until true) 14
    ∷ step (not (eqb verdict 1)) 4
    ∷ step (is_same (body_with c.payload.id rs) (encode c)) 5
    ∷ step (is_held (body_with c.payload.id rs) || room_for room (unexpired clock rs) (new_row (encode c) clock)) 6
    ∷ []

-- the number that is answered is that of the first step that fails, or 0
abbrev pub SubmittedExactly : Type 0
SubmittedExactly = (d b : List ℕ) (clock verdict : ℕ) (window : Window) (s : Stored) (x : Body) → Meets d b s x
    → number_of (submitted d b clock verdict window) ≡ in_order (steps_for s x (length d) clock verdict window) 0

-- it is 0 exactly when every step passes
abbrev pub DoneExactly : Type 0
DoneExactly = (d b : List ℕ) (clock verdict : ℕ) (window : Window) (s : Stored) (x : Body) → Meets d b s x
    → (number_of (submitted d b clock verdict window) ≡ 0) ↔ AllPass (steps_for s x (length d) clock verdict window)

-- and another exactly when that is the number of the first step that fails
abbrev pub RefusedExactly : Type 0
RefusedExactly = (d b : List ℕ) (clock verdict : ℕ) (window : Window) (s : Stored) (x : Body) → Meets d b s x → (n : ℕ) → (n ≡ 0 → ⊥)
    → (number_of (submitted d b clock verdict window) ≡ n) ↔ FirstFails (steps_for s x (length d) clock verdict window) n

-- A descriptor that is allowed but for its period passes the step of the ids exactly when they are of version 7: else it is answered 1, whatever
-- its period is, and the buffer is left as it was, also where these very bytes are held from before; with such ids it is not answered 1.
pub record StepOfIds : Type 0 where
  pub refused : (d : List ℕ) (rs : List Row) (c : Descriptor) (clock verdict : ℕ) (window : Window) → Holds d rs → AreBytes (encode c)
      → Formed c → verdict ≤ 2 → (AreVersion7 c → ⊥)
      → (number_of (submitted d (encode c) clock verdict window) ≡ 1) × (after_of d (encode c) clock verdict window ≡ d)
  pub passed : (d : List ℕ) (rs : List Row) (c : Descriptor) (clock verdict : ℕ) (window : Window) → Holds d rs → AreBytes (encode c)
      → Formed c → AreVersion7 c
      → number_of (submitted d (encode c) clock verdict window) ≡ 1 → ⊥

-- an image whose image edition is another than 2, as an image of edition 1 is, or whose mode edition is another than 1 is answered 16, and
-- left as it was
abbrev pub EditionsRefused : Type 0
EditionsRefused = (d b : List ℕ) (clock verdict : ℕ) (window : Window) → verdict ≤ 2 → (number_at d 0 2 ≡ 2 → ⊥) ⊎ (number_at d 2 2 ≡ 1 → ⊥)
    → (number_of (submitted d b clock verdict window) ≡ 16) × (after_of d b clock verdict window ≡ d)

-- ---- the buffer after

-- a refusal leaves every byte as it was
abbrev pub RefusalKeeps : Type 0
RefusalKeeps = (d b : List ℕ) (clock verdict : ℕ) (window : Window) → (number_of (submitted d b clock verdict window) ≡ 0 → ⊥)
    → after_of d b clock verdict window ≡ d

-- so does a repeat: a body is held under the id
abbrev pub RepeatKeeps : Type 0
RepeatKeeps = (d b : List ℕ) (clock verdict : ℕ) (window : Window) (rs : List Row) (c : List ℕ) → Holds d rs
    → body_with (id_of b) rs ≡ some c
    → after_of d b clock verdict window ≡ d

-- the number that is answered, and the buffer after it
abbrev pub Gives : List ℕ → List ℕ → ℕ → ℕ → Window → ℕ → List ℕ → Type 0
Gives d b clock verdict window n after = (number_of (submitted d b clock verdict window) ≡ n) × (after_of d b clock verdict window ≡ after)

-- the rows with that of the descriptor c, last used now, added last
abbrev pub larger : List Row → Descriptor → ℕ → List Row
larger rs c clock = rs ++ (new_row (encode c) clock ∷ [])

-- the image of rows, and beyond it the old bytes of the buffer d
abbrev pub written : List ℕ → List Row → List ℕ
written d rs = image_of rs ++ drop (length (image_of rs)) d

-- the buffer d holds the rows, c is allowed and has ids of version 7, the clock is a number of 64 bits, and in the key's window
pub record Ready (d : List ℕ) (rs : List Row) (c : Descriptor) (clock : ℕ) (window : Window) : Type 0 where
  pub holds : Holds d rs
  pub allowed : Allowed c
  pub ids : AreVersion7 c
  pub bytes : AreBytes (encode c)
  pub held : clock < 2 ^ 64
  pub opened : window.from.0 ≤ clock
  pub lasts : IfSome window.until (λ until. clock ≤ until.0)

-- Where the signature is good and the steps before pass: if the id is held, the same bytes give 0 and no change, other bytes 5, expired or
-- not. 6, and no change, if there is no room beside the rows that are not expired. Else the row and body are added last to those that are
-- left when the least recently used of the expired rows are removed, only until there is room; bytes beyond the new end stay.
pub record LastSteps : Type 0 where
  pub same_held : (d : List ℕ) (rs : List Row) (c : Descriptor) (clock : ℕ) (window : Window)
      → Ready d rs c clock window → c.payload.not_before ≤ clock + 86400
      → body_with c.payload.id rs ≡ some (encode c)
      → Gives d (encode c) clock 0 window 0 d
  pub other_held : (d : List ℕ) (rs : List Row) (c : Descriptor) (clock : ℕ) (window : Window)
      → Ready d rs c clock window → c.payload.not_before ≤ clock + 86400
      → (b : List ℕ) → body_with c.payload.id rs ≡ some b → (b ≡ encode c → ⊥)
      → Gives d (encode c) clock 0 window 5 d
  pub no_room : (d : List ℕ) (rs : List Row) (c : Descriptor) (clock : ℕ) (window : Window)
      → Ready d rs c clock window → c.payload.not_before ≤ clock + 86400
      → body_with c.payload.id rs ≡ none → room_for (length d) (unexpired clock rs) (new_row (encode c) clock) ≡ false
      → Gives d (encode c) clock 0 window 6 d
  pub stores : (d : List ℕ) (rs : List Row) (c : Descriptor) (clock : ℕ) (window : Window)
      → Ready d rs c clock window → c.payload.not_before ≤ clock + 86400
      → body_with c.payload.id rs ≡ none → room_for (length d) (unexpired clock rs) (new_row (encode c) clock) ≡ true
      → (goes : List Bool) × Removal edition2 d clock rs (new_row (encode c) clock) goes
      × Gives d (encode c) clock 0 window 0 (written d (larger (left goes rs) c clock))
      × Holds (after_of d (encode c) clock 0 window) (larger (left goes rs) c clock)

-- where there is room as it is no row goes
abbrev pub RoomKeepsAll : Type 0
RoomKeepsAll = (d : List ℕ) (rs : List Row) (c : Descriptor) (clock : ℕ) (window : Window) → Ready d rs c clock window
    → c.payload.not_before ≤ clock + 86400 → body_with c.payload.id rs ≡ none
    → room_for (length d) rs (new_row (encode c) clock) ≡ true
    → Gives d (encode c) clock 0 window 0 (written d (larger rs c clock)) × Holds (after_of d (encode c) clock 0 window) (larger rs c clock)

-- Nothing that is not expired is ever lost: after a submission, whatever it answered, the rows that are not expired are those from before,
-- in their order and with their moments; after them comes the new one, where one was stored and it is not expired.
abbrev pub UnexpiredKept : Type 0
UnexpiredKept = (d b : List ℕ) (clock verdict : ℕ) (window : Window) (rs : List Row) → clock < 2 ^ 64 → Holds d rs
    → (qs : List Row) × Holds (after_of d b clock verdict window) qs
    × ((unexpired clock qs ≡ unexpired clock rs) ⊎ (unexpired clock qs ≡ unexpired clock rs ++ unexpired clock (new_row b clock ∷ [])))

-- what was stored is what a lookup then finds
abbrev pub StoredFound : Type 0
StoredFound = (d b : List ℕ) (clock verdict : ℕ) (window : Window) (rs : List Row) → clock < 2 ^ 64 → Holds d rs
    → number_of (submitted d b clock verdict window) ≡ 0
    → let after = after_of d b clock verdict window in
    FoundAt after b (numbers_of (find_of after (id_of b)))

-- a lookup of the id in s is answered what it is in d, with the same bytes
abbrev pub FoundAlike : List ℕ → List ℕ → List ℕ → Type 0
FoundAlike s d id =
    let n = numbers_of (find_of s id) in
    let m = numbers_of (find_of d id) in
    (n.answer ≡ m.answer) × (part s n.body_at n.body_len ≡ part d m.body_at m.body_len)

-- a lookup of the id found an expired body in d, which was removed: in s it is answered 7
abbrev pub RemovedFrom : ℕ → List ℕ → List ℕ → List ℕ → Type 0
RemovedFrom clock s d id =
    (numbers_of (find_of s id) ≡ refusal 7)
    × ((c : List ℕ) × FoundAt d c (numbers_of (find_of d id)) × (is_expired clock (row_of c) ≡ true))

-- every other id is answered what it was answered before, with the same bytes; or its body was expired, and was removed
abbrev pub OthersFound : Type 0
OthersFound = (d b : List ℕ) (clock verdict : ℕ) (window : Window) (rs : List Row) (id : List ℕ) → clock < 2 ^ 64 → Holds d rs
    → length id ≡ 16 → (id_of b ≡ id → ⊥)
    → let after = after_of d b clock verdict window in
    FoundAlike after d id ⊎ RemovedFrom clock after d id

-- Whatever ids a body from before has: it is found after every submission as it was, whatever that answered; or it was expired, and was
-- removed.
abbrev pub HeldFound : Type 0
HeldFound = (d b : List ℕ) (clock verdict : ℕ) (window : Window) (rs : List Row) (id c : List ℕ) → clock < 2 ^ 64 → Holds d rs
    → length id ≡ 16 → body_with id rs ≡ some c
    → let after = after_of d b clock verdict window in
    FoundAt after c (numbers_of (find_of after id)) ⊎ RemovedFrom clock after d id

-- ---- both sides of a line

-- not_before = now + 86,400 is stored; one more gives 2
abbrev pub LeadBoundary : Type 0
LeadBoundary = (d : List ℕ) (rs : List Row) (c : Descriptor) (clock : ℕ) (window : Window) → Ready d rs c clock window
    → body_with c.payload.id rs ≡ none → room_for (length d) rs (new_row (encode c) clock) ≡ true
    → (c.payload.not_before ≡ clock + 86400
    → (number_of (submitted d (encode c) clock 0 window) ≡ 0) × Holds (after_of d (encode c) clock 0 window) (larger rs c clock))
    × (c.payload.not_before ≡ clock + 86401 → Gives d (encode c) clock 0 window 2 d)

-- the 1,024th row is stored; the 1,025th gives 6 where none is expired
abbrev pub RowBoundary : Type 0
RowBoundary = (d : List ℕ) (rs : List Row) (c : Descriptor) (clock : ℕ) (window : Window) → Ready d rs c clock window
    → c.payload.not_before ≤ clock + 86400 → body_with c.payload.id rs ≡ none → length (image_of (larger rs c clock)) ≤ length d
    → (length rs ≡ 1023
    → (number_of (submitted d (encode c) clock 0 window) ≡ 0) × Holds (after_of d (encode c) clock 0 window) (larger rs c clock)
    × (length (larger rs c clock) ≡ 1024))
    × (length rs ≡ 1024 → unexpired clock rs ≡ rs → Gives d (encode c) clock 0 window 6 d)
