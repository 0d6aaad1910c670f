-- Submission: what the code answers, and the buffer after it. These definitions compute. A reader of the promises does not need this page.
use Rattle.std.specs.Prelude.{Bool, true, false, not, cond, ◌&&◌, ◌||◌, List, [], ◌∷◌, ℕ, ◌+◌, ◌-◌, length, leb, Option, Some, None}
use Rattle.octets.specs.Bytes.{part, same}
use Rattle.resource_spec.specs.Identifier.{fay_size, terminal_size}
use Rattle.uuid_spec.specs.Version7.{is_version7, is_version7_text}
use Rattle.descriptor_spec.specs.declared.Fields.{Fields}
use Rattle.descriptor_spec.specs.Reading.{Reading}
use Rattle.std.specs.Prelude.{Ok, Err, Result}
use Rattle.descriptor_spec.specs.declared.ReadError.TheVariants.{Structure, Validity}
use Rattle.descriptor_spec.specs.Allowed.{id_size}
use Rattle.descriptor_spec.specs.Reader.{formed_in}
use Rattle.descriptor_spec.specs.Code.{form_of, within_period}
use Rattle.steps.specs.declared.Window.{Window}
use Rattle.steps.specs.Order.{Step, step, in_order}
use Rattle.steps.specs.Key.{bad, no_key, is_verdict, is_that, key_open}
use Rattle.image_spec.specs.Check.{Held, ImageCheck, is_sound, is_held}
use Rattle.image_spec.specs.Layout.{edition2}
use Rattle.image_spec.specs.Image.{Row, id_of}
use Rattle.image_spec.specs.Choose.{unexpired, staying_of}
use Rattle.image_spec.specs.Edition2.{check_of, rows_held, has_room, with_body}
use Rattle.submission_spec.specs.declared.Refusal.{Refusal}
use Rattle.submission_spec.specs.declared.Refusal.TheVariants as answers

-- what a submission answers: done, or the refusal of the first step that fails
abbrev pub Submission : Type 0
Submission = Result Unit Refusal

-- one day in seconds: how far ahead a descriptor may begin
abbrev pub longest_lead : ℕ
longest_lead = 86400

-- ---- the three ids (document 02 §6)

-- where the UUID text begins in a fay id, after "fay:"
abbrev pub fay_text : ℕ
fay_text = 4

-- where it begins in a terminal id, after "terminal:"
abbrev pub terminal_text : ℕ
terminal_text = 9

-- the ids of the fields in b are of version 7, the two texts in lower case
unfoldable pub ids_in : List ℕ → Fields → Bool
ids_in b f =
    is_version7 (part b f.id id_size)
    && (is_version7_text (part b (f.fay + fay_text) (fay_size - fay_text))
    && is_version7_text (part b (f.terminal + terminal_text) (terminal_size - terminal_text)))

-- what is answered of b, by what it is before the period is looked at: 1 for another id, and only then what the period says
abbrev pub entering_by : List ℕ → Option Fields → Reading
entering_by b (Some f) = cond (ids_in b f) (within_period f) (Err Structure)
entering_by b None = Err Structure

-- what is answered of bytes that are submitted: as reading answers, and 1 for an id that is not of version 7
unfoldable pub entering : List ℕ → Reading
entering b = entering_by b (form_of (formed_in b))

-- ---- what was read and what was found

-- reading answered 1
abbrev pub is_structure : Reading → Bool
is_structure (Ok f) = false
is_structure (Err Structure) = true
is_structure (Err Validity) = false

-- reading answered 2
abbrev pub is_validity : Reading → Bool
is_validity (Ok f) = false
is_validity (Err Structure) = false
is_validity (Err Validity) = true

-- not_before
abbrev pub begins : Reading → ℕ
begins (Ok f) = f.not_before.0
begins (Err Structure) = 0
begins (Err Validity) = 0

-- the body that is held, if any, is the same bytes
abbrev pub agrees_with : List ℕ → List ℕ → Held → Bool
agrees_with d b (Some h) = same (part d h.at h.len) b
agrees_with d b None = true

-- so is the one under the id that was looked for
abbrev pub agrees : List ℕ → List ℕ → ImageCheck → Bool
agrees d b (Some v) = agrees_with d b v.held
agrees d b None = true

-- ---- the row that is added

-- the row of a body that is stored now
abbrev pub row_now : List ℕ → ℕ → Row
row_now b clock = record { body = b; used = clock }

-- the rows that stay so that there is room for it
abbrev pub staying : List ℕ → List ℕ → ℕ → List Row
staying d b clock = staying_of edition2 (length d) clock (rows_held d) (length b)

-- ---- the steps

-- the steps, by what reading the body answered and what the check of the image for its id found
unfoldable pub steps_by : List ℕ → List ℕ → ℕ → ℕ → Window → Reading → ImageCheck → List (Step Submission)
steps_by d b clock verdict window r v =
    step (is_verdict verdict) (Err answers.Malformed)
    ∷ step (is_sound v) (Err answers.BadImage)
    ∷ step (not (is_structure r)) (Err answers.Structure)
    ∷ step (not (is_validity r)) (Err answers.Validity)
    ∷ step (leb (begins r) (clock + longest_lead)) (Err answers.Validity)
    ∷ step (not (is_that verdict no_key)) (Err answers.UnknownIssuer)
    ∷ step (key_open window clock) (Err answers.KeyInvalid)
    ∷ step (not (is_that verdict bad)) (Err answers.BadSignature)
    ∷ step (agrees d b v) (Err answers.Duplicate)
    ∷ step (is_held v || has_room d (unexpired clock (rows_held d)) (row_now b clock)) (Err answers.Full)
    ∷ []

-- the steps of a submission of the body b to the image d
unfoldable pub steps : List ℕ → List ℕ → ℕ → ℕ → Window → List (Step Submission)
steps d b clock verdict window = steps_by d b clock verdict window (entering b) (check_of d (id_of b))

-- the answer: the first failing step's, or done
unfoldable pub submitted : List ℕ → List ℕ → ℕ → ℕ → Window → Submission
submitted d b clock verdict window = in_order (steps d b clock verdict window) (Ok tt)

-- document 01's numbers
abbrev pub number_of : Submission → ℕ
number_of (Ok tt) = 0
number_of (Err answers.Structure) = 1
number_of (Err answers.Validity) = 2
number_of (Err answers.UnknownIssuer) = 3
number_of (Err answers.BadSignature) = 4
number_of (Err answers.Duplicate) = 5
number_of (Err answers.Full) = 6
number_of (Err answers.KeyInvalid) = 14
number_of (Err answers.Malformed) = 15
number_of (Err answers.BadImage) = 16

-- ---- the buffer after

-- a step refuses or the body is held: the buffer is as it was; else it is the image of the rows that stay with the body added last
abbrev pub after_answer : List ℕ → List ℕ → ℕ → Bool → Submission → List ℕ
after_answer d b clock true answer = d
after_answer d b clock false (Ok tt) = with_body d (staying d b clock) (row_now b clock)
after_answer d b clock false (Err refusal) = d

-- the buffer after a submission
unfoldable pub after_of : List ℕ → List ℕ → ℕ → ℕ → Window → List ℕ
after_of d b clock verdict window = after_answer d b clock (is_held (check_of d (id_of b))) (submitted d b clock verdict window)
