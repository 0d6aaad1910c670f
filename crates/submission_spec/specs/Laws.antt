-- What the crates above stand on. A reader of the promises does not need this page.
use Rattle.std.specs.Prelude.{◌≡◌, Bool, List, ◌⊎◌, ℕ, ◌^◌, ◌≤◌, ◌<◌, Ok}
use Rattle.std.proofs.Math.Option.{none, some}
use Rattle.octets.specs.Bytes.{AreBytes}
use Rattle.descriptor_spec.specs.declared.Fields.{Fields}
use Rattle.descriptor_spec.specs.Model.{Descriptor, encode}
use Rattle.descriptor_spec.specs.Allowed.{Allowed}
use Rattle.steps.specs.declared.Window.{Window}
use Rattle.image_spec.specs.Image.{Row, reading, id_of, body_with}
use Rattle.image_spec.specs.Choose.{end_of}
use Rattle.image_spec.specs.Edition2.{Holds}
use Rattle.submission_spec.specs.Submission.{Submission}
use Rattle.submission_spec.specs.Submission.{entering, submitted, after_answer, after_of, number_of}
use Rattle.submission_spec.specs.Promises.{AreVersion7}

-- bytes that are answered with fields where they are submitted are read with them
abbrev pub EnteringReads : Type 0
EnteringReads = (b : List ℕ) (f : Fields) → entering b ≡ Ok f → reading b ≡ Ok f

-- answers with the same number are the same
abbrev pub NumbersTell : Type 0
NumbersTell = (x a : Submission) → number_of x ≡ number_of a → x ≡ a

-- an answer that is not 0 leaves every byte as it was
abbrev pub RefusedKeeps : Type 0
RefusedKeeps = (d b : List ℕ) (clock : ℕ) (held : Bool) (a : Submission) → (a ≡ Ok tt → ⊥) → after_answer d b clock held a ≡ d

-- an answer of 0 says that the buffer holds a list of rows, and that what was submitted is the encoding of an allowed descriptor, has its
-- id, and has ids of version 7
abbrev pub DoneMeans : Type 0
DoneMeans = (d b : List ℕ) (clock verdict : ℕ) (window : Window) → AreBytes d → AreBytes b
    → number_of (submitted d b clock verdict window) ≡ 0
    → ((rs : List Row) × Holds d rs) × ((c : Descriptor) × Allowed c × (b ≡ encode c) × (id_of b ≡ c.payload.id) × AreVersion7 c)

-- what an id has after a submission at a clock, and had before: the same; or it had an expired body, and has none
abbrev pub HasAfter : ℕ → List Row → List Row → List ℕ → Type 0
HasAfter clock rs qs id = (body_with id qs ≡ body_with id rs)
    ⊎ ((body_with id qs ≡ none) × ((c : List ℕ) × (body_with id rs ≡ some c) × (end_of c ≤ clock)))

-- after a submission to a buffer that holds rows, whatever it answered, the buffer holds a list of rows: where the answer is 0 the
-- id of what was submitted has that very body; every other id has what it had, or had an expired body and has none
abbrev pub AfterHolds : Type 0
AfterHolds = (d b : List ℕ) (clock verdict : ℕ) (window : Window) (rs : List Row) → clock < 2 ^ 64 → Holds d rs
    → (qs : List Row) × Holds (after_of d b clock verdict window) qs
    × (number_of (submitted d b clock verdict window) ≡ 0 → body_with (id_of b) qs ≡ some b)
    × ((id : List ℕ) → (id_of b ≡ id → ⊥) → HasAfter clock rs qs id)
