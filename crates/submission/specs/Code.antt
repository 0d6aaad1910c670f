-- What the code's stages answer, in the code's own order. A reader of the promises does not need this page: the laws in
-- proofs/ tie it to Submission.antt.
use Rattle.std.specs.Prelude.{cond, List, ℕ, ◌+◌, ◌≤◌, length, leb, Option, Some, None, Result, Ok, Err}
use Rattle.octets.specs.Bytes.{part, same}
use Rattle.resource_spec.specs.Identifier.{fay_size, terminal_size}
use Rattle.descriptor_spec.specs.Allowed.{id_size}
use Rattle.descriptor_spec.specs.declared.Fields.{Fields}
use Rattle.descriptor_spec.specs.Reading.{Reading}
use Rattle.descriptor_spec.specs.declared.ReadError.{ReadError}
use Rattle.descriptor_spec.specs.declared.ReadError.TheVariants.{Structure, Validity}
use Rattle.steps.specs.declared.Window.{Window}
use Rattle.steps.specs.Key.{bad, no_key, is_verdict, is_that, key_open}
use Rattle.image_spec.specs.declared.StoredBody.{StoredBody}
use Rattle.image_spec.specs.declared.Contents.{Contents}
use Rattle.image_spec.specs.declared.AddError.{AddError}
use Rattle.image_spec.specs.declared.Room.{Room}
use Rattle.image_spec.specs.Layout.{edition2}
use Rattle.image_spec.specs.Image.{id_of}
use Rattle.image_spec.specs.Choose.{room_of, after_room}
use Rattle.image_spec.specs.Edition2.{check_of, added_of, after_add}
use Rattle.submission_spec.specs.declared.Refusal.{Refusal}
use Rattle.submission_spec.specs.declared.Refusal.TheVariants as answers
use Rattle.submission.specs.declared.choose.Store.{Store}
use Rattle.submission_spec.specs.Submission.{Submission, longest_lead, entering}

-- what is to be done: the body is to be stored there; it is held already; or it is refused
abbrev pub Choice : Type 0
Choice = Result (Option Store) Refusal

-- ---- the stages that only look

-- the three ids of the fields lie in the bytes
pub record IdsFit (b : List ℕ) (f : Fields) : Type 0 where
  pub id : f.id + id_size ≤ length b
  pub fay : f.fay + fay_size ≤ length b
  pub terminal : f.terminal + terminal_size ≤ length b

-- the beginning, the issuer, the key and the signature of a body that reads
unfoldable pub admitted : ℕ → ℕ → ℕ → Window → Submission
admitted before clock verdict window =
    cond (leb before (clock + longest_lead))
    (cond (is_that verdict no_key) (Err answers.UnknownIssuer)
    (cond (key_open window clock) (cond (is_that verdict bad) (Err answers.BadSignature) (Ok tt)) (Err answers.KeyInvalid)))
    (Err answers.Validity)

-- where a body of which f was read is stored in an image with these contents
abbrev pub place_in : Contents → Fields → Store
place_in v f = record { rows = v.rows; end = v.end; id = f.id; mask = f.mask }

-- whether the body is held, held with other bytes, or to be stored, by what is held under its id
abbrev pub placed_by : List ℕ → List ℕ → Store → Option StoredBody → Choice
placed_by d b p (Some h) = cond (same (part d h.at h.len) b) (Ok None) (Err answers.Duplicate)
placed_by d b p None = Ok (Some p)

-- the same in an image with these contents
unfoldable pub placed : List ℕ → List ℕ → Contents → Fields → Choice
placed d b v f = placed_by d b (place_in v f) v.held

-- the refusal, or where the body is placed
abbrev pub when_admitted : Submission → Choice → Choice
when_admitted (Err refusal) c = Err refusal
when_admitted (Ok u) c = c

-- a body that reads, by the check of the image
unfoldable pub chosen_read : List ℕ → List ℕ → ℕ → ℕ → Window → Fields → Option Contents → Choice
chosen_read d b clock verdict window f (Some v) =
    when_admitted (admitted f.not_before.0 clock verdict window) (placed d b v f)
chosen_read d b clock verdict window f None = Err answers.BadImage

-- the refusal of a body that does not read
abbrev pub refusal_of : ReadError → Refusal
refusal_of Structure = answers.Structure
refusal_of Validity = answers.Validity

-- the same by the check of the image, which comes first
unfoldable pub chosen_unread : ReadError → Option Contents → Refusal
chosen_unread e (Some v) = refusal_of e
chosen_unread e None = answers.BadImage

-- by what is answered of the body
abbrev pub chosen_by : List ℕ → List ℕ → ℕ → ℕ → Window → Reading → Option Contents → Choice
chosen_by d b clock verdict window (Ok f) v = chosen_read d b clock verdict window f v
chosen_by d b clock verdict window (Err e) v = Err (chosen_unread e v)

-- what is to be done
unfoldable pub choice_of : List ℕ → List ℕ → ℕ → ℕ → Window → Choice
choice_of d b clock verdict window =
    cond (is_verdict verdict) (chosen_by d b clock verdict window (entering b) (check_of d (id_of b))) (Err answers.Malformed)

-- ---- the stages that write

-- what adding the body comes to
abbrev pub stored_as : Result Unit AddError → Submission
stored_as (Ok u) = Ok u
stored_as (Err e) = Err answers.Full

-- where room was made the body is added after the rows that stay
abbrev pub stored_in : List ℕ → List ℕ → ℕ → Option Room → Submission
stored_in d b id (Some r) = stored_as (added_of d r.rows r.end b id)
stored_in d b id None = Err answers.Full

-- the buffer after that
abbrev pub after_in : List ℕ → List ℕ → ℕ → ℕ → ℕ → Option Room → List ℕ
after_in d b id mask clock (Some r) = after_add d r.rows r.end b id mask clock
after_in d b id mask clock None = d

-- what storing the body comes to where expired rows are removed first
unfoldable pub stored_after_removal : List ℕ → List ℕ → Store → ℕ → Submission
stored_after_removal d b p clock =
    stored_in (after_room edition2 d p.rows p.end clock (length b)) b p.id (room_of edition2 d p.rows p.end clock (length b))

-- the buffer after that
unfoldable pub after_removal : List ℕ → List ℕ → Store → ℕ → List ℕ
after_removal d b p clock =
    after_in (after_room edition2 d p.rows p.end clock (length b)) b p.id p.mask clock (room_of edition2 d p.rows p.end clock (length b))

-- the body is added as it is, or else
abbrev pub stored_or : Submission → Result Unit AddError → Submission
stored_or a (Ok u) = Ok u
stored_or a (Err e) = a

-- the buffer with the body added as it is, or else
abbrev pub after_or : List ℕ → List ℕ → Result Unit AddError → List ℕ
after_or larger d (Ok u) = larger
after_or larger d (Err e) = d

-- what storing the body comes to: only where it cannot be added as it is are expired rows removed
unfoldable pub stored_of : List ℕ → List ℕ → Store → ℕ → Submission
stored_of d b p clock = stored_or (stored_after_removal d b p clock) (added_of d p.rows p.end b p.id)

-- the buffer after that
unfoldable pub after_store : List ℕ → List ℕ → Store → ℕ → List ℕ
after_store d b p clock =
    after_or (after_add d p.rows p.end b p.id p.mask clock) (after_removal d b p clock) (added_of d p.rows p.end b p.id)
