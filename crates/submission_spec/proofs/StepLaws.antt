-- Which steps have passed, said of the answer: what the answers 0 and 16 say (specs/Submission.antt). Assumes nothing.
use Rattle.std.specs.Prelude.{None, Ok, Err}
use mathlib.Core.Path.{◌≡◌, refl, sym, ap, ◌∙◌}
use mathlib.Core.Logic.{◌↔◌}
use mathlib.Core.Bool.{true, not, cond, ◌||◌}
use mathlib.Core.List.{List, [], ◌∷◌}
use Prim.Native.Nat.{ℕ, ◌≤◌}
use lib.Dec.{eqb}
use borrow.Author.Tests.{le-leb}
use Rattle.octets.proofs.Tests.{and_left}
use Rattle.descriptor_spec.specs.Reading.{Reading}
use Rattle.descriptor_spec.specs.declared.ReadError.TheVariants.{Structure, Validity}
use Rattle.steps.specs.declared.Window.{Window}
use Rattle.steps.specs.Key.{is_verdict}
use Rattle.steps.specs.Order.{AllPass}
use Rattle.steps.specs.Laws.{passes_by}
use Rattle.steps.proofs.Laws.{none_is, passed_by, failed_by}
use Rattle.steps.proofs.Promises as order
use Rattle.image_spec.specs.Image.{reading, is_read, id_of}
use Rattle.image_spec.specs.Check.{is_sound, is_held}
use Rattle.image_spec.specs.Choose.{unexpired}
use Rattle.image_spec.specs.Edition2.{check_of, rows_held, has_room}
use Rattle.submission_spec.specs.Submission.{Submission}
use Rattle.submission_spec.specs.declared.Refusal.TheVariants as answers
use Rattle.submission_spec.specs.Submission.{entering, row_now, is_structure, is_validity, agrees, steps_by, steps, submitted, number_of}
use Rattle.submission_spec.proofs.IdLaws.{entering_read}

-- ---- the steps and the answer 0

-- the first of some answers that has the number, or done
abbrev pick : List Submission → ℕ → Submission
pick [] n = Ok tt
pick (a ∷ rest) n = cond (eqb (number_of a) n) a (pick rest n)

-- the answer with a number
abbrev answer_with : ℕ → Submission
answer_with =
    pick ((Err answers.Structure) ∷ (Err answers.Validity) ∷ (Err answers.UnknownIssuer) ∷ (Err answers.BadSignature) ∷ (Err answers.Duplicate) ∷ (Err answers.Full) ∷
    (Err answers.KeyInvalid) ∷ (Err answers.Malformed) ∷ (Err answers.BadImage) ∷ [])

-- it is the one that has the number
with_number : (a : Submission) → answer_with (number_of a) ≡ a
with_number (Ok tt) = refl
with_number (Err answers.Structure) = refl
with_number (Err answers.Validity) = refl
with_number (Err answers.UnknownIssuer) = refl
with_number (Err answers.BadSignature) = refl
with_number (Err answers.Duplicate) = refl
with_number (Err answers.Full) = refl
with_number (Err answers.KeyInvalid) = refl
with_number (Err answers.Malformed) = refl
with_number (Err answers.BadImage) = refl

-- answers with the same number are the same
pub number_is : (x a : Submission) → number_of x ≡ number_of a → x ≡ a
number_is x a e = sym (with_number x) ∙ ap answer_with e ∙ with_number a

-- the answer is 0 exactly when every step passes
pub done_exactly : (d b : List ℕ) (clock verdict : ℕ) (window : Window)
    → (submitted d b clock verdict window ≡ (Ok tt)) ↔ AllPass (steps d b clock verdict window)
unfolding submitted steps steps_by
done_exactly d b clock verdict window =
    order.pass_exactly Submission (steps d b clock verdict window) (Ok tt)
    (none_is number_of (Ok tt) (steps d b clock verdict window) refl)

-- ---- what an answer says

-- what is known of a body where every step has passed
pub record Passed (d b : List ℕ) (clock : ℕ) : Type 0 where
  pub sound : is_sound (check_of d (id_of b)) ≡ true
  pub reads : is_read (reading b) ≡ true
  pub same_bytes : agrees d b (check_of d (id_of b)) ≡ true
  pub room : (is_held (check_of d (id_of b)) || has_room d (unexpired clock (rows_held d)) (row_now b clock)) ≡ true

-- a reading that is neither 1 nor 2 is 0
read_passes : (r : Reading) → not (is_structure r) ≡ true → not (is_validity r) ≡ true → is_read r ≡ true
read_passes (Ok f) s v = refl
read_passes (Err Structure) s v = s
read_passes (Err Validity) s v = v

-- the answer 0 says that the image is sound, and that the body reads, is not held with other bytes, and is held or has room
pub done_passed : (d b : List ℕ) (clock verdict : ℕ) (window : Window) → submitted d b clock verdict window ≡ (Ok tt) → Passed d b clock
unfolding steps steps_by
done_passed d b clock verdict window e =
    let p : AllPass (steps d b clock verdict window) = (done_exactly d b clock verdict window).0 e in
    let by : (n : ℕ) → passes_by number_of n (steps d b clock verdict window) ≡ true
    = λ n. passed_by number_of n (steps d b clock verdict window) p in
    record {
      sound = and_left _ true (by (number_of (Err answers.BadImage)));
      reads = entering_read b (read_passes (entering b) (and_left _ true (by (number_of (Err answers.Structure))))
          (and_left (not (is_validity (entering b))) _ (by (number_of (Err answers.Validity)))));
      same_bytes = and_left _ true (by (number_of (Err answers.Duplicate)));
      room = and_left _ true (by (number_of (Err answers.Full)));
    }

-- an image that is not sound is answered with 16, where the verdict is one of the three
pub unsound_refused : (d b : List ℕ) (clock verdict : ℕ) (window : Window) → verdict ≤ 2 → check_of d (id_of b) ≡ None
    → submitted d b clock verdict window ≡ (Err answers.BadImage)
unfolding submitted steps steps_by is_verdict
unsound_refused d b clock verdict window h e =
    number_is (submitted d b clock verdict window) (Err answers.BadImage)
    (failed_by number_of (number_of (Err answers.BadImage)) (steps d b clock verdict window) (Ok tt) (rw (le-leb verdict 2 h, e)))
