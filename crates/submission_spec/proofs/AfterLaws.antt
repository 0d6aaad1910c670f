-- The buffer after a submission: after a refusal, where the id is held, and where it is not (specs/Submission.antt). Assumes nothing.
use mathlib.Core.Path.{◌≡◌, refl, ap, ap₂}
use mathlib.Core.Logic.{◌⊎◌, inl, inr, ⊎_elim}
use mathlib.Core.Bool.{Bool, true, false}
use mathlib.Core.List.{List}
use Prim.Native.Nat.{ℕ}
use Rattle.steps.specs.declared.Window.{Window}
use Rattle.image_spec.specs.Image.{id_of}
use Rattle.image_spec.specs.Check.{is_held}
use Rattle.image_spec.specs.Edition2.{check_of, with_body}
use Rattle.submission_spec.specs.Submission.{Submission}
use Rattle.std.specs.Prelude.{Ok, Err}
use Rattle.submission_spec.specs.declared.Refusal.TheVariants as answers
use Rattle.submission_spec.specs.Submission.{row_now, staying, submitted, after_answer, after_of}

-- ---- the buffer after a refusal

-- every byte is as it was, or the answer is 0
pub kept_or_done : (d b : List ℕ) (clock : ℕ) (held : Bool) (a : Submission) → (after_answer d b clock held a ≡ d) ⊎ (a ≡ (Ok tt))
kept_or_done d b clock true a = inl refl
kept_or_done d b clock false (Ok tt) = inr refl
kept_or_done d b clock false (Err answers.Structure) = inl refl
kept_or_done d b clock false (Err answers.Validity) = inl refl
kept_or_done d b clock false (Err answers.UnknownIssuer) = inl refl
kept_or_done d b clock false (Err answers.BadSignature) = inl refl
kept_or_done d b clock false (Err answers.Duplicate) = inl refl
kept_or_done d b clock false (Err answers.Full) = inl refl
kept_or_done d b clock false (Err answers.KeyInvalid) = inl refl
kept_or_done d b clock false (Err answers.Malformed) = inl refl
kept_or_done d b clock false (Err answers.BadImage) = inl refl

-- an answer that is not 0 leaves every byte as it was
pub refused_keeps : (d b : List ℕ) (clock : ℕ) (held : Bool) (a : Submission) → (a ≡ (Ok tt) → ⊥) → after_answer d b clock held a ≡ d
refused_keeps d b clock held a other = ⊎_elim (λ e. e) (λ e. absurd (other e)) (kept_or_done d b clock held a)

-- ---- the buffer after a submission

-- where the id is held the buffer is as it was
pub after_held : (d b : List ℕ) (clock verdict : ℕ) (window : Window) → is_held (check_of d (id_of b)) ≡ true
    → after_of d b clock verdict window ≡ d
unfolding after_of
after_held d b clock verdict window e = ap (λ (t : Bool). after_answer d b clock t (submitted d b clock verdict window)) e

-- where the id is not held, the answer 0 leaves the buffer with the body added last to the rows that stay
pub after_new_lem : (d b : List ℕ) (clock verdict : ℕ) (window : Window) → is_held (check_of d (id_of b)) ≡ false
    → submitted d b clock verdict window ≡ (Ok tt) → after_of d b clock verdict window ≡ with_body d (staying d b clock) (row_now b clock)
unfolding after_of
after_new_lem d b clock verdict window e f = ap₂ (after_answer d b clock) e f
