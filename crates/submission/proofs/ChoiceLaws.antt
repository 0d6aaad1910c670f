-- What the stages that only look answer is what the steps in order come to (specs/Code.antt, specs/Submission.antt of `submission_spec`).
-- Assumes nothing.
use mathlib.Core.Path.{◌≡◌, refl, sym, ap}
use mathlib.Core.Bool.{true, false}
use mathlib.Core.List.{List}
use Prim.Native.Nat.{ℕ, ◌+◌, ◌<◌}
use native.Mathlib.Omega.{arith}
use lib.Dec.{leb}
use Rattle.octets.specs.Bytes.{part, same}
use Rattle.octets.proofs.Tests.{by_cond}
use Rattle.descriptor_spec.specs.declared.Fields.{Fields}
use Rattle.descriptor_spec.specs.Reading.{Reading}
use Rattle.std.specs.Prelude.{Option, Some, None, Ok, Err}
use Rattle.descriptor_spec.specs.declared.ReadError.TheVariants.{Structure, Validity}
use Rattle.steps.specs.declared.Window.{Window}
use Rattle.steps.specs.Order.{Step, in_order}
use Rattle.steps.specs.Key.{bad, no_key, is_verdict, is_that, key_open}
use Rattle.steps.specs.Laws.{all_pass, fails_by}
use Rattle.steps.proofs.Laws.{passed_end, all_pass_lem, failed_by}
use Rattle.image_spec.specs.declared.StoredBody.{StoredBody}
use Rattle.image_spec.specs.declared.Contents.{Contents}
use Rattle.image_spec.specs.Image.{id_of}
use Rattle.image_spec.specs.Check.{is_held}
use Rattle.image_spec.specs.Choose.{unexpired}
use Rattle.image_spec.specs.Edition2.{check_of, rows_held, has_room}
use Rattle.submission_spec.specs.declared.Refusal.{Refusal}
use Rattle.submission_spec.specs.declared.Refusal.TheVariants as answers
use Rattle.submission_spec.specs.Submission.{Submission}
use Rattle.submission.specs.declared.choose.Store.{Store}
use Rattle.submission.specs.Code.{Choice}
use Rattle.submission_spec.specs.Submission.{entering, longest_lead, row_now, steps_by, number_of, after_answer}
use Rattle.submission.specs.Code.{admitted, placed_by, placed, when_admitted, chosen_read, chosen_unread, chosen_by, choice_of}
use Rattle.submission_spec.proofs.Laws.{numbers_tell, refused_keeps}

-- ---- what a choice says

-- the body is to be stored: the id is not held, and every step but the last passes, which is whether there is room
-- beside the rows that are not expired
pub record Storing (d b : List ℕ) (clock verdict : ℕ) (window : Window) (r : Reading) (v : Option Contents) (p : Store) : Type 0 where
  pub done : has_room d (unexpired clock (rows_held d)) (row_now b clock) ≡ true
      → Ok tt ≡ in_order (steps_by d b clock verdict window r v) (Ok tt)
  pub full : has_room d (unexpired clock (rows_held d)) (row_now b clock) ≡ false
      → Err answers.Full ≡ in_order (steps_by d b clock verdict window r v) (Ok tt)
  pub found : v ≡ Some (record { rows = p.rows; end = p.end; held = None })
  pub fields : Fields
  pub reads : r ≡ Ok fields
  pub named : p.id ≡ fields.id
  pub modes : p.mask ≡ fields.mask

-- an answer is what the steps come to, and leaves the buffer as it was
abbrev pub Answers : List ℕ → List ℕ → ℕ → ℕ → Window → Reading → Option Contents → Submission → Type 0
Answers d b clock verdict window r v a = (a ≡ in_order (steps_by d b clock verdict window r v) (Ok tt))
    × (after_answer d b clock (is_held v) a ≡ d)

-- a refusal and a body that is held are answers; a body that is to be stored has passed all steps but the last
abbrev pub ChoiceIs : List ℕ → List ℕ → ℕ → ℕ → Window → Reading → Option Contents → Choice → Type 0
ChoiceIs d b clock verdict window r v (Err refusal) = Answers d b clock verdict window r v (Err refusal)
ChoiceIs d b clock verdict window r v (Ok None) = Answers d b clock verdict window r v (Ok tt)
ChoiceIs d b clock verdict window r v (Ok (Some p)) = Storing d b clock verdict window r v p

-- a refusal whose step fails, where those before it pass, is a choice that says so
refuses : (d b : List ℕ) (clock verdict : ℕ) (window : Window) (r : Reading) (v : Option Contents) (a : Refusal) → 0 < number_of (Err a)
    → fails_by number_of (number_of (Err a)) (steps_by d b clock verdict window r v) ≡ true
    → ChoiceIs d b clock verdict window r v (Err a)
refuses d b clock verdict window r v a n e =
    let steps : List (Step Submission) = steps_by d b clock verdict window r v in (
      sym (numbers_tell (in_order steps (Ok tt)) (Err a) (failed_by number_of (number_of (Err a)) steps (Ok tt) e)),
      refused_keeps d b clock (is_held v) (Err a) (λ z. omega (arith, ap number_of z)),
    )

-- where every step passes, the answer is 0
all_done : (d b : List ℕ) (clock verdict : ℕ) (window : Window) (r : Reading) (v : Option Contents)
    → all_pass (steps_by d b clock verdict window r v) ≡ true
    → Ok tt ≡ in_order (steps_by d b clock verdict window r v) (Ok tt)
all_done d b clock verdict window r v e =
    let steps : List (Step Submission) = steps_by d b clock verdict window r v in
    sym (passed_end steps (Ok tt) (all_pass_lem steps e))

module _ (d b : List ℕ) (clock verdict : ℕ) (window : Window) (known : is_verdict verdict ≡ true) where
  module _ (n end : ℕ) (f : Fields) (early : leb f.not_before.0 (clock + longest_lead) ≡ true) (issuer : is_that verdict no_key ≡ false)
      (key : key_open window clock ≡ true) (signed : is_that verdict bad ≡ false) where
    -- where the steps before it pass, the place of the body is what the last two steps come to
    placed_is : (h : Option StoredBody)
        → ChoiceIs d b clock verdict window (Ok f) (Some (record { rows = n; end = end; held = h }))
        (placed_by d b (record { rows = n; end = end; id = f.id; mask = f.mask }) h)
    unfolding steps_by
    placed_is (Some x) =
        let v : Option Contents = Some (record { rows = n; end = end; held = Some x }) in
        by_cond (ChoiceIs d b clock verdict window (Ok f) v) (same (part d x.at x.len) b)
        (λ e. (all_done d b clock verdict window (Ok f) v (rw (known, early, issuer, key, signed, e)), refl))
        (λ e. refuses d b clock verdict window (Ok f) v answers.Duplicate (omega arith) (rw (known, early, issuer, key, signed, e)))
    placed_is None =
        let v : Option Contents = Some (record { rows = n; end = end; held = None }) in
        record {
          done = λ e. all_done d b clock verdict window (Ok f) v (rw (known, early, issuer, key, signed, e));
          full = λ e. (refuses d b clock verdict window (Ok f) v answers.Full (omega arith) (rw (known, early, issuer, key, signed, e))).0;
          found = refl;
          fields = f;
          reads = refl;
          named = refl;
          modes = refl;
        }

  -- a body that reads, in an image that is sound: the steps from the beginning to the signature, and then the place
  read_is : (w : Contents) (f : Fields)
      → ChoiceIs d b clock verdict window (Ok f) (Some w) (when_admitted (admitted f.not_before.0 clock verdict window) (placed d b w f))
  unfolding steps_by admitted placed
  read_is w f =
      let v : Option Contents = Some w in
      let P : Submission → Type 0 = λ a. ChoiceIs d b clock verdict window (Ok f) v (when_admitted a (placed d b w f)) in
      by_cond P (leb f.not_before.0 (clock + longest_lead))
      (λ early. by_cond P (is_that verdict no_key)
      (λ issuer. refuses d b clock verdict window (Ok f) v answers.UnknownIssuer (omega arith) (rw (known, early, issuer)))
      (λ issuer. by_cond P (key_open window clock)
      (λ key. by_cond P (is_that verdict bad)
      (λ signed. refuses d b clock verdict window (Ok f) v answers.BadSignature (omega arith) (rw (known, early, issuer, key, signed)))
      (λ signed. placed_is w.rows w.end f early issuer key signed w.held))
      (λ key. refuses d b clock verdict window (Ok f) v answers.KeyInvalid (omega arith) (rw (known, early, issuer, key))))
      )
      (λ early. refuses d b clock verdict window (Ok f) v answers.Validity (omega arith) (rw (known, early)))

  -- a verdict that is known: the image, then what is answered of the body
  known_is : (r : Reading) (v : Option Contents) → ChoiceIs d b clock verdict window r v (chosen_by d b clock verdict window r v)
  unfolding steps_by chosen_read chosen_unread
  known_is (Ok f) (Some w) = read_is w f
  known_is (Ok f) None = refuses d b clock verdict window (Ok f) None answers.BadImage (omega arith) (rw known)
  known_is (Err Structure) (Some w) = refuses d b clock verdict window (Err Structure) (Some w) answers.Structure (omega arith) (rw known)
  known_is (Err Validity) (Some w) = refuses d b clock verdict window (Err Validity) (Some w) answers.Validity (omega arith) (rw known)
  known_is (Err e) None = refuses d b clock verdict window (Err e) None answers.BadImage (omega arith) (rw known)

-- what the stages choose is what the steps come to
pub choice_is : (d b : List ℕ) (clock verdict : ℕ) (window : Window)
    → ChoiceIs d b clock verdict window (entering b) (check_of d (id_of b)) (choice_of d b clock verdict window)
unfolding steps_by choice_of
choice_is d b clock verdict window =
    let r : Reading = entering b in
    let v : Option Contents = check_of d (id_of b) in
    by_cond (ChoiceIs d b clock verdict window r v) (is_verdict verdict)
    (λ known. known_is d b clock verdict window known r v)
    (λ unknown. refuses d b clock verdict window r v answers.Malformed (omega arith) (rw unknown))
