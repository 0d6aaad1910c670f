-- The step of the ids in a submission (specs/Promises.antt). Assumes nothing.
use mathlib.Core.Path.{◌≡◌, refl, sym, ◌∙◌}
use mathlib.Core.Bool.{Bool, true, false}
use mathlib.Core.List.{List}
use Prim.Native.Nat.{ℕ}
use native.Mathlib.Omega.{arith}
use lib.ListN.{length}
use borrow.Author.Tests.{le-leb}
use Rattle.octets.specs.Bytes.{AreBytes}
use Rattle.descriptor_spec.specs.Model.{Descriptor, encode}
use Rattle.descriptor_spec.specs.Allowed.{Formed}
use Rattle.steps.specs.Order.{Step, in_order}
use Rattle.steps.proofs.Laws.{not_by, failed_by}
use Rattle.submission_spec.specs.Submission.{submitted, number_of}
use Rattle.submission_spec.specs.Promises.{rows, descriptor, AreVersion7, version7_ids, steps_for, StepOfIds}
use Rattle.submission_spec.proofs.IdLaws.{ids_exactly}
use Rattle.submission_spec.proofs.NumberLaws.{itself, number_descriptor}
use Rattle.submission_spec.proofs.StoredLaws.{refusal_keeps}

-- ids that are not of version 7 fail the test
ids_fail : (c : Descriptor) → AreBytes (encode c) → Formed c → (AreVersion7 c → ⊥) → version7_ids c ≡ false
ids_fail c bytes q other = go (version7_ids c) refl
  where
    go : (t : Bool) → version7_ids c ≡ t → t ≡ false
    go true e = absurd (other ((ids_exactly c bytes q).0 e))
    go false e = refl

-- `StepOfIds`
pub step_of_ids : StepOfIds
step_of_ids = record {
  refused = λ d rs c clock verdict window h bytes q known other.
      let all : List (Step ℕ) = steps_for (rows rs) (descriptor c) (length d) clock verdict window in
      let e : number_of (submitted d (encode c) clock verdict window) ≡ 1
      = number_descriptor d clock verdict window rs c h bytes q
      ∙ failed_by itself 1 all 0 (rw (le-leb verdict 2 known, ids_fail c bytes q other)) in
      (e, refusal_keeps d (encode c) clock verdict window (λ z. omega (arith, e, z)));
  passed = λ d rs c clock verdict window h bytes q ids e.
      let all : List (Step ℕ) = steps_for (rows rs) (descriptor c) (length d) clock verdict window in
      let k : in_order all 0 ≡ 1 = sym (number_descriptor d clock verdict window rs c h bytes q) ∙ e in
      omega (arith, k, (not_by itself 1 all 0 (rw ((ids_exactly c bytes q).1 ids)) k).1);
}
