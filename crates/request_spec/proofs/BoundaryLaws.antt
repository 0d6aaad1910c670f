-- Both sides of not_before and not_after (specs/Promises.antt). Assumes nothing.
use mathlib.Core.Path.{◌≡◌, sym, ap, ◌∙◌}
use mathlib.Core.Bool.{Bool, true, false, ◌&&◌}
use mathlib.Core.List.{List}
use Prim.Native.Nat.{ℕ, ◌≤◌, ◌<◌}
use native.Mathlib.Omega.{arith}
use borrow.Author.Tests.{le-leb, lt-leb, lt-ltb, le-ltb}
use Rattle.descriptor_spec.specs.Model.{Descriptor}
use Rattle.request_spec.specs.Request.{Request, seconds_of, revoked_now}
use Rattle.request_spec.specs.Decision.{decision_of, numbers_of}
use Rattle.request_spec.specs.Promises.{held, Under, refusal, formed, steps_for, granted_for, BeginBoundary, EndBoundary}
use Rattle.request_spec.proofs.NumberLaws.{answer_of, decided_exactly, refusals_zero}
use Rattle.steps.specs.Laws.{passes_by, fails_by}
use Rattle.steps.proofs.Laws.{not_by, failed_by}

module _ (s : List ℕ) (q : Request) (d : Descriptor) (u : Under s q.id (held d)) where
  -- the answer is no number but 0 that only steps have which pass
  pub not_answered : (n : ℕ) → (0 ≡ n → ⊥) → passes_by answer_of n (steps_for q (held d)) ≡ true → (numbers_of (decision_of s q)).answer ≡ n → ⊥
  not_answered n other k z =
      let e = sym (ap answer_of (decided_exactly s q (held d) u)) ∙ z in
      other (sym (ap answer_of (not_by answer_of n (steps_for q (held d)) (granted_for q (held d)) k e).1) ∙ e)

  -- where now is not before not_before it is not 9, and where now is before not_after not 10
  inside_period : d.payload.not_before ≤ seconds_of q → seconds_of q < d.payload.not_after
      → ((numbers_of (decision_of s q)).answer ≡ 9 → ⊥) × ((numbers_of (decision_of s q)).answer ≡ 10 → ⊥)
  inside_period h k = (
    not_answered 9 (λ e. omega arith) (ap (λ (t : Bool). t && true) (le-leb d.payload.not_before (seconds_of q) h)),
    not_answered 10 (λ e. omega arith) (ap (λ (t : Bool). t && true) (lt-ltb (seconds_of q) d.payload.not_after k)),
  )

  -- where a step of the number n fails and those before it pass, the answer is n
  pub answered : (n : ℕ) → (n ≡ 0 → ⊥) → (n ≡ 24 → ⊥) → fails_by answer_of n (steps_for q (held d)) ≡ true
      → numbers_of (decision_of s q) ≡ refusal n
  answered n other margin e =
      let z : (numbers_of (decision_of s q)).answer ≡ n =
      ap answer_of (decided_exactly s q (held d) u) ∙ failed_by answer_of n (steps_for q (held d)) (granted_for q (held d)) e in
      refusals_zero s q (λ o. other (sym z ∙ o)) (λ o. margin (sym z ∙ o)) ∙ ap refusal z

  module _ (w : formed q ≡ true) (l : revoked_now q ≡ false) where
    -- before not_before the answer is 9, where the steps before pass
    too_early : seconds_of q < d.payload.not_before → numbers_of (decision_of s q) ≡ refusal 9
    too_early h = answered 9 (λ e. omega arith) (λ e. omega arith) (rw (w, l, lt-leb d.payload.not_before (seconds_of q) h))

    -- from not_after on it is 10
    too_late : d.payload.not_after ≤ seconds_of q → numbers_of (decision_of s q) ≡ refusal 10
    too_late h =
        let b : d.payload.not_before < d.payload.not_after = u.2.allowed.formed.payload.lasts in
        answered 10 (λ e. omega arith) (λ e. omega arith)
        (rw (w, l, le-leb d.payload.not_before (seconds_of q) (omega arith), le-ltb (seconds_of q) d.payload.not_after h))

-- `BeginBoundary`
pub begin_boundary : BeginBoundary
begin_boundary s q d u =
    let b : d.payload.not_before < d.payload.not_after = u.2.allowed.formed.payload.lasts in (
      λ e. inside_period s q d u (omega arith) (omega arith),
      λ e w l. too_early s q d u w l (omega arith),
    )

-- `EndBoundary`
pub end_boundary : EndBoundary
end_boundary s q d u =
    let b : d.payload.not_before < d.payload.not_after = u.2.allowed.formed.payload.lasts in (
      λ e. inside_period s q d u (omega arith) (omega arith),
      λ e w l. too_late s q d u w l (omega arith),
    )
