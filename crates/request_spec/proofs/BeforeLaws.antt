-- A request is answered the number that it was answered under document 01's rule (specs/Promises.antt). Assumes nothing.
use mathlib.Core.Path.{◌≡◌, refl, sym, ap, ◌∙◌}
use mathlib.Core.Bool.{Bool, true, false, cond, ◌||◌}
use mathlib.Core.List.{List, [], ◌∷◌, ◌++◌}
use Prim.Native.Nat.{ℕ, ◌+◌}
use Rattle.std.proofs.Common.{Some}
use Rattle.resource_spec.specs.Pattern.{Path}
use Rattle.resource_spec.specs.Text.{path_of}
use Rattle.descriptor_spec.specs.Model.{Grant}
use Rattle.steps.specs.Order.{in_order}
use Rattle.steps.proofs.Laws.{order_mapped}
use Rattle.request_spec.specs.Promises.{bad_image, not_held, held, refusal, formed, grant_serves, some_serves, steps_on, lease_for}
use Rattle.request_spec.specs.Promises.{lease_steps, steps_for, granted_for}
use Rattle.request_spec.specs.Promises.{first_serving, is_there, AnsweredAsBefore}
use Rattle.request_spec.proofs.NumberLaws.{answer_of, decided_exactly}

-- there is a first grant that serves exactly where some grant serves
there_serves : (gs : List Grant) (m : ℕ) (x : Path) (i : ℕ) → is_there (first_serving gs m x i) ≡ some_serves gs m x
there_serves [] m x i = refl
there_serves (g ∷ gs) m x i = go (grant_serves g m x) (there_serves gs m x (i + 1))
  where
    go : (b : Bool) → is_there (first_serving gs m x (i + 1)) ≡ some_serves gs m x
        → is_there (cond b (Some i) (first_serving gs m x (i + 1))) ≡ (b || some_serves gs m x)
    go true k = refl
    go false k = k

-- `AnsweredAsBefore`
pub answered_as_before : AnsweredAsBefore
answered_as_before s q bad_image u = ap answer_of (decided_exactly s q bad_image u)
answered_as_before s q not_held u = ap answer_of (decided_exactly s q not_held u)
answered_as_before s q (held d) u =
    ap answer_of (decided_exactly s q (held d) u)
    ∙ order_mapped answer_of (steps_for q (held d)) (granted_for q (held d))
    ∙ sym (order_mapped answer_of (steps_for q (held d)) (refusal 0))
    ∙ ap (λ (found : Bool). answer_of (in_order (steps_on (formed q) q d found ++ lease_steps (lease_for q) q.clock.0) (refusal 0)))
    (sym (there_serves d.payload.grants q.mode (path_of q.resource) 0))
