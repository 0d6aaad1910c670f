-- What is granted (specs/Promises.antt). Assumes nothing.
use mathlib.Core.Path.{◌≡◌, refl, sym, ◌∙◌, subst}
use mathlib.Core.Bool.{true, false≢true}
use mathlib.Core.List.{List, [], ◌∷◌}
use Prim.Native.Nat.{ℕ, ◌+◌, min}
use Rattle.octets.proofs.Tests.{and_left}
use Rattle.resource_spec.specs.Text.{path_of}
use Rattle.descriptor_spec.specs.Model.{Grant, Descriptor}
use Rattle.descriptor_spec.specs.Modes.{union_of}
use Rattle.steps.specs.Order.{AllPass}
use Rattle.steps.proofs.Laws.{passed_end, passed_by}
use Rattle.request_spec.specs.declared.DecisionNumbers.{DecisionNumbers}
use Rattle.request_spec.specs.Request.{Request, seconds_of}
use Rattle.request_spec.specs.Promises.{Stored, bad_image, not_held, held, Under, steps_for, granted_for, Picked, GrantedGives}
use Rattle.request_spec.proofs.ServingLaws.{picked}
use Rattle.request_spec.proofs.NumberLaws.{answer_of, decided_exactly, granted_exactly}
use Rattle.request_spec.proofs.UnderLaws.{all_stored}

-- what the numbers n grant to q, on a descriptor that is held
abbrev Given : List ℕ → Request → DecisionNumbers → Type 0
Given s q n = (d : Descriptor) × Under s q.id (held d)
    × ((g : Grant) × Picked d.payload.grants q.mode (path_of q.resource) n.grant g × (n.mask ≡ union_of (g ∷ [])))
    × (n.session_end ≡ min d.payload.not_after (seconds_of q + q.session.0))

-- where every step passes, what follows them is given
given : (s : List ℕ) (q : Request) (x : Stored) → Under s q.id x → AllPass (steps_for q x) → Given s q (granted_for q x)
given s q bad_image u a = absurd (false≢true (passed_by answer_of 16 (steps_for q bad_image) a))
given s q not_held u a = absurd (false≢true (passed_by answer_of 7 (steps_for q not_held) a))
given s q (held d) u a =
    let some = and_left _ true (passed_by answer_of 13 (steps_for q (held d)) a) in
    (d, u, picked d.payload.grants q.mode (path_of q.resource) some, refl)

-- `GrantedGives`
pub granted_gives : GrantedGives
granted_gives s q b z =
    let k = all_stored s q.id b in
    let a = (granted_exactly s q k.0 k.1).0 z in
    subst (Given s q) (sym (decided_exactly s q k.0 k.1 ∙ passed_end (steps_for q k.0) (granted_for q k.0) a))
    (given s q k.0 k.1 a)
