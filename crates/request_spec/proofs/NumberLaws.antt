-- The numbers that a request is answered, by what the image holds under the id (specs/Promises.antt): the order of the steps. Assumes
-- nothing.
use Rattle.std.specs.Prelude.{None, Ok, Err}
use mathlib.Core.Path.{◌≡◌, refl, sym, ap, ap₂, ◌∙◌}
use mathlib.Core.Bool.{Bool, true, false, not, ◌&&◌, false≢true}
use mathlib.Core.List.{List, [], ◌∷◌, ◌++◌}
use Prim.Native.Nat.{ℕ, ◌+◌}
use native.Mathlib.Omega.{arith}
use lib.IntN.{ℤ}
use lib.Dec.{leb, ltb}
use Rattle.std.proofs.Common.{Option, None, Some}
use Rattle.octets.proofs.Tests.{and_left}
use Rattle.resource_spec.specs.Pattern.{Path}
use Rattle.resource_spec.specs.Text.{resource_ok, path_of}
use Rattle.descriptor_spec.specs.Model.{Grant, Descriptor}
use Rattle.descriptor_spec.specs.Allowed.{Allowed}
use Rattle.lease_spec.specs.declared.Lease.{Lease}
use Rattle.lease_spec.specs.Lease.{clock_ok, last_active, last_stale, is_future, margin_of}
use Rattle.lease_spec.specs.Promises.{active_end, stale_end}
use Rattle.steps.specs.Order.{Step, step, or_else, in_order}
use Rattle.steps.specs.Key.{is_verdict, is_that, key_open}
use Rattle.steps.specs.Laws.{mapped, passes_by}
use Rattle.steps.proofs.Laws.{order_mapped, passed_end, same_end, passed_by, not_by}
use Rattle.steps.proofs.Promises as order
use Rattle.image_spec.specs.Readable.{check_of}
use Rattle.image_spec.proofs.Laws.{editions_named}
use Rattle.request_spec.specs.Decision.{Decision}
use Rattle.request_spec.specs.declared.Refusal.TheVariants as answers
use Rattle.request_spec.specs.declared.DecisionNumbers.{DecisionNumbers}
use Rattle.request_spec.specs.Decision.{Matched}
use Rattle.request_spec.specs.Decision.{picked_at}
use Rattle.request_spec.specs.Request.{Request, arguments_ok, well_formed, lease_for}
use Rattle.request_spec.specs.Decision.{Facts, revocation_steps, descriptor_steps, key_steps, margin_for, lease_steps, later_steps, steps_by}
use Rattle.request_spec.specs.Decision.{granted_by, facts_in, decision_of, numbers_of}
use Rattle.request_spec.specs.Meaning.{pick_serving, facts_of_descriptor, decided_for}
use Rattle.request_spec.specs.Promises.{Stored, bad_image, not_held, held, Among, refusal, stale_with, formed, some_serves, steps_on}
use Rattle.request_spec.specs.Promises.{where_leased, margin_at, steps_for, granted_with}
use Rattle.request_spec.specs.Promises.{most_names, first_place, first_mask, is_picked}
use Rattle.request_spec.specs.Promises.{granted_for, answer_for, DecidedExactly, GrantedExactly, RefusedExactly, RefusalsZero}
use Rattle.request_spec.specs.Promises.{EditionsRefused}
use Rattle.request_spec.proofs.HeldLaws.{decided_by, decided_in_lem, missing_by, decided_on_none}
use Rattle.request_spec.proofs.MeaningLaws.{decided_on_descriptor}
use Rattle.request_spec.proofs.UnderLaws.{held_found, none_found, unsound}
use Rattle.request_spec.proofs.PickLaws.{best_picked, some_picked}

-- the answer's number
abbrev pub answer_of : DecisionNumbers → ℕ
answer_of n = n.answer

-- ---- the numbers by what is held

-- the numbers of a decision by the steps are those of the steps with their numbers
by_numbers : (q : Request) (sound there : Bool) (x : Facts) (m : Matched)
    → numbers_of (decided_by q sound there x m)
    ≡ in_order (mapped numbers_of (steps_by q sound there x m)) (numbers_of (granted_by q (lease_for q) x m))
by_numbers q sound there x m = order_mapped numbers_of (steps_by q sound there x m) (granted_by q (lease_for q) x m)

-- an image that a check calls unsound
unsound_numbers : (s : List ℕ) (q : Request) → check_of s q.id ≡ None → numbers_of (decision_of s q) ≡ answer_for q bad_image
unfolding in_order or_else steps_by later_steps arguments_ok well_formed clock_ok is_verdict resource_ok
unsound_numbers s q e = ap numbers_of (decided_in_lem s q None e) ∙ by_numbers q false false (facts_in s None) None

-- a sound image that does not hold the id
pub missing_numbers : (q : Request) → numbers_of (missing_by q) ≡ answer_for q not_held
unfolding in_order or_else steps_by later_steps arguments_ok well_formed clock_ok is_verdict resource_ok
missing_numbers q = by_numbers q true false (record { not_before = 0; not_after = 0; fay = []; terminal = [] }) None

-- the grant of a descriptor that is picked for a request
abbrev picked_for : Request → Descriptor → Matched
picked_for q d = pick_serving d.payload.grants q.mode (path_of q.resource) 0 None

-- the margin, in the code's form and as it is promised
margin_same : (lease : Option Lease) (n : ℕ) → (margin_for lease n).0 ≡ margin_at lease n
unfolding margin_of last_active
margin_same None n = refl
margin_same (Some l) n = refl

-- what is granted on a descriptor, where some grant of it serves
granted_numbers_lem : (q : Request) (d : Descriptor) → Allowed d → some_serves d.payload.grants q.mode (path_of q.resource) ≡ true
    → numbers_of (granted_by q (lease_for q) (facts_of_descriptor d) (picked_for q d)) ≡ granted_for q (held d)
unfolding granted_by
granted_numbers_lem q d a e =
    let gs : List Grant = d.payload.grants in
    let x : Path = path_of q.resource in
    let picked : Grant → Bool = is_picked gs q.mode x in
    let z : 0 + first_place picked gs ≡ first_place picked gs = omega arith in
    let given : ℕ → Matched = λ i. picked_at i (first_mask picked gs) (most_names gs q.mode x) in
    ap (λ (m : Matched). numbers_of (granted_by q (lease_for q) (facts_of_descriptor d) m))
    (best_picked gs q.mode x 0 a.formed.payload.grants e)
    ∙ ap (λ (i : ℕ). numbers_of (granted_by q (lease_for q) (facts_of_descriptor d) (given i))) z
    ∙ ap (λ (m : ℤ). granted_with m q (held d)) (margin_same (lease_for q) q.clock.0)

-- the steps on a descriptor that is held, by whether a grant is found, with the number that 24 has
abbrev steps_and : Request → Descriptor → Bool → ℤ → List (Step DecisionNumbers)
steps_and q d found margin =
    steps_on (formed q) q d found
    ++ (step (where_leased (lease_for q) (λ l. not l.revoked)) (refusal 26)
    ∷ step (where_leased (lease_for q) (λ l. not (ltb (q.clock.0 + l.skew.0) l.last_sync.0))) (refusal 23)
    ∷ step (where_leased (lease_for q) (λ l. not (ltb (active_end l) q.clock.0 && leb q.clock.0 (stale_end l)))) (stale_with margin)
    ∷ step (where_leased (lease_for q) (λ l. not (ltb (stale_end l) q.clock.0))) (refusal 25) ∷ [])

-- the steps on a descriptor that is held, with their numbers
held_steps : (q : Request) (d : Descriptor)
    → mapped numbers_of (steps_by q true true (facts_of_descriptor d) (picked_for q d)) ≡ steps_for q (held d)
unfolding steps_by later_steps revocation_steps descriptor_steps key_steps lease_steps arguments_ok well_formed clock_ok is_verdict is_that key_open
    resource_ok is_future last_active last_stale
held_steps q d =
    ap₂ (steps_and q d) (some_picked d.payload.grants q.mode (path_of q.resource) 0 None)
    (margin_same (lease_for q) q.clock.0)

-- a descriptor that is held
held_numbers : (q : Request) (d : Descriptor) → Allowed d → numbers_of (decided_for q d) ≡ answer_for q (held d)
unfolding decided_for
held_numbers q d a =
    let r : DecisionNumbers = numbers_of (granted_by q (lease_for q) (facts_of_descriptor d) (picked_for q d)) in
    by_numbers q true true (facts_of_descriptor d) (picked_for q d)
    ∙ ap (λ (steps : List (Step DecisionNumbers)). in_order steps r) (held_steps q d)
    ∙ same_end (steps_for q (held d)) r (granted_for q (held d))
    (λ p. granted_numbers_lem q d a (and_left _ true (passed_by answer_of 13 (steps_for q (held d)) p)))

-- `DecidedExactly`
pub decided_exactly : DecidedExactly
decided_exactly s q bad_image u = unsound_numbers s q (unsound s q.id u)
decided_exactly s q not_held u = ap numbers_of (decided_on_none s q u.0 u.1 (none_found s q.id u)) ∙ missing_numbers q
decided_exactly s q (held d) u =
    let a : Among u.0 q.id d = u.2 in
    ap numbers_of (decided_on_descriptor s q u.0 d u.1 a.bytes a.allowed (held_found s q.id d u))
    ∙ held_numbers q d a.allowed

-- ---- the order of the steps

-- no step has the number 0
never_zero : (q : Request) (x : Stored) → passes_by answer_of 0 (steps_for q x) ≡ true
never_zero q bad_image = refl
never_zero q not_held = refl
never_zero q (held d) = refl

-- what follows the steps has the number 0
pub granted_zero : (q : Request) (x : Stored) → (granted_for q x).answer ≡ 0
granted_zero q bad_image = refl
granted_zero q not_held = refl
granted_zero q (held d) = refl

-- `GrantedExactly`
pub granted_exactly : GrantedExactly
granted_exactly s q x u =
    let e = ap answer_of (decided_exactly s q x u) in (
      λ z. (not_by answer_of 0 (steps_for q x) (granted_for q x) (never_zero q x) (sym e ∙ z)).0,
      λ a. e ∙ ap answer_of (passed_end (steps_for q x) (granted_for q x) a) ∙ granted_zero q x,
    )

-- the numbers of a decision other than 0 are a refusal's
refused_zero : (x : Decision) → ((numbers_of x).answer ≡ 0 → ⊥) → ((numbers_of x).answer ≡ 24 → ⊥)
    → numbers_of x ≡ refusal (numbers_of x).answer
refused_zero (Ok g) n k = absurd (n refl)
refused_zero (Err answers.Malformed) n k = refl
refused_zero (Err answers.BadImage) n k = refl
refused_zero (Err answers.NotFound) n k = refl
refused_zero (Err answers.Revoked) n k = refl
refused_zero (Err answers.NotYetValid) n k = refl
refused_zero (Err answers.Expired) n k = refl
refused_zero (Err answers.SubjectMismatch) n k = refl
refused_zero (Err answers.TerminalMismatch) n k = refl
refused_zero (Err answers.Insufficient) n k = refl
refused_zero (Err answers.KeyInvalid) n k = refl
refused_zero (Err answers.BadSignature) n k = refl
refused_zero (Err answers.LeaseRevoked) n k = refl
refused_zero (Err answers.LeaseFuture) n k = refl
refused_zero (Err (answers.LeaseStale margin)) n k = absurd (k refl)
refused_zero (Err answers.LeaseExpired) n k = refl

-- `RefusalsZero`
pub refusals_zero : RefusalsZero
refusals_zero s q n k = refused_zero (decision_of s q) n k

-- `RefusedExactly`
pub refused_exactly : RefusedExactly
refused_exactly s q x r u other =
    let e = decided_exactly s q x u in
    let k = order.fail_exactly DecisionNumbers (steps_for q x) (granted_for q x) r (λ f. other (ap answer_of f ∙ granted_zero q x)) in
    (λ z. k.0 (sym e ∙ z), λ f. e ∙ k.1 f)

-- `EditionsRefused`
pub editions_refused : EditionsRefused
unfolding in_order or_else
editions_refused s q other =
    let e = unsound_numbers s q (editions_named s q.id other) in (
      λ z. false≢true (passed_by answer_of 16 (steps_for q bad_image)
          (not_by answer_of 0 (steps_for q bad_image) (refusal 0) (never_zero q bad_image) (sym (ap answer_of e) ∙ z)).0),
      λ f. e ∙ rw f,
    )
