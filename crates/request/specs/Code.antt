-- What the code's inner functions answer and need. A reader of the promises does not need this page.
use Rattle.std.specs.Prelude.{◌≡◌, Bool, true, cond, ◌&&◌, Option, None, Some, Result, Ok, Err, List, ℕ, ◌+◌, ◌≤◌, length, pos, eqb}
use Rattle.resource_spec.specs.Identifier.{fay_size, terminal_size}
use Rattle.descriptor_spec.specs.declared.Fields.{Fields}
use Rattle.descriptor_spec.specs.Reader.{has_mode, GrantSeen}
use Rattle.time.specs.declared.Margin.{Margin}
use Rattle.time.specs.declared.Seconds.{Seconds}
use Rattle.time.specs.Time.{whole_seconds, plus_at_most}
use Rattle.lease_spec.specs.declared.Lease.{Lease}
use Rattle.lease_spec.specs.declared.LeaseState.{LeaseState}
use Rattle.lease_spec.specs.declared.LeaseState.TheVariants as states
use Rattle.lease_spec.specs.Lease.{lease_ok, state_of}
use Rattle.steps.specs.Order.{in_order}
use Rattle.steps.specs.Laws.{mapped}
use Rattle.request.specs.declared.Asked.{Asked}
use Rattle.request.specs.declared.Environment.{Environment}
use Rattle.request_spec.specs.declared.Granted.{Granted}
use Rattle.request_spec.specs.declared.Refusal.{Refusal}
use Rattle.request_spec.specs.declared.Refusal.TheVariants as answers
use Rattle.request_spec.specs.declared.Picked.{Picked}
use Rattle.request_spec.specs.Request.{Request, request_of, well_formed, lease_for}
use Rattle.request_spec.specs.Decision.{Decision, Matched, picked_at, more_exact, descriptor_steps, key_steps, facts_of, serves, names_of, matched_on, decision_of}
use Rattle.request_spec.specs.After.{used_by}
use Rattle.image_spec.specs.Touch.{after_touch}
use Rattle.image_spec.specs.Readable.{check_of}

-- the arguments of a request, of what is asked and what the host says
abbrev pub asked_of : Asked → Environment → Request
asked_of a e =
    request_of a.id.now a.fay.now a.terminal.now a.resource.now a.mode e.clock e.session a.revoked.now a.leases.now e.verdict e.window

-- the identifiers that the steps look at lie in the body
pub record BodyFits (b : List ℕ) (f : Fields) : Type 0 where
  pub fay : f.fay + fay_size ≤ length b
  pub terminal : f.terminal + terminal_size ≤ length b

-- ---- the arguments

-- the lease that the table has under the id, where the arguments are well formed
unfoldable pub checked_of : Request → Result (Option Lease) Refusal
checked_of q = cond (well_formed q) (Ok (lease_for q)) (Err answers.Malformed)

-- a lease is within the limits
abbrev pub LeaseFits : Option Lease → Type 0
LeaseFits (Some l) = lease_ok l ≡ true
LeaseFits None = Unit {0}

-- ---- the search

-- a grant has the mode and no constraint pair
unfoldable pub eligible : ℕ → ℕ → ℕ → Bool
eligible mask pairs mode = has_mode mask mode && eqb pairs 0

-- the grant i of b, where it serves
unfoldable pub serving : List ℕ → List ℕ → ℕ → ℕ → GrantSeen → Matched
serving b r mode i g = cond (serves b r mode g) (picked_at i g.mask (names_of b r g)) None

-- what is picked of the grant that was picked before and one that is found after it
abbrev pub picked_of : Matched → Matched → Matched
picked_of best (Some p) = more_exact best p.grant p.mask p.names
picked_of best None = best

-- ---- the stages of the steps on a body

-- what the steps 9 to 13 answer: the grant that is picked where they pass, else the decision
pub data Stage : Type 0 where
  applies : Picked → Stage
  refused : Decision → Stage

-- the same, of what the code answers
abbrev pub stage_of : Result Picked Refusal → Stage
stage_of (Ok p) = applies p
stage_of (Err x) = refused (Err x)

-- what they answer where they pass
abbrev pub applies_with : Matched → Stage
applies_with (Some p) = applies p
applies_with None = refused (Err answers.Insufficient)

-- the steps 9 to 13 on a body of which f was read
unfoldable pub applicability_of : List ℕ → Fields → List ℕ → List ℕ → List ℕ → ℕ → ℕ → Stage
applicability_of b f fay terminal resource mode clock =
    let m = matched_on b f resource mode in
    in_order (mapped refused (descriptor_steps (facts_of b f) fay terminal clock m)) (applies_with m)

-- the margin of what is granted in the state of a lease, where every step before passes
abbrev pub margin_in : Option LeaseState → Result Margin Refusal
margin_in (Some states.Revoked) = Err answers.LeaseRevoked
margin_in (Some states.Future) = Err answers.LeaseFuture
margin_in (Some (states.Active m)) = Ok m
margin_in (Some (states.Stale m)) = Err (answers.LeaseStale m)
margin_in (Some states.Expired) = Err answers.LeaseExpired
margin_in None = Err answers.Malformed

-- the same of a lease at the clock n, and of none
abbrev pub margin_by : Option Lease → ℕ → Result Margin Refusal
margin_by (Some l) n = margin_in (state_of l n)
margin_by None n = Ok (record { 0 = pos 0 })

-- what is granted with the margin, up to the end
abbrev pub granted_with : Picked → Seconds → Result Margin Refusal → Decision
granted_with p end (Ok m) = Ok (record { grant = p.grant; mask = p.mask; end = end; margin = m })
granted_with p end (Err x) = Err x

-- the steps 14 and 4, where a grant serves, and those of the lease
unfoldable pub signed_by : Picked → Seconds → Option Lease → Environment → Decision
signed_by p not_after lease e =
    let clock = whole_seconds e.clock in
    in_order (key_steps e.verdict e.window clock.0)
    (granted_with p (plus_at_most clock e.session not_after) (margin_by lease e.clock.0))

-- ---- the image

-- what examining a request answers: the row and what is granted, and then what is written is that row's moment; or the refusal
abbrev pub ExaminedAs : List ℕ → Request → Result (ℕ × Granted) Refusal → Type 0
ExaminedAs s q (Ok x) = (Ok x.1 ≡ decision_of s q) × ((t : ℕ) → after_touch s x.0 t ≡ used_by s t (check_of s q.id))
ExaminedAs s q (Err r) = Err r ≡ decision_of s q
