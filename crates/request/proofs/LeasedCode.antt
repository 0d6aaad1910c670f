-- What is granted under a lease by its state is what its steps come to (specs/Code.antt). Assumes nothing.
use Rattle.std.proofs.Common.{◌≡◌, ℕ, ◌≤◌, Bool, true, false, not, cond, ◌&&◌, Option, None, Some, Err, Ok, refl, sym, ◌∙◌, arith, leb, ltb}
use Rattle.std.proofs.lemmas.Bool.Decides.{nat_tests}
use mathlib.Core.Bool.{false≢true}
use borrow.Author.Tests.{leb-true, le-leb}
use Rattle.time.specs.declared.Seconds.{Seconds}
use Rattle.time.specs.declared.Margin.{Margin}
use Rattle.lease_spec.specs.declared.Lease.{Lease}
use Rattle.lease_spec.specs.declared.LeaseState.{LeaseState}
use Rattle.lease_spec.specs.declared.LeaseState.TheVariants as states
use Rattle.lease_spec.specs.Lease.{clock_ok, last_active, last_stale, is_future, margin_of, state_within, state_of}
use Rattle.steps.specs.Order.{or_else, in_order}
use Rattle.request_spec.specs.declared.Granted.{Granted}
use Rattle.request_spec.specs.declared.Picked.{Picked}
use Rattle.request_spec.specs.declared.Refusal.TheVariants as answers
use Rattle.request_spec.specs.Decision.{Decision, margin_for, lease_steps}
use Rattle.request.specs.Code.{LeaseFits, margin_in, margin_by, granted_with}

-- the last stale millisecond is not before the last active one
ends_in_order : (l : Lease) → last_active l ≤ last_stale l
unfolding last_active last_stale
ends_in_order l = omega arith

-- a moment that is not up to another is after it
past : (b n : ℕ) → ltb b n ≡ not (leb n b)
past b n = grind (arith, nat_tests)

-- the state by its four tests: revoked, future, active, not expired
abbrev state_by : Bool → Bool → Bool → Bool → Margin → LeaseState
state_by r f a s m = cond r states.Revoked (cond f states.Future (cond a (states.Active m) (cond s (states.Stale m) states.Expired)))

module _ (p : Picked) (end : Seconds) where
  -- what is granted with a margin
  abbrev pub granted : Margin → Granted
  granted m = record { grant = p.grant; mask = p.mask; end = end; margin = m }

  -- the four steps by the same tests
  abbrev steps_decide : Bool → Bool → Bool → Bool → Margin → Decision
  steps_decide r f a s m =
      or_else (not r) (Err answers.LeaseRevoked)
      (or_else (not f) (Err answers.LeaseFuture)
      (or_else (not (not a && s)) (Err (answers.LeaseStale m)) (or_else (not (not s)) (Err answers.LeaseExpired) (Ok (granted m)))))

  -- both decide alike, where an active lease has not expired
  alike : (r f a s : Bool) (m : Margin) → (a ≡ true → s ≡ true)
      → granted_with p end (margin_in (Some (state_by r f a s m))) ≡ steps_decide r f a s m
  unfolding or_else
  alike true f a s m h = refl
  alike false true a s m h = refl
  alike false false true true m h = refl
  alike false false true false m h = absurd (false≢true (h refl))
  alike false false false true m h = refl
  alike false false false false m h = refl

  -- so what is granted under a lease within the limits, or without one, is what the steps come to
  pub lease_decides : (lease : Option Lease) (n : ℕ) → LeaseFits lease → clock_ok n ≡ true
      → granted_with p end (margin_by lease n) ≡ in_order (lease_steps lease n) (Ok (granted (margin_for lease n)))
  unfolding state_of state_within lease_steps in_order or_else
  lease_decides None n o c = refl
  lease_decides (Some l) n o c =
      let m = margin_of l n in
      rw (o, c) (alike l.revoked (is_future l n) (leb n (last_active l)) (leb n (last_stale l)) m
      (λ e. le-leb n (last_stale l) (omega (arith, leb-true n (last_active l) e, ends_in_order l)))
      ∙ sym (rw (past (last_active l) n, past (last_stale l) n)))
