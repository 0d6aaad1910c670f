-- What the arguments' check answers says of the arguments (specs/Request.antt of `request_spec`). Assumes nothing.
use Rattle.std.proofs.Common.{◌≡◌, ◌≤◌, Bool, true, false, Option, None, Some, Ok, Err, refl, sym, ap, ◌∙◌}
use Rattle.octets.proofs.Tests.{and_left, and_right}
use Rattle.resource_spec.specs.Text.{resource_ok}
use Rattle.descriptor_spec.specs.Modes.{highest_mode}
use Rattle.lease_spec.specs.declared.Lease.{Lease}
use Rattle.lease_spec.specs.Lease.{clock_ok}
use Rattle.lease_spec.specs.Table.{table_ok, find_in}
use Rattle.lease_spec.proofs.Laws.{found_within}
use Rattle.request_spec.specs.declared.Refusal.{Refusal}
use Rattle.request_spec.specs.declared.Refusal.TheVariants as answers
use Rattle.request_spec.specs.Request.{Request, arguments_ok, well_formed, lease_for}
use Rattle.request_spec.proofs.Laws.{formed_arguments}
use Rattle.request.specs.Code.{checked_of, LeaseFits}

-- the arguments are well formed, and the lease is the one of the id
pub record Formed (q : Request) (lease : Option Lease) : Type 0 where
  pub well : well_formed q ≡ true
  pub found : lease ≡ lease_for q
  pub mode : q.mode ≤ highest_mode
  pub resource : resource_ok q.resource ≡ true
  pub fits : LeaseFits lease
  pub clock : clock_ok q.clock.0 ≡ true

module _ (q : Request) where
  module _ (w : well_formed q ≡ true) where
    -- the clock of well-formed arguments is within its limit
    clock_within : clock_ok q.clock.0 ≡ true
    unfolding well_formed
    clock_within = and_left (clock_ok q.clock.0) (table_ok q.leases) (and_right (arguments_ok q) _ w)

    -- their table has a lease under the id, or none
    found_is : find_in q.leases q.id ≡ Ok (lease_for q)
    unfolding find_in well_formed
    found_is = rw (and_right (clock_ok q.clock.0) (table_ok q.leases) (and_right (arguments_ok q) _ w))

    -- a lease that it has is within the limits
    lease_within : (lease : Option Lease) → lease ≡ lease_for q → LeaseFits lease
    lease_within None e = tt
    lease_within (Some l) e = found_within q.leases q.id l (found_is ∙ ap Ok (sym e))

    -- what is known of them
    formed_with : {lease : Option Lease} → lease ≡ lease_for q → Formed q lease
    formed_with {lease} e =
        let a = formed_arguments q w in
        record { well = w; found = e; mode = a.0; resource = a.1; fits = lease_within lease e; clock = clock_within }

  -- where the check finds a lease or none they are well formed
  pub formed : {lease : Option Lease} → Ok lease ≡ checked_of q → Formed q lease
  unfolding checked_of
  formed {lease} e = go (well_formed q) refl
    where
      go : (t : Bool) → well_formed q ≡ t → Formed q lease
      go true w = let k : Ok lease ≡ Ok (lease_for q) = e ∙ rw w in formed_with w (cc)
      go false w = let k : Ok lease ≡ Err answers.Malformed = e ∙ rw w in absurd (cc)

  -- where it refuses they are not
  pub not_formed : {x : Refusal} → Err x ≡ checked_of q → (well_formed q ≡ false) × (x ≡ answers.Malformed)
  unfolding checked_of
  not_formed {x} e = go (well_formed q) refl
    where
      go : (t : Bool) → well_formed q ≡ t → (well_formed q ≡ false) × (x ≡ answers.Malformed)
      go true w = let k : Err x ≡ Ok (lease_for q) = e ∙ rw w in absurd (cc)
      go false w = let k : Err x ≡ Err answers.Malformed = e ∙ rw w in (w, cc)
