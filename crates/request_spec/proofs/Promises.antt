-- The promises of specs/Promises.antt, each from its law. Assumes nothing.
use mathlib.Core.Path.{refl}
use Rattle.request_spec.specs.Promises.{ArgumentsInOrder, AllStored, DecidedExactly, GrantedExactly, RefusedExactly}
use Rattle.request_spec.specs.Promises.{RefusalsZero, EditionsRefused, GrantedGives, BeginBoundary, EndBoundary, StoredDecided}
use Rattle.request_spec.specs.Promises.{OthersDecided, HeldDecided, RevokedRefused, RowMoreRefuses, EarlyRowWaits, StaysRevoked, PickedOnce}
use Rattle.request_spec.specs.Promises.{AnsweredAsBefore, WithoutLease, GrantMargin, StaleMargin, OtherLeases, OlderSyncRefused}
use Rattle.request_spec.specs.Promises.{TouchedExactly, RefusalKeeps, Grant1Keeps, Grant2Touches, GrantChanges8}
use Rattle.request_spec.specs.Promises.{MomentsDecideNothing, UpgradeDecides}
use Rattle.request_spec.proofs.UnderLaws as under
use Rattle.request_spec.proofs.NumberLaws as numbers
use Rattle.request_spec.proofs.ServingLaws as serving
use Rattle.request_spec.proofs.GivenLaws as given
use Rattle.request_spec.proofs.BeforeLaws as before
use Rattle.request_spec.proofs.RevocationLaws as revocation
use Rattle.request_spec.proofs.LeaseLaws as lease
use Rattle.request_spec.proofs.OlderLaws as older
use Rattle.request_spec.proofs.BoundaryLaws as boundary
use Rattle.request_spec.proofs.StoredLaws as stored
use Rattle.request_spec.proofs.AfterLaws as after

-- ---- the arguments

pub arguments_in_order : ArgumentsInOrder
arguments_in_order id fay terminal resource mode clock session revoked leases verdict window = refl

-- ---- what an image holds under an id

pub all_stored : AllStored
all_stored = under.all_stored

-- ---- the order of the steps

pub decided_exactly : DecidedExactly
decided_exactly = numbers.decided_exactly

pub granted_exactly : GrantedExactly
granted_exactly = numbers.granted_exactly

pub refused_exactly : RefusedExactly
refused_exactly = numbers.refused_exactly

pub refusals_zero : RefusalsZero
refusals_zero = numbers.refusals_zero

pub editions_refused : EditionsRefused
editions_refused = numbers.editions_refused

-- ---- what is granted

pub picked_once : PickedOnce
picked_once = serving.picked_one_place

pub granted_gives : GrantedGives
granted_gives = given.granted_gives

-- ---- the image after a request

pub touched_exactly : TouchedExactly
touched_exactly = after.touched_exactly

pub refusal_keeps : RefusalKeeps
refusal_keeps = after.refusal_keeps

pub grant1_keeps : Grant1Keeps
grant1_keeps = after.grant1_keeps

pub grant2_touches : Grant2Touches
grant2_touches = after.grant2_touches

pub grant_changes8 : GrantChanges8
grant_changes8 = after.grant_changes8

pub moments_decide_nothing : MomentsDecideNothing
moments_decide_nothing = after.moments_decide_nothing

-- ---- an image turned into edition 2

pub upgrade_decides : UpgradeDecides
upgrade_decides = after.upgrade_decides

-- ---- document 01's rule, which document 02 amends

pub answered_as_before : AnsweredAsBefore
answered_as_before = before.answered_as_before

-- ---- the revocation list

pub revoked_refused : RevokedRefused
revoked_refused = revocation.revoked_refused

pub row_more_refuses : RowMoreRefuses
row_more_refuses = revocation.row_more_refuses

pub early_row_waits : EarlyRowWaits
early_row_waits = revocation.early_row_waits

pub stays_revoked : StaysRevoked
stays_revoked = revocation.stays_revoked

-- ---- leases

pub without_lease : WithoutLease
without_lease = lease.without_lease

pub grant_margin : GrantMargin
grant_margin = lease.grant_margin

pub stale_margin : StaleMargin
stale_margin = lease.stale_margin

pub other_leases : OtherLeases
other_leases = lease.other_leases

pub older_sync_refused : OlderSyncRefused
older_sync_refused = older.older_sync_refused

-- ---- both sides of not_before and not_after

pub begin_boundary : BeginBoundary
begin_boundary = boundary.begin_boundary

pub end_boundary : EndBoundary
end_boundary = boundary.end_boundary

-- ---- with submission

pub stored_decided : StoredDecided
stored_decided = stored.stored_decided

pub others_decided : OthersDecided
others_decided = stored.others_decided

pub held_decided : HeldDecided
held_decided = stored.held_decided
