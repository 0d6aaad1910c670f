-- `is_revoked` meets its contract. The rows from row i on revoke the id exactly when all do.
use mathlib.Core.Path.{◌≡◌}
use lib.ListN.{drop}
use Rattle.revocation_spec.specs.Revocation.{is_revoked, revocations_of}
use Rattle.revocation.proofs.is_revoked.Given as goal

abbrev pub invariant-loop-i : goal.invariant-loop-i
invariant-loop-i l = is_revoked (revocations_of l.list) l.id l.clock.0 ≡ is_revoked (drop l.i (revocations_of l.list)) l.id l.clock.0
