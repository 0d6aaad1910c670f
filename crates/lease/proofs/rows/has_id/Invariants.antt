-- The rows from row i on have the id exactly when all do.
use Rattle.std.proofs.Common.{◌≡◌, ◌-◌}
use Rattle.lease_spec.specs.Table.{has_id, rows_from}
use Rattle.lease.proofs.rows.has_id.Given as goal

abbrev pub invariant-loop-i : goal.invariant-loop-i
invariant-loop-i l = has_id (rows_from l.table l.from (l.n - l.from)) l.id ≡ has_id (rows_from l.table l.i (l.n - l.i)) l.id
