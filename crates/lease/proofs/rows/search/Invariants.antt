-- The rows from row i on may stand, and have the lease that was found under the id.
use Rattle.std.proofs.Common.{◌≡◌, true, ◌-◌}
use Rattle.lease_spec.specs.Table.{lease_under, rows_from, rows_ok}
use Rattle.lease.proofs.rows.search.Given as goal

abbrev pub invariant-loop-i : goal.invariant-loop-i
invariant-loop-i l = record {
  good : rows_ok l.table l.i (l.n - l.i) ≡ true;
  has : l.found ≡ lease_under (rows_from l.table l.i (l.n - l.i)) l.id;
}
