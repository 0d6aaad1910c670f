-- The rows from row i on have different ids, of which none is below the least.
use Rattle.lease.proofs.IdCode.{Ascends}
use Rattle.lease.proofs.rows.ids_ascend.Given as goal

abbrev pub invariant-loop-i : goal.invariant-loop-i
invariant-loop-i l = Ascends l.table l.n l.i l.least
