-- The rows from row i on have different ids, and the slot of each is marked.
use Rattle.lease.proofs.IdCode.{Marked}
use Rattle.lease.proofs.rows.ids_differ.Given as goal

abbrev pub invariant-loop-i : goal.invariant-loop-i
invariant-loop-i l = Marked l.table l.n l.i l.seen
