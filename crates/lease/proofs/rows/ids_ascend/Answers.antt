-- `ids_ascend` meets its contract.
use Rattle.std.proofs.Common.{arith}
use Rattle.lease.proofs.IdCode.{ascends_begin, ascends_more}
use Rattle.lease.proofs.rows.ids_ascend.Goals as goal

pub loop-i-init : goal.loop-i-init
loop-i-init c = ascends_begin _ _ _

pub loop-i-preserved : goal.loop-i-preserved
loop-i-preserved c = rw c.id_number-id.ensures (ascends_more _ _ _ _ c.loop-i.invariant c.loop-i-test.true (omega arith))
