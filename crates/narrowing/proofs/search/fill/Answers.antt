-- `fill` meets its contract.
use Rattle.std.proofs.Common.{arith}
use Rattle.narrowing.proofs.TableLaws.{begun_first, begun_next, begun_stop, begun_done}
use Rattle.narrowing.proofs.search.fill.Goals as goal

pub loop-i-init : goal.loop-i-init
loop-i-init c = begun_first _ _ _ _ c.requires

pub returns-in_default-clause-filled : goal.returns-in_default-clause-filled
returns-in_default-clause-filled c = begun_stop _ _ _ _ _ _ c.loop-i.invariant (omega arith) c.in_default.ensures

pub loop-i-preserved : goal.loop-i-preserved
loop-i-preserved c = begun_next _ _ _ _ _ _ c.loop-i.invariant (omega arith) c.in-Some.ensures

pub returns-clause-filled : goal.returns-clause-filled
returns-clause-filled c = begun_done _ _ _ _ _ _ c.loop-i.invariant (omega arith)
