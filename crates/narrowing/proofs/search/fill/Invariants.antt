-- `fill` meets its contract.
use Rattle.narrowing.proofs.TableLaws.{Begun}
use Rattle.narrowing.proofs.search.fill.Given as goal

-- the rows so far are in place, and noting them and then the grants that are left is noting all
abbrev pub invariant-loop-i : goal.invariant-loop-i
invariant-loop-i l = Begun l.parent l.table l.i l.here l.count l.at
