-- `mark_rows` meets its contract.
use Rattle.narrowing.proofs.MarkingLaws.{Noting}
use Rattle.narrowing.proofs.search.Parent.mark_rows.Given as goal

-- the rows so far are marked, but for those that add no mode
abbrev pub invariant-loop-i : goal.invariant-loop-i
invariant-loop-i l = Noting l.self.bytes.now l.self.rows.now l.grant.text.now l.initial.d l.grant.mask l.grant.deep l.d l.done l.i
