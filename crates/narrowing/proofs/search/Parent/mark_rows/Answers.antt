-- `mark_rows` meets its contract.
use Rattle.std.proofs.Common.{rules, ◌≡◌, length, ◌∙◌, arith}
use Rattle.narrowing.proofs.MarkingLaws.{marking_begin, marking_met, marking_skip, marking_next, marking_covered, marking_end}
use Rattle.narrowing.proofs.search.Parent.mark_rows.Goals as goal
use Rattle.narrowing.proofs.search.Parent.mark_rows.Goals.{then-row-grant+else-done-grant, else-row-grant}

pub loop-i-init : goal.loop-i-init
loop-i-init c = marking_begin _ _ _ _ _ _ (search rules)

pub returns-then-done-grant : goal.returns-then-done-grant
returns-then-done-grant c =
    let e = c.mark_row-done.ensures in
    let n = marking_next _ _ _ _ _ _ _ _ _ c.loop-i.invariant _ _ e.marks e.modes in
    marking_covered _ _ _ _ _ _ _ _ _ n _ (omega (arith, c.loop-i-test.true)) c.if-done-grant.true

pub loop-i-preserved : goal.loop-i-preserved
loop-i-preserved c =
    elim c.if-row-grant.branch [
      | then-row-grant+else-done-grant w ↦
          let e = w.mark_row-done.ensures in
          marking_met _ _ _ _ _ _ _ _ _ (marking_next _ _ _ _ _ _ _ _ _ c.loop-i.invariant _ _ e.marks e.modes) _ _ w.d-is w.done-is
      | else-row-grant w ↦ marking_met _ _ _ _ _ _ _ _ _ (marking_skip _ _ _ _ _ _ _ _ _ c.loop-i.invariant w.if-row-grant.false) _ _ w.d-is w.done-is
    ]

pub returns : goal.returns
returns c =
    let e : c.loop-i.i ≡ length c.args.self.now.rows.now = omega arith in
    marking_end _ _ _ _ _ _ _ _ _ c.loop-i.invariant ∙ rw e
