-- `mark_all` meets its contract.
use mathlib.Core.Path.{refl, sym, ◌∙◌}
use native.Mathlib.Omega.{arith}
use lib.ListN.{length, length-set}
use Rattle.removal.proofs.ChooseCode.{marks_begin, marks_next, marks_end}
use Rattle.removal.proofs.choose.mark_all.Goals as goal

pub loop-i-init : goal.loop-i-init
loop-i-init c = (refl, marks_begin _ _ _ _)

pub loop-i-preserved : goal.loop-i-preserved
loop-i-preserved c =
    let l = c.loop-i in
    let a = c.args in (
      simp length-set l.invariant.0,
      l.invariant.1 ∙ marks_next a.layout a.d.now a.clock.0 l.marks (length a.marks.now) l.i _ (omega arith) (omega arith)
          c.mark_at.ensures,
    )

pub returns : goal.returns
returns c =
    let l = c.loop-i in
    let a = c.args in
    sym (l.invariant.1 ∙ marks_end a.layout a.d.now a.clock.0 l.marks (length a.marks.now) l.i (omega arith) (omega arith))
