-- `least` meets its contract.
use mathlib.Core.Path.{sym, ◌∙◌}
use native.Mathlib.Omega.{arith}
use Rattle.removal.proofs.ChooseCode.{least_next, least_end}
use Rattle.removal.proofs.choose.least.Goals as goal

pub loop-i-preserved : goal.loop-i-preserved
loop-i-preserved c =
    let l = c.loop-i in
    l.invariant ∙ least_next _ c.args.marks.now l.i _ _ (omega arith) c.lesser-best.ensures

pub returns : goal.returns
returns c =
    let l = c.loop-i in
    sym (l.invariant ∙ least_end _ c.args.marks.now l.i _ (omega arith))
