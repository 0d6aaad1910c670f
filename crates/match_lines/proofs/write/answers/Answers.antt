-- `answers` meets its contract.
use mathlib.Core.Path.{◌∙◌}
use Rattle.match_lines.proofs.LineCode.{left_all, left_next, left_end, block_done}
use Rattle.match_lines.proofs.write.answers.Goals as goal

pub loop-long-init : goal.loop-long-init
loop-long-init c = left_all _ _ _

pub returns-then-stop-s : goal.returns-then-stop-s
returns-then-stop-s c =
    let a = c.args in
    let d = left_end _ _ _ _ _ _ _ c.loop-long.invariant _ c.until-stop.ensures.value c.if-stop-s.true in
    let both = block_done a.long a.s.now a.out.now c.end.result c.loop-long.out c.if-out-s.false (c.end.ensures ∙ d.0, d.1) in
    record { answer = both.0; output = both.1 }

pub loop-long-preserved : goal.loop-long-preserved
loop-long-preserved c =
    left_next _ _ _ _ _ _ _ c.loop-long.invariant _ c.until-stop.ensures.value c.if-stop-s.false c.if-out-s.false _ _ _
    c.verdict_if.ensures c.put-at.ensures.place c.put-at.ensures.holds
