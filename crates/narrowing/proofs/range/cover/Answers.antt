-- `cover` meets its contract. The invariant: what is left of both decides as the whole, and is no longer. The measure: the length of
-- what is left of q.
use mathlib.Core.Path.{sym, ◌∙◌}
use native.Mathlib.Omega.{arith}
use Rattle.octets.proofs.PartLaws.{part_shorter}
use Rattle.narrowing.proofs.CoverCode.{step_says, next_same, deep_matches, fresh_says}
use Rattle.narrowing.proofs.range.cover.Goals as goal

pub returns-then-is_deep : goal.returns-then-is_deep
returns-then-is_deep c = sym (c.loop-rest_q.invariant.2 ∙ deep_matches _ _ (sym c.if-is_deep.ensures))

pub returns-then-is_deep-2 : goal.returns-then-is_deep-2
returns-then-is_deep-2 c =
    c.fresh.ensures ∙ sym (c.loop-rest_q.invariant.2 ∙ fresh_says _ _ (sym c.if-is_deep.ensures) (sym c.if-is_deep-2.ensures))

pub returns-in-None : goal.returns-in-None
returns-in-None c = sym (c.loop-rest_q.invariant.2 ∙ step_says _ _ c.if-is_deep.ensures c.if-is_deep-2.ensures c.in-None.ensures)

pub returns-in-Some-Finish : goal.returns-in-Some-Finish
returns-in-Some-Finish c = sym (c.loop-rest_q.invariant.2 ∙ step_says _ _ c.if-is_deep.ensures c.if-is_deep-2.ensures (rw c.in-Some-Finish.field-0-is at c.in-Some-Finish.ensures))

pub loop-rest_q-preserved : goal.loop-rest_q-preserved
loop-rest_q-preserved c =
    let l = c.loop-rest_q in
    let g = step_says _ _ c.if-is_deep.ensures c.if-is_deep-2.ensures (rw c.in-Some-Next.field-0-is at c.in-Some-Next.ensures) in (
      omega (arith, part_shorter l.rest_q.now c.in-Some-Next.i g.in_q, l.invariant.0),
      omega (arith, part_shorter l.rest_p.now c.in-Some-Next.j g.in_p, l.invariant.1),
      l.invariant.2 ∙ next_same _ _ _ _ g,
    )
