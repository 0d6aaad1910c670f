-- `fresh` meets its contract.
use Rattle.std.proofs.Common.{sym, ◌∙◌, arith}
use Rattle.narrowing.proofs.CoverCode.{fresh_deep, fresh_last, fresh_other, fresh_more}
use Rattle.narrowing.proofs.range.fresh.Goals as goal

pub returns-then-is_deep : goal.returns-then-is_deep
returns-then-is_deep c = sym (c.loop-next.invariant.1 ∙ fresh_deep _ _ (sym c.is_deep.ensures ∙ c.if-is_deep.true))

pub returns-then-eq : goal.returns-then-eq
returns-then-eq c =
    sym (c.loop-next.invariant.1 ∙ fresh_last _ _ (sym (rw c.as_slice.ensures at c.eq.ensures) ∙ c.if-eq.true))

pub returns : goal.returns
returns c =
    sym (c.loop-next.invariant.1
    ∙ fresh_other _ _ (sym c.is_deep.ensures ∙ c.if-is_deep.false) c.in_default.ensures.cases (sym (rw c.as_slice.ensures at c.eq.ensures) ∙ c.if-eq.false))

pub loop-next-preserved : goal.loop-next-preserved
loop-next-preserved c =
    let x = c.in-Some.ensures.cases in
    (omega (arith, x.2), c.loop-next.invariant.1 ∙ fresh_more _ _ _ x.0 x.1)
