-- `mark` meets its contract.
use Rattle.std.proofs.Common.{sym, ◌∙◌, min, length, ◌≤◌, get_or, bit_or, arith, length-set}
use Rattle.narrowing.proofs.MarkLaws.{marked_over, marked_next}
use Rattle.narrowing.proofs.range.mark.Goals as goal

pub loop-k-preserved : goal.loop-k-preserved
loop-k-preserved c =
    let l = c.loop-k in (
      length-set l.d l.k (bit_or (get_or l.d l.k 0) c.args.mask) ∙ l.invariant.0,
      l.invariant.1 ∙ marked_next _ _ _ _ (omega (arith, c.min-k-end.ensures)) (omega (arith, c.min-k-end.ensures)),
    )

pub returns : goal.returns
returns c =
    let h : min c.args.r.end (length c.loop-k.d) ≤ c.loop-k.k = rw (c.loop-k.invariant.0, ← c.min-k-end.ensures) c.loop-k-test.false in
    sym (c.loop-k.invariant.1 ∙ marked_over _ _ _ _ h)
