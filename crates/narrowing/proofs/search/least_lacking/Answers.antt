-- `least_lacking` meets its contract.
use Rattle.std.proofs.Common.{◌∙◌, ap, sym, not}
use Rattle.narrowing.proofs.SearchCode.{least_miss}
use Rattle.narrowing.proofs.search.least_lacking.Goals as goal

pub loop-k-preserved : goal.loop-k-preserved
loop-k-preserved c = c.loop-k.invariant ∙ least_miss _ _ _ c.loop-k-test.true (ap not (sym c.if-not-has_mode.ensures))
