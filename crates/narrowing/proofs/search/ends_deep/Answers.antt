-- `ends_deep` meets its contract.
use Rattle.std.proofs.Common.{◌∙◌}
use Rattle.narrowing.proofs.DeepCode.{deep_alone, last_three}
use Rattle.narrowing.proofs.search.ends_deep.Goals as goal

pub returns-then-is_deep : goal.returns-then-is_deep
returns-then-is_deep c = c.if-is_deep.true ∙ deep_alone _ c.if-is_deep.ensures

pub returns-else-is_deep : goal.returns-else-is_deep
returns-else-is_deep c = c.ends_with.ensures.value ∙ last_three _ c.if-is_deep.ensures
