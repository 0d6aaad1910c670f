-- `compared` meets its contract.
use Rattle.std.proofs.Common.{◌∙◌}
use Rattle.narrowing.proofs.NarrowCode.{compared_first}
use Rattle.narrowing.proofs.compared.Goals as goal

pub returns : goal.returns
returns c =
    c.first.ensures _ _ c.fill-rows.ensures.filled
    ∙ compared_first _ _ _ _ c.if-v-ne0.false c.if-w-ne0.false c.if-lt.ensures c.if-lt-2.ensures c.eq-shared.ensures
