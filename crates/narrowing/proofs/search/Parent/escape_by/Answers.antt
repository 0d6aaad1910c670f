-- `escape_by` meets its contract.
use Rattle.std.proofs.Common.{◌∙◌}
use Rattle.narrowing.proofs.AloneLaws.{covers_nothing}
use Rattle.narrowing.proofs.TableLaws.{escape_nothing, met_shared, met_other, escape_found}
use Rattle.narrowing.proofs.search.Parent.escape_by.Goals as goal
use Rattle.narrowing.proofs.search.Parent.escape_by.Goals.{then-self-2+in_default-mark_rows, else-self-2}

pub returns-in-Some : goal.returns-in-Some
returns-in-Some c = covers_nothing _ _ _ _ _ _ _ c.if-self.true c.args.grant.now.ends c.in-Some.ensures.0 c.in-Some.ensures.1

pub returns-in-Some-mark_rows : goal.returns-in-Some-mark_rows
returns-in-Some-mark_rows c = escape_nothing _ _ _ _ _ _ c.if-self-2.true c.args.grant.now.ends c.in-Some-mark_rows.ensures

pub returns : goal.returns
returns c =
    λ count at f. c.lowest.ensures ∙ escape_found _ _ _ _ _ _ _
    (elim c.if-self-2.branch [
      | then-self-2+in_default-mark_rows w ↦ met_shared _ _ _ _ _ _ _ _ w.d-is w.if-self-2.true w.in_default-mark_rows.ensures
      | else-self-2 w ↦ met_other _ _ _ _ _ _ _ w.d-is w.if-self-2.false
    ])
    c.args.grant.now.ends count at f
