-- `first` meets its contract.
use Rattle.std.proofs.Common.{◌∙◌}
use Rattle.narrowing.proofs.NarrowCode.{first_hit, first_next, first_none, first_done}
use Rattle.narrowing.proofs.search.Parent.first.Goals as goal

pub returns-in_default : goal.returns-in_default
returns-in_default c = λ count at f. first_none _ _ _ _ _ _ _ _ c.loop-i-test.true c.in_default.ensures ∙ c.loop-i.invariant count at f

pub returns-in-Some-escape_by : goal.returns-in-Some-escape_by
returns-in-Some-escape_by c =
    λ count at f. first_hit _ _ _ _ _ _ _ _ c.loop-i-test.true c.in-Some.ensures (c.in-Some-escape_by.ensures count at f)
    ∙ c.loop-i.invariant count at f

pub loop-i-preserved : goal.loop-i-preserved
loop-i-preserved c =
    λ count at f. first_next _ _ _ _ _ _ _ _ c.loop-i-test.true c.in-Some.ensures (c.in_default-escape_by.ensures count at f)
    ∙ c.loop-i.invariant count at f

pub returns : goal.returns
returns c = λ count at f. first_done _ _ _ _ _ _ _ _ c.loop-i-test.false ∙ c.loop-i.invariant count at f
