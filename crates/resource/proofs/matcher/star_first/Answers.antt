-- `star_first` meets its contract.
use mathlib.Core.Path.{sym, ◌∙◌}
use Rattle.resource.proofs.FirstLevelLaws.{star_whole, star_other}
use Rattle.resource.proofs.matcher.star_first.Goals as goal

pub returns-then-eq : goal.returns-then-eq
returns-then-eq c = c.if-eq.true ∙ star_whole _ (sym (rw c.as_slice.ensures at c.eq.ensures) ∙ c.if-eq.true)

pub returns-else-eq : goal.returns-else-eq
returns-else-eq c =
    c.starts_with.ensures.value ∙ star_other _ (sym (rw c.as_slice.ensures at c.eq.ensures) ∙ c.if-eq.false)
