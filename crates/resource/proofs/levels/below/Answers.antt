-- `below` meets its contract.
use mathlib.Core.Path.{ap, ◌∙◌}
use mathlib.Core.List.{List}
use Prim.Native.Nat.{ℕ}
use borrow.Author.Tests.{le-leb, eq-eqb}
use Rattle.resource_spec.specs.Identifier.{levels_place}
use Rattle.resource_spec.specs.Level.{levels, levels_ok}
use Rattle.resource_spec.specs.Text.{longest_text}
use Rattle.octets.proofs.PartLaws.{part_to_end}
use Rattle.resource.specs.Code.{below_ok}
use Rattle.resource.proofs.levels.below.Goals as goal

pub returns-then-s-eq47 : goal.returns-then-s-eq47
unfolding below_ok
returns-then-s-eq47 c =
    let a = c.args in
    c.all.ensures
    ∙ rw (le-leb _ longest_text c.if-s-gt-LONGEST.false, le-leb levels_place _ c.if-s-lt-LEVELS_PLACE.false, eq-eqb _ 47 c.if-s-eq47.true)
    (ap (λ (r : List ℕ). levels_ok a.wild (levels r)) (part_to_end a.s.now levels_place))
