-- `short_of` meets its contract.
use native.Mathlib.Omega.{arith}
use Rattle.image_spec.specs.Choose.{short_of}
use Rattle.removal.proofs.short_of.Goals as goal

pub returns : goal.returns
unfolding short_of
returns c = omega (arith, c.saturating_sub.ensures, c.requires.1)
