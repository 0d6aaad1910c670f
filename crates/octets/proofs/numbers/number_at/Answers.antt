-- `number_at` meets its contract.
use mathlib.Core.Path.{refl}
use lib.Dec.{lit<}
use Rattle.octets.specs.Number.{number_at}
use Rattle.octets.proofs.numbers.number_at.Goals as goal

pub loop-k-init : goal.loop-k-init
unfolding number_at
loop-k-init c = (refl, lit< tt)
