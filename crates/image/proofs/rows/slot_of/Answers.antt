-- `slot_of` meets its contract.
use mathlib.Core.Path.{ap}
use Prim.Native.Nat.{ℕ, ◌%◌}
use Rattle.image.specs.Code.{slots, slot_at}
use Rattle.image.proofs.rows.slot_of.Goals as goal

pub returns : goal.returns
unfolding slot_at
returns c = ap (λ (n : ℕ). n % slots) c.number_at.ensures.value
