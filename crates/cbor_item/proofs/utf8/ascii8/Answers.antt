-- `ascii8` meets its contract.
use mathlib.Core.Path.{refl}
use native.Mathlib.Numerals.{add-one}
use Rattle.cbor_item.specs.Code.{ascii_at}
use Rattle.cbor_item.proofs.utf8.ascii8.Goals as goal

pub loop-k-init : goal.loop-k-init
unfolding ascii_at
loop-k-init c = refl

pub loop-k-preserved : goal.loop-k-preserved
unfolding ascii_at
loop-k-preserved c = rw (add-one, c.loop-k.invariant)
