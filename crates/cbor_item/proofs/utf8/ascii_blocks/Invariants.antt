-- `ascii_blocks` meets its contract. The invariant: i is reached over bytes below 128 only. The measure: what is left.
use Prim.Native.Nat.{◌-◌}
use lib.ListN.{length}
use Rattle.cbor_item.specs.Code.{AsciiTo}
use Rattle.cbor_item.proofs.utf8.ascii_blocks.Given as goal

abbrev pub invariant-loop-i : goal.invariant-loop-i
invariant-loop-i l = AsciiTo l.s l.from l.i

abbrev pub decreases-loop-i : goal.decreases-loop-i
decreases-loop-i l = length l.s - l.i
