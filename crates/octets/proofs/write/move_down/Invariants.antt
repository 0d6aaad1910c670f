-- `move_down` meets its contract. The invariant: the first i bytes are moved.
use mathlib.Core.Path.{◌≡◌}
use Rattle.octets.proofs.MoveLaws.{lowering}
use Rattle.octets.proofs.write.move_down.Given as goal

abbrev pub invariant-loop-i : goal.invariant-loop-i
invariant-loop-i l = l.d ≡ lowering l.initial.d l.from l.to l.n l.i
