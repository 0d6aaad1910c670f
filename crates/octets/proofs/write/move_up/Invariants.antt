-- `move_up` meets its contract. The invariant: the bytes from i up to `to` are moved.
use mathlib.Core.Path.{◌≡◌}
use Prim.Native.Nat.{◌≤◌}
use Rattle.octets.specs.Write.{moved}
use Rattle.octets.proofs.write.move_up.Given as goal

abbrev pub invariant-loop-i : goal.invariant-loop-i
invariant-loop-i l = (l.from ≤ l.i) × (l.d ≡ moved l.initial.d l.i l.to l.by)
