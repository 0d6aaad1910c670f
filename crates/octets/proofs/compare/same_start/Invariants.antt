-- `same_start` meets its contract. The invariant: the flag says whether the first i bytes are equal.
use mathlib.Core.Path.{◌≡◌}
use lib.ListN.{take}
use Rattle.octets.specs.Bytes.{same}
use Rattle.octets.proofs.compare.same_start.Given as goal

abbrev pub invariant-loop-i : goal.invariant-loop-i
invariant-loop-i l = l.ok ≡ same (take l.i l.a) (take l.i l.b)
