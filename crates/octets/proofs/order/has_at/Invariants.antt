-- `has_at` meets its contract. The invariant: the flag says whether the first i bytes are those of k.
use mathlib.Core.Path.{◌≡◌}
use lib.ListN.{take}
use Rattle.octets.specs.Bytes.{part, same}
use Rattle.octets.proofs.order.has_at.Given as goal

abbrev pub invariant-loop-i : goal.invariant-loop-i
invariant-loop-i l = l.ok ≡ same (part l.s l.at l.i) (take l.i l.k)
