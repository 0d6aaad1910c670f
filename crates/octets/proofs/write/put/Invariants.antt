-- `put` meets its contract. The invariant: the first i bytes of s are written.
use mathlib.Core.Path.{◌≡◌}
use Rattle.octets.proofs.OverLaws.{written}
use Rattle.octets.proofs.write.put.Given as goal

abbrev pub invariant-loop-i : goal.invariant-loop-i
invariant-loop-i l = l.d ≡ written l.initial.d l.at l.s l.i
