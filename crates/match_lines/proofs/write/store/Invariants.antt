-- `store` meets its contract. The invariant: the first i bytes of the text are written.
use mathlib.Core.Path.{◌≡◌}
use Rattle.octets.proofs.OverLaws.{written}
use Rattle.match_lines.proofs.write.store.Given as goal

abbrev pub invariant-loop-i : goal.invariant-loop-i
invariant-loop-i l = l.out ≡ written l.initial.out l.at l.text l.i
