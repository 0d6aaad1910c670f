-- `put_number` meets its contract. The invariant: the last w - k bytes of n are written, and `left` is what its first k bytes hold.
use mathlib.Core.Path.{◌≡◌}
use Rattle.octets.proofs.NumberLaws.{low_bytes, Remains}
use Rattle.octets.proofs.numbers.put_number.Given as goal

abbrev pub invariant-loop-k : goal.invariant-loop-k
invariant-loop-k l = (l.d ≡ low_bytes l.initial.d l.at l.w l.n l.k) × Remains l.w l.n l.k l.left
