-- `number_at` meets its contract. The invariant: n is the number in the first k bytes, so below 256 ^ k.
use mathlib.Core.Path.{◌≡◌}
use Prim.Native.Nat.{◌^◌, ◌<◌}
use Rattle.octets.specs.Number.{number_at}
use Rattle.octets.proofs.numbers.number_at.Given as goal

abbrev pub invariant-loop-k : goal.invariant-loop-k
invariant-loop-k l = (l.n ≡ number_at l.s l.at l.k) × (l.n < 256 ^ l.k)
