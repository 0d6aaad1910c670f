-- `until` meets its contract. The invariant: the first b from `from` on is the first from i on.
use mathlib.Core.Path.{◌≡◌}
use Prim.Native.Nat.{◌+◌}
use lib.ListN.{drop}
use Rattle.octets.specs.Scan.{bytes_before}
use Rattle.octets.proofs.scan.until.Given as goal

abbrev pub invariant-loop-i : goal.invariant-loop-i
invariant-loop-i l = l.from + bytes_before l.b (drop l.from l.s) ≡ l.i + bytes_before l.b (drop l.i l.s)
