-- `ascii_end` meets its contract. The invariant: the run from i on ends where the run from `from` on ends.
use mathlib.Core.Path.{◌≡◌}
use Prim.Native.Nat.{◌+◌}
use lib.ListN.{drop}
use Rattle.cbor_item.specs.Code.{ascii_run}
use Rattle.cbor_item.proofs.utf8.ascii_end.Given as goal

abbrev pub invariant-loop-i : goal.invariant-loop-i
invariant-loop-i l = l.from + ascii_run (drop l.from l.s) ≡ l.i + ascii_run (drop l.i l.s)
