-- `ascii8` meets its contract. The invariant: the tests so far are those of `ascii_at`.
use mathlib.Core.Path.{◌≡◌}
use Rattle.cbor_item.specs.Code.{ascii_at}
use Rattle.cbor_item.proofs.utf8.ascii8.Given as goal

abbrev pub invariant-loop-k : goal.invariant-loop-k
invariant-loop-k l = l.ok ≡ ascii_at l.s l.i l.k
