-- `grants_at` meets its contract. The invariant: the terminal id of the first grant stands in the bytes, the pairs are few, and the grants
-- that are left decide.
use mathlib.Core.Path.{◌≡◌}
use mathlib.Core.Bool.{true}
use Prim.Native.Nat.{◌+◌, ◌-◌, ◌*◌, ◌≤◌}
use lib.ListN.{length}
use Rattle.octets.specs.Bytes.{part}
use Rattle.resource_spec.specs.Identifier.{is_terminal, terminal_size}
use Rattle.descriptor.specs.Code.{sum_of}
use Rattle.descriptor_spec.specs.Reader.{grants_at}
use Rattle.descriptor.proofs.GrantCode.{grants_from}
use Rattle.descriptor.proofs.grants.grants_at.Given as goal

abbrev pub invariant-loop : goal.invariant-loop
invariant-loop l = record {
  inside : l.first + terminal_size ≤ length l.s;
  terminal : is_terminal (part l.s l.first terminal_size) ≡ true;
  few : l.sum.pairs ≤ l.counter * 8;
  most : l.count ≤ 256;
  left : grants_from l.s l.count l.start l.first (l.count - l.counter) (sum_of l.sum) l.here ≡ grants_at l.s l.at;
}
