-- `modes_at` meets its contract. The invariant: the mask is small, and the modes that are left decide.
use mathlib.Core.Path.{◌≡◌}
use Prim.Native.Nat.{◌-◌, ◌<◌}
use Rattle.exact.specs.Reads.{many}
use Rattle.descriptor_spec.specs.Reader.{mode_at}
use Rattle.descriptor.proofs.modes.modes_at.Given as goal

abbrev pub invariant-loop : goal.invariant-loop
invariant-loop l = record {
  small : l.mask < 16;
  left : many (mode_at l.s) (l.count - l.counter) l.mask l.here ≡ many (mode_at l.s) l.count 0 l.next;
}
