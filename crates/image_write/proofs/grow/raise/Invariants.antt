-- `raise` meets its contract. The invariant: raising the offsets that are left comes to the same as raising all.
use mathlib.Core.Path.{◌≡◌}
use Prim.Native.Nat.{◌-◌}
use lib.ListN.{length}
use Rattle.image_spec.specs.Grow.{raised}
use Rattle.image_write.proofs.grow.raise.Given as goal

abbrev pub invariant-loop-i : goal.invariant-loop-i
invariant-loop-i l = (length l.d ≡ length l.initial.d) × (raised l.layout l.initial.d l.n 0 ≡ raised l.layout l.d (l.n - l.i) l.i)
