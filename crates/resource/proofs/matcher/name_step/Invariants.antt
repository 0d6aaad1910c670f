-- The invariant of `name_step`: what is left from i on decides.
use mathlib.Core.Path.{◌≡◌}
use Prim.Native.Nat.{◌≤◌}
use lib.ListN.{length, drop}
use Rattle.resource.specs.Code.{name_step}
use Rattle.resource.proofs.matcher.name_step.Given as goal

abbrev pub invariant-loop-i : goal.invariant-loop-i
invariant-loop-i l = (l.i ≤ length l.r) × (name_step 0 l.p l.r ≡ name_step l.i (drop l.i l.p) (drop l.i l.r))
