-- `close_bodies` meets its contract. The invariant: closing up what is left comes to the same as closing up all.
use mathlib.Core.Path.{◌≡◌}
use Prim.Native.Nat.{◌+◌, ◌-◌, ◌*◌, ◌<◌}
use lib.ListN.{length}
use Rattle.image_spec.specs.Layout.{row_place}
use Rattle.image_spec.specs.Close.{closed_bodies}
use Rattle.removal.proofs.close.close_bodies.Given as goal

abbrev pub invariant-loop-i : goal.invariant-loop-i
invariant-loop-i l =
    (l.at < 4294967296 + l.i * 4294967296) × (length l.d ≡ length l.initial.d)
    × (closed_bodies l.layout l.initial.d l.k 0 (row_place l.layout l.k) ≡ closed_bodies l.layout l.d (l.k - l.i) l.i l.at)
