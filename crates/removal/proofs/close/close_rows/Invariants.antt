-- `close_rows` meets its contract. The invariant: closing up what is left comes to the same as closing up all.
use mathlib.Core.Path.{◌≡◌}
use Prim.Native.Nat.{◌≤◌}
use lib.ListN.{length, drop}
use Rattle.image_spec.specs.Close.{closed_rows, count_kept}
use Rattle.removal.proofs.close.close_rows.Given as goal

abbrev pub invariant-loop-i : goal.invariant-loop-i
invariant-loop-i l =
    (l.k ≤ l.i) × (length l.d ≡ length l.initial.d) × (closed_rows l.layout l.initial.d l.marks 0 0 ≡ closed_rows l.layout l.d (drop l.i l.marks) l.i l.k)
    × (count_kept l.marks 0 ≡ count_kept (drop l.i l.marks) l.k)
