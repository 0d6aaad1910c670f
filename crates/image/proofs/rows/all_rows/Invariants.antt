-- `all_rows` meets its contract. The invariant: the rows from row i on tell what all tell, and the slots of the ids before are marked.
use mathlib.Core.Path.{◌≡◌}
use Prim.Native.Nat.{◌-◌, ◌≤◌}
use lib.ListN.{length}
use Rattle.std.proofs.Common.{None}
use Rattle.image_spec.specs.Layout.{row_place}
use Rattle.image_spec.specs.Check.{rows_from}
use Rattle.image.proofs.SlotCode.{Marked}
use Rattle.image.proofs.rows.all_rows.Given as goal

abbrev pub invariant-loop-i : goal.invariant-loop-i
invariant-loop-i l =
    (l.at ≤ length l.s) × (rows_from l.layout l.s l.id l.n 0 (row_place l.layout l.n) None ≡ rows_from l.layout l.s l.id (l.n - l.i) l.i l.at l.held) × Marked l.layout l.s l.i l.seen
