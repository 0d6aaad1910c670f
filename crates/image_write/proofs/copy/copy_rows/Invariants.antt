-- `copy_rows` meets its contract. The invariant: copying the rows that are left comes to the same as copying all.
use mathlib.Core.Path.{◌≡◌}
use Prim.Native.Nat.{◌-◌}
use lib.ListN.{length}
use Rattle.image_spec.specs.Upgrade.{rows_copied}
use Rattle.image_write.proofs.copy.copy_rows.Given as goal

abbrev pub invariant-loop-i : goal.invariant-loop-i
invariant-loop-i l = (length l.d ≡ length l.initial.d)
    × (rows_copied l.from l.to l.old l.initial.d l.n 0 l.by ≡ rows_copied l.from l.to l.old l.d (l.n - l.i) l.i l.by)
