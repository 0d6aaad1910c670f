-- `choose` meets its contract. The invariant: choosing from here comes to the same as choosing from the beginning.
use mathlib.Core.Path.{◌≡◌}
use Prim.Native.Nat.{◌-◌, ◌*◌, ◌≤◌}
use lib.ListN.{length}
use Rattle.image_spec.specs.Choose.{ask_at, chosen}
use Rattle.removal.proofs.choose.choose.Given as goal

abbrev pub invariant-loop-removed : goal.invariant-loop-removed
invariant-loop-removed l =
    (length l.marks ≡ length l.initial.marks) × (l.freed ≤ l.removed * 4294968320)
    × (chosen l.layout (ask_at l.layout l.d (length l.initial.marks) l.short) (length l.initial.marks) l.initial.marks 0 0
    ≡ chosen l.layout (ask_at l.layout l.d (length l.initial.marks) l.short) (length l.initial.marks - l.removed) l.marks l.removed l.freed)
