-- `mark_all` meets its contract. The invariant: the marks so far and those of the rows that are left are the marks of all rows.
use mathlib.Core.Path.{◌≡◌}
use mathlib.Core.List.{◌++◌}
use Prim.Native.Nat.{◌-◌}
use lib.ListN.{length, take}
use Rattle.image_spec.specs.Choose.{marks_from}
use Rattle.removal.proofs.choose.mark_all.Given as goal

abbrev pub invariant-loop-i : goal.invariant-loop-i
invariant-loop-i l =
    (length l.marks ≡ length l.initial.marks)
    × (marks_from l.layout l.d l.clock.0 (length l.initial.marks) 0 ≡ take l.i l.marks ++ marks_from l.layout l.d l.clock.0 (length l.initial.marks - l.i) l.i)
