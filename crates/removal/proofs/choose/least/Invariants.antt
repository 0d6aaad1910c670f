-- `least` meets its contract. The invariant: the least of the rows that are left and of the one found so far is the least of all.
use mathlib.Core.Path.{◌≡◌}
use lib.ListN.{drop}
use Rattle.std.proofs.Common.{None}
use Rattle.image_spec.specs.Choose.{used_at, least_from}
use Rattle.removal.proofs.choose.least.Given as goal

abbrev pub invariant-loop-i : goal.invariant-loop-i
invariant-loop-i l =
    least_from (used_at l.layout l.d) l.marks 0 None ≡ least_from (used_at l.layout l.d) (drop l.i l.marks) l.i l.best
