-- The invariant of `digits`: the flag says whether the first i are digits.
use mathlib.Core.Path.{◌≡◌}
use lib.ListN.{replicate}
use Rattle.resource_spec.specs.Identifier.{digit}
use Rattle.resource.specs.Code.{form_at}
use Rattle.resource.proofs.ids.digits.Given as goal

abbrev pub invariant-loop-i : goal.invariant-loop-i
invariant-loop-i l = l.ok ≡ form_at (replicate l.i digit) l.s l.from
