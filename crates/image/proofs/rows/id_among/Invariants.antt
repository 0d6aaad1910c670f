-- `id_among` meets its contract. The invariant: one of the n rows has the id exactly where one of the first i has it.
use mathlib.Core.Path.{◌≡◌}
use Rattle.image_spec.specs.Check.{id_among}
use Rattle.image.proofs.rows.id_among.Given as goal

abbrev pub invariant-loop-i : goal.invariant-loop-i
invariant-loop-i l = id_among l.layout l.s l.id l.n ≡ id_among l.layout l.s l.id l.i
