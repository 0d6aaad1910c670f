-- `is_twice` meets its contract.
use mathlib.Core.Path.{sym, ap, ◌∙◌}
use mathlib.Core.List.{List}
use Prim.Native.Nat.{ℕ}
use Rattle.octets.proofs.PartLaws.{lent_part}
use Rattle.descriptor_spec.specs.Allowed.{id_size}
use Rattle.image_spec.specs.Check.{id_among}
use Rattle.image.proofs.rows.is_twice.Goals as goal

pub returns-then-marked : goal.returns-then-marked
returns-then-marked c =
    let a = c.args in
    c.id_among.ensures ∙ ap (λ (x : List ℕ). id_among a.layout a.s.now x a.i) (lent_part a.s.now a.r id_size)

pub returns-else-marked : goal.returns-else-marked
returns-else-marked c = c.if-marked.false ∙ sym (c.requires.4 c.if-marked.false)
