-- `add_body` meets its contract.
use mathlib.Core.Bool.{not}
use mathlib.Core.Path.{ap}
use Rattle.image_write.proofs.GrowCode.{add_full, add_fits, add_done}
use Rattle.image_write.proofs.grow.add_body.Goals as goal

pub returns-then-not-can_grow : goal.returns-then-not-can_grow
returns-then-not-can_grow c = add_full _ _ _ _ _ _ _ _ _ c.can_grow.ensures (ap not c.if-not-can_grow.true)

pub grow-requires : goal.grow-requires
grow-requires c =
    let f = add_fits _ _ _ _ _ _ _ c.can_grow.ensures (ap not c.if-not-can_grow.false) in
    (c.requires, f.0, f.1, f.2, f.3)

pub returns : goal.returns
returns c =
    add_done _ _ _ _ _ _ _ _ _ c.can_grow.ensures (ap not c.if-not-can_grow.false) _ c.grow.ensures
