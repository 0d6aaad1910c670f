-- `ids_differ` meets its contract.
use Rattle.std.proofs.Common.{refl}
use Rattle.lease.proofs.IdCode.{marked_begin, marked_fresh, marked_twice, marked_other}
use Rattle.lease.proofs.rows.ids_differ.Goals as goal
use Rattle.lease.proofs.rows.ids_differ.Goals.{else-again-via-then-again+else-has_id, else-again-via-else-again}

pub loop-i-init : goal.loop-i-init
loop-i-init c = marked_begin _ _ _ refl

pub returns-then-has_id : goal.returns-then-has_id
returns-then-has_id c =
    marked_twice _ _ _ _ c.loop-i.invariant c.loop-i-test.true _ c.slot_of-slot.ensures.upper_bound
    (rw c.id_number.ensures at c.slot_of-slot.ensures.value) c.has_id.ensures c.if-has_id.true

pub loop-i-preserved : goal.loop-i-preserved
loop-i-preserved c =
    let slot = rw c.id_number.ensures at c.slot_of-slot.ensures.value in
    elim c.else-again.branch [
      | else-again-via-then-again+else-has_id w ↦
          marked_other _ _ _ _ c.loop-i.invariant c.loop-i-test.true _ c.slot_of-slot.ensures.upper_bound slot
          w.has_id.ensures w.if-has_id.false
      | else-again-via-else-again w ↦
          marked_fresh _ _ _ _ c.loop-i.invariant c.loop-i-test.true _ c.slot_of-slot.ensures.upper_bound slot w.if-again.false
    ]
