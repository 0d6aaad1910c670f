-- `all_rows` meets its contract.
use mathlib.Core.Bool.{Bool}
use mathlib.Core.Path.{◌≡◌, refl, sym, ap, ◌∙◌}
use Prim.Native.Nat.{◌+◌, ◌-◌, ◌≤◌}
use native.Mathlib.Omega.{arith}
use lib.ListN.{length}
use Rattle.descriptor_spec.specs.Allowed.{id_size}
use Rattle.image_spec.specs.Check.{held_with, check_answer}
use Rattle.image_spec.proofs.Laws.{rows_in_order, row_next}
use Rattle.image.proofs.RowsCode.{row_inside, rows_stop, rows_done, rows_begin}
use Rattle.image.proofs.SlotCode.{marked_begin, marked_more, marked_fresh}
use Rattle.image.proofs.CheckCode.{rows_kept}
use Rattle.image.proofs.rows.all_rows.Goals as goal
use Rattle.image.proofs.rows.all_rows.Goals.{then-same_bytes, else-same_bytes}

pub loop-i-init : goal.loop-i-init
loop-i-init c = (omega arith, rows_begin _ _ _ _ _ _ _ (c.place-at.ensures.in_image (c.requires.0, omega arith)), marked_begin _ _ _ refl)

pub slot_of-slot-requires : goal.slot_of-slot-requires
slot_of-slot-requires c = let p = c.requires in row_inside _ p.0 _ _ _ _ c.loop-i-test.true (c.place-r.ensures.in_image (c.requires.0, omega arith)) p.2

pub row_at-requires : goal.row_at-requires
row_at-requires c =
    let p = c.requires in (
      p.0,
      omega arith,
      omega (arith, rows_in_order c.args.layout c.loop-i.i c.args.n c.loop-i-test.true, p.2),
      c.loop-i.invariant.0,
      marked_fresh _ p.0 _ _ _ _ _ _ c.loop-i.invariant.2 c.loop-i-test.true p.2 (c.place-r.ensures.in_image (c.requires.0, omega arith))
          c.slot_of-slot.ensures,
    )

pub slice_bounds-same_bytes-end : goal.slice_bounds-same_bytes-end
slice_bounds-same_bytes-end c =
    let p = c.requires in
    let inside : c.place-r.result + id_size ≤ length c.args.s.now
    = row_inside _ p.0 _ _ _ _ c.loop-i-test.true (c.place-r.ensures.in_image (c.requires.0, omega arith)) p.2 in
    omega arith

pub overflow_sub-held : goal.overflow_sub-held
overflow_sub-held c = omega (arith, (row_next _ _ _ _ _ _ c.in_ok-fields.ensures).0)

pub returns-in_err-fields : goal.returns-in_err-fields
returns-in_err-fields c =
    c.from_residual.ensures ∙ sym (ap (check_answer c.args.n)
    (c.loop-i.invariant.1 ∙ rows_stop _ _ _ _ _ _ _ c.loop-i-test.true c.in_err-fields.ensures))

pub loop-i-preserved : goal.loop-i-preserved
loop-i-preserved c =
    let l = c.loop-i in
    let f = c.in_ok-fields in
    let kept : c.if-same_bytes.held ≡ held_with c.same_bytes.result l.held l.i l.at (f.next - l.at) f.fields
    = elim c.if-same_bytes.branch [
      | then-same_bytes w ↦ w.held-is ∙ sym (ap (λ (b : Bool). held_with b l.held l.i l.at (f.next - l.at) f.fields) w.if-same_bytes.true)
      | else-same_bytes w ↦ w.held-is ∙ sym (ap (λ (b : Bool). held_with b l.held l.i l.at (f.next - l.at) f.fields) w.if-same_bytes.false)
    ] in (
      (row_next _ _ _ _ _ _ f.ensures).1,
      l.invariant.1 ∙ rows_kept _ _ _ _ _ _ _ _ _ _ _ _ c.loop-i-test.true f.ensures (c.place-r.ensures.in_image (c.requires.0, omega arith)) c.same_bytes.ensures kept,
      marked_more _ _ _ _ _ _ l.invariant.2 (c.place-r.ensures.in_image (c.requires.0, omega arith)) c.slot_of-slot.ensures,
    )

pub returns : goal.returns
returns c =
    let l = c.loop-i in
    sym (ap (check_answer c.args.n) (l.invariant.1 ∙ rows_done _ _ _ _ _ _ _ (omega arith)))
