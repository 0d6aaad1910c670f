-- `row_at` meets its contract.
use mathlib.Core.Path.{sym, ap, ◌∙◌}
use Prim.Native.Nat.{ℕ}
use native.Mathlib.Omega.{arith}
use Rattle.image.specs.Code.{row_read}
use Rattle.image_spec.specs.Check.{row_id, id_among}
use Rattle.image.proofs.CheckCode.{row_known, row_short, row_unread, row_room, row_other, row_twice, row_good}
use Rattle.image.proofs.rows.row_at.Goals as goal

pub returns-then-s-at : goal.returns-then-s-at
returns-then-s-at c =
    row_short _ _ _ _ _ _ c.requires.0 (c.place-r.ensures.in_image (c.requires.0, omega arith)) (omega arith) c.number_at-n.ensures.value
    (omega arith) (omega arith)

pub returns-in_err-fields : goal.returns-in_err-fields
returns-in_err-fields c =
    let p = c.requires in
    let w = row_known _ _ _ _ _ _ _ p.0 (c.place-r.ensures.in_image (c.requires.0, omega arith)) p.2 c.number_at-n.ensures.value p.3 c.if-s-at.false c.read_descriptor.ensures in
    ap row_read c.from_residual.ensures ∙ row_unread _ _ _ _ _ _ _ w (sym c.ok.ensures.value ∙ c.in_err-fields.was)

pub row_fits-requires : goal.row_fits-requires
row_fits-requires c =
    let p = c.requires in
    let w = row_known _ _ _ _ _ _ _ p.0 (c.place-r.ensures.in_image (c.requires.0, omega arith)) p.2 c.number_at-n.ensures.value p.3 c.if-s-at.false c.read_descriptor.ensures in
    (p.0, omega arith, row_room _ _ _ _ _ _ _ w _ (sym c.ok.ensures.value ∙ c.in_ok-fields.was))

pub returns-then-not-row_fits : goal.returns-then-not-row_fits
returns-then-not-row_fits c =
    let p = c.requires in
    let w = row_known _ _ _ _ _ _ _ p.0 (c.place-r.ensures.in_image (c.requires.0, omega arith)) p.2 c.number_at-n.ensures.value p.3 c.if-s-at.false c.read_descriptor.ensures in
    row_other _ _ _ _ _ _ _ w _ (sym c.ok.ensures.value ∙ c.in_ok-fields.was) c.if-not-row_fits.ensures

-- the slot of the id was marked, or none of the rows before has it
pub is_twice-requires : goal.is_twice-requires
is_twice-requires c =
    let p = c.requires in (
      p.0,
      omega arith,
      omega arith,
      omega arith,
      λ e. ap (λ (r : ℕ). id_among c.args.layout c.args.s.now (row_id c.args.s.now r) c.args.i) (c.place-r.ensures.in_image (c.requires.0, omega arith)) ∙ p.4 e,
    )

pub returns-then-is_twice : goal.returns-then-is_twice
returns-then-is_twice c =
    let p = c.requires in
    let w = row_known _ _ _ _ _ _ _ p.0 (c.place-r.ensures.in_image (c.requires.0, omega arith)) p.2 c.number_at-n.ensures.value p.3 c.if-s-at.false c.read_descriptor.ensures in
    row_twice _ _ _ _ _ _ _ w _ (sym c.ok.ensures.value ∙ c.in_ok-fields.was) c.if-not-row_fits.ensures c.if-is_twice.ensures

pub returns : goal.returns
returns c =
    let p = c.requires in
    let w = row_known _ _ _ _ _ _ _ p.0 (c.place-r.ensures.in_image (c.requires.0, omega arith)) p.2 c.number_at-n.ensures.value p.3 c.if-s-at.false c.read_descriptor.ensures in
    row_good _ _ _ _ _ _ _ w _ (sym c.ok.ensures.value ∙ c.in_ok-fields.was) c.if-not-row_fits.ensures c.if-is_twice.ensures
