-- `close_rows` meets its contract.
use mathlib.Core.Path.{refl, sym, ◌∙◌}
use native.Mathlib.Omega.{arith}
use lib.ListN.{get_or}
use Rattle.image_spec.specs.declared.Mark.TheVariants.{Current}
use Rattle.image_spec.specs.Close.{stays}
use Rattle.removal.proofs.CloseCode.{row_kept_length, one_more_lem, rows_next, count_next, rows_end}
use Rattle.removal.proofs.close.close_rows.Goals as goal

pub loop-i-init : goal.loop-i-init
loop-i-init c = (omega arith, refl, refl, refl)

pub keep_row-k-requires : goal.keep_row-k-requires
keep_row-k-requires c =
    let p = c.requires in
    (p.0, omega (arith, p.1), omega arith)

pub loop-i-preserved : goal.loop-i-preserved
loop-i-preserved c =
    let l = c.loop-i in
    let e = c.keep_row-k.ensures in
    let a = c.args in
    let marks = a.marks.now in (
      omega (arith, one_more_lem (stays (get_or marks l.i Current)) l.k _ e.value),
      row_kept_length a.layout (stays (get_or marks l.i Current)) l.d _ l.i l.k e.d_after ∙ l.invariant.1,
      l.invariant.2 ∙ rows_next a.layout l.d _ marks l.i l.k _ (omega arith) e.value e.d_after,
      l.invariant.3 ∙ count_next marks l.i l.k _ (omega arith) e.value,
    )

pub shape_of-d : goal.shape_of-d
shape_of-d c = c.loop-i.invariant.1

pub returns : goal.returns
returns c =
    let l = c.loop-i in
    let a = c.args in
    let e = rows_end a.layout l.d a.marks.now l.i l.k (omega arith) in
    record {
      value = (sym (l.invariant.3 ∙ e.1), omega arith);
      d_after = sym (l.invariant.2 ∙ e.0);
    }
