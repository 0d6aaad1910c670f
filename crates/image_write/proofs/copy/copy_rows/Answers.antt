-- `copy_rows` meets its contract.
use mathlib.Core.Path.{refl, sym, ◌∙◌}
use native.Mathlib.Omega.{arith}
use Rattle.image_spec.proofs.Laws.{rows_in_order}
use Rattle.image_write.proofs.CopyCode.{row_kept_lem, rows_begin, rows_next, rows_end}
use Rattle.image_write.proofs.copy.copy_rows.Goals as goal

pub loop-i-init : goal.loop-i-init
loop-i-init c = (refl, rows_begin _ _ _ _ _ _)

pub copy_row-requires : goal.copy_row-requires
copy_row-requires c =
    let p = c.requires in (
      p.0,
      p.1,
      omega arith,
      omega arith,
      omega (arith, rows_in_order c.args.from c.loop-i.i c.args.n c.loop-i-test.true, p.4),
      omega (arith, rows_in_order c.args.to c.loop-i.i c.args.n c.loop-i-test.true, p.5, c.loop-i.invariant.0),
      p.6,
    )

pub loop-i-preserved : goal.loop-i-preserved
loop-i-preserved c =
    let l = c.loop-i in (
      row_kept_lem _ _ _ _ _ _ _ _ c.copy_row.ensures l.invariant.0,
      l.invariant.1 ∙ rows_next _ _ _ _ _ _ _ _ c.loop-i-test.true c.copy_row.ensures,
    )

pub shape_of-d : goal.shape_of-d
shape_of-d c = c.loop-i.invariant.0

pub returns : goal.returns
returns c = let l = c.loop-i in sym (l.invariant.1 ∙ rows_end _ _ _ _ _ _ _ (omega arith))
