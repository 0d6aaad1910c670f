-- `raise` meets its contract.
use mathlib.Core.Path.{refl, sym, ap, ◌∙◌}
use native.Mathlib.Omega.{arith}
use lib.ListN.{length}
use Rattle.octets.proofs.OverLaws.{put_length}
use Rattle.image_write.proofs.GrowCode.{raise_begin, raise_next, raise_end}
use Rattle.image_write.proofs.grow.raise.Goals as goal

pub loop-i-init : goal.loop-i-init
loop-i-init c = (refl, raise_begin _ _ _)

pub loop-i-preserved : goal.loop-i-preserved
loop-i-preserved c =
    let l = c.loop-i in (
      ap length c.put_number.ensures ∙ put_length _ _ _ ∙ l.invariant.0,
      l.invariant.1 ∙ raise_next _ _ _ _ _ _ _ (omega arith)
          (c.place-at.ensures.in_image (c.requires.0, omega arith)) c.number_at-offset.ensures.value c.put_number.ensures,
    )

pub shape_of-d : goal.shape_of-d
shape_of-d c = c.loop-i.invariant.0

pub returns : goal.returns
returns c = let l = c.loop-i in sym (l.invariant.1 ∙ raise_end _ _ _ _ (omega arith))
