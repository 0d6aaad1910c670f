-- `close_bodies` meets its contract.
use mathlib.Core.Path.{refl, sym, ◌∙◌}
use native.Mathlib.Omega.{arith}
use Rattle.removal.proofs.CloseCode.{body_moved_length, bodies_begin, bodies_next, bodies_end}
use Rattle.removal.proofs.close.close_bodies.Goals as goal

pub loop-i-init : goal.loop-i-init
loop-i-init c =
    (omega (arith, c.place-at.ensures.upper_bound), refl, bodies_begin _ _ _ _ (c.place-at.ensures.in_image (c.requires.0, omega arith)))

pub move_body-at-requires : goal.move_body-at-requires
move_body-at-requires c =
    let p = c.requires in
    (p.0, omega (arith, p.1), omega (arith, p.1, p.0.few))

pub loop-i-preserved : goal.loop-i-preserved
loop-i-preserved c =
    let l = c.loop-i in
    let e = c.move_body-at.ensures in (
      omega (arith, e.value.1),
      body_moved_length _ _ _ _ _ e.d_after ∙ l.invariant.1,
      l.invariant.2 ∙ bodies_next _ _ _ _ _ _ _ (omega arith) e.value.0 e.d_after,
    )

pub shape_of-d : goal.shape_of-d
shape_of-d c = c.loop-i.invariant.1

pub returns : goal.returns
returns c = let l = c.loop-i in sym (l.invariant.2 ∙ bodies_end _ _ _ _ _ (omega arith))
