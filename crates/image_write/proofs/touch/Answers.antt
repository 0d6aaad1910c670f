-- `touch` meets its contract.
use mathlib.Core.Path.{sym, ap, ◌∙◌, subst}
use Rattle.image_spec.specs.declared.layout.Layout.{Layout}
use Rattle.image_spec.specs.Layout.{LayoutOk}
use Rattle.image_spec.specs.Touch.{touched_at, after_touch}
use Rattle.image_spec.proofs.Laws.{named_ok}
use Rattle.image_write.proofs.touch.Goals as goal

pub touch-requires : goal.touch-requires
touch-requires c = subst LayoutOk (sym c.layout_of-layout.ensures) (named_ok _)

pub returns : goal.returns
unfolding after_touch
returns c =
    let a = c.args in
    c.touch.ensures ∙ ap (λ (l : Layout). touched_at l a.image.now a.row a.moment.0) c.layout_of-layout.ensures
