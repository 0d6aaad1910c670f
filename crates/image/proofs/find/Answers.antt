-- `find` meets its contract.
use mathlib.Core.Path.{sym, ap, ◌∙◌, subst}
use Rattle.image_spec.specs.declared.layout.Layout.{Layout}
use Rattle.image_spec.specs.Layout.{LayoutOk}
use Rattle.image_spec.specs.Check.{find_of}
use Rattle.image_spec.proofs.Laws.{named_ok}
use Rattle.image.proofs.find.Goals as goal

pub find-requires : goal.find-requires
find-requires c = subst LayoutOk (sym c.layout_of.ensures) (named_ok _)

pub returns : goal.returns
returns c =
    let a = c.args in
    c.find.ensures ∙ ap (λ (l : Layout). find_of l a.image.now a.id.now) c.layout_of.ensures
