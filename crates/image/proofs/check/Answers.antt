-- `check` meets its contract.
use mathlib.Core.Path.{sym, ap, ◌∙◌, subst}
use Rattle.image_spec.specs.declared.layout.Layout.{Layout}
use Rattle.image_spec.specs.Layout.{LayoutOk}
use Rattle.image_spec.specs.Check.{check_of}
use Rattle.image_spec.proofs.Laws.{named_ok}
use Rattle.image.proofs.check.Goals as goal

pub check-requires : goal.check-requires
check-requires c = subst LayoutOk (sym c.layout_of.ensures) (named_ok _)

pub returns : goal.returns
returns c =
    let a = c.args in
    c.check.ensures ∙ ap (λ (l : Layout). check_of l a.image.now a.id.now) c.layout_of.ensures
