-- `choose` meets its contract.
use mathlib.Core.Path.{refl, sym, ap, ◌∙◌}
use mathlib.Core.Bool.{true, false}
use native.Mathlib.Omega.{arith}
use lib.ListN.{length, length-set}
use Rattle.image_spec.specs.Choose.{Chosen, ask_at}
use Rattle.removal.specs.Code.{choice_in}
use Rattle.removal.proofs.ChooseCode.{least_in, choose_begin, choose_fits, choose_none, choose_next, choose_last}
use Rattle.removal.proofs.choose.choose.Goals as goal

pub loop-removed-init : goal.loop-removed-init
loop-removed-init c = (refl, omega arith, choose_begin _ _ _ _)

pub fits-requires : goal.fits-requires
fits-requires c = (c.requires.0, omega arith)

pub returns-then-fits : goal.returns-then-fits
returns-then-fits c =
    let l = c.loop-removed in
    let a = c.args in
    let n = length a.marks.now in
    let e = l.invariant.2 ∙ choose_fits a.layout (ask_at a.layout a.d.now n a.short) l.marks n l.removed l.freed (omega arith)
    (sym c.fits.ensures ∙ c.if-fits.true) in
    record { value = sym (ap choice_in e); marks_after = sym (ap (λ (x : Chosen). x.marks) e); removed_in_bounds = omega arith }

pub least-requires : goal.least-requires
least-requires c = (c.requires.0, omega arith)

pub returns-in_err-j : goal.returns-in_err-j
returns-in_err-j c =
    let l = c.loop-removed in
    let a = c.args in
    let n = length a.marks.now in
    let e = l.invariant.2 ∙ choose_none a.layout (ask_at a.layout a.d.now n a.short) l.marks n l.removed l.freed (omega arith)
    (sym c.fits.ensures ∙ c.if-fits.false) (sym c.in_err-j.ensures) in
    rw c.from_residual.ensures
    (record { value = sym (ap choice_in e); marks_after = sym (ap (λ (x : Chosen). x.marks) e); removed_in_bounds = tt })

pub bounds-marks-j : goal.bounds-marks-j
bounds-marks-j c = least_in _ _ _ _ (sym c.in_ok-j.ensures)

pub size_at-requires : goal.size_at-requires
size_at-requires c = (c.requires.0, omega (arith, least_in _ _ _ _ (sym c.in_ok-j.ensures)))

pub loop-removed-preserved : goal.loop-removed-preserved
loop-removed-preserved c =
    let l = c.loop-removed in
    let a = c.args in
    let n = length a.marks.now in (
      simp length-set l.invariant.0,
      omega arith,
      l.invariant.2 ∙ choose_next a.layout (ask_at a.layout a.d.now n a.short) l.marks n l.removed l.freed (omega arith)
          (sym c.fits.ensures ∙ c.if-fits.false) _ _ _ (sym c.in_ok-j.ensures) c.size_at.ensures.value,
    )

pub fits-requires-2 : goal.fits-requires-2
fits-requires-2 c = (c.requires.0, omega arith)

pub returns-then-fits-2 : goal.returns-then-fits-2
returns-then-fits-2 c =
    let l = c.loop-removed in
    let a = c.args in
    let n = length a.marks.now in
    let e = l.invariant.2 ∙ choose_last a.layout (ask_at a.layout a.d.now n a.short) l.marks n l.removed l.freed true (omega arith)
    (sym c.if-fits-2.true ∙ c.fits-2.ensures) in
    record { value = sym (ap choice_in e); marks_after = sym (ap (λ (x : Chosen). x.marks) e); removed_in_bounds = omega arith }

pub returns-else-fits-2 : goal.returns-else-fits-2
returns-else-fits-2 c =
    let l = c.loop-removed in
    let a = c.args in
    let n = length a.marks.now in
    let e = l.invariant.2 ∙ choose_last a.layout (ask_at a.layout a.d.now n a.short) l.marks n l.removed l.freed false (omega arith)
    (sym c.if-fits-2.false ∙ c.fits-2.ensures) in
    record { value = sym (ap choice_in e); marks_after = sym (ap (λ (x : Chosen). x.marks) e); removed_in_bounds = tt }
