-- `submit` meets its contract.
use mathlib.Core.Path.{sym, ap, ◌∙◌}
use Rattle.std.proofs.Common.{Ok}
use Rattle.std.proofs.lemmas.Result.{err_from_is_err_and}
use Rattle.submission.proofs.SubmitLaws.{choice_refused, choice_held, choice_store}
use Rattle.submission.proofs.submit.Goals as goal

pub returns-in_err-place : goal.returns-in_err-place
returns-in_err-place c =
    let p = err_from_is_err_and c.from_residual.result c.from_residual.ensures.1 in
    rw (p.1, p.2) (choice_refused _ _ _ _ _ _ (sym c.choose.ensures.0 ∙ c.in_err-place.was))

pub returns-in-Some : goal.returns-in-Some
returns-in-Some c =
    choice_store _ _ _ _ _ _ c.choose.ensures.1 (sym c.choose.ensures.0 ∙ c.in_ok-place.was ∙ ap Ok c.in-Some.is) _ _ c.store.ensures

pub returns-in-None : goal.returns-in-None
returns-in-None c = choice_held _ _ _ _ _ (sym c.choose.ensures.0 ∙ c.in_ok-place.was ∙ ap Ok c.in-None.is)
