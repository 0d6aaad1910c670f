-- `choose_read` meets its contract.
use mathlib.Core.Path.{subst}
use Rattle.std.proofs.lemmas.Result.{err_from_is_err_and}
use Rattle.image_spec.specs.Laws.{CheckFits}
use Rattle.submission.proofs.SubmitCode.{read_unsound, read_refused, read_placed}
use Rattle.submission.proofs.choose.choose_read.Goals as goal

pub returns-in_default : goal.returns-in_default
returns-in_default c = read_unsound _ _ _ _ _ _ _ c.in_default.is

pub returns-in_err-admit : goal.returns-in_err-admit
returns-in_err-admit c =
    let p = err_from_is_err_and c.from_residual.result c.from_residual.ensures.1 in
    rw (p.1, p.2) (read_refused _ _ _ _ _ _ _ _ c.in-Some.is _ c.admit.ensures _ c.in_err-admit.was)

pub place-requires : goal.place-requires
place-requires c = (subst (CheckFits c.args.image.now) c.in-Some.is c.requires).1

pub returns : goal.returns
returns c = read_placed _ _ _ _ _ _ _ _ c.in-Some.is _ c.admit.ensures _ _ c.in_ok-admit.was c.place.ensures
