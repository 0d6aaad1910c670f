-- `request` meets its contract.
use Rattle.std.proofs.lemmas.Result.{err_from_is_err_and}
use Rattle.request.proofs.AfterCode.{after_refused, after_granted}
use Rattle.request.proofs.request.Goals as goal

pub returns-in_err-row : goal.returns-in_err-row
returns-in_err-row c =
    let p = err_from_is_err_and c.from_residual.result c.from_residual.ensures.1 in
    rw (p.1, p.2) (after_refused _ _ c.in_err-row.ensures)

pub returns : goal.returns
returns c = after_granted _ _ c.in_ok-row.row c.in_ok-row.ensures c.to_seconds.ensures c.touch.ensures
