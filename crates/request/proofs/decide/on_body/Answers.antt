-- `on_body` meets its contract: the revocation list, then the stages.
use Rattle.std.proofs.Common.{sym, ◌∙◌}
use Rattle.std.proofs.lemmas.Result.{err_from_is_err_and}
use Rattle.request.specs.Code.{signed_by}
use Rattle.request.proofs.DecideCode.{on_revoked, on_applies, on_refused}
use Rattle.request.proofs.decide.on_body.Goals as goal

pub returns-then-is_revoked : goal.returns-then-is_revoked
returns-then-is_revoked c =
    on_revoked _ c.args.lease _ _ (sym (rw c.to_seconds-clock.ensures at c.is_revoked.ensures) ∙ c.if-is_revoked.true)

pub returns-in_err-picked : goal.returns-in_err-picked
returns-in_err-picked c =
    let p = err_from_is_err_and c.from_residual.result c.from_residual.ensures.1 in
    rw (p.1, p.2)
    (on_refused _ c.args.lease _ _ c.requires.3 c.requires.4
    (sym (rw c.to_seconds-clock.ensures at c.is_revoked.ensures) ∙ c.if-is_revoked.false)
    _ (rw c.to_seconds-clock.ensures at c.in_err-picked.ensures))

pub returns : goal.returns
unfolding signed_by
returns c =
    on_applies _ c.args.lease _ _ c.requires.3 c.requires.4
    (sym (rw c.to_seconds-clock.ensures at c.is_revoked.ensures) ∙ c.if-is_revoked.false)
    _ (rw c.to_seconds-clock.ensures at c.in_ok-picked.ensures) c.signed.ensures
