-- `store` meets its contract.
use Rattle.submission.proofs.SubmitCode.{store_fits, store_removes}
use Rattle.submission.proofs.store.Goals as goal

pub returns-in-Ok : goal.returns-in-Ok
returns-in-Ok c =
    let x = c.args in
    store_fits x.image.now x.body.now x.place x.clock.0 _ _ c.add_body.ensures _ c.in-Ok.is

pub returns-in-Err : goal.returns-in-Err
returns-in-Err c =
    let x = c.args in
    store_removes x.image.now x.body.now x.place x.clock.0 _ _ c.add_body.ensures _ c.in-Err.is _ _ c.store_after_removal.ensures
