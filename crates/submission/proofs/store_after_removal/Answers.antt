-- `store_after_removal` meets its contract.
use mathlib.Core.Path.{sym, ap}
use Rattle.submission.specs.Code.{stored_as}
use Rattle.submission.proofs.SubmitCode.{removal_made, removal_none}
use Rattle.submission.proofs.store_after_removal.Goals as goal

pub returns-in_default : goal.returns-in_default
returns-in_default c =
    let x = c.args in
    removal_none x.image.now x.body.now x.place x.clock.0 _ _ c.make_room.ensures c.in_default.is

pub returns-in-Ok : goal.returns-in-Ok
returns-in-Ok c =
    let x = c.args in
    removal_made x.image.now x.body.now x.place x.clock.0 _ _ c.make_room.ensures _ c.in-Some.is _ _ c.add_body.ensures _
    (sym (ap stored_as c.in-Ok.is))

pub returns-in-Err : goal.returns-in-Err
returns-in-Err c =
    let x = c.args in
    removal_made x.image.now x.body.now x.place x.clock.0 _ _ c.make_room.ensures _ c.in-Some.is _ _ c.add_body.ensures _
    (sym (ap stored_as c.in-Err.is))
