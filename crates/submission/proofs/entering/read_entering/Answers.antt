-- `read_entering` meets its contract.
use mathlib.Core.Bool.{not}
use mathlib.Core.Path.{ap}
use Rattle.submission.proofs.SubmitCode.{ids_room, entering_none, entering_refused, entering_passed}
use Rattle.submission.proofs.entering.read_entering.Goals as goal

pub returns-in_default : goal.returns-in_default
returns-in_default c = entering_none _ _ c.read_form.ensures c.in_default.is

pub are_version7-requires : goal.are_version7-requires
are_version7-requires c = ids_room _ _ _ c.read_form.ensures c.in-Some.is

pub returns-then-not-are_version7 : goal.returns-then-not-are_version7
returns-then-not-are_version7 c =
    entering_refused _ _ c.read_form.ensures _ c.in-Some.is c.are_version7.result c.are_version7.ensures
    (ap not c.if-not-are_version7.true)

pub returns : goal.returns
returns c =
    entering_passed _ _ c.read_form.ensures _ c.in-Some.is c.are_version7.result c.are_version7.ensures
    (ap not c.if-not-are_version7.false) _ c.by_period.ensures
