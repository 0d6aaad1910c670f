-- The promises of specs/Promises.antt, each from its law. Assumes nothing.
use Rattle.submission_spec.specs.Promises.{AlwaysMeets, SubmittedExactly, DoneExactly, RefusedExactly, EditionsRefused, RefusalKeeps}
use Rattle.submission_spec.specs.Promises.{RepeatKeeps, LastSteps, RoomKeepsAll, UnexpiredKept, StoredFound, OthersFound, LeadBoundary}
use Rattle.submission_spec.specs.Promises.{RoomExactly, ExpiredExactly, UnexpiredExactly, RemovalOnce, RowBoundary, IdsExactly, StepOfIds}
use Rattle.submission_spec.specs.Promises.{HeldFound}
use Rattle.submission_spec.proofs.IdLaws as ids
use Rattle.submission_spec.proofs.IdStepLaws as steps
use Rattle.submission_spec.proofs.NumberLaws as number
use Rattle.submission_spec.proofs.StoredLaws as stored
use Rattle.submission_spec.proofs.LastLaws as last

pub always_meets : AlwaysMeets
always_meets = number.always_meets

-- ---- the three ids

pub ids_exactly : IdsExactly
ids_exactly = ids.ids_exactly

-- ---- room, and the rows that may go for it

pub room_exactly : RoomExactly
room_exactly = last.room_exactly

pub expired_exactly : ExpiredExactly
expired_exactly = last.expired_exactly

pub unexpired_exactly : UnexpiredExactly
unexpired_exactly = last.unexpired_exactly

pub removal_once : RemovalOnce
removal_once = last.removal_once

-- ---- the steps in order

pub submitted_exactly : SubmittedExactly
submitted_exactly = number.submitted_exactly

pub done_exactly : DoneExactly
done_exactly = number.done_exactly

pub refused_exactly : RefusedExactly
refused_exactly = number.refused_exactly

pub step_of_ids : StepOfIds
step_of_ids = steps.step_of_ids

pub editions_refused : EditionsRefused
editions_refused = stored.editions_refused

-- ---- the buffer after

pub refusal_keeps : RefusalKeeps
refusal_keeps = stored.refusal_keeps

pub repeat_keeps : RepeatKeeps
repeat_keeps = stored.repeat_keeps

pub last_steps : LastSteps
last_steps = last.last_steps

pub room_keeps_all : RoomKeepsAll
room_keeps_all = last.room_keeps_all

pub unexpired_kept : UnexpiredKept
unexpired_kept = stored.unexpired_kept

pub stored_found : StoredFound
stored_found = last.stored_found

pub others_found : OthersFound
others_found = last.others_found

pub held_found : HeldFound
held_found = last.held_found

-- ---- both sides of a line

pub lead_boundary : LeadBoundary
lead_boundary = last.lead_boundary

pub row_boundary : RowBoundary
row_boundary = last.row_boundary
