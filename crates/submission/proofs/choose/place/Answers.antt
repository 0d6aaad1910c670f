-- `place` meets its contract.
use native.Mathlib.Omega.{arith}
use Rattle.submission.proofs.SubmitCode.{held_room, place_same, place_other, place_store}
use Rattle.submission.proofs.choose.place.Goals as goal

pub overflow_add-at : goal.overflow_add-at
overflow_add-at c = omega (arith, held_room _ _ _ c.requires c.in-Some.is)

pub slice_bounds-same_bytes-end : goal.slice_bounds-same_bytes-end
slice_bounds-same_bytes-end c = omega (arith, held_room _ _ _ c.requires c.in-Some.is)

pub returns-then-same_bytes : goal.returns-then-same_bytes
returns-then-same_bytes c = place_same _ _ _ _ _ c.in-Some.is _ c.same_bytes.ensures c.if-same_bytes.true

pub returns-else-same_bytes : goal.returns-else-same_bytes
returns-else-same_bytes c = place_other _ _ _ _ _ c.in-Some.is _ c.same_bytes.ensures c.if-same_bytes.false

pub returns-in-None : goal.returns-in-None
returns-in-None c = place_store _ _ _ _ c.in-None.is
