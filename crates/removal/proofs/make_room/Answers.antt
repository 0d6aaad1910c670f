-- `make_room` meets its contract.
use native.Mathlib.Omega.{arith}
use Rattle.image_spec.proofs.Laws.{edition2_ok}
use Rattle.removal.proofs.RoomCode.{room_many, room_past, room_long, lent, made_of}
use Rattle.removal.proofs.make_room.Goals as goal
use Rattle.removal.proofs.make_room.Goals.{then-rows-via-then-rows, then-rows-via-else-rows+then-image-end}
use Rattle.removal.proofs.make_room.Goals.{then-rows-via-else-rows+else-image-end+then-more-gt-LONGEST}

pub returns-then-rows : goal.returns-then-rows
returns-then-rows c = elim c.then-rows.branch [
  | then-rows-via-then-rows w ↦ room_many _ _ _ _ _ _ w.if-rows.true
  | then-rows-via-else-rows+then-image-end w ↦ room_past _ _ _ _ _ _ w.if-image-end.true
  | then-rows-via-else-rows+else-image-end+then-more-gt-LONGEST w ↦ room_long _ _ _ _ _ _ w.if-more-gt-LONGEST.true
]

pub room_by-requires : goal.room_by-requires
room_by-requires c =
    let n = lent c.args.rows 1024 (omega arith) in
    (edition2_ok, omega (arith, n), omega arith, omega arith)

pub returns : goal.returns
returns c =
    let a = c.args in
    made_of _ a.image.now _ a.rows _ a.end a.clock.0 a.more _ (lent a.rows 1024 (omega arith)) c.room_by.ensures
