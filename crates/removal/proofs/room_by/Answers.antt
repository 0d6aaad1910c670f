-- `room_by` meets its contract.
use Rattle.removal.proofs.RoomCode.{room_no, room_beyond, room_yes}
use mathlib.Core.Path.{◌∙◌}
use borrow.Author.Rules.{rules}
use Rattle.removal.proofs.room_by.Goals as goal

pub returns-in_err-choice : goal.returns-in_err-choice
returns-in_err-choice c =
    let p = c.requires in
    let none = room_no _ _ _ _ _ _ p.1 p.2 p.3 _ _ c.mark_all.ensures c.short_of-short.ensures c.in_err-choice.ensures.value in
    (c.from_residual.ensures ∙ none.0, none.1)

pub returns-then-end-choice : goal.returns-then-end-choice
returns-then-end-choice c =
    let p = c.requires in
    room_beyond _ _ _ _ _ _ p.1 p.2 p.3 _ _ c.mark_all.ensures c.short_of-short.ensures _ c.in_ok-choice.ensures.value
    c.if-end-choice.true

pub returns : goal.returns
returns c =
    let p = c.requires in
    room_yes _ _ _ _ _ _ p.1 p.2 p.3 _ _ c.mark_all.ensures c.short_of-short.ensures _ c.in_ok-choice.ensures.value
    _ _ _ c.in_ok-choice.ensures.marks_after c.if-end-choice.false (search rules) c.close.ensures
