-- `choose` meets its contract.
use mathlib.Core.Path.{sym, subst}
use native.Mathlib.Omega.{arith}
use Rattle.image_spec.specs.Layout.{edition2}
use Rattle.image_spec.specs.Laws.{CheckFits}
use Rattle.image_spec.proofs.Laws.{edition2_ok, check_inside}
use Rattle.octets.proofs.BytesLaws.{are_bytes}
use Rattle.submission.proofs.SubmitCode.{id_room, choice_malformed, choice_read, choice_unread}
use Rattle.submission.proofs.choose.choose.Goals as goal

pub returns-then-host-gt2 : goal.returns-then-host-gt2
returns-then-host-gt2 c = (choice_malformed _ _ _ _ _ (omega arith), are_bytes c.args.image.now c.type_inv.image)

pub overflow_add-id : goal.overflow_add-id
overflow_add-id c = omega (arith, id_room _ _ _ c.read_entering.ensures c.in-Ok.is)

pub slice_bounds-check_latest-end : goal.slice_bounds-check_latest-end
slice_bounds-check_latest-end c = omega (arith, id_room _ _ _ c.read_entering.ensures c.in-Ok.is)

pub choose_read-requires : goal.choose_read-requires
choose_read-requires c =
    subst (CheckFits c.args.image.now) (sym c.check_latest-found.ensures)
    (check_inside edition2 edition2_ok _ _ (are_bytes c.args.image.now c.type_inv.image))

pub returns-in-Ok : goal.returns-in-Ok
returns-in-Ok c = (
  choice_read _ _ _ _ _ (omega arith) _ c.read_entering.ensures _ _ _ c.in-Ok.is c.check_latest-found.ensures
      c.choose_read.ensures,
  are_bytes c.args.image.now c.type_inv.image,
)

pub returns-in-Err : goal.returns-in-Err
returns-in-Err c =
    let bytes = are_bytes c.args.image.now c.type_inv.image in
    (choice_unread _ _ _ _ _ (omega arith) _ c.read_entering.ensures bytes _ _ c.in-Err.is c.choose_unread.ensures, bytes)
