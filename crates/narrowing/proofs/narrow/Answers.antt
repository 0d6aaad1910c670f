-- `narrow` meets its contract.
use Rattle.std.proofs.Common.{◌∙◌}
use Rattle.octets.proofs.BytesLaws.{are_bytes}
use Rattle.narrowing.proofs.NarrowCode.{terminal_room, grants_few, narrow_both, narrow_child, narrow_no_parent}
use Rattle.narrowing.proofs.narrow.Goals as goal

pub returns-in_default : goal.returns-in_default
returns-in_default c = narrow_no_parent _ _ _ c.in_default.ensures

pub compared-requires : goal.compared-requires
compared-requires c =
    let s = are_bytes _ c.type_inv.parent in
    let t = are_bytes _ c.type_inv.child in (
      terminal_room _ _ s c.in-Ok.ensures,
      terminal_room _ _ t c.in-Ok-read_descriptor.ensures,
      grants_few _ _ s c.in-Ok.ensures,
    )

pub returns-in-Ok-read_descriptor : goal.returns-in-Ok-read_descriptor
returns-in-Ok-read_descriptor c =
    c.compared.ensures
    ∙ narrow_both _ _ _ _ (are_bytes _ c.type_inv.parent) (are_bytes _ c.type_inv.child) c.in-Ok.ensures c.in-Ok-read_descriptor.ensures

pub returns-in-Err-Structure : goal.returns-in-Err-Structure
returns-in-Err-Structure c =
    rw c.in-Err-Structure.field-0-is at (narrow_child _ _ _ _ c.in-Ok.ensures c.in-Err-Structure.ensures)

pub returns-in-Err-Validity : goal.returns-in-Err-Validity
returns-in-Err-Validity c =
    rw c.in-Err-Validity.field-0-is at (narrow_child _ _ _ _ c.in-Ok.ensures c.in-Err-Validity.ensures)
