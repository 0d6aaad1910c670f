-- `examine` meets its contract.
use Rattle.std.proofs.Common.{arith}
use Rattle.std.proofs.lemmas.Result.{err_from_is_err_and}
use Rattle.octets.proofs.BytesLaws.{are_bytes}
use Rattle.request.proofs.ArgumentCode.{formed}
use Rattle.request.proofs.ExamineCode.{held_inside, held_fits, decide_malformed, decide_unsound, decide_missing, decide_body, used_row}
use Rattle.request.proofs.examine.examine.Goals as goal

pub returns-in_err-lease : goal.returns-in_err-lease
returns-in_err-lease c =
    let p = err_from_is_err_and c.from_residual.result c.from_residual.ensures.1 in
    rw (p.1, p.2) (decide_malformed _ _ c.in_err-lease.ensures)

pub returns-in_default : goal.returns-in_default
returns-in_default c = decide_unsound _ _ (formed _ c.in_ok-lease.ensures) c.in_default.ensures

pub returns-in_default-held : goal.returns-in_default-held
returns-in_default-held c = decide_missing _ _ (formed _ c.in_ok-lease.ensures) c.in-Some.ensures c.in_default-held.is

pub overflow_add-body : goal.overflow_add-body
overflow_add-body c =
    omega (arith, held_inside _ _ _ _ (are_bytes c.args.image.now c.type_inv.image) c.in-Some.ensures c.in-Some-held.is)

pub slice_bounds-body-end : goal.slice_bounds-body-end
slice_bounds-body-end c =
    omega (arith, held_inside _ _ _ _ (are_bytes c.args.image.now c.type_inv.image) c.in-Some.ensures c.in-Some-held.is)

pub on_body-requires : goal.on_body-requires
on_body-requires c =
    let w = formed _ c.in_ok-lease.ensures in (
      w.resource,
      w.mode,
      held_fits _ _ _ _ (are_bytes c.args.image.now c.type_inv.image) c.in-Some.ensures c.in-Some-held.is,
      w.fits,
      w.clock,
    )

pub returns-in_err-granted : goal.returns-in_err-granted
returns-in_err-granted c =
    let p = err_from_is_err_and c.from_residual-in_err-granted.result c.from_residual-in_err-granted.ensures.1 in
    rw (p.1, p.2)
    (decide_body _ _ (formed _ c.in_ok-lease.ensures) c.in-Some.ensures c.in-Some-held.is c.in_err-granted.ensures)

pub returns : goal.returns
returns c = (
  decide_body _ _ (formed _ c.in_ok-lease.ensures) c.in-Some.ensures c.in-Some-held.is c.in_ok-granted.ensures,
  used_row _ _ (formed _ c.in_ok-lease.ensures) c.in-Some.ensures c.in-Some-held.is,
)
