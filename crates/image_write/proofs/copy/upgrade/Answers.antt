-- `upgrade` meets its contract.
use mathlib.Core.Path.{sym, ◌∙◌}
use native.Mathlib.Omega.{arith}
use Rattle.std.proofs.lemmas.Result.{err_from_is_err_and}
use Rattle.octets.proofs.BytesLaws.{are_bytes}
use Rattle.image_spec.specs.Layout.{edition2}
use Rattle.image_spec.proofs.Laws.{edition1_ok, edition2_ok}
use Rattle.image_write.proofs.CopyCode.{upgrade_bad, upgrade_sound, upgrade_short, upgrade_room, upgrade_done, first_bounds}
use Rattle.image_write.proofs.copy.upgrade.Goals as goal

pub returns-in_err-contents : goal.returns-in_err-contents
returns-in_err-contents c =
    let p = err_from_is_err_and c.from_residual.result c.from_residual.ensures.1 in
    rw (p.1, p.2) (upgrade_bad _ _ _ _ _ c.check_first.ensures _ (sym c.ok_or.ensures.value ∙ c.in_err-contents.was))

pub overflow_sub-len : goal.overflow_sub-len
overflow_sub-len c =
    let b =
    first_bounds _ _ _ (are_bytes c.args.old.now c.type_inv.old) (upgrade_sound _ edition2 _ c.args.d.now _ c.check_first.ensures _ (sym c.ok_or.ensures.value ∙ c.in_ok-contents.was)) in
    omega (arith, (c.place-2.ensures.in_image (edition1_ok, b.0)), (c.place.ensures.in_image (edition2_ok, omega (arith, b.0))), b.4)

pub overflow_add-len : goal.overflow_add-len
overflow_add-len c =
    let b =
    first_bounds _ _ _ (are_bytes c.args.old.now c.type_inv.old) (upgrade_sound _ edition2 _ c.args.d.now _ c.check_first.ensures _ (sym c.ok_or.ensures.value ∙ c.in_ok-contents.was)) in
    record { fits = omega (arith, c.place.ensures.upper_bound, b.3) }

pub returns-then-d-len : goal.returns-then-d-len
returns-then-d-len c =
    let b =
    first_bounds _ _ _ (are_bytes c.args.old.now c.type_inv.old) (upgrade_sound _ edition2 _ c.args.d.now _ c.check_first.ensures _ (sym c.ok_or.ensures.value ∙ c.in_ok-contents.was)) in
    upgrade_short _ _ _ _ _ c.check_first.ensures _ (sym c.ok_or.ensures.value ∙ c.in_ok-contents.was) _ _ (c.place.ensures.in_image (edition2_ok, omega (arith, b.0)))
    (c.place-2.ensures.in_image (edition1_ok, b.0)) c.if-d-len.true

pub copy_image-requires : goal.copy_image-requires
copy_image-requires c =
    let b =
    first_bounds _ _ _ (are_bytes c.args.old.now c.type_inv.old) (upgrade_sound _ edition2 _ c.args.d.now _ c.check_first.ensures _ (sym c.ok_or.ensures.value ∙ c.in_ok-contents.was)) in (
      edition1_ok,
      edition2_ok,
      b.0,
      omega (arith, b.0),
      b.4,
      b.1,
      b.2,
      upgrade_room _ _ _ c.args.d.now _ c.check_first.ensures _ (sym c.ok_or.ensures.value ∙ c.in_ok-contents.was) _ _
          (c.place.ensures.in_image (edition2_ok, omega (arith, b.0))) (c.place-2.ensures.in_image (edition1_ok, b.0)) c.if-d-len.false,
    )

pub returns : goal.returns
returns c =
    let b =
    first_bounds _ _ _ (are_bytes c.args.old.now c.type_inv.old) (upgrade_sound _ edition2 _ c.args.d.now _ c.check_first.ensures _ (sym c.ok_or.ensures.value ∙ c.in_ok-contents.was)) in
    upgrade_done _ _ _ _ _ c.check_first.ensures _ (sym c.ok_or.ensures.value ∙ c.in_ok-contents.was) _ _ (c.place.ensures.in_image (edition2_ok, omega (arith, b.0)))
    (c.place-2.ensures.in_image (edition1_ok, b.0)) _ c.if-d-len.false c.copy_image.ensures
