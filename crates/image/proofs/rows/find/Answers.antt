-- `find` meets its contract.
use mathlib.Core.Path.{sym, ◌∙◌}
use Rattle.std.proofs.lemmas.Result.{err_from_is_err_and}
use Rattle.image.proofs.CheckCode.{find_bad, found_unsound, found_none, found_body}
use Rattle.image.proofs.rows.find.Goals as goal

pub returns-then-id-ne-ID_SIZE : goal.returns-then-id-ne-ID_SIZE
returns-then-id-ne-ID_SIZE c = find_bad _ _ _ c.if-id-ne-ID_SIZE.true

pub returns-in_err-contents : goal.returns-in_err-contents
returns-in_err-contents c =
    let p = err_from_is_err_and c.from_residual.result c.from_residual.ensures.1 in
    rw (p.1, p.2)
    (found_unsound _ _ _ _ c.if-id-ne-ID_SIZE.false c.check.ensures _ (sym c.ok_or.ensures.value ∙ c.in_err-contents.was))

pub returns-in_err-held : goal.returns-in_err-held
returns-in_err-held c =
    let p = err_from_is_err_and c.from_residual-in_err-held.result c.from_residual-in_err-held.ensures.1 in
    rw (p.1, p.2)
    (found_none _ _ _ _ c.if-id-ne-ID_SIZE.false c.check.ensures _ _ (sym c.ok_or.ensures.value ∙ c.in_ok-contents.was)
    (sym c.ok_or-2.ensures.value ∙ c.in_err-held.was))

pub returns : goal.returns
returns c =
    found_body _ _ _ _ c.if-id-ne-ID_SIZE.false c.check.ensures _ _ (sym c.ok_or.ensures.value ∙ c.in_ok-contents.was)
    (sym c.ok_or-2.ensures.value ∙ c.in_ok-held.was)
