-- `search` meets its contract.
use Rattle.std.proofs.Common.{sym, ◌∙◌}
use Rattle.std.proofs.lemmas.Result.{err_from_is_err_and}
use Rattle.lease.proofs.RowCode.{none_bad}
use Rattle.lease.proofs.rows.search.Goals as goal

pub returns-in_err-lease : goal.returns-in_err-lease
returns-in_err-lease c =
    let p = err_from_is_err_and c.from_residual.result c.from_residual.ensures.1 in
    rw (p.1, none_bad _ c.loop-i.i _ c.loop-i-test.true c.loop-i.auto.i c.requires (sym c.read_row.ensures ∙ c.in_err-lease.ensures.ok_part))
