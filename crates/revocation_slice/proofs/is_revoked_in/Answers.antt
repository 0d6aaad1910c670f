-- `is_revoked_in` meets its contract.
use Rattle.std.proofs.Common.{sym, ◌∙◌, rules}
use borrow.Author.Tests.{tests}
use Rattle.std.proofs.lemmas.Iterator.{YieldsList-from_slice}
use Rattle.std.proofs.lemmas.Iterator.Search.{any_from_yields_List}
use Rattle.revocation_spec.specs.Revocation.{revokes}
use Rattle.revocation_spec.proofs.Laws.{revoked_any}
use Rattle.revocation_slice.proofs.is_revoked_in.Goals as goal

pub returns : goal.returns
returns c =
    any_from_yields_List (λ r. revokes r c.args.id.now c.args.clock) _ _ _ c.any.ensures.ran (YieldsList-from_slice c.args.rows.now cc)
    (λ x b q k. search (rules, tests))
    ∙ sym (revoked_any c.args.rows.now c.args.id.now c.args.clock)
