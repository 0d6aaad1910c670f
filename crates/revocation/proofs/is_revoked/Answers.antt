-- `is_revoked` meets its contract.
use mathlib.Core.Path.{refl, sym, ◌∙◌}
use native.Mathlib.Omega.{arith}
use Rattle.revocation.proofs.RevocationCode.{row_hit, row_next, row_none}
use Rattle.revocation.proofs.is_revoked.Goals as goal

pub loop-i-init : goal.loop-i-init
loop-i-init c = refl

pub returns-then-row_revokes : goal.returns-then-row_revokes
returns-then-row_revokes c =
    let l = c.loop-i in
    sym (l.invariant ∙ row_hit _ _ _ l.i (omega arith) c.row_revokes.ensures c.if-row_revokes.true)

pub loop-i-preserved : goal.loop-i-preserved
loop-i-preserved c =
    let l = c.loop-i in l.invariant ∙ row_next _ _ _ l.i (omega arith) c.row_revokes.ensures c.if-row_revokes.false

pub returns : goal.returns
returns c = let l = c.loop-i in sym (l.invariant ∙ row_none _ _ _ l.i (omega arith))
