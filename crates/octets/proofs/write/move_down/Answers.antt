-- `move_down` meets its contract.
use mathlib.Core.Path.{sym, ap, ◌∙◌}
use mathlib.Core.List.{List}
use Prim.Native.Nat.{ℕ, ◌+◌}
use native.Mathlib.Omega.{arith}
use lib.ListN.{get_or, set}
use Rattle.octets.proofs.MoveLaws.{lowering_none, lowering_more, lowering_all, down_fits}
use Rattle.octets.proofs.write.move_down.Goals as goal

pub loop-i-init : goal.loop-i-init
loop-i-init c = lowering_none _ _ _ _

pub loop-i-preserved : goal.loop-i-preserved
loop-i-preserved c =
    let l = c.loop-i in
    let a = c.args in
    ap (λ (x : List ℕ). set x (a.to + l.i) (get_or x (a.from + l.i) 0)) l.invariant
    ∙ lowering_more a.d.now a.from a.to a.n l.i (omega arith) (omega arith) (omega arith)

pub returns : goal.returns
returns c =
    let a = c.args in
    c.loop-i.invariant
    ∙ lowering_all _ _ _ _ _ (omega arith) (omega arith)
    ∙ sym (down_fits a.d.now a.from a.to a.n (omega arith) (omega arith))
