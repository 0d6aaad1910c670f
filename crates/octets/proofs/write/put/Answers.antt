-- `put` meets its contract.
use mathlib.Core.Path.{sym, ap, ◌∙◌}
use mathlib.Core.List.{List}
use Prim.Native.Nat.{ℕ, ◌+◌}
use native.Mathlib.Omega.{arith}
use lib.ListN.{get_or, set}
use Rattle.octets.proofs.OverLaws.{written_none, written_more, written_all, put_fits}
use Rattle.octets.proofs.write.put.Goals as goal

pub loop-i-init : goal.loop-i-init
loop-i-init c = written_none _ _ _

pub loop-i-preserved : goal.loop-i-preserved
loop-i-preserved c =
    let l = c.loop-i in
    let a = c.args in
    ap (λ (x : List ℕ). set x (a.at + l.i) (get_or a.s.now l.i 0)) l.invariant
    ∙ written_more a.d.now a.at a.s.now l.i (omega arith) (omega arith)

pub returns : goal.returns
returns c =
    let a = c.args in
    c.loop-i.invariant ∙ written_all _ _ _ _ (omega arith) ∙ sym (put_fits a.d.now a.at a.s.now (omega arith))
