-- `store` meets its contract.
use mathlib.Core.Path.{ap, ◌∙◌}
use mathlib.Core.List.{List}
use Prim.Native.Nat.{ℕ, ◌+◌}
use native.Mathlib.Omega.{arith}
use lib.ListN.{get_or, set}
use Rattle.octets.proofs.OverLaws.{written_none, written_more, written_all}
use Rattle.match_lines.proofs.write.store.Goals as goal

pub loop-i-init : goal.loop-i-init
loop-i-init c = written_none _ _ _

pub loop-i-preserved : goal.loop-i-preserved
loop-i-preserved c =
    let l = c.loop-i in
    let a = c.args in
    ap (λ (x : List ℕ). set x (a.at + l.i) (get_or a.text.now l.i 0)) l.invariant
    ∙ written_more a.out.now a.at a.text.now l.i (omega arith) (omega arith)

pub returns : goal.returns
returns c = c.loop-i.invariant ∙ written_all _ _ _ _ (omega arith)
