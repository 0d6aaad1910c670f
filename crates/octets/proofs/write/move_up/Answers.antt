-- `move_up` meets its contract.
use mathlib.Core.Path.{◌≡◌, sym, ap, ◌∙◌}
use mathlib.Core.List.{List}
use Prim.Native.Nat.{ℕ, ◌+◌, ◌-◌}
use native.Mathlib.Omega.{arith}
use lib.ListN.{get_or, set}
use Rattle.octets.specs.Write.{moved}
use Rattle.octets.proofs.OverLaws.{moved_none, moved_more, moved_fits}
use Rattle.octets.proofs.write.move_up.Goals as goal

pub loop-i-init : goal.loop-i-init
loop-i-init c = (omega arith, moved_none _ _ _)

pub loop-i-preserved : goal.loop-i-preserved
loop-i-preserved c =
    let l = c.loop-i in
    let a = c.args in (
      omega arith,
      ap (λ (x : List ℕ). set x ((l.i - 1) + a.by) (get_or x (l.i - 1) 0)) l.invariant.1
          ∙ moved_more a.d.now l.i a.to a.by (omega arith) (omega arith) (omega arith),
    )

pub returns : goal.returns
returns c =
    let l = c.loop-i in
    let a = c.args in
    let e : l.i ≡ a.from = omega arith in
    l.invariant.1
    ∙ ap (λ (k : ℕ). moved a.d.now k a.to a.by) e
    ∙ sym (moved_fits a.d.now a.from a.to a.by (omega arith) (omega arith))
