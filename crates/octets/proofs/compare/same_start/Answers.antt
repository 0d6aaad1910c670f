-- `same_start` meets its contract.
use mathlib.Core.Path.{◌≡◌, refl, sym, ◌∙◌}
use native.Mathlib.Omega.{arith}
use Rattle.octets.specs.Bytes.{same}
use Rattle.octets.proofs.SameLaws.{same_last, start_both}
use Rattle.octets.proofs.compare.same_start.Goals as goal

pub loop-i-init : goal.loop-i-init
unfolding same
loop-i-init c = refl

pub loop-i-preserved : goal.loop-i-preserved
loop-i-preserved c =
    let a = c.args in
    rw c.loop-i.invariant (sym (same_last a.a.now a.b.now c.loop-i.i (omega arith) (omega arith)))

pub returns : goal.returns
returns c =
    let a = c.args in
    let all : c.loop-i.i ≡ a.n = omega arith in
    c.loop-i.invariant ∙ rw all (sym (start_both a.a.now a.b.now a.n (omega arith) (omega arith)))
