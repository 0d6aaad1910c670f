-- `has_at` meets its contract.
use mathlib.Core.Path.{refl, sym, ◌∙◌}
use native.Mathlib.Omega.{arith}
use Rattle.octets.specs.Bytes.{part, same}
use Rattle.octets.proofs.SameLaws.{same_at_last, same_at_all}
use Rattle.octets.proofs.order.has_at.Goals as goal

pub loop-i-init : goal.loop-i-init
unfolding part same
loop-i-init c = refl

pub loop-i-preserved : goal.loop-i-preserved
loop-i-preserved c = rw c.loop-i.invariant (sym (same_at_last _ _ _ c.loop-i.i (omega arith) (omega arith)))

pub returns : goal.returns
returns c = c.loop-i.invariant ∙ same_at_all _ _ _ c.loop-i.i (omega arith)
