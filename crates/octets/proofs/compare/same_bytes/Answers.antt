-- `same_bytes` meets its contract.
use mathlib.Core.Path.{refl, ◌∙◌}
use native.Mathlib.Omega.{arith}
use lib.ListN.{length}
use Rattle.octets.proofs.SameLaws.{start_whole}
use Rattle.octets.proofs.compare.same_bytes.Goals as goal

pub returns : goal.returns
returns c = let a = c.args in c.same_start.ensures ∙ start_whole a.a.now a.b.now (length a.a.now) refl (omega arith)
