-- `body_part` meets its contract.
use mathlib.Core.Path.{refl}
use native.Mathlib.Omega.{arith}
use Rattle.octets.specs.Bytes.{part}
use Rattle.image.proofs.body_part.Goals as goal

pub returns-in-Err : goal.returns-in-Err
unfolding part
returns-in-Err c = rw c.in-Err.is (record { inside = omega arith; holds = refl; block = refl; offset = omega arith })
