-- `payload_part` meets its contract.
use mathlib.Core.Path.{refl}
use native.Mathlib.Omega.{arith}
use Rattle.octets.specs.Bytes.{part}
use Rattle.descriptor.proofs.payload_part.Goals as goal

pub returns-in-Ok : goal.returns-in-Ok
returns-in-Ok c = rw c.in-Ok.is c.part_at.ensures

pub returns-in-Err : goal.returns-in-Err
unfolding part
returns-in-Err c = rw c.in-Err.is (record { inside = omega arith; holds = refl; block = refl; offset = omega arith })
