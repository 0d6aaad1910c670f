-- `moment_at` meets its contract.
use mathlib.Core.Path.{ap}
use Rattle.time.specs.Time.{seconds}
use Rattle.image_write.proofs.moments.moment_at.Goals as goal

pub returns : goal.returns
returns c = ap seconds c.number_at.ensures.value
