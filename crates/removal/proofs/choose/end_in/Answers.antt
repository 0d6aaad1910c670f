-- `end_in` meets its contract.
use mathlib.Core.Path.{sym, ap}
use Rattle.image_spec.specs.Choose.{end_in}
use Rattle.removal.proofs.choose.end_in.Goals as goal

pub returns-in-Ok : goal.returns-in-Ok
returns-in-Ok c = sym (ap end_in c.in-Ok.is)

pub returns-in-Err : goal.returns-in-Err
returns-in-Err c = sym (ap end_in c.in-Err.is)
