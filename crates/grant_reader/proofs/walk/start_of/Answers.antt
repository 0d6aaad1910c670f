-- `start_of` gives the place where the walk over the grants begins.
use Rattle.grant_reader.proofs.WalkLaws.{starts}
use Rattle.grant_reader.proofs.walk.start_of.Goals as goal

pub returns-in-Ok : goal.returns-in-Ok
returns-in-Ok c = starts _ c.read_descriptor.ensures c.in-Ok.is

pub returns-in-Err : goal.returns-in-Err
returns-in-Err c = starts _ c.read_descriptor.ensures c.in-Err.is
