-- `place_after` gives the place after the grant at a place.
use Rattle.std.proofs.Common.{sym}
use Rattle.grant_reader.proofs.WalkLaws.{after_got, after_none}
use Rattle.grant_reader.proofs.walk.place_after.Goals as goal

pub returns-in-Some : goal.returns-in-Some
returns-in-Some c = sym (after_got _ _ _ _ c.in-Some.ensures)

pub returns-in-None : goal.returns-in-None
returns-in-None c = sym (after_none _ _ c.in-None.ensures)
