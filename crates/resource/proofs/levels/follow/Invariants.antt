-- The invariant of `follow`: the flag and the bytes from i on decide.
use Rattle.resource.proofs.FollowCode.{Left}
use Rattle.resource.proofs.levels.follow.Given as goal

abbrev pub invariant-loop-i : goal.invariant-loop-i
invariant-loop-i l = Left l.wild l.s l.ok l.i
