-- How many bytes of the input are left.
use Rattle.std.proofs.Common.{length, ◌-◌}
use Rattle.cap_vectors.proofs.all.Given as goal

abbrev pub decreases-loop-at : goal.decreases-loop-at
decreases-loop-at g l = length l.s - l.at
