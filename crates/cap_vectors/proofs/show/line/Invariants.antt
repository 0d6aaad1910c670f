-- What has been written is within the line.
use Rattle.std.proofs.Common.{◌≤◌, length}
use Rattle.cap_vectors.proofs.show.line.Given as goal

abbrev pub invariant-loop-n : goal.invariant-loop-n
invariant-loop-n g l = l.from ≤ length l.s
