-- `fresh` meets its contract.
use Rattle.std.proofs.Common.{◌≡◌, ◌+◌, ◌≤◌, length}
use Rattle.narrowing.proofs.CoverCode.{fresh_of}
use Rattle.narrowing.proofs.range.fresh.Given as goal

-- the rest, after as many "*" as were taken, decides as the whole
abbrev pub invariant-loop-next : goal.invariant-loop-next
invariant-loop-next l = (l.taken + length l.rest ≤ length l.q) × (fresh_of 0 l.q ≡ fresh_of l.taken l.rest)

abbrev pub decreases-loop-next : goal.decreases-loop-next
decreases-loop-next l = length l.rest
