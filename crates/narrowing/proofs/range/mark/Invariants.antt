-- `mark` meets its contract.
use Rattle.std.proofs.Common.{◌≡◌, length}
use Rattle.narrowing.specs.Range.{range, marked}
use Rattle.narrowing.proofs.range.mark.Given as goal

-- the numbers from k on lead from d to the same as all numbers from the masks at the beginning
abbrev pub invariant-loop-k : goal.invariant-loop-k
invariant-loop-k l = (length l.d ≡ length l.initial.d) × (marked 0 l.initial.d l.fn.r l.mask ≡ marked 0 l.d (range l.k l.fn.r.end) l.mask)
