-- `least_lacking` meets its contract.
use Rattle.std.proofs.Common.{◌≡◌, ◌-◌}
use Rattle.narrowing_spec.specs.Escape.{least}
use Rattle.narrowing.specs.Code.{lacks_at}
use Rattle.narrowing.proofs.search.least_lacking.Given as goal

-- the search from k on answers what the whole search does
abbrev pub invariant-loop-k : goal.invariant-loop-k
invariant-loop-k l = least (lacks_at l.d l.mode) l.from (l.to - l.from) ≡ least (lacks_at l.d l.mode) l.k (l.to - l.k)
