-- `lowest` meets its contract.
use Rattle.std.proofs.Common.{◌≡◌, ◌-◌}
use Rattle.narrowing.specs.Code.{lowest_from}
use Rattle.narrowing.proofs.search.lowest.Given as goal

-- the search from the mode on answers what the whole search does
abbrev pub invariant-loop-mode : goal.invariant-loop-mode
invariant-loop-mode l = lowest_from l.d l.mask l.from l.to 0 4 ≡ lowest_from l.d l.mask l.from l.to l.mode (4 - l.mode)
