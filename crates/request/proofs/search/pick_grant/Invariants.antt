-- The search from here on answers what the whole search does.
use Rattle.std.proofs.Common.{◌≡◌, ◌-◌, None}
use Rattle.request_spec.specs.Decision.{pick_from}
use Rattle.request.proofs.search.pick_grant.Given as goal

abbrev pub invariant-loop-grant : goal.invariant-loop-grant
invariant-loop-grant l =
    pick_from l.s l.r l.mode l.count l.first 0 None ≡ pick_from l.s l.r l.mode (l.count - l.grant) l.at l.grant l.best
