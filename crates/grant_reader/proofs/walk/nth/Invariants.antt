-- What is left to pass, from the place reached, leads to the same grant.
use Rattle.std.proofs.Common.{◌≡◌, ◌-◌}
use Rattle.descriptor_spec.specs.Reader.{grant_at}
use Rattle.grant_reader.specs.Code.{place_from, nth_of}
use Rattle.grant_reader.proofs.walk.nth.Given as goal

abbrev pub invariant-loop : goal.invariant-loop
invariant-loop l = nth_of l.s l.index ≡ grant_at l.s (place_from l.s l.at (l.index - l.counter))
