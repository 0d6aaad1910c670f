-- The steps left answer what all do; where the path has no "*", the levels left match as all do, and the names counted are those of the
-- levels before. The measure: the bytes left of the pattern.
use Rattle.std.proofs.Common.{◌≡◌, ◌+◌, ◌≤◌, true, length}
use Rattle.octets.specs.Scan.{without}
use Rattle.resource.specs.Laws.{Later}
use Rattle.resource.proofs.LevelsCode.{Walked}
use Rattle.resource.proofs.matcher.match_levels.Given as goal

abbrev pub invariant-loop-names : goal.invariant-loop-names
invariant-loop-names l = record {
  walked : Walked l.p l.r l.rest_p l.rest_r l.counted;
  left : without 42 l.r ≡ true → Later l.p l.r l.counted l.rest_p l.rest_r;
  room_p : l.counted + length l.rest_p ≤ length l.p;
  room_r : length l.rest_r ≤ length l.r;
}

abbrev pub decreases-loop-names : goal.decreases-loop-names
decreases-loop-names l = length l.rest_p
