-- The invariant of `answers`: what is left to be answered leads to the same as the whole block. The measure: what is left.
use Prim.Native.Nat.{◌-◌}
use lib.ListN.{length}
use Rattle.match_lines.proofs.LineCode.{Left}
use Rattle.match_lines.proofs.write.answers.Given as goal

abbrev pub invariant-loop-long : goal.invariant-loop-long
invariant-loop-long l = Left l.long l.s l.initial.out l.out l.from l.at l.too_long

abbrev pub decreases-loop-long : goal.decreases-loop-long
decreases-loop-long l = length l.s - l.from
