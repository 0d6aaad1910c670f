-- `cover` meets its contract. The invariant: what is left of both decides as the whole, and is no longer. The measure: the length of
-- what is left of q.
use mathlib.Core.Path.{◌≡◌}
use Prim.Native.Nat.{◌≤◌}
use lib.ListN.{length}
use Rattle.narrowing.specs.Range.{text_range}
use Rattle.narrowing.proofs.range.cover.Given as goal

abbrev pub invariant-loop-rest_q : goal.invariant-loop-rest_q
invariant-loop-rest_q l = (length l.rest_q ≤ length l.q) × (length l.rest_p ≤ length l.p)
    × (text_range l.q l.p ≡ text_range l.rest_q l.rest_p)

abbrev pub decreases-loop-rest_q : goal.decreases-loop-rest_q
decreases-loop-rest_q l = length l.rest_q
