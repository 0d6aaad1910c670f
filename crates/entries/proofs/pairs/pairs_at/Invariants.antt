-- `pairs_at` meets its contract. The invariant: the last key lies in the bytes, and the pairs that are left decide.
use mathlib.Core.Path.{◌≡◌}
use Prim.Native.Nat.{◌+◌, ◌-◌, ◌≤◌}
use lib.ListN.{length}
use Rattle.exact.specs.Reads.{many}
use Rattle.octets.specs.Span.{span_of}
use Rattle.entries_spec.specs.Reader.{pair_at}
use Rattle.entries.proofs.pairs.pairs_at.Given as goal

abbrev pub invariant-loop : goal.invariant-loop
invariant-loop l = record {
  inside : l.last.start + l.last.len ≤ length l.s;
  left : many (pair_at l.s) (l.count - l.counter) (span_of l.last.start l.last.len) l.here
      ≡ many (pair_at l.s) l.count (span_of 0 0) l.next;
}
