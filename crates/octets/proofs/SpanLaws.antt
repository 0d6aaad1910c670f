-- Laws of the part that bytes have from a place on (specs/Span.antt). Assumes nothing.
use mathlib.Core.Path.{◌≡◌}
use mathlib.Core.List.{List}
use Prim.Native.Nat.{ℕ, ◌+◌, ◌-◌, ◌≤◌, ◌<◌}
use native.Mathlib.Omega.{arith}
use Rattle.std.proofs.lemmas.Bool.Decides.{nat_tests}
use lib.ListN.{length}
use Rattle.octets.specs.Span.{span_of, inside}

-- bytes that are not all there are none
pub inside_short : (s : List ℕ) (start n : ℕ) → length s < start + n → inside s start n ≡ span_of 0 0
unfolding inside
inside_short s start n h = grind (arith, nat_tests)

-- bytes that are there are the part
pub inside_fits : (s : List ℕ) (start n : ℕ) → start ≤ length s → n ≤ length s - start → inside s start n ≡ span_of start n
unfolding inside
inside_fits s start n h l = grind (arith, nat_tests)
