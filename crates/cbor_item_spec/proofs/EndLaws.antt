-- Heads end after their place, and heads and strings end within the bytes (specs/Laws.antt). Assumes nothing.
use mathlib.Core.Path.{refl}
use mathlib.Core.List.{List}
use Prim.Native.Nat.{ℕ, ◌+◌, ◌-◌, ◌%◌, ◌≤◌, ◌<◌}
use native.Mathlib.Omega.{arith}
use lib.ListN.{length, get_or}
use lib.Dec.{ltb, leb, eqb}
use borrow.Author.Tests.{ltb-false, leb-false}
use Rattle.octets.specs.Number.{number_at}
use Rattle.exact.specs.Holds.{Holds}
use Rattle.cbor_item_spec.specs.Head.{long_head, wide_head, head_at, span_in, span_at}
use Rattle.cbor_item_spec.specs.Laws.{HeadTo, SpanTo}
use Rattle.octets.proofs.Tests.{by_cond}
use Rattle.exact.proofs.HoldsLaws.{holds_map, holds_bind, holds_guard}

-- a head whose number stands in w bytes
long_ends : (s : List ℕ) (at major w least : ℕ) → at < length s → Holds (HeadTo s at) (long_head s at major w least)
unfolding long_head
long_ends s at major w least here =
    by_cond (Holds (HeadTo s at)) (ltb (length s - (at + 1)) w) (λ e. tt) λ e.
    by_cond (Holds (HeadTo s at)) (ltb (number_at s (at + 1) w) least) (λ f. tt) λ f.
    record { after = omega arith; fits = omega (arith, ltb-false) }

-- each width that the additional information names
wide_ends : (s : List ℕ) (at major info : ℕ) → at < length s → Holds (HeadTo s at) (wide_head s at major info)
unfolding wide_head
wide_ends s at major info here =
    by_cond (Holds (HeadTo s at)) (eqb info 24) (λ e. long_ends s at major _ _ here) λ e.
    by_cond (Holds (HeadTo s at)) (eqb info 25) (λ e. long_ends s at major _ _ here) λ e.
    by_cond (Holds (HeadTo s at)) (eqb info 26) (λ e. long_ends s at major _ _ here) λ e.
    by_cond (Holds (HeadTo s at)) (eqb info 27) (λ e. long_ends s at major _ _ here) λ e. tt

-- every head ends after its place and within s
pub heads_end : (s : List ℕ) (at : ℕ) → Holds (HeadTo s at) (head_at s at)
unfolding head_at
heads_end s at =
    by_cond (Holds (HeadTo s at)) (leb (length s) at) (λ e. tt) λ e.
    by_cond (Holds (HeadTo s at)) (ltb (get_or s at 0 % 32) 24) (λ f. record { after = omega arith; fits = omega (arith, leb-false) }) λ f.
    wide_ends s at _ _ (leb-false _ _ e)

-- a string's content begins at its place and ends within s
pub contents_end : (s : List ℕ) (start n : ℕ) → start ≤ length s → Holds (SpanTo s start) (span_in s start n)
unfolding span_in
contents_end s start n h =
    by_cond (Holds (SpanTo s start)) (ltb (length s - start) n) (λ e. tt) λ e.
    record { after = omega arith; ends = refl; fits = omega (arith, ltb-false) }

-- every string begins after its place and ends within s
pub spans_end : (s : List ℕ) (at major : ℕ) → Holds (SpanTo s at) (span_at s at major)
unfolding span_at
spans_end s at major =
    holds_bind (HeadTo s at) (SpanTo s at) _ _ (heads_end s at)
    (λ h n i. holds_guard (SpanTo s at) (eqb h.major major) _
    (λ t. holds_map (SpanTo s n) (SpanTo s at) (span_in s n h.number) (contents_end s n h.number i.fits)
    (λ c m j. record { after = omega (arith, i.after, j.after); ends = j.ends; fits = j.fits })))
