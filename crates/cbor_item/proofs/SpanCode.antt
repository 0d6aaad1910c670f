-- The span of a string by a head of one byte or of two (specs/Head.antt of `cbor_item_spec`), in the code's own form. Assumes nothing.
use mathlib.Core.Path.{◌≡◌, refl, sym, ◌∙◌}
use mathlib.Core.Bool.{true, ◌&&◌}
use mathlib.Core.List.{List}
use Prim.Native.Nat.{ℕ, ◌+◌, ◌-◌, ◌/◌, ◌%◌, ◌≤◌, ◌<◌}
use native.Mathlib.Omega.{arith}
use lib.ListN.{length, get_or}
use lib.Dec.{ltb, eqb}
use borrow.Author.Tests.{ltb-false, le-leb, lt-leb, eqb-true, eq-eqb}
use Rattle.octets.specs.Number.{number_at}
use Rattle.octets.proofs.Tests.{by_cond, and_left, and_right}
use Rattle.exact.specs.Reads.{Got, got, refused, bind, guard}
use Rattle.exact.specs.Holds.{Holds}
use Rattle.exact.proofs.HoldsLaws.{held}
use Rattle.cbor_item_spec.specs.Head.{Head, long_head, wide_head, head_at, span_in, span_at}

-- at or past the end there is no string
pub span_none : (s : List ℕ) (at major : ℕ) → length s ≤ at → refused ≡ span_at s at major
unfolding span_at head_at bind
span_none s at major h = rw (le-leb (length s) at h, bind)

-- a head whose number stands in bytes of its own ends within s
pub long_in : (s : List ℕ) (at major w least : ℕ) {h : Head} {n : ℕ} → at < length s → got h n ≡ long_head s at major w least
    → n ≤ length s
unfolding long_head
long_in s at major w least h e = held Within
    (by_cond (Holds Within) (ltb (length s - (at + 1)) w) (λ e. tt) λ e.
    by_cond (Holds Within) (ltb (number_at s (at + 1) w) least) (λ f. tt) λ f. omega (arith, ltb-false (length s - (at + 1)) w e)) e
  where
    Within : Head → ℕ → Type 0
    Within h n = n ≤ length s

-- such a head has the major type that its initial byte says
long_major : {Q : Type 0} (s : List ℕ) (at major w least : ℕ) (k : Head → ℕ → Got Q)
    → bind (long_head s at major w least) (λ h n. guard (eqb h.major major) (k h n)) ≡ bind (long_head s at major w least) k
unfolding long_head bind guard
long_major {Q} s at major w least k =
    by_cond Alike (ltb (length s - (at + 1)) w) (λ e. refl) λ e.
    by_cond Alike (ltb (number_at s (at + 1) w) least) (λ f. refl) λ f. rw (eq-eqb major major refl, guard)
  where
    Alike : Got Head → Type 0
    Alike o = bind o (λ h n. guard (eqb h.major major) (k h n)) ≡ bind o k

module _ (s : List ℕ) (at major : ℕ) (here : at < length s) where
  -- a head of one byte
  pub short_span : (eqb (get_or s at 0 / 32) major && ltb (get_or s at 0 % 32) 24) ≡ true
      → span_in s (at + 1) (get_or s at 0 % 32) ≡ span_at s at major
  unfolding span_at head_at bind span_in guard
  short_span e = rw (
    lt-leb (length s) at here,
    and_right (eqb (get_or s at 0 / 32) major) (ltb (get_or s at 0 % 32) 24) e,
    bind,
    and_left (eqb (get_or s at 0 / 32) major) (ltb (get_or s at 0 % 32) 24) e,
    guard,
  )

  -- a head of two bytes
  pub byte_span : (eqb (get_or s at 0 / 32) major && eqb (get_or s at 0 % 32) 24) ≡ true
      → bind (long_head s at major 1 24) (λ h start. span_in s start h.number) ≡ span_at s at major
  unfolding span_at head_at wide_head
  byte_span e =
      let kind : get_or s at 0 / 32 ≡ major = eqb-true _ _ (and_left (eqb (get_or s at 0 / 32) major) (eqb (get_or s at 0 % 32) 24) e) in
      let info : get_or s at 0 % 32 ≡ 24 = eqb-true _ _ (and_right (eqb (get_or s at 0 / 32) major) (eqb (get_or s at 0 % 32) 24) e) in
      sym (long_major s at major 1 24 (λ h start. span_in s start h.number)) ∙ rw (lt-leb (length s) at here, info, kind)
