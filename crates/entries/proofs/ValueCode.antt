-- The ways out of the readers of single values. Assumes nothing.
use mathlib.Core.Path.{◌≡◌, refl, sym, ◌∙◌}
use mathlib.Core.Bool.{Bool, true, false, ◌&&◌}
use mathlib.Core.List.{List}
use Prim.Native.Nat.{ℕ, ◌+◌, ◌-◌, ◌/◌, ◌%◌, ◌≤◌, ◌<◌}
use native.Mathlib.Omega.{arith}
use lib.ListN.{length, get_or}
use lib.Dec.{ltb, leb, eqb}
use borrow.Author.Tests.{ltb-false, le-leb, lt-leb}
use Rattle.octets.specs.Number.{number_at}
use Rattle.octets.proofs.Tests.{by_cond}
use Rattle.exact.specs.Reads.{Got, got, refused, bind, guard}
use Rattle.exact.specs.Holds.{Holds}
use Rattle.exact.proofs.ReadsLaws.{stopped, flag_no}
use Rattle.cbor_item_spec.specs.Head.{Head, head_of, long_head, wide_head, head_at}
use Rattle.entries_spec.specs.Kinds.{within}
use Rattle.entries_spec.specs.Value.{count_at}

-- ---- numbers

-- at or past the end there is no number
pub count_none : (s : List ℕ) (at major lo hi : ℕ) → length s ≤ at → refused ≡ count_at s at major lo hi
unfolding count_at head_at
count_none s at major lo hi h = stopped _ (rw (le-leb (length s) at h))

-- a head of a number of 24 or more
abbrev Large : Head → ℕ → Type 0
Large h n = 24 ≤ h.number

-- a head whose number stands in the bytes after the first is such a head
long_large : (s : List ℕ) (at major w least : ℕ) → 24 ≤ least → Holds Large (long_head s at major w least)
unfolding long_head
long_large s at major w least l =
    by_cond (Holds Large) (ltb (length s - (at + 1)) w) (λ e. tt) λ e.
    by_cond (Holds Large) (ltb (number_at s (at + 1) w) least) (λ f. tt) λ f. omega (arith, ltb-false)

-- so it is for each width
wide_large : (s : List ℕ) (at major info : ℕ) → Holds Large (wide_head s at major info)
unfolding wide_head
wide_large s at major info =
    by_cond (Holds Large) (eqb info 24) (λ e. long_large s at major _ _ (omega arith)) λ e.
    by_cond (Holds Large) (eqb info 25) (λ e. long_large s at major _ _ (omega arith)) λ e.
    by_cond (Holds Large) (eqb info 26) (λ e. long_large s at major _ _ (omega arith)) λ e.
    by_cond (Holds Large) (eqb info 27) (λ e. long_large s at major _ _ (omega arith)) λ e. tt

-- a number above hi is not at most hi, whatever else is asked of it
above : (t u : Bool) (hi n : ℕ) → hi < n → (t && (u && leb n hi)) ≡ false
above true true hi n h = lt-leb n hi h
above true false hi n h = refl
above false u hi n h = refl

module _ (s : List ℕ) (at major lo hi : ℕ) (small : hi < 24) where
  -- the number of a head of the major type, where it is from lo to hi
  abbrev counted : Head → ℕ → Got ℕ
  counted h n = guard (eqb h.major major && within lo hi h.number) (got h.number n)

  -- a number of 24 or more is refused
  large_no : (o : Got Head) → Holds Large o → bind o counted ≡ refused
  unfolding bind
  large_no (got h n) l = sym (flag_no _ _ _ refl (above (eqb h.major major) (leb lo h.number) hi h.number (omega arith)))
  large_no refused l = refl

  -- so the first byte of the head decides
  pub small_count : at < length s
      → guard (eqb (get_or s at 0 / 32) major && within lo hi (get_or s at 0 % 32)) (got (get_or s at 0 % 32) (at + 1))
      ≡ count_at s at major lo hi
  unfolding count_at head_at bind
  small_count h =
      let short : Got Head = got (head_of (get_or s at 0 / 32) (get_or s at 0 % 32)) (at + 1) in
      let wide : Got Head = wide_head s at (get_or s at 0 / 32) (get_or s at 0 % 32) in
      rw (lt-leb (length s) at h)
      (by_cond (λ o. bind short counted ≡ bind o counted) (ltb (get_or s at 0 % 32) 24) (λ e. refl)
      (λ e. large_no short (ltb-false _ _ e) ∙ sym (large_no wide (wide_large s at _ _))))
