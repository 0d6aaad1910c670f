-- Laws of one step of the search (specs/Code.antt), as the code's loops take them. Assumes nothing.
use Rattle.std.proofs.Common.{◌≡◌, refl, sym, ap, Bool, true, false, List, ℕ, zero, suc, ◌+◌, ◌-◌, ◌/◌, ◌^◌, ◌≤◌, ◌<◌, nat_eq, bit_and, Some, None, add-one, arith}
use Rattle.std.proofs.lemmas.Nat.{and_mask}
use Rattle.exact.specs.Reads.{got, refused}
use Rattle.descriptor_spec.specs.Reader.{has_mode, GrantSeen, grant_at}
use Rattle.narrowing_spec.specs.Escape.{least}
use Rattle.narrowing.specs.Range.{text_range, marked}
use Rattle.narrowing.specs.Code.{below, marked_at, lacks_at, at_mode, lowest_from}

-- ---- one mode

-- the bit of a mode, as the code tests it
pub mode_bit : (mask mode : ℕ) → nat_eq (bit_and (mask / 2 ^ mode) 1) 1 ≡ has_mode mask mode
unfolding has_mode
mode_bit mask mode = ap (λ (x : ℕ). nat_eq x 1) (and_mask (mask / 2 ^ mode) 1)

-- ---- the least number

-- k does not pass
pub least_miss : (f : ℕ → Bool) (k to : ℕ) → k < to → f k ≡ false → least f k (to - k) ≡ least f (k + 1) (to - (k + 1))
least_miss f k to h e = let n : to - k ≡ suc (to - (k + 1)) = omega arith in rw (n, e, add-one)

-- ---- the lowest mode

module _ (d : List ℕ) (mask from to m : ℕ) (h : m < 4) where
  -- the mask does not have the mode
  pub lowest_skip : has_mode mask m ≡ false → lowest_from d mask from to m (4 - m) ≡ lowest_from d mask from to (m + 1) (4 - (m + 1))
  unfolding lowest_from
  lowest_skip e = let n : 4 - m ≡ suc (4 - (m + 1)) = omega arith in rw (n, e, lowest_from)

  -- a path escapes in the mode
  pub lowest_hit : {k : ℕ} → has_mode mask m ≡ true → Some k ≡ least (lacks_at d m) from (to - from)
      → lowest_from d mask from to m (4 - m) ≡ Some (at_mode m k)
  unfolding lowest_from
  lowest_hit e f =
      let n : 4 - m ≡ suc (4 - (m + 1)) = omega arith in
      rw (n, e, sym f, lowest_from)

  -- none escapes in the mode
  pub lowest_miss : has_mode mask m ≡ true → None ≡ least (lacks_at d m) from (to - from)
      → lowest_from d mask from to m (4 - m) ≡ lowest_from d mask from to (m + 1) (4 - (m + 1))
  unfolding lowest_from
  lowest_miss e f =
      let n : 4 - m ≡ suc (4 - (m + 1)) = omega arith in
      rw (n, e, sym f, lowest_from)

-- no mode is left
pub lowest_end : (d : List ℕ) (mask from to m : ℕ) → 4 ≤ m → lowest_from d mask from to m (4 - m) ≡ None
unfolding lowest_from
lowest_end d mask from to m h = let n : 4 - m ≡ 0 = omega arith in rw (n, lowest_from)

-- ---- noting

module _ (s p d : List ℕ) (left here : ℕ) where
  -- one grant more was marked
  pub marked_next : {g : GrantSeen} {next : ℕ} → got g next ≡ grant_at s here
      → marked_at s p (marked 0 d (text_range (below s g.pattern) p) g.mask) left next ≡ marked_at s p d (suc left) here
  unfolding marked_at
  marked_next {g} {next} e = sym (rw (← e, marked_at))

  -- none could be read
  pub marked_stop : refused ≡ grant_at s here → d ≡ marked_at s p d left here
  unfolding marked_at
  marked_stop e = go left
    where
      go : (n : ℕ) → d ≡ marked_at s p d n here
      go zero = refl
      go (suc n) = sym (rw (← e, marked_at))
