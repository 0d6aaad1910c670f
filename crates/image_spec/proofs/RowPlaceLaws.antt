-- Where rows stand (specs/Layout.antt): one row more, rows in order, and a bound. Assumes nothing.
use mathlib.Core.Path.{◌≡◌, ap}
use Prim.Native.Nat.{ℕ, ◌+◌, ◌*◌, ◌≤◌, ◌<◌}
use native.Mathlib.Omega.{arith}
use native.Mathlib.Nat.{mul-suc, mul-le-mul_left, mul-le-mul_right}
use native.Mathlib.Numerals.{add-one}
use borrow.Author.Tests.{le-leb}
use Rattle.image_spec.specs.declared.layout.Layout.{Layout}
use Rattle.image_spec.specs.Layout.{header_size, edition1, edition2, row_size, most_rows, row_place, place_within, LayoutOk}

-- edition 1 is allowed
pub edition1_ok : LayoutOk edition1
edition1_ok = record {
  numbered = omega arith;
  wide = omega arith;
  last = omega arith;
  moment = omega arith;
  narrow = omega arith;
  few = omega arith;
}

-- edition 2 is allowed
pub edition2_ok : LayoutOk edition2
edition2_ok = record {
  numbered = omega arith;
  wide = omega arith;
  last = omega arith;
  moment = omega arith;
  narrow = omega arith;
  few = omega arith;
}

module _ (l : Layout) where
  -- the first row stands after the header
  pub place_first : row_place l 0 ≡ header_size
  unfolding row_place
  place_first = omega arith

  -- one row more
  pub place_next : (i : ℕ) → row_place l (i + 1) ≡ row_place l i + row_size l
  unfolding row_place
  place_next i = omega (arith, ap (λ (j : ℕ). row_size l * j) (add-one i), mul-suc (row_size l) i)

  -- a row ends before any after it begins
  pub place_order : (i n : ℕ) → i < n → row_place l i + row_size l ≤ row_place l n
  unfolding row_place
  place_order i n h = omega (arith, mul-suc (row_size l) i, mul-le-mul_left (row_size l) h)

  -- rows stand in order
  pub place_up : (i n : ℕ) → i ≤ n → row_place l i ≤ row_place l n
  unfolding row_place
  place_up i n h = omega (arith, mul-le-mul_left (row_size l) h)

  -- every row stands after the header
  pub place_after_lem : (n : ℕ) → header_size ≤ row_place l n
  unfolding row_place
  place_after_lem n = omega arith

  -- the place of a row that there may be
  pub place_within_lem : LayoutOk l → (i : ℕ) → i ≤ most_rows l → place_within l i ≡ row_place l i
  unfolding place_within
  place_within_lem ok i h = rw (le-leb (row_size l) 1024 ok.narrow, le-leb i 65535 (omega (arith, ok.few)))

  -- the offsets of bodies of at most 32768 bytes each fit 4 bytes
  pub place_small : LayoutOk l → (n : ℕ) → n ≤ most_rows l → row_place l n + 32768 * n < 4294967296
  unfolding row_place
  place_small ok n h = omega (arith, mul-le-mul_right n ok.narrow)
