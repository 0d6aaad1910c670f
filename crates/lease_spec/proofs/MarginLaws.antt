-- The difference of two numbers as a signed number, by its two cases, and the margin of a lease (specs/Lease.antt). Assumes nothing.
use mathlib.Core.Path.{◌≡◌, sym, ap, ◌∙◌}
use mathlib.Core.Logic.{◌↔◌}
use Prim.Native.Nat.{ℕ, suc, ◌+◌, ◌^◌, ◌≤◌, ◌<◌}
use native.Mathlib.Omega.{arith}
use lib.Dec.{leb→le, le→leb, ltb→lt, lt→ltb}
use lib.IntN.{ℤ, pos, negsuc, ◌+ℤ◌, ◌-ℤ◌, pos-ne-negsuc, -ℤ-+ℤ_cancel}
use lib.Signed.{◌≤ℤ◌, ◌<ℤ◌, le_z_yes, lt_z_yes, mag}
use Rattle.time.proofs.Laws.{difference_by}
use Rattle.lease_spec.specs.declared.Lease.{Lease}
use Rattle.lease_spec.specs.Lease.{last_active, last_stale, margin_of}
use Rattle.lease_spec.specs.Promises.{active_end, stale_end, MarginExact, MarginSign, MarginFits}

-- ---- the difference of two numbers

-- a number is below a difference
pub below_sub : (n a b : ℕ) → (pos n <ℤ (pos a -ℤ pos b)) ↔ (n + b < a)
below_sub n a b = difference_by (λ z. (pos n <ℤ z) ↔ (n + b < a)) a b
    (λ k e. (λ h. omega (arith, ltb→lt n k h.lt), λ h. lt_z_yes (lt→ltb n k (omega arith))))
    (λ k e. (λ h. absurd h.lt, λ h. absurd (omega arith)))

-- a difference is at most a number
pub sub_most : (a b n : ℕ) → ((pos a -ℤ pos b) ≤ℤ pos n) ↔ (a ≤ n + b)
sub_most a b n = difference_by (λ z. (z ≤ℤ pos n) ↔ (a ≤ n + b)) a b
    (λ k e. (λ h. omega (arith, leb→le k n h.le), λ h. le_z_yes (le→leb k n (omega arith))))
    (λ k e. (λ h. omega arith, λ h. le_z_yes tt))

-- a difference is not below zero
zero_sub : (a b : ℕ) → (pos 0 ≤ℤ (pos a -ℤ pos b)) ↔ (b ≤ a)
zero_sub a b = difference_by (λ z. (pos 0 ≤ℤ z) ↔ (b ≤ a)) a b
    (λ k e. (λ h. omega arith, λ h. le_z_yes (le→leb 0 k (omega arith))))
    (λ k e. (λ h. absurd h.le, λ h. absurd (omega arith)))

-- a difference is below zero
sub_negative : (a b : ℕ) → ((pos a -ℤ pos b) <ℤ pos 0) ↔ (a < b)
sub_negative a b = difference_by (λ z. (z <ℤ pos 0) ↔ (a < b)) a b
    (λ k e. (λ h. absurd (omega (arith, ltb→lt k 0 h.lt)), λ h. absurd (omega arith)))
    (λ k e. (λ h. omega arith, λ h. lt_z_yes tt))

-- a difference is zero
sub_zero : (a b : ℕ) → (pos a -ℤ pos b ≡ pos 0) ↔ (b ≡ a)
sub_zero a b = difference_by (λ z. (z ≡ pos 0) ↔ (b ≡ a)) a b
    (λ k e. (λ h. omega (arith, ap mag h), λ h. ap pos (omega arith)))
    (λ k e. (λ h. absurd (pos-ne-negsuc 0 k (sym h)), λ h. absurd (omega arith)))

-- a difference is not below −(m + 1)
above_negsuc : (a b m : ℕ) → b ≤ a + suc m → negsuc m ≤ℤ (pos a -ℤ pos b)
above_negsuc a b m h = difference_by (λ z. negsuc m ≤ℤ z) a b (λ k e. le_z_yes tt) (λ k e. le_z_yes (le→leb k m (omega arith)))

-- a difference is below a number
sub_below : (a b n : ℕ) → a < n + b → (pos a -ℤ pos b) <ℤ pos n
sub_below a b n h = difference_by (λ z. z <ℤ pos n) a b (λ k e. lt_z_yes (lt→ltb k n (omega arith))) (λ k e. lt_z_yes tt)

-- ---- the margin

-- the last active millisecond, with T scaled by 1,000
pub active_end_lem : (l : Lease) → last_active l ≡ active_end l
unfolding last_active
active_end_lem l = omega arith

-- the last stale millisecond, with T and G scaled by 1,000
pub stale_end_lem : (l : Lease) → last_stale l ≡ stale_end l
unfolding last_stale
stale_end_lem l = omega arith

-- the margin is L + T + E − N
margin_is : (l : Lease) (n : ℕ) → (margin_of l n).0 ≡ pos (active_end l) -ℤ pos n
unfolding margin_of
margin_is l n = ap (λ (k : ℕ). pos k -ℤ pos n) (active_end_lem l)

-- `MarginExact`
pub margin_exact : MarginExact
margin_exact l n = (
  margin_is l n,
  ap (λ (z : ℤ). z +ℤ pos n) (margin_is l n) ∙ -ℤ-+ℤ_cancel (pos (active_end l)) (pos n),
)

-- `MarginSign`
pub margin_sign : MarginSign
margin_sign l n = rw (margin_is l n) (sub_zero (active_end l) n, zero_sub (active_end l) n, sub_negative (active_end l) n)

-- `MarginFits`
pub margin_fits : MarginFits
margin_fits l n w h = rw (margin_is l n) (
  above_negsuc (active_end l) n 9007199254740991 (omega arith),
  sub_below (active_end l) n (2 ^ 54) (omega (arith, w.sync, w.ttl, w.tolerance)),
)
