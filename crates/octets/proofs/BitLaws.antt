-- Laws of the bits of numbers: those of two numbers joined, and those that two have in common. Assumes nothing.
use mathlib.Core.Path.{◌≡◌, refl, ap, ◌∙◌}
use mathlib.Core.Bool.{Bool, true, false, ◌&&◌, ◌||◌}
use Prim.Native.Nat.{ℕ, zero, suc, ◌/◌, ◌%◌, ◌^◌, ◌<◌, min, max}
use native.Mathlib.Nat.{mod-lt, zero-lt-suc}
use native.Mathlib.Omega.{arith}
use lib.Arith.{digits_mod}
use lib.Bits.{bit_and, bit_or, and_step, or_step, and_shr, or_shr}
use lib.Dec.{eqb}

-- the number has the bit
abbrev pub has_bit : ℕ → ℕ → Bool
has_bit n m = eqb (n / 2 ^ m % 2) 1

-- what is told of two digits, by its four cases
digit_by : (f : ℕ → ℕ → ℕ) (g : Bool → Bool → Bool)
    → eqb (f 0 0) 1 ≡ g false false → eqb (f 0 1) 1 ≡ g false true → eqb (f 1 0) 1 ≡ g true false → eqb (f 1 1) 1 ≡ g true true
    → (x y : ℕ) → x < 2 → y < 2 → eqb (f x y) 1 ≡ g (eqb x 1) (eqb y 1)
digit_by f g p q r s zero zero a b = p
digit_by f g p q r s zero (suc zero) a b = q
digit_by f g p q r s (suc zero) zero a b = r
digit_by f g p q r s (suc zero) (suc zero) a b = s
digit_by f g p q r s zero (suc (suc y)) a b = absurd (omega arith)
digit_by f g p q r s (suc zero) (suc (suc y)) a b = absurd (omega arith)
digit_by f g p q r s (suc (suc x)) y a b = absurd (omega arith)

-- two numbers joined have exactly the bits of both
pub or_bit : (a b m : ℕ) → has_bit (bit_or a b) m ≡ (has_bit a m || has_bit b m)
or_bit a b m =
    let p : ℕ = a / 2 ^ m in
    let q : ℕ = b / 2 ^ m in
    let x : p % 2 < 2 = mod-lt p (zero-lt-suc 1) in
    let y : q % 2 < 2 = mod-lt q (zero-lt-suc 1) in
    let odd : bit_or p q % 2 ≡ max (p % 2) (q % 2) =
    ap (λ (n : ℕ). n % 2) (or_step p q) ∙ digits_mod (bit_or (p / 2) (q / 2)) {m = 2} (omega arith) in
    ap (λ (n : ℕ). eqb (n % 2) 1) (or_shr a b m) ∙ ap (λ (n : ℕ). eqb n 1) odd ∙ digit_by max ◌||◌ refl refl refl refl (p % 2) (q % 2) x y

-- what two numbers have in common has exactly the bits that both have
pub and_bit : (a b m : ℕ) → has_bit (bit_and a b) m ≡ (has_bit a m && has_bit b m)
and_bit a b m =
    let p : ℕ = a / 2 ^ m in
    let q : ℕ = b / 2 ^ m in
    let x : p % 2 < 2 = mod-lt p (zero-lt-suc 1) in
    let y : q % 2 < 2 = mod-lt q (zero-lt-suc 1) in
    let odd : bit_and p q % 2 ≡ min (p % 2) (q % 2) =
    ap (λ (n : ℕ). n % 2) (and_step p q) ∙ digits_mod (bit_and (p / 2) (q / 2)) {m = 2} (omega arith) in
    ap (λ (n : ℕ). eqb (n % 2) 1) (and_shr a b m) ∙ ap (λ (n : ℕ). eqb n 1) odd ∙ digit_by min ◌&&◌ refl refl refl refl (p % 2) (q % 2) x y
