-- Laws of hexadecimal digits: what a digit stands for, and which one a number has (specs/Uuid.antt). Assumes nothing.
use mathlib.Core.Path.{◌≡◌, refl, ap, ap₂, ◌∙◌, subst}
use mathlib.Core.Bool.{Bool, true, false, not, cond, ◌&&◌, ◌||◌}
use Prim.Native.Nat.{ℕ, ◌+◌, ◌-◌, ◌*◌, ◌/◌, ◌%◌, ◌≤◌, ◌<◌}
use native.Mathlib.Omega.{arith}
use lib.Dec.{leb, ltb, eqb}
use borrow.Author.Tests.{leb-true, ltb-true, eqb-true, not-true}
use Rattle.resource_spec.specs.Identifier.{between, is_hex}
use Rattle.octets.proofs.Tests.{by_cond, and_left, and_right, or_elim}
use Rattle.octets.proofs.BelowLaws.{all_from, each_below, alike_below}
use Rattle.uuid_spec.specs.Uuid.{digit, lower}
use Rattle.uuid_spec.specs.Version7.{is_variant_digit}

-- ---- the digit of a number

-- it is no letter of A-Z
pub digit_lower : (n : ℕ) → n < 16 → between 65 90 (digit n) ≡ false
unfolding all_from
digit_lower n h = not-true (between 65 90 (digit n)) (each_below (λ m. not (between 65 90 (digit m))) 16 refl n h)

-- it is 7 exactly where the number is
pub digit_seven : (n : ℕ) → n < 16 → eqb (digit n) 55 ≡ eqb n 7
unfolding all_from
digit_seven = alike_below (λ n. eqb (digit n) 55) (λ n. eqb n 7) 16 refl

-- it is 8, 9, a or b exactly where the two high bits of the number are 10
pub digit_variant : (n : ℕ) → n < 16 → is_variant_digit (digit n) ≡ eqb (n / 4) 2
unfolding all_from is_variant_digit
digit_variant = alike_below (λ n. is_variant_digit (digit n)) (λ n. eqb (n / 4) 2) 16 refl

-- ---- what a digit stands for

-- the number of a digit, of either case
abbrev pub value : ℕ → ℕ
value c = cond (leb c 57) (c - 48) (cond (leb c 70) (c - 55) (c - 87))

-- the digit of a number stands for it
digit_value : (n : ℕ) → n < 16 → value (digit n) ≡ n
unfolding all_from
digit_value n h = eqb-true (value (digit n)) n (each_below (λ m. eqb (value (digit m)) m) 16 refl n h)

-- so two digits stand for the octet that they spell
pub octet_value : (x : ℕ) → x < 256 → value (digit (x / 16)) * 16 + value (digit (x % 16)) ≡ x
octet_value x h =
    ap₂ (λ (m n : ℕ). m * 16 + n) (digit_value (x / 16) (omega arith)) (digit_value (x % 16) (omega arith)) ∙ omega arith

-- ---- characters that are digits

-- a hexadecimal digit is below 256
hex_small : (c : ℕ) → is_hex c ≡ true → c < 256
unfolding is_hex
hex_small c =
    let top : (lo hi : ℕ) → hi < 256 → between lo hi c ≡ true → c < 256
    = λ lo hi h e. omega (arith, leb-true c hi (and_right (leb lo c) (leb c hi) e)) in
    or_elim (between 97 102 c) _ (top 97 102 (omega arith))
    (or_elim (between 48 57 c) (between 65 70 c) (top 48 57 (omega arith)) (top 65 70 (omega arith)))

-- the number that it stands for has it as its digit, in lower case
abbrev fits_value : ℕ → Bool
fits_value c = not (is_hex c) || (ltb (value c) 16 && eqb (lower c) (digit (value c)))

-- a hexadecimal digit of either case is in lower case the digit of a number below 16
pub hex_digit : (c : ℕ) → is_hex c ≡ true → (n : ℕ) × (n < 16) × (lower c ≡ digit n)
unfolding is_hex all_from
hex_digit c e =
    let fit : fits_value c ≡ true = each_below fits_value 256 refl c (hex_small c e) in
    let both : (ltb (value c) 16 && eqb (lower c) (digit (value c))) ≡ true
    = subst (λ (t : Bool). (not t || (ltb (value c) 16 && eqb (lower c) (digit (value c)))) ≡ true) e fit in (
      value c,
      ltb-true (value c) 16 (and_left (ltb (value c) 16) _ both),
      eqb-true (lower c) (digit (value c)) (and_right (ltb (value c) 16) _ both),
    )

-- a character is not after what it is in lower case
lower_after : (c : ℕ) → c ≤ lower c
lower_after c = by_cond (λ (x : ℕ). c ≤ x) (between 65 90 c) (λ e. omega arith) (λ e. omega arith)

-- a character that is in lower case the digit of a number below 16 is a hexadecimal digit
pub digit_hex : (c n : ℕ) → n < 16 → lower c ≡ digit n → is_hex c ≡ true
unfolding is_hex all_from
digit_hex c n h e =
    let small : digit n < 128 = ltb-true (digit n) 128 (each_below (λ m. ltb (digit m) 128) 16 refl n h) in
    let hex : is_hex (digit n) ≡ true = each_below (λ m. is_hex (digit m)) 16 refl n h in
    let low : c < 128 = omega (arith, lower_after c, e) in
    alike_below is_hex (λ b. is_hex (lower b)) 128 refl c low ∙ ap is_hex e ∙ hex
