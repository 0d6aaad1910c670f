-- The laws that the crates above cite (specs/Laws.antt). Assumes nothing.
use mathlib.Core.Path.{◌≡◌, refl, ap}
use mathlib.Core.Bool.{Bool, true, false, cond}
use Prim.Native.Nat.{ℕ, zero, suc, ◌+◌, ◌-◌}
use native.Mathlib.Omega.{arith}
use lib.Dec.{ltb, leb}
use lib.IntN.{pos, negsuc, ◌-ℤ◌}
use borrow.Author.Tests.{ltb-true, ltb-false}
use Rattle.std.specs.Ordering.{is_lt, is_le, nat_cmp}
use Rattle.std.proofs.lemmas.Bool.Decides.{nat_tests}
use Rattle.time.specs.Laws.{NotBefore, DifferenceBy}

pub not_before : NotBefore
not_before a b = grind (arith, nat_tests)

pub difference_by : DifferenceBy
difference_by P a zero more less = more (a + zero) (omega arith)
difference_by P a (suc b) more less = go (ltb a (suc b)) refl
  where
    go : (t : Bool) → ltb a (suc b) ≡ t → P (cond t (negsuc (suc b - suc a)) (pos (a - suc b)))
    go true e = less (suc b - suc a) (omega (arith, ltb-true a (suc b) e))
    go false e = more (a - suc b) (omega (arith, ltb-false a (suc b) e))

-- differences are equal where the sums across are
pub apart : (a b c d : ℕ) → a + d ≡ b + c → pos a -ℤ pos b ≡ pos c -ℤ pos d
apart a b c d h = difference_by (λ z. z ≡ pos c -ℤ pos d) a b
    (λ k e. difference_by (λ z. pos k ≡ z) c d (λ j f. ap pos (omega arith)) (λ j f. absurd (omega arith)))
    (λ k e. difference_by (λ z. negsuc k ≡ z) c d (λ j f. absurd (omega arith)) (λ j f. ap negsuc (omega arith)))

-- ---- what the derived order of the units says of their numbers

-- the derived `<` is that of the numbers
pub lt_is : (a b : ℕ) → is_lt (nat_cmp a b) ≡ ltb a b
lt_is a b = grind (arith, nat_tests)

-- and the derived `<=`
pub le_is : (a b : ℕ) → is_le (nat_cmp a b) ≡ leb a b
le_is a b = grind (arith, nat_tests)
