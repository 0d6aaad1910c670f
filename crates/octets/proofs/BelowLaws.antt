-- A test that holds of every number below a bound, by one computed run over all of them, and the rule for each. Assumes nothing.
use mathlib.Core.Path.{◌≡◌, refl, sym, subst}
use mathlib.Core.Bool.{Bool, true, false, ◌&&◌}
use Prim.Native.Nat.{ℕ, zero, suc, ◌+◌, ◌<◌}
use native.Mathlib.Omega.{arith}
use Rattle.octets.proofs.Tests.{and_left, and_right, no_flag}

-- a test holds of the n numbers from a on
unfoldable pub all_from : (ℕ → Bool) → ℕ → ℕ → Bool
all_from f a zero = true
all_from f a (suc n) = f a && all_from f (suc a) n

-- so it holds of each
all_at : (f : ℕ → Bool) (a n k : ℕ) → all_from f a n ≡ true → k < n → f (a + k) ≡ true
unfolding all_from
all_at f a zero k e h = absurd (omega arith)
all_at f a (suc n) zero e h = let here : a ≡ a + 0 = omega arith in subst (λ (b : ℕ). f b ≡ true) here
    (and_left (f a) (all_from f (suc a) n) e)
all_at f a (suc n) (suc k) e h =
    let there : suc a + k ≡ a + suc k = omega arith in
    subst (λ (b : ℕ). f b ≡ true) there (all_at f (suc a) n k (and_right (f a) (all_from f (suc a) n) e) (omega arith))

-- a test that holds of the n numbers from 0 on holds of each number below n
pub each_below : (f : ℕ → Bool) (n : ℕ) → all_from f 0 n ≡ true → (b : ℕ) → b < n → f b ≡ true
each_below f n e b h = let here : 0 + b ≡ b = omega arith in subst (λ (c : ℕ). f c ≡ true) here (all_at f 0 n b e h)

-- two tests answer alike
abbrev pub alike : Bool → Bool → Bool
alike true b = b
alike false true = false
alike false false = true

alike_same : (a b : Bool) → alike a b ≡ true → a ≡ b
alike_same true b e = sym e
alike_same false true e = no_flag e
alike_same false false e = refl

-- tests that answer alike of the n numbers from 0 on are equal below n
pub alike_below : (f g : ℕ → Bool) (n : ℕ) → all_from (λ b. alike (f b) (g b)) 0 n ≡ true → (b : ℕ) → b < n → f b ≡ g b
alike_below f g n e b h = alike_same (f b) (g b) (each_below (λ c. alike (f c) (g c)) n e b h)
