-- Laws of the least number of a range that passes a test (specs/Escape.antt). Assumes nothing.
use mathlib.Core.Path.{◌≡◌, refl, ap₂}
use mathlib.Core.Bool.{Bool, true, false}
use Rattle.std.specs.Prelude.{Option, None, Some, cond, is_some}
use mathlib.Core.Logic.{⊎_elim}
use Prim.Native.Nat.{ℕ, zero, suc, ◌+◌, ◌≤◌, ◌<◌}
use native.Mathlib.Nat.{eq-or-lt_of_le}
use native.Mathlib.Omega.{arith}
use Rattle.octets.proofs.Tests.{no_flag}
use Rattle.narrowing_spec.specs.Escape.{least, or_zero}

-- k is the least number that passes f, of the n from a on
pub record Least (f : ℕ → Bool) (a n k : ℕ) : Type 0 where
  pub from : a ≤ k
  pub below : k < a + n
  pub passes : f k ≡ true
  pub none_before : (j : ℕ) → a ≤ j → j < k → f j ≡ false

-- where a fails, and each number after a with P fails, each number from a on with P fails
from_next : (f : ℕ → Bool) (a : ℕ) (P : ℕ → Type 0) → f a ≡ false → ((j : ℕ) → suc a ≤ j → P j → f j ≡ false)
    → (j : ℕ) → a ≤ j → P j → f j ≡ false
from_next f a P e r j h p = ⊎_elim (λ (i : a ≡ j). rw (← i) e) (λ l. r j l p) (eq-or-lt_of_le h)

-- a number that the search finds is the least
pub least_some : (f : ℕ → Bool) (a n k : ℕ) → least f a n ≡ Some k → Least f a n k
least_some f a zero k e = cc
least_some f a (suc n) k e = go (f a) refl e (least_some f (suc a) n k)
  where
    go : (t : Bool) → f a ≡ t → cond t (Some a) (least f (suc a) n) ≡ Some k → (least f (suc a) n ≡ Some k → Least f (suc a) n k)
        → Least f a (suc n) k
    go true q w r =
        let i : a ≡ k = cc in
        record { from = omega arith; below = omega arith; passes = rw (← i) q; none_before = λ j h l. absurd (omega arith) }
    go false q w r =
        let i : Least f (suc a) n k = r w in
        record { from = omega arith; below = omega arith; passes = i.passes; none_before = from_next f a (λ j. j < k) q i.none_before }

-- where the search finds none, none passes
pub least_none : (f : ℕ → Bool) (a n : ℕ) → least f a n ≡ None → (j : ℕ) → a ≤ j → j < a + n → f j ≡ false
least_none f a zero e j h l = absurd (omega arith)
least_none f a (suc n) e j h l = go (f a) refl e (least_none f (suc a) n) j h l
  where
    go : (t : Bool) → f a ≡ t → cond t (Some a) (least f (suc a) n) ≡ None
        → (least f (suc a) n ≡ None → (j : ℕ) → suc a ≤ j → j < suc a + n → f j ≡ false) → (j : ℕ) → a ≤ j → j < a + suc n → f j ≡ false
    go true q w r = cc
    go false q w r = from_next f a (λ j. j < a + suc n) q (λ j h l. r w j h (omega arith))

-- where no number passes the search finds none
pub least_fails : (f : ℕ → Bool) (a n : ℕ) → ((k : ℕ) → a ≤ k → k < a + n → f k ≡ false) → least f a n ≡ None
least_fails f a zero h = refl
least_fails f a (suc n) h = rw (h a (omega arith) (omega arith)) (least_fails f (suc a) n (λ k l g. h k (omega arith) (omega arith)))

-- tests that agree find the same
pub least_same : (f g : ℕ → Bool) (a n : ℕ) → ((j : ℕ) → a ≤ j → j < a + n → f j ≡ g j) → least f a n ≡ least g a n
least_same f g a zero h = refl
least_same f g a (suc n) h =
    ap₂ (λ (b : Bool) (o : Option ℕ). cond b (Some a) o) (h a (omega arith) (omega arith))
    (least_same f g (suc a) n (λ j i l. h j (omega arith) (omega arith)))

-- a search that is some is that of its number
pub some_of : (o : Option ℕ) → is_some o ≡ true → o ≡ Some (or_zero o)
some_of None e = no_flag e
some_of (Some k) e = refl

-- a search that is not some is none
pub none_of : (o : Option ℕ) → is_some o ≡ false → o ≡ None
none_of None e = refl
none_of (Some k) e = cc
