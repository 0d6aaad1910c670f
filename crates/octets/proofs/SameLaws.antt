-- Laws of the test whether two lists of bytes are the same, and of the loops that compare them. Assumes nothing.
use mathlib.Core.Path.{◌≡◌, refl, sym, ap, ap₂, ◌∙◌}
use mathlib.Core.Logic.{◌⊎◌}
use mathlib.Core.Bool.{Bool, true, false, ◌&&◌, and-true, and_assoc}
use mathlib.Core.List.{List, [], ◌∷◌}
use Prim.Native.Nat.{ℕ, zero, suc, ◌+◌, ◌≤◌, ◌<◌}
use native.Mathlib.Omega.{arith}
use native.Mathlib.Numerals.{add-one}
use lib.Dec.{T, leb, eqb}
use lib.ListN.{length, get_or, take, drop, length-drop}
use lib.Seq.{take-length, take_all, get_or-drop}
use Rattle.std.proofs.lemmas.Bool.Decides.{nat_tests}
use Rattle.std.specs.Cmp.Lexicographic.{pointwise}
use Rattle.octets.specs.Bytes.{part, same, has_at}
use Rattle.octets.proofs.BytesLaws.{same_eq, same_refl, T_of}
use Rattle.octets.proofs.Tests.{and_false}

-- ---- what the test says

-- lists that are the same are equal
pub same_equal : (x y : List ℕ) → same x y ≡ true → x ≡ y
same_equal x y e = same_eq x y (T_of refl e)

-- the library's test of bytes is the same
pub pointwise_same : (x y : List ℕ) → pointwise eqb x y ≡ same x y
unfolding same
pointwise_same [] [] = refl
pointwise_same [] (b ∷ y) = refl
pointwise_same (a ∷ x) [] = refl
pointwise_same (a ∷ x) (b ∷ y) = ap (λ (t : Bool). eqb a b && t) (pointwise_same x y)

-- a list is the same as itself
pub same_self : (x : List ℕ) → same x x ≡ true
same_self x = go (same x x) (same_refl x)
  where
    go : (t : Bool) → T t → t ≡ true
    go true h = refl
    go false h = absurd h

-- equal lists are the same
pub equal_same : (x y : List ℕ) → x ≡ y → same x y ≡ true
equal_same x y e = rw e (same_self y)

-- lists that are not equal are not the same
pub not_same : (x y : List ℕ) → (x ≡ y → ⊥) → same x y ≡ false
not_same x y n = go (same x y) refl
  where
    go : (t : Bool) → same x y ≡ t → t ≡ false
    go true e = absurd (n (same_equal x y e))
    go false e = refl

-- lists whose last bytes differ are not the same
pub same_ends : (a b : List ℕ) (n : ℕ) → (get_or a n 0 ≡ get_or b n 0 → ⊥) → same a b ≡ false
same_ends a b n e = not_same a b (λ g. e (ap (λ (x : List ℕ). get_or x n 0) g))

-- two lists of different lengths are not the same
pub same_long : (a b : List ℕ) → (length a ≡ length b → ⊥) → same a b ≡ false
unfolding same
same_long [] [] h = absurd (h refl)
same_long [] (y ∷ b) h = refl
same_long (x ∷ a) [] h = refl
same_long (x ∷ a) (y ∷ b) h = rw (same_long a b (λ e. h (ap suc e))) (and_false (eqb x y))

-- ---- a loop that compares

-- the same as `same_last`, with the count as a successor
same_snoc : (i : ℕ) (a b : List ℕ) → i < length a → i < length b
    → same (take (suc i) a) (take (suc i) b) ≡ (same (take i a) (take i b) && eqb (get_or a i 0) (get_or b i 0))
unfolding same
same_snoc zero [] b ha hb = absurd (omega arith)
same_snoc zero (x ∷ a) [] ha hb = absurd (omega arith)
same_snoc zero (x ∷ a) (y ∷ b) ha hb = and-true (eqb x y)
same_snoc (suc i) [] b ha hb = absurd (omega arith)
same_snoc (suc i) (x ∷ a) [] ha hb = absurd (omega arith)
same_snoc (suc i) (x ∷ a) (y ∷ b) ha hb =
    ap (λ (t : Bool). eqb x y && t) (same_snoc i a b (omega arith) (omega arith))
    ∙ sym (and_assoc (eqb x y) (same (take i a) (take i b)) (eqb (get_or a i 0) (get_or b i 0)))

-- the first i + 1 bytes are the same where the first i are and the last is
pub same_last : (a b : List ℕ) (i : ℕ) → i < length a → i < length b
    → same (take (i + 1) a) (take (i + 1) b) ≡ (same (take i a) (take i b) && eqb (get_or a i 0) (get_or b i 0))
same_last a b i ha hb = rw (add-one i) (same_snoc i a b ha hb)

-- ---- a loop that compares the bytes at a place

-- the first i + 1 bytes at a place are those of k where the first i are and the next is
pub same_at_last : (s : List ℕ) (at : ℕ) (k : List ℕ) (i : ℕ) → at + i < length s → i < length k
    → same (part s at (i + 1)) (take (i + 1) k) ≡ (same (part s at i) (take i k) && eqb (get_or s (at + i) 0) (get_or k i 0))
unfolding part
same_at_last s at k i hs hk = rw (← get_or-drop at s i 0) (same_last (drop at s) k i (omega (arith, length-drop at s)) hk)

-- all bytes of k were compared
pub same_at_all : (s : List ℕ) (at : ℕ) (k : List ℕ) (i : ℕ) → i ≡ length k → same (part s at i) (take i k) ≡ has_at s at k
unfolding has_at
same_at_all s at k i e = rw (e, take-length k)

-- ---- whether both begin with the same n bytes

module _ (a b : List ℕ) (n : ℕ) where
  -- where one has fewer bytes they do not
  pub start_short : (length a < n) ⊎ (length b < n) → (leb n (length a) && (leb n (length b) && same (take n a) (take n b))) ≡ false
  start_short h = grind (arith, nat_tests)

  -- where both have so many, those bytes decide
  pub start_both : n ≤ length a → n ≤ length b → (leb n (length a) && (leb n (length b) && same (take n a) (take n b)))
      ≡ same (take n a) (take n b)
  start_both h k = grind (arith, nat_tests)

  -- where both have n bytes alone, the whole lists decide
  pub start_whole : n ≡ length a → n ≡ length b → (leb n (length a) && (leb n (length b) && same (take n a) (take n b))) ≡ same a b
  start_whole h k = start_both (omega arith) (omega arith) ∙ ap₂ same (take_all n a (omega arith)) (take_all n b (omega arith))

  -- so what was answered to the test says whether those bytes are the same
  pub start_answer : {r : Bool} → n ≤ length a → n ≤ length b → r ≡ (leb n (length a) && (leb n (length b) && same (take n a) (take n b)))
      → r ≡ same (take n a) (take n b)
  start_answer h k e = e ∙ start_both h k
