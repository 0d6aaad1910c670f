-- Laws of the bytes before the first of a kind (specs/Scan.antt). Assumes nothing.
use mathlib.Core.Path.{◌≡◌, refl, sym, ap, ◌∙◌}
use mathlib.Core.Bool.{Bool, true, false, not}
use mathlib.Core.List.{List, [], ◌∷◌, ◌++◌}
use Prim.Native.Nat.{ℕ, zero, suc, ◌+◌, ◌≤◌, ◌<◌}
use native.Mathlib.Numerals.{add-one}
use native.Mathlib.Omega.{arith}
use lib.ListN.{length, get_or, drop, drop_of_length-le}
use lib.Seq.{drop-cons}
use lib.Dec.{eqb}
use borrow.Author.Tests.{eq-eqb, ne_eqb, eqb-true, not-true}
use Rattle.octets.specs.Scan.{bytes_before, without}
use Rattle.octets.proofs.Tests.{and_left, and_right, and_both, no_flag}

-- ---- by the first byte

-- a byte b first: none stands before it
pub before_this : (b x : ℕ) (xs : List ℕ) → eqb x b ≡ true → bytes_before b (x ∷ xs) ≡ 0
unfolding bytes_before
before_this b x xs e = rw (e, bytes_before)

-- another byte first: one more than in the rest
pub before_other : (b x : ℕ) (xs : List ℕ) → eqb x b ≡ false → bytes_before b (x ∷ xs) ≡ suc (bytes_before b xs)
unfolding bytes_before
before_other b x xs e = rw (e, bytes_before)

-- there are no more of them than the list has
pub before_le : (b : ℕ) (s : List ℕ) → bytes_before b s ≤ length s
unfolding bytes_before
before_le b [] = omega arith
before_le b (x ∷ xs) = go (eqb x b) (before_le b xs)
  where
    go : (t : Bool) → bytes_before b xs ≤ length xs → elim t [ true ↦ 0 | false ↦ suc (bytes_before b xs) ] ≤ suc (length xs)
    go true h = omega arith
    go false h = omega arith

-- ---- from a place on, as a loop takes it

module _ (b : ℕ) (s : List ℕ) (i : ℕ) where
  -- another byte at the place: one more than from the next place on
  pub before_next : i < length s → (get_or s i 0 ≡ b → ⊥) → bytes_before b (drop i s) ≡ suc (bytes_before b (drop (i + 1) s))
  unfolding bytes_before
  before_next h e = rw (add-one, drop-cons s i 0 h, ne_eqb (get_or s i 0) b e, bytes_before)

  -- a byte b at the place: none
  pub before_stop : i < length s → get_or s i 0 ≡ b → bytes_before b (drop i s) ≡ 0
  unfolding bytes_before
  before_stop h e = rw (drop-cons s i 0 h, eq-eqb (get_or s i 0) b e, bytes_before)

  -- the end at the place, or before it: none
  pub before_end : length s ≤ i → bytes_before b (drop i s) ≡ 0
  unfolding bytes_before
  before_end h = rw (drop_of_length-le s h)

-- ---- a byte that stands nowhere

-- a byte with a property that b has not is another
pub other_by : (f : ℕ → Bool) (b x : ℕ) → f b ≡ false → f x ≡ true → not (eqb x b) ≡ true
other_by f b x n e = go (eqb x b) refl
  where
    go : (t : Bool) → eqb x b ≡ t → not t ≡ true
    go true i = no_flag (sym n ∙ ap f (sym (eqb-true x b i)) ∙ e)
    go false i = refl

module _ (b x : ℕ) (xs : List ℕ) where
  -- one byte more, which is not b
  pub without_more : not (eqb x b) ≡ true → without b xs ≡ true → without b (x ∷ xs) ≡ true
  unfolding without
  without_more e h = and_both (not (eqb x b)) (without b xs) e h

  -- the first byte is another
  pub without_first : without b (x ∷ xs) ≡ true → eqb x b ≡ false
  unfolding without
  without_first h = not-true (eqb x b) (and_left (not (eqb x b)) (without b xs) h)

  -- so are those after it
  pub without_rest : without b (x ∷ xs) ≡ true → without b xs ≡ true
  unfolding without
  without_rest h = and_right (not (eqb x b)) (without b xs) h

-- two texts without b, one after the other
pub without_append : (b : ℕ) (l r : List ℕ) → without b l ≡ true → without b r ≡ true → without b (l ++ r) ≡ true
without_append b [] r e f = f
without_append b (x ∷ xs) r e f =
    without_more b x (xs ++ r) (ap not (without_first b x xs e)) (without_append b xs r (without_rest b x xs e) f)

-- the beginning of a text without b
pub without_front : (b : ℕ) (l r : List ℕ) → without b (l ++ r) ≡ true → without b l ≡ true
unfolding without
without_front b [] r e = refl
without_front b (x ∷ xs) r e =
    without_more b x xs (ap not (without_first b x (xs ++ r) e)) (without_front b xs r (without_rest b x (xs ++ r) e))

-- what is left of it
pub without_drop : (b n : ℕ) (s : List ℕ) → without b s ≡ true → without b (drop n s) ≡ true
without_drop b zero s e = e
without_drop b (suc n) [] e = e
without_drop b (suc n) (x ∷ xs) e = without_drop b n xs (without_rest b x xs e)

-- a text without b, then b: all of the text stands before it
pub before_all : (b : ℕ) (l r : List ℕ) → without b l ≡ true → bytes_before b (l ++ (b ∷ r)) ≡ length l
before_all b [] r e = before_this b b r (eq-eqb b b refl)
before_all b (x ∷ xs) r e = before_other b x (xs ++ (b ∷ r)) (without_first b x xs e) ∙ ap suc (before_all b xs r (without_rest b x xs e))
