-- Laws of the loops that mark the masks of a range and that read how many fresh names a pattern matches (specs/Range.antt). Assumes
-- nothing.
use mathlib.Core.Path.{◌≡◌, refl, sym, ap, ◌∙◌}
use mathlib.Core.Bool.{false, cond, and-false}
use mathlib.Core.List.{List, [], ◌∷◌}
use Rattle.std.proofs.Common.{min}
use Prim.Native.Nat.{ℕ, zero, suc, ◌+◌, ◌≤◌, ◌<◌}
use native.Mathlib.Nat.{add-zero, zero-add}
use native.Mathlib.Numerals.{add-one}
use native.Mathlib.Decide.{dec_lt}
use native.Mathlib.Omega.{arith}
use lib.ListN.{length, get_or, set}
use lib.Dec.{leb, ltb}
use lib.Bits.{bit_or}
use borrow.Author.Tests.{lt-ltb, le-ltb, le-leb, lt-leb}
use Rattle.narrowing.specs.Range.{Range}
use Rattle.narrowing.specs.Range.{range, in_range, marked}

-- ---- masks

-- where no number of the list is in the range nothing changes
marked_none : (e : ℕ) (d : List ℕ) (r : Range) (mask : ℕ) → ((k : ℕ) → e ≤ k → k < e + length d → in_range r k ≡ false)
    → marked e d r mask ≡ d
unfolding marked
marked_none e [] r mask h = refl
marked_none e (x ∷ d) r mask h =
    rw (h e (omega arith) (omega arith))
    (ap (λ (l : List ℕ). x ∷ l) (marked_none (suc e) d r mask (λ k a b. h k (omega arith) (omega arith))))

-- a number is not in an empty range
empty : (lo hi k : ℕ) → hi ≤ lo → in_range (range lo hi) k ≡ false
empty lo hi k h = go (dec_lt k lo)
  where
    go : Dec (k < lo) → in_range (range lo hi) k ≡ false
    go (yes l) = rw (lt-leb lo k l)
    go (no l) = rw (le-ltb k hi (omega arith)) (and-false (leb lo k))

-- the range begins at the end of the list or after it
marked_past : (d : List ℕ) (lo hi mask : ℕ) → length d ≤ lo → marked 0 d (range lo hi) mask ≡ d
marked_past d lo hi mask h = marked_none 0 d (range lo hi) mask (λ k a b. rw (lt-leb lo k (omega arith)))

-- an empty range
marked_empty : (d : List ℕ) (lo hi mask : ℕ) → hi ≤ lo → marked 0 d (range lo hi) mask ≡ d
marked_empty d lo hi mask h = marked_none 0 d (range lo hi) mask (λ k a b. empty lo hi k h)

-- a range that begins at its end or at that of the list
pub marked_over : (d : List ℕ) (lo hi mask : ℕ) → min hi (length d) ≤ lo → marked 0 d (range lo hi) mask ≡ d
marked_over d lo hi mask h = go (dec_lt lo hi)
  where
    go : Dec (lo < hi) → marked 0 d (range lo hi) mask ≡ d
    go (yes l) = marked_past d lo hi mask (omega arith)
    go (no l) = marked_empty d lo hi mask (omega arith)

-- where a range begins before the list does not matter
marked_low : (e : ℕ) (d : List ℕ) (lo hi mask : ℕ) → lo ≤ e → marked e d (range lo hi) mask ≡ marked e d (range e hi) mask
unfolding marked
marked_low e [] lo hi mask h = refl
marked_low e (x ∷ d) lo hi mask h =
    rw (le-leb lo e h, le-leb e e (omega arith))
    (ap (λ (l : List ℕ). cond (ltb e hi) (bit_or x mask) x ∷ l)
    (marked_low (suc e) d lo hi mask (omega arith) ∙ sym (marked_low (suc e) d e hi mask (omega arith))))

-- one number of the range is marked, from a number on
marked_one : (e : ℕ) (d : List ℕ) (k hi mask : ℕ) → e + k < hi → k < length d
    → marked e d (range (e + k) hi) mask ≡ marked e (set d k (bit_or (get_or d k 0) mask)) (range (suc (e + k)) hi) mask
unfolding marked
marked_one e [] k hi mask h l = absurd (omega arith)
marked_one e (x ∷ d) zero hi mask h l =
    rw (add-zero e, le-leb e e (omega arith), lt-ltb e hi (omega arith), lt-leb (suc e) e (omega arith))
    (ap (λ (t : List ℕ). bit_or x mask ∷ t) (marked_low (suc e) d e hi mask (omega arith)))
marked_one e (x ∷ d) (suc k) hi mask h l =
    let i : e + suc k ≡ suc e + k = omega arith in
    rw (i, lt-leb (suc e + k) e (omega arith), lt-leb (suc (suc e + k)) e (omega arith))
    (ap (λ (t : List ℕ). x ∷ t) (marked_one (suc e) d k hi mask (omega arith) (omega arith)))

-- one number of the range is marked
pub marked_next : (d : List ℕ) (k hi mask : ℕ) → k < hi → k < length d
    → marked 0 d (range k hi) mask ≡ marked 0 (set d k (bit_or (get_or d k 0) mask)) (range (k + 1) hi) mask
marked_next d k hi mask h l = rw (add-one k) (rw (zero-add k) at (marked_one 0 d k hi mask (omega arith) l))
