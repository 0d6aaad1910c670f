-- Laws of the range of numbers of names for which one pattern covers another, and of the masks marked for each number
-- (specs/Range.antt). Assumes nothing.
use mathlib.Core.Path.{◌≡◌, refl, sym, ap, ◌∙◌}
use mathlib.Core.Bool.{Bool, true, false, cond, ◌&&◌, ◌||◌, and-false}
use mathlib.Core.List.{List, [], ◌∷◌}
use Prim.Native.Nat.{ℕ, zero, suc, ◌+◌, ◌≤◌, ◌<◌}
use native.Mathlib.Nat.{add-zero, zero-add}
use native.Mathlib.Omega.{arith}
use borrow.Author.Tests.{lt-ltb, le-ltb, le-leb, lt-leb}
use lib.ListN.{length, get_or}
use lib.Dec.{leb}
use lib.Bits.{bit_and, bit_or}
use Rattle.octets.proofs.BitLaws.{or_bit, and_bit}
use Rattle.octets.specs.Bytes.{same}
use Rattle.resource_spec.specs.Pattern.{Levels, done, deep, name, star}
use Rattle.resource_spec.specs.Cover.{matches_fresh, covers}
use Rattle.octets.proofs.Tests.{no_flag}
use Rattle.descriptor_spec.specs.Reader.{has_mode}
use Rattle.narrowing.specs.Range.{Range}
use Rattle.narrowing_spec.specs.Escape.{can_take}
use Rattle.narrowing.specs.Range.{range, in_range, most, fresh_range, cover_range, marked}

-- ---- ranges

-- a number from lo on and below hi is in the range
in_range_lem : (lo hi k : ℕ) → lo ≤ k → k < hi → in_range (range lo hi) k ≡ true
in_range_lem lo hi k a b = rw (le-leb lo k a, lt-ltb k hi b)

-- a number below lo is not
under_range : (lo hi k : ℕ) → k < lo → in_range (range lo hi) k ≡ false
under_range lo hi k a = rw (lt-leb lo k a)

-- a number from hi on is not
over_range : (lo hi k : ℕ) → hi ≤ k → in_range (range lo hi) k ≡ false
over_range lo hi k a = rw (le-ltb k hi a) (and-false (leb lo k))

-- the range of numbers of fresh names has none below what was taken
fresh_low : (e : ℕ) (q : Levels) (k : ℕ) → k < e → in_range (fresh_range e q) k ≡ false
fresh_low e done k h = under_range e (e + 1) k h
fresh_low e deep k h = under_range (e + 1) most k (omega arith)
fresh_low e (name n q) k h = over_range 0 0 k (omega arith)
fresh_low e (star q) k h = fresh_low (e + 1) q k (omega arith)

-- q matches k fresh names exactly when the range, after e were taken, has e + k
range_fresh : (e : ℕ) (q : Levels) (k : ℕ) → e + k < most → matches_fresh q k ≡ in_range (fresh_range e q) (e + k)
range_fresh e done zero h = sym (in_range_lem e (e + 1) (e + 0) (omega arith) (omega arith))
range_fresh e done (suc k) h = sym (over_range e (e + 1) (e + suc k) (omega arith))
range_fresh e deep zero h = sym (under_range (e + 1) most (e + 0) (omega arith))
range_fresh e deep (suc k) h = sym (in_range_lem (e + 1) most (e + suc k) (omega arith) h)
range_fresh e (name n q) zero h = sym (over_range 0 0 (e + 0) (omega arith))
range_fresh e (name n q) (suc k) h = sym (over_range 0 0 (e + suc k) (omega arith))
range_fresh e (star q) zero h = sym (fresh_low (e + 1) q (e + 0) (omega arith))
range_fresh e (star q) (suc k) h =
    let i : (e + 1) + k ≡ e + suc k = omega arith in
    range_fresh (e + 1) q k (omega arith) ∙ ap (in_range (fresh_range (e + 1) q)) i

-- a test and another, by the range of the other
range_and : (b c : Bool) (r : Range) (k : ℕ) → c ≡ in_range r k → (b && c) ≡ in_range (cond b r (range 0 0)) k
range_and true c r k e = e
range_and false c r k e = sym (over_range 0 0 k (omega arith))

-- a name before the levels does not matter to what "**" can take
can_name : (n : List ℕ) (p : Levels) (k : ℕ) → can_take (name n p) k ≡ can_take p k
can_name n p zero = refl
can_name n p (suc k) = refl

-- nor does "*"
can_star : (p : Levels) (k : ℕ) → can_take (star p) k ≡ can_take p k
can_star p zero = refl
can_star p (suc k) = refl

-- q covers p with k names for the "**" of p exactly when the range of the two has k
pub range_covers : (q p : Levels) (k : ℕ) → can_take p k ≡ true → k < most → covers q p k ≡ in_range (cover_range q p) k
range_covers done done zero c h = refl
range_covers deep done zero c h = refl
range_covers (name m q) done zero c h = refl
range_covers (star q) done zero c h = refl
range_covers q done (suc k) c h = no_flag c
range_covers q deep zero c h = no_flag c
range_covers done deep (suc k) c h = sym (over_range 0 0 (suc k) (omega arith))
range_covers deep deep (suc k) c h = sym (in_range_lem 0 most (suc k) (omega arith) h)
range_covers (name m q) deep (suc k) c h = sym (over_range 0 0 (suc k) (omega arith))
range_covers (star q) deep (suc k) c h = rw (zero-add (suc k)) at (range_fresh 0 (star q) (suc k) (omega arith))
range_covers done (name n p) k c h = sym (over_range 0 0 k (omega arith))
range_covers deep (name n p) k c h = sym (in_range_lem 0 most k (omega arith) h)
range_covers (name m q) (name n p) k c h = range_and (same m n) (covers q p k) (cover_range q p) k
    (range_covers q p k (sym (can_name n p k) ∙ c) h)
range_covers (star q) (name n p) k c h = range_covers q p k (sym (can_name n p k) ∙ c) h
range_covers done (star p) k c h = sym (over_range 0 0 k (omega arith))
range_covers deep (star p) k c h = sym (in_range_lem 0 most k (omega arith) h)
range_covers (name m q) (star p) k c h = sym (over_range 0 0 k (omega arith))
range_covers (star q) (star p) k c h = range_covers q p k (sym (can_star p k) ∙ c) h

-- ---- masks

-- a range keeps the number of masks
pub marked_length : (k : ℕ) (d : List ℕ) (r : Range) (mask : ℕ) → length (marked k d r mask) ≡ length d
unfolding marked
marked_length k [] r mask = refl
marked_length k (x ∷ d) r mask = ap suc (marked_length (suc k) d r mask)

-- the mask at a place of a list whose first stands for the number e
marked_from : (e : ℕ) (d : List ℕ) (r : Range) (mask k : ℕ) → k < length d
    → get_or (marked e d r mask) k 0 ≡ cond (in_range r (e + k)) (bit_or (get_or d k 0) mask) (get_or d k 0)
unfolding marked
marked_from e [] r mask k h = absurd (omega arith)
marked_from e (x ∷ d) r mask zero h = rw (add-zero e)
marked_from e (x ∷ d) r mask (suc k) h =
    let i : suc e + k ≡ e + suc k = omega arith in
    marked_from (suc e) d r mask k (omega arith) ∙ ap (λ (n : ℕ). cond (in_range r n) (bit_or (get_or d k 0) mask) (get_or d k 0)) i

-- the mask at a number is joined exactly where the range has that number
pub marked_at_lem : (d : List ℕ) (r : Range) (mask k : ℕ) → k < length d
    → get_or (marked 0 d r mask) k 0 ≡ cond (in_range r k) (bit_or (get_or d k 0) mask) (get_or d k 0)
marked_at_lem d r mask k h = rw (zero-add k) at (marked_from 0 d r mask k h)

-- a mask joined of two has exactly the modes of both
pub or_mode : (a b m : ℕ) → has_mode (bit_or a b) m ≡ (has_mode a m || has_mode b m)
unfolding has_mode
or_mode = or_bit

-- what two masks have in common has exactly the modes that both have
pub and_mode : (a b m : ℕ) → has_mode (bit_and a b) m ≡ (has_mode a m && has_mode b m)
unfolding has_mode
and_mode = and_bit
