-- Laws of parts that go to the end of a list, as a slice `&s[a..]` is handed on, and of parts of parts. Assumes nothing.
use mathlib.Core.Path.{◌≡◌, refl, sym, ap, ◌∙◌}
use mathlib.Core.Bool.{Bool, ◌&&◌}
use mathlib.Core.List.{List, [], ◌∷◌}
use Prim.Native.Nat.{ℕ, zero, suc, ◌+◌, ◌-◌, ◌≤◌, ◌<◌}
use native.Mathlib.Nat.{sub-zero, zero-sub, suc-sub-suc, add-sub_cancel_left}
use native.Mathlib.Omega.{arith}
use lib.ListN.{length, take, drop, length-drop}
use lib.Seq.{take_all, take-nil, take-take, drop-drop, get_or-drop}
use lib.Dec.{leb}
use Rattle.octets.specs.Bytes.{AreBytes, part, same}
use Rattle.octets.proofs.SameLaws.{start_answer}

-- a part from a place to the end is what remains without the bytes before
pub part_to_end : (s : List ℕ) (a : ℕ) → take (length s - a) (drop a s) ≡ drop a s
part_to_end s a = take_all (length s - a) (drop a s) (omega (arith, length-drop a s))

-- what is after a byte is shorter
pub part_shorter : (s : List ℕ) (n : ℕ) → n < length s → length (take (length s - (n + 1)) (drop (n + 1) s)) < length s
part_shorter s n h = rw (part_to_end s (n + 1), length-drop (n + 1) s) (omega arith)

-- a part to the end is no longer than the whole may be
pub part_no_longer : (s : List ℕ) (a n : ℕ) → length s ≤ n → length (take (length s - a) (drop a s)) ≤ n
part_no_longer s a n h = rw (part_to_end s a, length-drop a s) (omega arith)

-- the first n elements without the first m are the first n - m of those after the first m
pub drop_take : (m n : ℕ) (l : List ℕ) → drop m (take n l) ≡ take (n - m) (drop m l)
drop_take zero n l = rw (sub-zero n)
drop_take (suc m) zero l = rw (zero-sub (suc m))
drop_take (suc m) (suc n) [] = sym (take-nil (suc n - suc m))
drop_take (suc m) (suc n) (x ∷ l) = rw (suc-sub-suc n m) (drop_take m n l)

-- a part without its first k bytes is the part that begins k bytes later
pub part_later : (s : List ℕ) (a n k : ℕ) → part s (a + k) (n - k) ≡ drop k (part s a n)
unfolding part
part_later s a n k = sym (drop_take k n (drop a s) ∙ ap (take (n - k)) (drop-drop k a s))

-- the answer of `same_start` to two slices that go to the end says whether the parts at their places are the same
pub start_parts : (s t : List ℕ) (a b n : ℕ) {r : Bool} → a + n ≤ length s → b + n ≤ length t
    → r
    ≡ (leb n (length (take (length s - a) (drop a s)))
    && (leb n (length (take (length t - b) (drop b t))) && same (take n (take (length s - a) (drop a s)))
    (take n (take (length t - b) (drop b t)))))
    → r ≡ same (part s a n) (part t b n)
unfolding part
start_parts s t a b n h k e =
    start_answer (drop a s) (drop b t) n (omega (arith, length-drop a s)) (omega (arith, length-drop b t))
    (rw (part_to_end s a, part_to_end t b) at e)

-- the part that code lends, from a place up to n places on, is that part
pub lent_part : (s : List ℕ) (at n : ℕ) → take (at + n - at) (drop at s) ≡ part s at n
unfolding part
lent_part s at n = ap (λ (k : ℕ). take k (drop at s)) (add-sub_cancel_left at n)

-- the part that code lends of such a part, from its k-th byte on, is that part
pub lent_later : (s : List ℕ) (at n k : ℕ) → take (at + n - (at + k)) (drop (at + k) s) ≡ part s (at + k) (n - k)
unfolding part
lent_later s at n k = let e : at + n - (at + k) ≡ n - k = omega arith in ap (λ (m : ℕ). take m (drop (at + k) s)) e

-- bytes within the first n do not depend on what follows these
take_within : (p k n : ℕ) (l : List ℕ) → p + k ≤ n → take k (drop p (take n l)) ≡ take k (drop p l)
take_within zero k n l h = take-take k n l (omega arith)
take_within (suc p) k zero l h = absurd (omega arith)
take_within (suc p) k (suc n) [] h = refl
take_within (suc p) k (suc n) (x ∷ l) h = take_within p k n l (omega arith)

-- a part of a part is a part
pub part_part : (s : List ℕ) (at n p k : ℕ) → p + k ≤ n → part (part s at n) p k ≡ part s (at + p) k
unfolding part
part_part s at n p k h = take_within p k n (drop at s) h ∙ ap (take k) (drop-drop p at s)

-- the first of some bytes are bytes
take_bytes : (n : ℕ) (s : List ℕ) → AreBytes s → AreBytes (take n s)
take_bytes zero s b i = omega arith
take_bytes (suc n) [] b i = b i
take_bytes (suc n) (x ∷ xs) b zero = b 0
take_bytes (suc n) (x ∷ xs) b (suc i) = take_bytes n xs (λ j. b (suc j)) i

-- a part of bytes is bytes
pub part_bytes : (s : List ℕ) (at n : ℕ) → AreBytes s → AreBytes (part s at n)
unfolding part
part_bytes s at n b = take_bytes n (drop at s) (λ i. rw get_or-drop (b (at + i)))
