-- Laws of numbers that stand in bytes (specs/Number.antt), and of a loop that writes one. Assumes nothing.
use mathlib.Core.Path.{◌≡◌, refl, sym, ap, ap₂, ◌∙◌}
use mathlib.Core.List.{List, [], ◌∷◌, ◌++◌, append_assoc, append-nil}
use Prim.Native.Nat.{ℕ, zero, suc, ◌+◌, ◌-◌, ◌*◌, ◌/◌, ◌%◌, ◌^◌, ◌≤◌, ◌<◌}
use native.Mathlib.Nat.{add-zero, pow-le-pow_right, pow-suc, pow-succ', div-one, div-div-eq-div-mul}
use native.Mathlib.Omega.{arith}
use native.Mathlib.Numerals.{add-one, sub-one}
use lib.ListN.{length, get_or, take, drop, set, drop_of_length-le, length-append, length-drop}
use lib.Seq.{drop_at, take-take, take-suc, take_at, get_or-take, get_or-drop, get_or_at}
use lib.Dec.{lit<}
use Rattle.std.proofs.lemmas.Bool.Decides.{nat_tests}
use Rattle.octets.specs.Bytes.{AreBytes, part, Has}
use Rattle.octets.specs.Number.{big_endian, number_at, number_in}
use Rattle.octets.specs.Write.{over}
use Rattle.octets.proofs.OverLaws.{over_nil, over_cons}

-- ---- the encoding of a number

pub length_big_endian : (w n : ℕ) → length (big_endian w n) ≡ w
unfolding big_endian
length_big_endian zero n = refl
length_big_endian (suc w) n = simp (length-append, length_big_endian w (n / 256)) (omega arith)

-- w bytes are the encoding of the number that they hold
pub number_bytes : (s : List ℕ) (from w : ℕ) → AreBytes s → from + w ≤ length s → take w (drop from s) ≡ big_endian w (number_at s from w)
unfolding big_endian number_at
number_bytes s from zero bs h = refl
number_bytes s from (suc w) bs h =
    let b = get_or s (from + w) 0 in
    let n = number_at s from w in
    let quot : (n * 256 + b) / 256 ≡ n = omega (arith, bs (from + w)) in
    let rem : (n * 256 + b) % 256 ≡ b = omega (arith, bs (from + w)) in
    let short : w < length (drop from s) = omega (arith, length-drop from s) in
    rw (quot, rem, take-suc (drop from s) w 0 short, get_or-drop, number_bytes s from w bs (omega arith))

-- a number of w bytes is below 256 ^ w
pub number_lt : (s : List ℕ) (from w : ℕ) → AreBytes s → number_at s from w < 256 ^ w
unfolding number_at
number_lt s from zero bs = lit< tt
number_lt s from (suc w) bs = rw pow-suc (omega (arith, number_lt s from w bs, bs (from + w)))

-- the number that the encoding of n holds is n
pub bytes_number : (s : List ℕ) (from w n : ℕ) → n < 256 ^ w → from + w ≤ length s → take w (drop from s) ≡ big_endian w n
    → number_at s from w ≡ n
unfolding number_at big_endian
bytes_number s from zero n h l e = omega arith
bytes_number s from (suc w) n h l e =
    let d = drop from s in
    let len = length_big_endian w (n / 256) in
    let heads : take w d ≡ big_endian w (n / 256) =
    sym (take-take w (suc w) d (omega arith)) ∙ ap (take w) e ∙ take_at (big_endian w (n / 256)) (n % 256 ∷ []) w len in
    let last : get_or s (from + w) 0 ≡ n % 256 =
    sym (get_or-drop from s w 0) ∙ sym (get_or-take (suc w) d w 0 (omega arith)) ∙ ap (λ (x : List ℕ). get_or x w 0) e
    ∙ get_or_at (big_endian w (n / 256)) (n % 256) [] 0 w len in
    let above : n < 256 ^ w * 256 = rw pow-suc at h in
    omega (arith, bytes_number s from w (n / 256) (omega arith) (omega arith) heads, last)

-- without its last k bytes a number of w + k bytes is the number in the first w
pub number_high : (s : List ℕ) (from w k : ℕ) → AreBytes s → number_at s from (w + k) / 256 ^ k ≡ number_at s from w
unfolding number_at
number_high s from w zero bs = let all : w + 0 ≡ w = omega arith in ap (λ (m : ℕ). number_at s from m / 1) all ∙ div-one (number_at s from w)
number_high s from w (suc k) bs =
    let last : w + suc k ≡ suc (w + k) = omega arith in
    let n = number_at s from (w + k) in
    let b = get_or s (from + (w + k)) 0 in
    let quot : (n * 256 + b) / 256 ≡ n = omega (arith, bs (from + (w + k))) in
    ap (λ (m : ℕ). number_at s from m / 256 ^ suc k) last
    ∙ ap (λ (x : ℕ). (n * 256 + b) / x) (pow-succ' 256 k)
    ∙ sym (div-div-eq-div-mul (n * 256 + b) 256 (256 ^ k))
    ∙ ap (λ (x : ℕ). x / 256 ^ k) quot
    ∙ number_high s from w k bs

-- the number in one byte more
pub number_more : (s : List ℕ) (at k : ℕ) → number_at s at (k + 1) ≡ number_at s at k * 256 + get_or s (at + k) 0
unfolding number_at
number_more s at k = rw add-one

-- the bound of one byte more
pub pow_more : (k : ℕ) → 256 ^ (k + 1) ≡ 256 ^ k * 256
pow_more k = rw (add-one, pow-suc)

-- before the eighth byte there is room for one more
pub pow_room : (k : ℕ) → k < 8 → 256 ^ k ≤ 2 ^ 56
pow_room k h = pow-le-pow_right {n = 256} (lit< tt) {j = 7} (omega arith)

-- the bound is not 0
pub pow_some : (w : ℕ) → 0 < 256 ^ w
pow_some w = pow-le-pow_right {n = 256} (lit< tt) {i = 0} (omega arith)

-- ---- the number in the bytes at a place

-- at most 8 bytes that are there hold the number
pub number_in_lem : (s : List ℕ) (at w : ℕ) → w ≤ 8 → at + w ≤ length s → number_in s at w ≡ number_at s at w
unfolding number_in
number_in_lem s at w h l = grind (arith, nat_tests)

-- more than 8 bytes are answered with 0
pub number_wide : (s : List ℕ) (at w : ℕ) → 8 < w → number_in s at w ≡ 0
unfolding number_in
number_wide s at w h = grind (arith, nat_tests)

-- bytes that are not all there are answered with 0
pub number_short : (s : List ℕ) (at w : ℕ) → length s < at + w → number_in s at w ≡ 0
unfolding number_in
number_short s at w h = grind (arith, nat_tests)

-- the number that the encoding of n holds is n
pub number_of_has : (s : List ℕ) (at w n : ℕ) → n < 256 ^ w → at + w ≤ length s → Has s at (big_endian w n) → number_at s at w ≡ n
unfolding Has part
number_of_has s at w n h l k = bytes_number s at w n h l (ap (λ (m : ℕ). take m (drop at s)) (sym (length_big_endian w n)) ∙ k)

-- bytes are the encoding of the number that they hold
pub has_of_number : (s : List ℕ) (at w : ℕ) → AreBytes s → at + w ≤ length s → Has s at (big_endian w (number_at s at w))
unfolding Has part
has_of_number s at w bs l = ap (λ (m : ℕ). take m (drop at s)) (length_big_endian w (number_at s at w)) ∙ number_bytes s at w bs l

-- a number of w bytes is below 256 ^ w
pub number_below : (s : List ℕ) (at w : ℕ) → AreBytes s → number_at s at w < 256 ^ w
number_below s at w bs = number_lt s at w bs

-- a number in a part of bytes stands in those bytes
pub number_part : (s : List ℕ) (at n place w : ℕ) → place + w ≤ n → number_at (part s at n) place w ≡ number_at s (at + place) w
unfolding number_at part
number_part s at n place zero h = refl
number_part s at n place (suc w) h =
    let e : at + (place + w) ≡ at + place + w = omega arith in
    ap₂ (λ (x y : ℕ). x * 256 + y) (number_part s at n place w (omega arith))
    (get_or-take n (drop at s) (place + w) 0 (omega arith) ∙ get_or-drop at s (place + w) 0 ∙ ap (λ (k : ℕ). get_or s k 0) e)

-- equal bytes hold the same number
pub number_keeps : (d d' : List ℕ) (at w : ℕ) → part d at w ≡ part d' at w → number_at d at w ≡ number_at d' at w
unfolding number_at part
number_keeps d d' at zero e = refl
number_keeps d d' at (suc w) e =
    let front : take w (drop at d) ≡ take w (drop at d')
    = sym (take-take w (suc w) (drop at d) (omega arith)) ∙ ap (take w) e ∙ take-take w (suc w) (drop at d') (omega arith) in
    let last : get_or d (at + w) 0 ≡ get_or d' (at + w) 0
    = sym (get_or-drop at d w 0) ∙ sym (get_or-take (suc w) (drop at d) w 0 (omega arith)) ∙ ap (λ (x : List ℕ). get_or x w 0) e
    ∙ get_or-take (suc w) (drop at d') w 0 (omega arith) ∙ get_or-drop at d' w 0 in
    ap₂ (λ (x y : ℕ). x * 256 + y) (number_keeps d d' at w front) last

-- ---- a loop that writes a number, the lowest byte first

-- d with the last w - k bytes of the number n written over it
unfoldable pub low_bytes : List ℕ → ℕ → ℕ → ℕ → ℕ → List ℕ
low_bytes d at w n k = over d (at + k) (drop k (big_endian w n))

-- the first k bytes of the number n are those of the number `left`
unfoldable pub Remains : ℕ → ℕ → ℕ → ℕ → Type 0
Remains w n k left = big_endian w n ≡ big_endian k left ++ drop k (big_endian w n)

-- after the last of its w bytes a number has none
drop_whole : (w n : ℕ) → drop w (big_endian w n) ≡ []
drop_whole w n = let h : length (big_endian w n) ≤ w = omega (arith, length_big_endian w n) in drop_of_length-le (big_endian w n) h

-- before the first turn no byte is written
pub low_none : (d : List ℕ) (at w n : ℕ) → d ≡ low_bytes d at w n w
unfolding low_bytes
low_none d at w n = sym (ap (over d (at + w)) (drop_whole w n) ∙ over_nil d (at + w))

-- before the first turn all of n is left
pub remains_whole : (w n : ℕ) → Remains w n w n
unfolding Remains
remains_whole w n = sym (ap (λ (x : List ℕ). big_endian w n ++ x) (drop_whole w n) ∙ append-nil (big_endian w n))

module _ (w n left : ℕ) where
  -- the lowest byte of what is left stands before the bytes that are written
  remains_open : (j : ℕ) → Remains w n (suc j) left → big_endian w n
      ≡ big_endian j (left / 256) ++ (left % 256 ∷ drop (suc j) (big_endian w n))
  unfolding Remains big_endian
  remains_open j r = r ∙ append_assoc (big_endian j (left / 256)) (left % 256 ∷ []) (drop (suc j) (big_endian w n))

  -- the byte to be written next is the lowest byte of what is left
  next_byte : (j : ℕ) → Remains w n (suc j) left → drop j (big_endian w n) ≡ left % 256 ∷ drop (suc j) (big_endian w n)
  next_byte j r =
      ap (drop j) (remains_open j r) ∙ drop_at (big_endian j (left / 256)) (left % 256 ∷ drop (suc j) (big_endian w n)) j
      (length_big_endian j (left / 256))

  -- the same as `remains_more`, with the count as a successor
  remains_suc : (j : ℕ) → Remains w n (suc j) left → Remains w n j (left / 256)
  unfolding Remains
  remains_suc j r = remains_open j r ∙ ap (λ (x : List ℕ). big_endian j (left / 256) ++ x) (sym (next_byte j r))

  -- the same as `low_more`, with the count as a successor
  low_suc : (d : List ℕ) (at j : ℕ) → at + j < length d → Remains w n (suc j) left
      → set (low_bytes d at w n (suc j)) (at + j) (left % 256) ≡ low_bytes d at w n j
  unfolding low_bytes
  low_suc d at j h r =
      let e : at + suc j ≡ suc (at + j) = omega arith in
      ap (λ (k : ℕ). set (over d k (drop (suc j) (big_endian w n))) (at + j) (left % 256)) e
      ∙ over_cons d (at + j) (drop (suc j) (big_endian w n)) (left % 256) h
      ∙ ap (over d (at + j)) (sym (next_byte j r))

  -- a turn leaves the number without its lowest byte
  pub remains_more : (k : ℕ) → 0 < k → Remains w n k left → Remains w n (k - 1) (left / 256)
  remains_more zero p r = absurd (omega arith)
  remains_more (suc j) p r = rw (sub-one (suc j)) (remains_suc j r)

  -- a turn writes the lowest byte of what is left
  pub low_more : (d : List ℕ) (at k : ℕ) → 0 < k → at + k ≤ length d → Remains w n k left
      → set (low_bytes d at w n k) (at + (k - 1)) (left % 256) ≡ low_bytes d at w n (k - 1)
  low_more d at zero p h r = absurd (omega arith)
  low_more d at (suc j) p h r = rw (sub-one (suc j)) (low_suc d at j (omega arith) r)

-- after the last turn the whole number is written
pub low_all : (d : List ℕ) (at w n k : ℕ) → k ≡ 0 → low_bytes d at w n k ≡ over d at (big_endian w n)
unfolding low_bytes
low_all d at w n k e = ap (low_bytes d at w n) e ∙ ap (λ (p : ℕ). over d p (big_endian w n)) (add-zero at)
