-- Laws of rows of which no two have one id (specs/Table.antt of `lease_spec`), in the code's own form. Assumes nothing.
use Rattle.std.proofs.Common.{◌≡◌, ℕ, zero, suc, ◌+◌, ◌-◌, ◌*◌, ◌%◌, ◌^◌, ◌≤◌, ◌<◌, Bool, true, false, not, List, length, get_or, set, take, drop, refl, sym, ap, ◌∙◌, subst, arith, leb, eqb, length-set, get_or-set_same, get_or-set_other}
use mathlib.Core.Bool.{and-true, false≢true}
use Rattle.std.proofs.Math.Nat.{pow-suc}
use borrow.Author.Tests.{leb-true, leb-false, eqb-true, eqb-false}
use Rattle.std.specs.Int.Bits.{bit_or}
use Rattle.std.proofs.lemmas.Nat.{or_shifted}
use Rattle.octets.specs.Bytes.{part}
use Rattle.octets.specs.Number.{number_at}
use Rattle.octets.proofs.Tests.{and_false}
use Rattle.octets.proofs.SameLaws.{not_same}
use Rattle.octets.proofs.NumberLaws.{number_part}
use Rattle.octets.proofs.PartLaws.{lent_part}
use Rattle.descriptor_spec.specs.Allowed.{id_size}
use Rattle.lease_spec.specs.Table.{lease_size, number_width, has_id, ids_differ, row_at, rows_from}
use Rattle.lease.specs.Code.{id_number, slots, slot_of}
use Rattle.lease.proofs.RowCode.{rows_first, rows_turn, rows_none, rows_all}

-- ---- an id as a number

-- a number is that of its first w bytes, and that of the k after them
number_add : (s : List ℕ) (at w k : ℕ) → number_at s at (w + k) ≡ number_at s at w * 256 ^ k + number_at s (at + w) k
unfolding number_at
number_add s at w zero = let e : w + 0 ≡ w = omega arith in ap (number_at s at) e ∙ omega arith
number_add s at w (suc k) =
    let e : w + suc k ≡ suc (w + k) = omega arith in
    let place : at + (w + k) ≡ at + w + k = omega arith in
    ap (number_at s at) e ∙ rw (number_add s at w k, place, pow-suc) (omega arith)

-- the number of an id is that of its two halves
pub halves_joined : (s : List ℕ) (i : ℕ) → number_at s (lease_size * i) number_width < 2 ^ 64
    → number_at s (lease_size * i + number_width) number_width < 2 ^ 64
    → bit_or (number_at s (lease_size * i) number_width * 2 ^ 64 % 2 ^ 128) (number_at s (lease_size * i + number_width) number_width)
    ≡ id_number s i
halves_joined s i h l =
    let high = number_at s (lease_size * i) number_width in
    let low = number_at s (lease_size * i + number_width) number_width in
    let fits : high * 2 ^ 64 % 2 ^ 128 ≡ high * 2 ^ 64 = omega arith in
    ap (λ (x : ℕ). bit_or x low) fits ∙ or_shifted high 64 low l ∙ sym (number_add s (lease_size * i) number_width number_width)

-- the id of row j
abbrev id_of : List ℕ → ℕ → List ℕ
id_of s j = part s (lease_size * j) id_size

-- rows with one id have one number
same_number : (s : List ℕ) (j k : ℕ) → id_of s j ≡ id_of s k → id_number s j ≡ id_number s k
same_number s j k e =
    let is : (i : ℕ) → id_number s i ≡ number_at (id_of s i) 0 id_size = λ i.
    let at : lease_size * i + 0 ≡ lease_size * i = omega arith in
    ap (λ (p : ℕ). number_at s p id_size) (sym at) ∙ sym (number_part s (lease_size * i) id_size 0 id_size (omega arith)) in
    is j ∙ ap (λ (x : List ℕ). number_at x 0 id_size) e ∙ sym (is k)

-- an id that each row from row i on differs from is in none of them
id_absent : (s id : List ℕ) (i m : ℕ) → ((j : ℕ) → i ≤ j → j < i + m → id_of s j ≡ id → ⊥) → has_id (rows_from s i m) id ≡ false
unfolding has_id rows_from row_at
id_absent s id i zero h = refl
id_absent s id i (suc m) h =
    rw (not_same (id_of s i) id (h i (omega arith) (omega arith)))
    (id_absent s id (i + 1) m (λ j p q. h j (omega arith) (omega arith)))

-- what holds of row i - 1 and of each row from row i on holds of each row from row i - 1 on
from_less : (P : ℕ → Type 0) (i n : ℕ) → P (i - 1) → ((j : ℕ) → i ≤ j → j < n → P j) → (j : ℕ) → i - 1 ≤ j → j < n → P j
from_less P i n here rest j p q = go (leb i j) refl
  where
    go : (t : Bool) → leb i j ≡ t → P j
    go true e = rest j (leb-true i j e) q
    go false e = let k : i - 1 ≡ j = omega (arith, leb-false i j e) in subst P k here

-- ---- rows of which no two have one id

-- no row is left after the last, so no two have one id
differ_none : (s : List ℕ) (n : ℕ) → ids_differ (rows_from s n (n - n)) ≡ true
unfolding ids_differ
differ_none s n = ap ids_differ (rows_none s n n (omega arith))

-- where two of the rows from row i on have one id, two of all rows have
differ_back : (s : List ℕ) (n i : ℕ) → i ≤ n → ids_differ (rows_from s i (n - i)) ≡ false → ids_differ (rows_from s 0 n) ≡ false
unfolding ids_differ
differ_back s n zero h e = sym (ap ids_differ (rows_all s 0 n refl)) ∙ e
differ_back s n (suc i) h e =
    let next : i + 1 ≡ suc i = omega arith in
    let rest : ids_differ (rows_from s (i + 1) (n - (i + 1))) ≡ false = ap (λ (k : ℕ). ids_differ (rows_from s k (n - k))) next ∙ e in
    differ_back s n i (omega arith)
    (ap ids_differ (rows_first s i n (omega arith))
    ∙ rw rest (and_false (not (has_id (rows_from s (i + 1) (n - (i + 1))) (row_at s (lease_size * i)).id))))

-- with row i - 1 the rows from row i on have different ids exactly where its id is in none of them
differ_more : (s : List ℕ) (n i : ℕ) → 0 < i → i ≤ n → ids_differ (rows_from s i (n - i)) ≡ true → (t : Bool)
    → has_id (rows_from s i (n - i)) (id_of s (i - 1)) ≡ t → ids_differ (rows_from s (i - 1) (n - (i - 1))) ≡ not t
unfolding ids_differ row_at
differ_more s n i pos h d t e = ap ids_differ (rows_turn s i n pos h) ∙ rw (e, d) (and-true (not t))

-- ---- ids that ascend

-- the rows from row i on have different ids, and none of these is below the number
pub record Ascends (s : List ℕ) (n i number : ℕ) : Type 0 where
  pub inside : i ≤ n
  pub differ : ids_differ (rows_from s i (n - i)) ≡ true
  pub least : (j : ℕ) → i ≤ j → j < n → number ≤ id_number s j

-- before the first turn no row was looked at
pub ascends_begin : (s : List ℕ) (n number : ℕ) → Ascends s n n number
ascends_begin s n number = record { inside = omega arith; differ = differ_none s n; least = λ j p q. absurd (omega arith) }

-- after the last turn all were
pub ascends_end : (s : List ℕ) (n i number : ℕ) → Ascends s n i number → i ≡ 0 → ids_differ (rows_from s 0 n) ≡ true
ascends_end s n i number d e = sym (ap ids_differ (rows_all s i n e)) ∙ d.differ

-- a row whose id is below them is added, and its id is the least
pub ascends_more : (s : List ℕ) (n i number : ℕ) → Ascends s n i number → 0 < i → id_number s (i - 1) < number
    → Ascends s n (i - 1) (id_number s (i - 1))
ascends_more s n i number d pos below = record {
  inside = omega (arith, d.inside);
  differ = differ_more s n i pos d.inside d.differ false (id_absent s (id_of s (i - 1)) i (n - i)
      (λ j p q e. absurd (omega (arith, below, d.least j p (omega (arith, d.inside)), same_number s j (i - 1) e))));
  least = from_less (λ (j : ℕ). id_number s (i - 1) ≤ id_number s j) i n (omega arith)
      (λ j p q. omega (arith, below, d.least j p q));
}

-- ---- ids in any order

-- a slot that is marked stays so where a slot is marked
mark_stays : (seen : List Bool) (k m : ℕ) → k < length seen → get_or seen m false ≡ true → get_or (set seen k true) m false ≡ true
mark_stays seen k m h e = go (eqb m k) refl
  where
    go : (t : Bool) → eqb m k ≡ t → get_or (set seen k true) m false ≡ true
    go true f = ap (λ (x : ℕ). get_or (set seen k true) x false) (eqb-true m k f) ∙ get_or-set_same seen k true false h
    go false f = get_or-set_other seen k m true false (eqb-false m k f) ∙ e

-- the rows from row i on have different ids, and the slot of each is marked
pub record Marked (s : List ℕ) (n i : ℕ) (seen : List Bool) : Type 0 where
  pub inside : i ≤ n
  pub size : length seen ≡ slots
  pub differ : ids_differ (rows_from s i (n - i)) ≡ true
  pub marked : (j : ℕ) → i ≤ j → j < n → get_or seen (slot_of (id_number s j)) false ≡ true

-- before the first turn no row was looked at
pub marked_begin : (s : List ℕ) (n : ℕ) (seen : List Bool) → length seen ≡ slots → Marked s n n seen
marked_begin s n seen e = record {
  inside = omega arith;
  size = e;
  differ = differ_none s n;
  marked = λ j p q. absurd (omega arith);
}

-- after the last turn all were
pub marked_end : (s : List ℕ) (n i : ℕ) (seen : List Bool) → Marked s n i seen → i ≡ 0 → true ≡ ids_differ (rows_from s 0 n)
marked_end s n i seen d e = sym d.differ ∙ ap ids_differ (rows_all s i n e)

module _ (s : List ℕ) (n i : ℕ) (seen : List Bool) (d : Marked s n i seen) (pos : 0 < i) (slot : ℕ) (fits : slot < slots)
    (es : slot ≡ slot_of (id_number s (i - 1))) where
  -- with row i - 1, whose slot is marked, the rows still have different ids where its id is in none of them
  marked_more : has_id (rows_from s i (n - i)) (id_of s (i - 1)) ≡ false → Marked s n (i - 1) (set seen slot true)
  marked_more e = record {
    inside = omega (arith, d.inside);
    size = simp length-set d.size;
    differ = differ_more s n i pos d.inside d.differ false e;
    marked = from_less (λ (j : ℕ). get_or (set seen slot true) (slot_of (id_number s j)) false ≡ true) i n
        (ap (λ (k : ℕ). get_or (set seen slot true) k false) (sym es) ∙ get_or-set_same seen slot true false (omega (arith, d.size)))
        (λ j p q. mark_stays seen slot (slot_of (id_number s j)) (omega (arith, d.size)) (d.marked j p q));
  }

  -- an id whose slot was not marked is in none of the rows from row i on
  pub marked_fresh : get_or seen slot false ≡ false → Marked s n (i - 1) (set seen slot true)
  marked_fresh e =
      marked_more (id_absent s (id_of s (i - 1)) i (n - i)
      (λ j p q f. false≢true (sym e ∙ ap (λ (k : ℕ). get_or seen k false) (es ∙ ap slot_of (sym (same_number s j (i - 1) f)))
      ∙ d.marked j p (omega (arith, d.inside)))))

  module _ {t : Bool}
      (et : t ≡ has_id (rows_from s (i - 1 + 1) (n - (i - 1 + 1)))
      (take (lease_size * (i - 1) + id_size - lease_size * (i - 1)) (drop (lease_size * (i - 1)) s))) where
    -- what was searched for is the id of row i - 1 in the rows from row i on
    searched : has_id (rows_from s i (n - i)) (id_of s (i - 1)) ≡ t
    searched =
        let e : i ≡ i - 1 + 1 = omega arith in
        ap (λ (k : ℕ). has_id (rows_from s k (n - k)) (id_of s (i - 1))) e
        ∙ ap (has_id (rows_from s (i - 1 + 1) (n - (i - 1 + 1)))) (sym (lent_part s (lease_size * (i - 1)) id_size))
        ∙ sym et

    -- an id that is found there is in two rows
    pub marked_twice : t ≡ true → false ≡ ids_differ (rows_from s 0 n)
    marked_twice g =
        sym (differ_back s n (i - 1) (omega (arith, d.inside)) (differ_more s n i pos d.inside d.differ true (searched ∙ g)))

    -- another one is not
    pub marked_other : t ≡ false → Marked s n (i - 1) (set seen slot true)
    marked_other g = marked_more (searched ∙ g)
