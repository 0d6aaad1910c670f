-- Laws of the loop that notes the rows of the table for one child grant (specs/Code.antt), where a row that adds no mode is left out.
-- Assumes nothing.
use mathlib.Core.Path.{◌≡◌, refl, sym, ap, ap₂, ◌∙◌}
use mathlib.Core.Bool.{Bool, true, false, not, cond, ◌&&◌, ◌||◌, or-false}
use mathlib.Core.List.{List}
use Prim.Native.Nat.{ℕ, zero, suc, ◌+◌, ◌-◌, ◌≤◌, ◌<◌}
use native.Mathlib.Omega.{arith}
use lib.ListN.{length, get_or}
use lib.Bits.{bit_and, bit_or}
use Rattle.octets.proofs.Tests.{no_flag}
use Rattle.descriptor_spec.specs.Reader.{has_mode}
use Rattle.narrowing.specs.Range.{Range}
use Rattle.narrowing.specs.declared.search.Row.{Row}
use Rattle.std.proofs.Common.{None}
use Rattle.narrowing.specs.Range.{in_range, most, text_range}
use Rattle.narrowing.specs.Code.{row_at, row_levels, marked_rows, row_marked, lacks_at, lowest_from, lowest_in}
use Rattle.narrowing.specs.Code.{full_range, full_modes}
use Rattle.narrowing_spec.proofs.Laws.{least_same}
use Rattle.narrowing.proofs.RangeLaws.{marked_length, marked_at_lem, or_mode, and_mode}
use Rattle.narrowing.proofs.MarkedLaws.{or_where, zero_lacks}
use Rattle.narrowing.proofs.TableLaws.{rows_length, rows_more}
use Rattle.narrowing.proofs.AloneLaws.{low, high, lowest_in_lem, low_high, high_most, full_all, Have, lowest_nothing, or_true, joined}
use Rattle.narrowing.proofs.AloneLaws.{rows_keep, between}

-- ---- masks that agree

-- masks that agree in the modes of the mask tell the same
lowest_same : (x y : List ℕ) (mask from to : ℕ) → from ≤ to
    → ((m k : ℕ) → has_mode mask m ≡ true → from ≤ k → k < to → has_mode (get_or x k 0) m ≡ has_mode (get_or y k 0) m)
    → (m n : ℕ) → lowest_from x mask from to m n ≡ lowest_from y mask from to m n
unfolding lowest_from
lowest_same x y mask from to l h m zero = refl
lowest_same x y mask from to l h m (suc n) = go (has_mode mask m) refl (lowest_same x y mask from to l h (m + 1) n)
  where
    go : (b : Bool) → has_mode mask m ≡ b → lowest_from x mask from to (m + 1) n ≡ lowest_from y mask from to (m + 1) n
        → lowest_from x mask from to m (suc n) ≡ lowest_from y mask from to m (suc n)
    go true e r = rw (lowest_from, e, least_same (lacks_at x m) (lacks_at y m) from (to - from) (λ k f g. ap not (h m k e f (omega arith))), r)
    go false e r = rw (lowest_from, e, r)

-- one of two tests that is true
or_other : (a b : Bool) → (a || b) ≡ true → a ≡ false → b ≡ true
or_other true b e f = no_flag (sym f)
or_other false b e f = e

-- ---- one row

module _ (s : List ℕ) (t : List Row) (p : List ℕ) where
  -- after row i is marked the mask at k has the modes that it had, and those of the row where its range has k
  row_marked_lem : (i : ℕ) (x : List ℕ) (m k : ℕ) → k < length x
      → has_mode (get_or (row_marked s (row_at t i) p x) k 0) m
      ≡ (has_mode (get_or x k 0) m || (has_mode (row_at t i).mask m && in_range (text_range (row_levels s (row_at t i)) p) k))
  unfolding row_marked
  row_marked_lem i x m k l =
      let r : Range = text_range (row_levels s (row_at t i)) p in
      ap (λ (y : ℕ). has_mode y m) (marked_at_lem x r (row_at t i).mask k l) ∙ or_where (in_range r k) (get_or x k 0) (row_at t i).mask m

  -- a row keeps the number of masks
  row_length_lem : (i : ℕ) (x : List ℕ) → length (row_marked s (row_at t i) p x) ≡ length x
  unfolding row_marked
  row_length_lem i x = marked_length 0 x (text_range (row_levels s (row_at t i)) p) (row_at t i).mask

  -- a mode of a row that covers with each number is marked at each
  full_marked : (i : ℕ) (deep : Bool) (x : List ℕ) (m k : ℕ) → k < length x → low deep ≤ k → k < high deep
      → has_mode (full_modes s (row_at t i) p deep) m ≡ true
      → has_mode (get_or (row_marked s (row_at t i) p x) k 0) m ≡ true
  unfolding full_modes
  full_marked i deep x m k l a b h = go (full_range r deep) refl h
    where
      r : Range
      r = text_range (row_levels s (row_at t i)) p

      go : (c : Bool) → full_range r deep ≡ c → has_mode (cond c (row_at t i).mask 0) m ≡ true → has_mode (get_or (row_marked s (row_at t i) p x) k 0) m ≡ true
      go true f g =
          row_marked_lem i x m k l
          ∙ ap₂ (λ (u v : Bool). has_mode (get_or x k 0) m || (u && v)) g (between r (low deep) (high deep) k (full_all r deep f) a b)
          ∙ or_true (has_mode (get_or x k 0) m)
      go false f g = no_flag (sym (zero_lacks m) ∙ g)

-- ---- the loop

-- after i rows x has, of the mask's modes, what the masks with these rows marked have, and at each number each mode of `done`
pub record Noting (s : List ℕ) (t : List Row) (p d : List ℕ) (mask : ℕ) (deep : Bool) (x : List ℕ) (done i : ℕ) : Type 0 where
  pub whole : length d ≡ most
  pub size : length x ≡ most
  pub agree : (m k : ℕ) → has_mode mask m ≡ true → low deep ≤ k → k < high deep
      → has_mode (get_or x k 0) m ≡ has_mode (get_or (marked_rows s t p d i) k 0) m
  pub have : (m k : ℕ) → has_mode done m ≡ true → low deep ≤ k → k < high deep → has_mode (get_or x k 0) m ≡ true

-- no row is marked at first
pub marking_begin : (s : List ℕ) (t : List Row) (p d : List ℕ) (mask : ℕ) (deep : Bool) → length d ≡ most → Noting s t p d mask deep d 0 0
unfolding marked_rows
marking_begin s t p d mask deep l =
    record { whole = l; size = l; agree = λ m k h a b. refl; have = λ m k h a b. no_flag (sym (zero_lacks m) ∙ h) }

-- a mask within another has no mode that the other lacks
within : (x y m : ℕ) → bit_or x y ≡ y → has_mode x m ≡ true → has_mode y m ≡ true
within x y m e h = sym (ap (λ (z : ℕ). has_mode z m) e) ∙ or_mode x y m ∙ ap (λ (b : Bool). b || has_mode y m) h

module _ (s : List ℕ) (t : List Row) (p d : List ℕ) (mask : ℕ) (deep : Bool) (x : List ℕ) (done i : ℕ) (n : Noting s t p d mask deep x done i) where
  -- the numbers that can be taken have a mask
  room : (k : ℕ) → k < high deep → (k < length x) × (k < length (marked_rows s t p d i))
  room k b = (omega (arith, n.size, high_most deep), omega (arith, n.whole, high_most deep, rows_length s t p d i))

  -- where two ways of the loop meet
  pub marking_met : (y : List ℕ) (o : ℕ) → y ≡ x → o ≡ done → Noting s t p d mask deep y o i
  marking_met y o e f = rw (e, f) n

  -- the row i adds no mode
  pub marking_skip : bit_or (bit_and (row_at t i).mask mask) done ≡ done → Noting s t p d mask deep x done (i + 1)
  marking_skip e = record { whole = n.whole; size = n.size; agree = agree_next; have = n.have }
    where
      agree_next : (m k : ℕ) → has_mode mask m ≡ true → low deep ≤ k → k < high deep
          → has_mode (get_or x k 0) m ≡ has_mode (get_or (marked_rows s t p d (i + 1)) k 0) m
      agree_next m k h a b =
          n.agree m k h a b ∙ go (has_mode (row_at t i).mask m) refl
          ∙ sym (ap (λ (z : List ℕ). has_mode (get_or z k 0) m) (rows_more s t p d i)
          ∙ row_marked_lem s t p i (marked_rows s t p d i) m k (room k b).1)
        where
          q : Bool
          q = in_range (text_range (row_levels s (row_at t i)) p) k

          before : Bool
          before = has_mode (get_or (marked_rows s t p d i) k 0) m

          go : (c : Bool) → has_mode (row_at t i).mask m ≡ c → before ≡ (before || (has_mode (row_at t i).mask m && q))
          go true f =
              let common : has_mode (bit_and (row_at t i).mask mask) m ≡ true =
              and_mode (row_at t i).mask mask m ∙ ap₂ (λ (u v : Bool). u && v) f h in
              let had : before ≡ true = sym (n.agree m k h a b) ∙ n.have m k (within (bit_and (row_at t i).mask mask) done m e common) a b in
              had ∙ sym (ap (λ (u : Bool). u || (has_mode (row_at t i).mask m && q)) had)
          go false f = sym (ap (λ (u : Bool). before || (u && q)) f ∙ or-false before)

  -- it was marked
  pub marking_next : (y : List ℕ) (r : ℕ) → y ≡ row_marked s (row_at t i) p x → r ≡ full_modes s (row_at t i) p deep
      → Noting s t p d mask deep y (bit_or done r) (i + 1)
  marking_next y r e f =
      record { whole = n.whole; size = ap length e ∙ row_length_lem s t p i x ∙ n.size; agree = agree_next; have = have_next }
    where
      agree_next : (m k : ℕ) → has_mode mask m ≡ true → low deep ≤ k → k < high deep
          → has_mode (get_or y k 0) m ≡ has_mode (get_or (marked_rows s t p d (i + 1)) k 0) m
      agree_next m k h a b =
          ap (λ (z : List ℕ). has_mode (get_or z k 0) m) e ∙ row_marked_lem s t p i x m k (room k b).0
          ∙ ap (λ (u : Bool). u || (has_mode (row_at t i).mask m && in_range (text_range (row_levels s (row_at t i)) p) k)) (n.agree m k h a b)
          ∙ sym (ap (λ (z : List ℕ). has_mode (get_or z k 0) m) (rows_more s t p d i)
          ∙ row_marked_lem s t p i (marked_rows s t p d i) m k (room k b).1)

      have_next : (m k : ℕ) → has_mode (bit_or done r) m ≡ true → low deep ≤ k → k < high deep → has_mode (get_or y k 0) m ≡ true
      have_next m k h a b = ap (λ (z : List ℕ). has_mode (get_or z k 0) m) e ∙ go (has_mode done m) refl
        where
          go : (c : Bool) → has_mode done m ≡ c → has_mode (get_or (row_marked s (row_at t i) p x) k 0) m ≡ true
          go true g =
              row_marked_lem s t p i x m k (room k b).0
              ∙ ap (λ (u : Bool). u || (has_mode (row_at t i).mask m && in_range (text_range (row_levels s (row_at t i)) p) k)) (n.have m k g a b)
          go false g =
              full_marked s t p i deep x m k (room k b).0 a b
              (ap (λ (z : ℕ). has_mode z m) (sym f) ∙ or_other (has_mode done m) (has_mode r m) (sym (or_mode done r m) ∙ h) g)

  -- the rows so far have all modes of the mask
  pub marking_covered : (rows : ℕ) → i ≤ rows → bit_or done mask ≡ done → None ≡ lowest_in deep (marked_rows s t p d rows) mask
  marking_covered rows l e =
      sym (lowest_in_lem deep (marked_rows s t p d rows) mask
      ∙ lowest_nothing (marked_rows s t p d rows) mask (low deep) (high deep) (low_high deep) all 0 4)
    where
      all : (m : ℕ) → has_mode mask m ≡ true → Have (marked_rows s t p d rows) (low deep) (high deep) m
      all m h k a b =
          let covered : has_mode done m ≡ true = sym (ap (λ (z : ℕ). has_mode z m) e) ∙ joined done mask m h in
          rows_keep s t p d m k (omega (arith, n.whole, high_most deep)) i (sym (n.agree m k h a b) ∙ n.have m k covered a b) rows l

  -- all rows are marked
  pub marking_end : lowest_in deep x mask ≡ lowest_in deep (marked_rows s t p d i) mask
  marking_end =
      lowest_in_lem deep x mask
      ∙ lowest_same x (marked_rows s t p d i) mask (low deep) (high deep) (low_high deep) n.agree 0 4
      ∙ sym (lowest_in_lem deep (marked_rows s t p d i) mask)
