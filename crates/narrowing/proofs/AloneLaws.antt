-- Laws of a parent's grant that covers a child's grant alone (specs/Code.antt): then no path escapes by the child's grant. Assumes nothing.
use mathlib.Core.Path.{◌≡◌, refl, sym, ap, ◌∙◌, subst}
use mathlib.Core.Bool.{Bool, true, false, not, cond, ◌||◌}
use mathlib.Core.List.{List}
use Prim.Native.Nat.{ℕ, zero, suc, ◌+◌, ◌-◌, ◌≤◌, ◌<◌}
use native.Mathlib.Decide.{dec_lt}
use native.Mathlib.Omega.{arith}
use lib.ListN.{length, get_or, length-replicate}
use lib.Dec.{eqb, leb, ltb}
use lib.Bits.{bit_or}
use borrow.Author.Tests.{leb-true, eqb-true, le-leb, lt-ltb}
use Rattle.resource_spec.specs.Level.{levels}
use Rattle.resource_spec.specs.Pattern.{ends_deep}
use Rattle.resource_spec.specs.Text.{levels_of}
use Rattle.octets.proofs.Tests.{and_left, and_right, no_flag}
use Rattle.descriptor_spec.specs.Reader.{has_mode}
use Rattle.narrowing.specs.Range.{Range}
use Rattle.narrowing.specs.declared.search.Row.{Row}
use Rattle.std.proofs.Common.{None}
use Rattle.narrowing_spec.specs.Escape.{least}
use Rattle.narrowing.specs.Range.{in_range, most, text_range}
use Rattle.narrowing.specs.Code.{row_at, row_levels, marked_rows, lacks_at, lowest_from, lowest_in, zeros, EscapeOf}
use Rattle.narrowing.specs.Code.{row_marked, full_range, row_covers}
use Rattle.narrowing_spec.proofs.Laws.{least_fails}
use Rattle.narrowing.proofs.RangeLaws.{marked_at_lem, or_mode}
use Rattle.narrowing.proofs.TableLaws.{rows_length, escape_nothing}

-- ---- the numbers of names that can be taken

-- the least
abbrev pub low : Bool → ℕ
low true = 1
low false = 0

-- the first that is too many
abbrev pub high : Bool → ℕ
high true = most
high false = 1

-- the search looks at these
pub lowest_in_lem : (deep : Bool) (d : List ℕ) (mask : ℕ) → lowest_in deep d mask ≡ lowest_from d mask (low deep) (high deep) 0 4
unfolding lowest_in
lowest_in_lem true d mask = refl
lowest_in_lem false d mask = refl

-- there is one
pub low_high : (deep : Bool) → low deep ≤ high deep
low_high true = omega arith
low_high false = omega arith

-- no mask is marked for more
pub high_most : (deep : Bool) → high deep ≤ most
high_most true = omega arith
high_most false = omega arith

-- ---- nothing is lacking

-- the masks from `from` on and below `to` have the mode
abbrev pub Have : List ℕ → ℕ → ℕ → ℕ → Type 0
Have d from to m = (k : ℕ) → from ≤ k → k < to → has_mode (get_or d k 0) m ≡ true

-- where they have each mode of the mask, nothing is found
pub lowest_nothing : (d : List ℕ) (mask from to : ℕ) → from ≤ to → ((m : ℕ) → has_mode mask m ≡ true → Have d from to m)
    → (m n : ℕ) → lowest_from d mask from to m n ≡ None
unfolding lowest_from
lowest_nothing d mask from to l h m zero = refl
lowest_nothing d mask from to l h m (suc n) = go (has_mode mask m) refl (lowest_nothing d mask from to l h (m + 1) n)
  where
    go : (b : Bool) → has_mode mask m ≡ b → lowest_from d mask from to (m + 1) n ≡ None → lowest_from d mask from to m (suc n) ≡ None
    go true e r =
        let o : least (lacks_at d m) from (to - from) ≡ None =
        least_fails (lacks_at d m) from (to - from) (λ k f g. ap not (h m e k f (omega arith))) in
        rw (lowest_from, e, o, r)
    go false e r = rw (lowest_from, e, r)

-- ---- what a row notes

-- a mask to which another may be joined keeps its modes
kept : (b : Bool) (x y m : ℕ) → has_mode x m ≡ true → has_mode (cond b (bit_or x y) x) m ≡ true
kept true x y m h = or_mode x y m ∙ ap (λ (c : Bool). c || has_mode y m) h
kept false x y m h = h

-- a test or true is true
pub or_true : (a : Bool) → (a || true) ≡ true
or_true true = refl
or_true false = refl

-- a mask joined of two has the modes of the second
pub joined : (x y m : ℕ) → has_mode y m ≡ true → has_mode (bit_or x y) m ≡ true
joined x y m h = or_mode x y m ∙ ap (λ (c : Bool). has_mode x m || c) h ∙ or_true (has_mode x m)

module _ (s : List ℕ) (t : List Row) (p d : List ℕ) (m k : ℕ) (l : k < length d) where
  -- the mask at k, after one row more is marked
  row_at_lem : (n : ℕ) → (let x = get_or (marked_rows s t p d n) k 0 in
      get_or (marked_rows s t p d (suc n)) k 0 ≡ cond (in_range (text_range (row_levels s (row_at t n)) p) k) (bit_or x (row_at t n).mask) x)
  unfolding marked_rows row_marked
  row_at_lem n = marked_at_lem (marked_rows s t p d n) (text_range (row_levels s (row_at t n)) p) (row_at t n).mask k (omega (arith, rows_length s t p d n))

  -- it keeps its modes
  row_keeps : (n : ℕ) → has_mode (get_or (marked_rows s t p d n) k 0) m ≡ true → has_mode (get_or (marked_rows s t p d (suc n)) k 0) m ≡ true
  row_keeps n h =
      ap (λ (y : ℕ). has_mode y m) (row_at_lem n) ∙ kept (in_range (text_range (row_levels s (row_at t n)) p) k) (get_or (marked_rows s t p d n) k 0)
      (row_at t n).mask m h

  -- after n rows it has the modes that it had after i of them
  pub rows_keep : (i : ℕ) → has_mode (get_or (marked_rows s t p d i) k 0) m ≡ true → (n : ℕ) → i ≤ n
      → has_mode (get_or (marked_rows s t p d n) k 0) m ≡ true
  rows_keep i h zero g = let this : i ≡ 0 = omega arith in subst (λ (j : ℕ). has_mode (get_or (marked_rows s t p d j) k 0) m ≡ true) this h
  rows_keep i h (suc n) g = go (dec_lt i (suc n)) (λ e. row_keeps n (rows_keep i h n e))
    where
      go : Dec (i < suc n) → (i ≤ n → has_mode (get_or (marked_rows s t p d (suc n)) k 0) m ≡ true)
          → has_mode (get_or (marked_rows s t p d (suc n)) k 0) m ≡ true
      go (yes e) f = f (omega arith)
      go (no e) f = let this : i ≡ suc n = omega arith in subst (λ (j : ℕ). has_mode (get_or (marked_rows s t p d j) k 0) m ≡ true) this h

  -- after n rows it has a mode of a row whose range has k
  rows_have : (i : ℕ) → has_mode (row_at t i).mask m ≡ true → in_range (text_range (row_levels s (row_at t i)) p) k ≡ true
      → (n : ℕ) → i < n → has_mode (get_or (marked_rows s t p d n) k 0) m ≡ true
  rows_have i h r n g =
      let x : ℕ = get_or (marked_rows s t p d i) k 0 in
      let here : has_mode (get_or (marked_rows s t p d (suc i)) k 0) m ≡ true =
      ap (λ (y : ℕ). has_mode y m) (row_at_lem i) ∙ ap (λ (b : Bool). has_mode (cond b (bit_or x (row_at t i).mask) x) m) r
      ∙ joined x (row_at t i).mask m h in
      rows_keep (suc i) here n g

-- ---- a row that covers alone

-- the numbers between two that the range has
pub between : (r : Range) (a b k : ℕ) → (r.start ≤ a) × (b ≤ r.end) → a ≤ k → k < b → in_range r k ≡ true
between r a b k e f g = rw (le-leb r.start k (omega (arith, e.0)), lt-ltb k r.end (omega (arith, e.1)))

-- with "**" those that it can take
full_deep : (r : Range) → full_range r true ≡ true → (r.start ≤ 1) × (most ≤ r.end)
full_deep r e = (
  leb-true r.start 1 (and_left (leb r.start 1) (leb most r.end) e),
  leb-true most r.end
      (and_right (leb r.start 1) (leb most r.end) e),
)

-- without "**" 0
full_flat : (r : Range) → full_range r false ≡ true → (r.start ≤ 0) × (1 ≤ r.end)
full_flat r e =
    let lo : r.start ≡ 0 = eqb-true r.start 0 (and_left (eqb r.start 0) (ltb 0 r.end) e) in
    (omega arith, leb-true 1 r.end (and_right (eqb r.start 0) (ltb 0 r.end) e))

-- a full range has them
pub full_all : (r : Range) (deep : Bool) → full_range r deep ≡ true → (r.start ≤ low deep) × (high deep ≤ r.end)
full_all r true e = full_deep r e
full_all r false e = full_flat r e

module _ (s : List ℕ) (t : List Row) (p : List ℕ) (i n mask : ℕ) (l : i < n) (e : bit_or (row_at t i).mask mask ≡ (row_at t i).mask) where
  -- the masks from a on and below b have each mode, where the range of the row has these numbers
  rows_full : (a b : ℕ) → b ≤ most → ((text_range (row_levels s (row_at t i)) p).start ≤ a) × (b ≤ (text_range (row_levels s (row_at t i)) p).end)
      → (m : ℕ) → has_mode mask m ≡ true → Have (marked_rows s t p zeros n) a b m
  rows_full a b h f m g k v w =
      let size : length zeros ≡ most = length-replicate {A = ℕ} most 0 in
      rows_have s t p zeros m k (omega arith) i (sym (ap (λ (x : ℕ). has_mode x m) e) ∙ joined (row_at t i).mask mask m g)
      (between (text_range (row_levels s (row_at t i)) p) a b k f v w) n l

  -- nothing is lacking
  full_nothing : (deep : Bool) → full_range (text_range (row_levels s (row_at t i)) p) deep ≡ true
      → None ≡ lowest_in deep (marked_rows s t p zeros n) mask
  full_nothing deep f =
      sym (lowest_in_lem deep (marked_rows s t p zeros n) mask
      ∙ lowest_nothing (marked_rows s t p zeros n) mask (low deep) (high deep) (low_high deep)
      (rows_full (low deep) (high deep) (high_most deep) (full_all (text_range (row_levels s (row_at t i)) p) deep f)) 0 4)

-- no path escapes where a row covers alone
pub covers_nothing : (s : List ℕ) (t : List Row) (p : List ℕ) (i mask : ℕ) (shared deep : Bool) → shared ≡ true
    → deep ≡ ends_deep (levels_of (levels p)) → i < length t
    → row_covers s (row_at t i) p mask deep ≡ true → EscapeOf s t shared p mask None
unfolding row_covers
covers_nothing s t p i mask shared deep o e l c = go (eqb (bit_or r.mask mask) r.mask) refl c
  where
    r : Row
    r = row_at t i

    go : (b : Bool) → eqb (bit_or r.mask mask) r.mask ≡ b → cond b (full_range (text_range (row_levels s r) p) deep) false ≡ true
        → EscapeOf s t shared p mask None
    go true q f = escape_nothing s t shared p mask deep o e
        (full_nothing s t p i (length t) mask l (eqb-true (bit_or r.mask mask) r.mask q) deep f)
    go false q f = no_flag f
