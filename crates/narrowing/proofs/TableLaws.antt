-- Laws of the table of the parent's grants (specs/Code.antt): how it is filled, row by row, and how its rows are marked. Assumes nothing.
use Rattle.std.proofs.Common.{◌≡◌, refl, sym, ap, ◌∙◌, Bool, true, false, cond, List, ℕ, zero, suc, ◌+◌, ◌-◌, ◌≤◌, ◌<◌, arith, add-one}
use Rattle.std.proofs.Common.{length, take, set, length-set, get_or-set_same, get_or-set_other, length-take-le, get_or-take, None}
use native.Mathlib.Decide.{dec_lt}
use mathlib.Core.Path.{subst}
use Rattle.resource_spec.specs.Identifier.{levels_place}
use Rattle.octets.specs.Bytes.{part}
use Rattle.exact.specs.Reads.{got, refused}
use Rattle.resource_spec.specs.Level.{levels}
use Rattle.resource_spec.specs.Pattern.{ends_deep}
use Rattle.resource_spec.specs.Text.{levels_of}
use Rattle.descriptor_spec.specs.Reader.{GrantSeen, grant_at}
use Rattle.descriptor_spec.proofs.Laws.{pattern_room}
use Rattle.narrowing.specs.declared.search.Row.{Row}
use Rattle.narrowing.specs.Range.{text_range, marked}
use Rattle.narrowing.specs.Code.{marked_at, row_at, row_levels, row_marked, marked_rows, RowIn, Filled, lowest_in}
use Rattle.narrowing.specs.Code.{zeros, escape_in, EscapeOf}
use Rattle.narrowing.proofs.RangeLaws.{marked_length}
use Rattle.narrowing.proofs.SearchCode.{marked_next, marked_stop}

-- ---- marking the rows

-- noting keeps the number of masks
pub rows_length : (s : List ℕ) (t : List Row) (p d : List ℕ) (n : ℕ) → length (marked_rows s t p d n) ≡ length d
unfolding marked_rows row_marked
rows_length s t p d zero = refl
rows_length s t p d (suc i) =
    let r : Row = row_at t i in
    marked_length 0 (marked_rows s t p d i) (text_range (row_levels s r) p) r.mask ∙ rows_length s t p d i

-- noting one row more
pub rows_more : (s : List ℕ) (t : List Row) (p d : List ℕ) (i : ℕ)
    → marked_rows s t p d (i + 1) ≡ row_marked s (row_at t i) p (marked_rows s t p d i)
unfolding marked_rows
rows_more s t p d i = rw (add-one i)

-- noting n rows looks at no more than these
rows_kept : (s : List ℕ) (t u : List Row) (p d : List ℕ) (n : ℕ) → ((j : ℕ) → j < n → row_at u j ≡ row_at t j)
    → marked_rows s u p d n ≡ marked_rows s t p d n
unfolding marked_rows
rows_kept s t u p d zero h = refl
rows_kept s t u p d (suc i) h = rw (h i (omega arith), rows_kept s t u p d i (λ j l. h j (omega arith)))

-- ---- filling the table

-- the row of a grant
abbrev pub row_of : GrantSeen → Row
row_of g = record { start = g.pattern.start + levels_place; end = g.pattern.start + g.pattern.len; mask = g.mask }

-- noting it is joining its mask for its levels
row_noted : (s p d : List ℕ) (g : GrantSeen)
    → row_marked s (row_of g) p d ≡ marked 0 d (text_range (part s (g.pattern.start + levels_place) (g.pattern.len - levels_place)) p) g.mask
unfolding row_marked
row_noted s p d g =
    let e : g.pattern.start + g.pattern.len - (g.pattern.start + levels_place) ≡ g.pattern.len - levels_place = omega arith in rw e

-- of `count` grants i are in the table, which has room for all, and the others stand from `here` on
pub record Begun (s : List ℕ) (t : List Row) (i here count at : ℕ) : Type 0 where
  pub places : (j : ℕ) → j < i → RowIn s (row_at t j)
  pub room : count ≤ length t
  pub marks : (p d : List ℕ) → marked_at s p (marked_rows s t p d i) (count - i) here ≡ marked_at s p d count at

-- no row is filled at first
pub begun_first : (s : List ℕ) (t : List Row) (count at : ℕ) → count ≤ length t → Begun s t 0 at count at
unfolding marked_rows
begun_first s t count at h =
    let e : count - 0 ≡ count = omega arith in
    record { places = λ j l. absurd (omega arith); room = h; marks = λ p d. rw e }

module _ (s : List ℕ) (t : List Row) (i here count at : ℕ) (b : Begun s t i here count at) (h : i < count) where
  -- the rows before one that is written are kept
  kept : (r : Row) (j : ℕ) → j < i → row_at (set t i r) j ≡ row_at t j
  kept r j l = get_or-set_other t i j r _ (λ e. omega arith)

  -- one row more
  pub begun_next : {g : GrantSeen} {next : ℕ} → got g next ≡ grant_at s here → Begun s (set t i (row_of g)) (i + 1) next count at
  begun_next {g} {next} e = record { places = λ j l. go j l (dec_lt j i); room = omega (arith, length-set t i (row_of g), b.room); marks = noted }
    where
      this : row_at (set t i (row_of g)) i ≡ row_of g
      this = get_or-set_same t i (row_of g) _ (omega (arith, b.room))

      inside : RowIn s (row_of g)
      inside = let r = pattern_room s here _ _ e in (omega (arith, r.0), r.1)

      go : (j : ℕ) → j < i + 1 → Dec (j < i) → RowIn s (row_at (set t i (row_of g)) j)
      go j l (yes n) = subst (RowIn s) (sym (kept (row_of g) j n)) (b.places j n)
      go j l (no n) =
          let last : j ≡ i = omega arith in
          subst (RowIn s) (sym (ap (row_at (set t i (row_of g))) last ∙ this)) inside

      noted : (p d : List ℕ) → marked_at s p (marked_rows s (set t i (row_of g)) p d (i + 1)) (count - (i + 1)) next ≡ marked_at s p d count at
      noted p d =
          let n : count - i ≡ suc (count - (i + 1)) = omega arith in
          rw (rows_more s (set t i (row_of g)) p d i, this, rows_kept s t (set t i (row_of g)) p d i (kept (row_of g)), row_noted s p (marked_rows s t p d i) g)
          (marked_next s p (marked_rows s t p d i) (count - (i + 1)) here e
          ∙ ap (λ (k : ℕ). marked_at s p (marked_rows s t p d i) k here) (sym n) ∙ b.marks p d)

-- the first rows are all that the grants come to
filled_first : (s : List ℕ) (t : List Row) (n count at : ℕ) → n ≤ length t → ((j : ℕ) → j < n → RowIn s (row_at t j))
    → ((p d : List ℕ) → marked_rows s t p d n ≡ marked_at s p d count at) → Filled s (take n t) count at
filled_first s t n count at l h m =
    let size : length (take n t) ≡ n = length-take-le n t l in
    record {
      places = λ j g. subst (RowIn s) (sym (get_or-take n t j _ (omega arith))) (h j (omega arith));
      marks = λ p d. rw (size, rows_kept s t (take n t) p d n (λ j g. get_or-take n t j _ g)) (m p d);
    }

module _ (s : List ℕ) (t : List Row) (i here count at : ℕ) (b : Begun s t i here count at) where
  -- the next grant could not be read
  pub begun_stop : i < count → refused ≡ grant_at s here → Filled s (take i t) count at
  begun_stop h e =
      filled_first s t i count at (omega (arith, b.room)) b.places
      (λ p d. marked_stop s p (marked_rows s t p d i) (count - i) here e ∙ b.marks p d)

  -- none is left
  pub begun_done : i ≡ count → Filled s (take count t) count at
  unfolding marked_at
  begun_done h =
      filled_first s t count count at b.room (λ j l. b.places j (omega arith))
      (λ p d. let n : count - i ≡ 0 = omega arith in ap (marked_rows s t p d) (sym h) ∙ (rw (n, marked_at) at b.marks p d))

-- ---- an escape

-- nothing is lacking where the masks are marked
pub escape_nothing : (s : List ℕ) (t : List Row) (shared : Bool) (p : List ℕ) (mask : ℕ) (deep : Bool) → shared ≡ true
    → deep ≡ ends_deep (levels_of (levels p))
    → None ≡ lowest_in deep (marked_rows s t p zeros (length t)) mask → EscapeOf s t shared p mask None
unfolding escape_in
escape_nothing s t shared p mask deep o f e count at h = rw (o, ← f) (e ∙ ap (λ (x : List ℕ). lowest_in deep x mask) (h.marks p zeros))

module _ (s : List ℕ) (t : List Row) (shared : Bool) (p : List ℕ) (mask : ℕ) (d : List ℕ) (deep : Bool) where
  -- the terminal id is the parent's, and the masks x tell what those with all rows marked do
  pub met_shared : (x : List ℕ) → d ≡ x → shared ≡ true → lowest_in deep x mask ≡ lowest_in deep (marked_rows s t p zeros (length t)) mask
      → lowest_in deep d mask ≡ lowest_in deep (cond shared (marked_rows s t p zeros (length t)) zeros) mask
  met_shared x e o f = rw (e, o) f

  -- it is not
  pub met_other : d ≡ zeros → shared ≡ false
      → lowest_in deep d mask ≡ lowest_in deep (cond shared (marked_rows s t p zeros (length t)) zeros) mask
  met_other e o = rw (e, o)

-- the masks d tell of an escape what those do that are marked where the terminal id is the parent's
pub escape_found : (s : List ℕ) (t : List Row) (shared : Bool) (p : List ℕ) (mask : ℕ) (d : List ℕ) (deep : Bool)
    → lowest_in deep d mask ≡ lowest_in deep (cond shared (marked_rows s t p zeros (length t)) zeros) mask
    → deep ≡ ends_deep (levels_of (levels p)) → EscapeOf s t shared p mask (lowest_in deep d mask)
unfolding escape_in
escape_found s t shared p mask d deep e f count at h =
    e ∙ ap (λ (x : List ℕ). lowest_in deep (cond shared x zeros) mask) (h.marks p zeros)
    ∙ ap (λ (b : Bool). lowest_in b (cond shared (marked_at s p zeros count at) zeros) mask) f
