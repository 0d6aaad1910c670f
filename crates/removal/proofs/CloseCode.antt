-- The turns of the loops that close up, in the code's own form (specs/Close.antt of `image_spec`). Assumes nothing.
use mathlib.Core.Path.{◌≡◌, refl, sym, ap, ap₂, ◌∙◌}
use mathlib.Core.Bool.{Bool, true, false}
use mathlib.Core.List.{List}
use Prim.Native.Nat.{ℕ, suc, ◌+◌, ◌-◌, ◌≤◌, ◌<◌}
use native.Mathlib.Omega.{arith}
use native.Mathlib.Numerals.{add-one}
use lib.ListN.{length, drop, get_or, drop_of_length-le}
use lib.Seq.{drop-cons}
use Rattle.octets.specs.Number.{big_endian, number_in}
use Rattle.octets.specs.Write.{put_at, moved_down}
use Rattle.octets.proofs.OverLaws.{put_length}
use Rattle.octets.proofs.MoveLaws.{down_length}
use Rattle.image_spec.specs.declared.layout.Layout.{Layout}
use Rattle.image_spec.specs.declared.Mark.{Mark}
use Rattle.image_spec.specs.declared.Mark.TheVariants.{Current, Expired, Gone}
use Rattle.image_spec.specs.Layout.{header_width, count_place, body_width, offset_place, length_place, row_size, row_place}
use Rattle.image_spec.specs.Close.{stays, row_kept, one_more, closed_rows, count_kept, body_moved, closed_bodies, closed_up}

-- at most one more is counted
pub one_more_lem : (t : Bool) (k k' : ℕ) → k' ≡ one_more t k → k' ≤ k + 1
one_more_lem true k k' e = omega arith
one_more_lem false k k' e = omega arith

-- what a turn of the loop over the rows counts
pub count_next : (gs : List Mark) (i k k' : ℕ) → i < length gs → k' ≡ one_more (stays (get_or gs i Current)) k
    → count_kept (drop i gs) k ≡ count_kept (drop (i + 1) gs) k'
unfolding count_kept
count_next gs i k k' h e =
    rw e
    (ap (λ (x : List Mark). count_kept x k) (drop-cons gs i Current h)
    ∙ ap (λ (j : ℕ). count_kept (drop j gs) (one_more (stays (get_or gs i Current)) k)) (sym (add-one i)))

module _ (l : Layout) where
  -- ---- lengths

  -- a row that stays or goes keeps the length
  pub row_kept_length : (t : Bool) (d d' : List ℕ) (i k : ℕ) → d' ≡ row_kept l t d i k → length d' ≡ length d
  row_kept_length true d d' i k e = ap length e ∙ down_length d (row_place l i) (row_place l k) (row_size l)
  row_kept_length false d d' i k e = ap length e

  -- a body moved down keeps the length
  pub body_moved_length : (d d' : List ℕ) (r at : ℕ) → d' ≡ body_moved l d r at → length d' ≡ length d
  unfolding body_moved
  body_moved_length d d' r at e =
      ap length e
      ∙ put_length (moved_down d (number_in d (r + offset_place) body_width) at (number_in d (r + length_place) body_width)) (r + offset_place)
      (big_endian body_width at)
      ∙ down_length d (number_in d (r + offset_place) body_width) at (number_in d (r + length_place) body_width)

  -- ---- the rows

  -- a row that goes is not moved, and not counted
  pub row_goes : (d : List ℕ) (i k : ℕ) (mark : Mark) → mark ≡ Gone → (k ≡ one_more (stays mark) k) × (d ≡ row_kept l (stays mark) d i k)
  row_goes d i k mark e = rw e (refl, refl)

  -- a mark with which a row stays
  stays_other : (mark : Mark) → (mark ≡ Gone → ⊥) → stays mark ≡ true
  stays_other Current e = refl
  stays_other Expired e = refl
  stays_other Gone e = absurd (e refl)

  -- any other is moved and counted
  pub row_stays : (d d' : List ℕ) (i k : ℕ) (mark : Mark) (from to : ℕ) → (mark ≡ Gone → ⊥)
      → from ≡ row_place l i → to ≡ row_place l k → d' ≡ moved_down d from to (row_size l)
      → (k + 1 ≡ one_more (stays mark) k) × (d' ≡ row_kept l (stays mark) d i k)
  row_stays d d' i k mark from to e f g m =
      rw (stays_other mark e) (refl, m ∙ ap₂ (λ (x y : ℕ). moved_down d x y (row_size l)) f g)

  -- a turn of the loop over the rows
  pub rows_next : (d d' : List ℕ) (gs : List Mark) (i k k' : ℕ) → i < length gs → k' ≡ one_more (stays (get_or gs i Current)) k
      → d' ≡ row_kept l (stays (get_or gs i Current)) d i k
      → closed_rows l d (drop i gs) i k ≡ closed_rows l d' (drop (i + 1) gs) (i + 1) k'
  unfolding closed_rows
  rows_next d d' gs i k k' h e f =
      let t : Bool = stays (get_or gs i Current) in
      rw (e, f)
      (ap (λ (x : List Mark). closed_rows l d x i k) (drop-cons gs i Current h)
      ∙ ap (λ (j : ℕ). closed_rows l (row_kept l t d i k) (drop j gs) (i + 1) (one_more t k)) (sym (add-one i)))

  -- after its last turn
  pub rows_end : (d : List ℕ) (gs : List Mark) (i k : ℕ) → length gs ≤ i → (closed_rows l d (drop i gs) i k ≡ d) × (count_kept (drop i gs) k ≡ k)
  unfolding closed_rows count_kept
  rows_end d gs i k h = rw (drop_of_length-le gs h) (refl, refl)

  -- ---- the bodies

  -- what the calls of one body leave
  pub body_done : (d d₁ d₂ : List ℕ) (i at r from len : ℕ) → r ≡ row_place l i
      → from ≡ number_in d (r + offset_place) body_width → len ≡ number_in d (r + length_place) body_width → d₁ ≡ moved_down d from at len
      → d₂ ≡ put_at d₁ (r + offset_place) (big_endian body_width at)
      → (at + len ≡ at + number_in d (row_place l i + length_place) body_width) × (d₂ ≡ body_moved l d (row_place l i) at)
  unfolding body_moved
  body_done d d₁ d₂ i at r from len p e f g m = (rw (← p, f), rw (m, g, e, f, p))

  -- before the first turn of the loop over the bodies
  pub bodies_begin : (d : List ℕ) (k at : ℕ) → at ≡ row_place l k
      → closed_bodies l d k 0 (row_place l k) ≡ closed_bodies l d (k - 0) 0 at
  bodies_begin d k at e = let m : k - 0 ≡ k = omega arith in rw (m, e)

  -- a turn of it
  pub bodies_next : (d d' : List ℕ) (k i at at' : ℕ) → i < k → at' ≡ at + number_in d (row_place l i + length_place) body_width
      → d' ≡ body_moved l d (row_place l i) at
      → closed_bodies l d (k - i) i at ≡ closed_bodies l d' (k - (i + 1)) (i + 1) at'
  unfolding closed_bodies
  bodies_next d d' k i at at' h e f = let m : k - i ≡ suc (k - (i + 1)) = omega arith in rw (m, e, f)

  -- after its last turn
  pub bodies_end : (d : List ℕ) (k i at : ℕ) → k ≤ i → closed_bodies l d (k - i) i at ≡ d
  unfolding closed_bodies
  bodies_end d k i at h = let m : k - i ≡ 0 = omega arith in rw m

  -- ---- all

  -- what the three calls leave
  pub close_done : (d : List ℕ) (gs : List Mark) (d₁ d₂ d₃ : List ℕ) (k : ℕ) → k ≡ count_kept gs 0 → d₁ ≡ closed_rows l d gs 0 0
      → d₂ ≡ closed_bodies l d₁ k 0 (row_place l k) → d₃ ≡ put_at d₂ count_place (big_endian header_width k)
      → d₃ ≡ closed_up l d gs
  unfolding closed_up
  close_done d gs d₁ d₂ d₃ k e f g h = rw (h, g, f, e)
