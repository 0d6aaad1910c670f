-- The bodies of the rows that stay close up (specs/Close.antt, `closed_bodies`). Assumes nothing.
use mathlib.Core.Path.{◌≡◌, refl, sym, ap, ap₂, ◌∙◌, subst}
use mathlib.Core.Bool.{Bool, true, false}
use mathlib.Core.List.{List, [], ◌∷◌, ◌++◌}
use Prim.Native.Nat.{ℕ, suc, ◌+◌, ◌≤◌, ◌<◌}
use native.Mathlib.Omega.{arith}
use lib.ListN.{length, take, drop, length-append}
use Rattle.octets.specs.Bytes.{part, Has}
use Rattle.octets.specs.Number.{big_endian, number_in}
use Rattle.octets.specs.Write.{over, put_at, moved_down}
use Rattle.octets.proofs.BytesLaws.{has_nil, has_left, has_right, has_join, has_fits, has_after, has_both}
use Rattle.octets.proofs.NumberLaws.{number_in_lem, number_of_has}
use Rattle.octets.proofs.OverLaws.{over_has, Kept, kept_over, kept_has}
use Rattle.octets.proofs.MoveLaws.{down_has}
use Rattle.image_spec.specs.declared.Mark.{Mark}
use Rattle.image_spec.specs.declared.layout.Layout.{Layout}
use Rattle.image_spec.specs.Layout.{body_width, offset_place, length_place, row_size, row_place, LayoutOk}
use Rattle.image_spec.specs.Image.{Row, row, rows_of, joined}
use Rattle.image_spec.specs.Close.{stays, keep, kept, body_moved, closed_bodies}
use Rattle.image_spec.proofs.RowPlaceLaws.{place_next, place_up}
use Rattle.image_spec.proofs.RowLaws.{row_length_lem, row_parts}
use Rattle.image_spec.proofs.RaiseLaws.{row_offset_lem, row_placed}
use Rattle.image_spec.proofs.FrameLaws.{KeptTwo, two_self, two_writes, two_join}
use Rattle.image_spec.proofs.PlacedLaws.{Placed, body_of, placed, entries, rows_at, rows_at_end}

-- ---- bodies that lie apart

-- the body lies where its row says, not before `low`
pub record BodyAt (d : List ℕ) (low : ℕ) (p : Placed) : Type 0 where
  pub above : low ≤ p.from
  pub inside : p.from + length (body_of p) ≤ length d
  pub small : p.from + length (body_of p) < 4294967296
  pub there : Has d p.from (body_of p)

-- each body lies after the one before it
abbrev pub Apart : List ℕ → ℕ → List Placed → Type 0
Apart d low [] = Unit {0}
Apart d low (p ∷ ps) = BodyAt d low p × Apart d (p.from + length (body_of p)) ps

-- bodies that lie apart from a place on lie apart from an earlier place on
apart_low : (d : List ℕ) (low lower : ℕ) (ps : List Placed) → lower ≤ low → Apart d low ps → Apart d lower ps
apart_low d low lower [] h a = tt
apart_low d low lower (p ∷ ps) h a =
    (record { above = omega (arith, a.0.above); inside = a.0.inside; small = a.0.small; there = a.0.there }, a.1)

-- writes before them leave them
pub apart_kept : (d d' : List ℕ) (end low : ℕ) (ps : List Placed) → length d' ≡ length d → ((p : ℕ) → end ≤ p → drop p d' ≡ drop p d)
    → end ≤ low → Apart d low ps
    → Apart d' low ps
unfolding Has part
apart_kept d d' end low [] n k h a = tt
apart_kept d d' end low (p ∷ ps) n k h a = (
  record {
    above = a.0.above;
    inside = omega (arith, a.0.inside);
    small = a.0.small;
    there = ap (take (length (body_of p))) (k p.from (omega (arith, a.0.above))) ∙ a.0.there;
  },
  apart_kept d d' end (p.from + length (body_of p)) ps n k (omega (arith, a.0.above)) a.1,
)

-- those that stay lie apart
pub apart_some : (d : List ℕ) (gs : List Mark) (low : ℕ) (ps : List Placed) → Apart d low ps → Apart d low (kept gs ps)
unfolding kept
apart_some d [] low ps a = tt
apart_some d (g ∷ gs) low [] a = tt
apart_some d (g ∷ gs) low (p ∷ ps) a = go (stays g) (apart_some d gs (p.from + length (body_of p)) ps a.1)
  where
    go : (t : Bool) → Apart d (p.from + length (body_of p)) (kept gs ps) → Apart d low (keep t p (kept gs ps))
    go true more = (a.0, more)
    go false more = apart_low d (p.from + length (body_of p)) low (kept gs ps) (omega (arith, a.0.above)) more

-- bodies back to back lie apart
pub apart_joined : (d : List ℕ) (at : ℕ) (rs : List Row) → at + length (joined rs) ≤ length d → at + length (joined rs) < 4294967296
    → Has d at (joined rs)
    → Apart d at (placed at rs)
unfolding placed joined
apart_joined d at [] f s h = tt
apart_joined d at (r ∷ rs) f s h =
    let n : length (r.body ++ joined rs) ≡ length r.body + length (joined rs) = length-append r.body (joined rs) in (
      record { above = omega arith; inside = omega arith; small = omega arith; there = has_left d at r.body (joined rs) h },
      apart_joined d (at + length r.body) rs (omega arith) (omega arith) (has_right d at r.body (joined rs) h),
    )

module _ (l : Layout) (ok : LayoutOk l) where
  -- ---- one body

  -- what the row of a body that is shorter than 2 ^ 32 says of its length
  row_size_lem : (d : List ℕ) (r at : ℕ) (b : Row) → length b.body < 4294967296 → Has d r (row l at b)
      → number_in d (r + length_place) body_width ≡ length b.body
  row_size_lem d r at b short h =
      let i : r + row_size l ≤ length d
      = omega (arith, has_fits d r (row l at b) (omega (arith, row_length_lem l ok at b)) h, row_length_lem l ok at b) in
      number_in_lem d (r + length_place) body_width (omega arith) (omega arith)
      ∙ number_of_has d (r + length_place) body_width (length b.body) short (omega arith) (row_parts l ok d r at b h).size

  -- d' has the row at r and its body at the place, and is d but for these
  pub record Lowered (d d' : List ℕ) (r at : ℕ) (b : Row) : Type 0 where
    pub row_there : Has d' r (row l at b)
    pub body_there : Has d' at b.body
    pub frame : KeptTwo d d' r (r + row_size l) at (at + length b.body)

  -- a body is moved down, and its row's offset follows
  body_lowered : (d : List ℕ) (r at : ℕ) (p : Placed) (low : ℕ) → r + row_size l ≤ at → at ≤ low → BodyAt d low p
      → Has d r (row l p.from p.entry)
      → Lowered d (body_moved l d r at) r at p.entry
  unfolding body_moved
  body_lowered d r at p low h below a hr =
      let from : ℕ = p.from in
      let e : Row = p.entry in
      let b : List ℕ = e.body in
      let new : List ℕ = big_endian body_width at in
      let up : at ≤ from = omega (arith, a.above) in
      let inside : from + length b ≤ length d = a.inside in
      let small : from + length b < 4294967296 = a.small in
      let v : number_in d (r + offset_place) body_width ≡ from = row_offset_lem l ok d r from e (omega arith) hr in
      let w : number_in d (r + length_place) body_width ≡ length b = row_size_lem d r from e (omega arith) hr in
      let d₁ : List ℕ = over d at b in
      let f₁ : at + length b ≤ length d = omega arith in
      let e₁ : moved_down d from at (length b) ≡ d₁ = down_has d from at b (length b) refl up inside a.there in
      let k₁ : Kept d d₁ at (at + length b) = kept_over d at b f₁ in
      let d₂ : List ℕ = put_at d₁ (r + offset_place) new in
      let x = row_placed l ok d₁ r from at e
      (k₁.before r (row l from e) (omega (arith, row_length_lem l ok from e)) hr) in
      let eq : put_at (moved_down d (number_in d (r + offset_place) body_width) at (number_in d (r + length_place) body_width)) (r + offset_place) new
      ≡ d₂
      = ap₂ (λ (m n : ℕ). put_at (moved_down d m at n) (r + offset_place) new) v w ∙ ap (λ (y : List ℕ). put_at y (r + offset_place) new) e₁ in
      subst (λ (y : List ℕ). Lowered d y r at e) (sym eq) (record {
        row_there = x.0;
        body_there = kept_has d₁ d₂ r (r + row_size l) at b x.1 h (over_has d at b f₁);
        frame = two_writes d d₁ d₂ r (r + row_size l) at (at + length b) k₁ x.1 (omega arith) h (omega arith);
      })

  -- ---- all bodies

  -- d' has the rows from row i on and the bodies back to back from the place on, and is d but for these
  pub record Closed (d d' : List ℕ) (i at : ℕ) (ps : List Placed) : Type 0 where
    pub rows : Has d' (row_place l i) (rows_of l at (entries ps))
    pub bodies : Has d' at (joined (entries ps))
    pub frame : KeptTwo d d' (row_place l i) (row_place l (i + length ps)) at (at + length (joined (entries ps)))

  -- bodies that lie apart, none before the place, close up from the place on; nothing beyond them is written
  pub bodies_closed : (d : List ℕ) (ps : List Placed) (i at low : ℕ) → row_place l (i + length ps) ≤ at → at ≤ low
      → Has d (row_place l i) (rows_at l ps) → Apart d low ps
      → Closed d (closed_bodies l d (length ps) i at) i at ps
  unfolding closed_bodies rows_at rows_of joined entries
  bodies_closed d [] i at low h below hr a = record {
    rows = has_nil d (row_place l i);
    bodies = has_nil d at;
    frame = two_self d (row_place l i) (row_place l (i + 0)) at (at + 0);
  }
  bodies_closed d (p ∷ ps) i at low h below hr a =
      let n : ℕ = row_size l in
      let r : ℕ = row_place l i in
      let next : ℕ = row_place l (i + 1) in
      let e : Row = p.entry in
      let b : List ℕ = e.body in
      let es : List Row = entries ps in
      let first : List ℕ = row l p.from e in
      let step : r + n ≡ next = sym (place_next l i) in
      let count : (i + 1) + length ps ≡ i + suc (length ps) = omega arith in
      let last : row_place l ((i + 1) + length ps) ≡ row_place l (i + suc (length ps)) = ap (row_place l) count in
      let order : next ≤ row_place l (i + suc (length ps)) = place_up l (i + 1) (i + suc (length ps)) (omega arith) in
      let above : low ≤ p.from = a.0.above in
      let h₀ : Has d r first = has_left d r first (rows_at l ps) hr in
      let w : number_in d (r + length_place) body_width ≡ length b = row_size_lem d r p.from e (omega (arith, a.0.small)) h₀ in
      let d' : List ℕ = body_moved l d r at in
      let x : Lowered d d' r at e = body_lowered d r at p low (omega arith) below a.0 h₀ in
      let rest : Has d' next (rows_at l ps)
      = x.frame.between next (rows_at l ps) (omega arith) (omega (arith, rows_at_end l ok (i + 1) ps))
      (has_after d r n next first (rows_at l ps) (row_length_lem l ok p.from e) step hr) in
      let apart : Apart d' (p.from + length b) ps
      = apart_kept d d' (at + length b) (p.from + length b) ps x.frame.long x.frame.after (omega arith) a.1 in
      let d'' : List ℕ = closed_bodies l d' (length ps) (i + 1) (at + length b) in
      let y : Closed d' d'' (i + 1) (at + length b) ps
      = bodies_closed d' ps (i + 1) (at + length b) (p.from + length b) (omega arith) (omega arith) rest apart in
      let m : length (b ++ joined es) ≡ length b + length (joined es) = length-append b (joined es) in
      let row' : Has d'' r (row l at e) = y.frame.before r (row l at e) (omega (arith, row_length_lem l ok at e)) x.row_there in
      let body' : Has d'' at b = y.frame.between at b (omega arith) (omega arith) x.body_there in
      let whole : Closed d d'' i at (p ∷ ps) = record {
        rows = has_both d'' r n next (row l at e) (rows_of l (at + length b) es) (row_length_lem l ok at e) step row' y.rows;
        bodies = has_join d'' at b (joined es) body' y.bodies;
        frame = two_join d d' d'' r (r + n) at (at + length b) next (row_place l ((i + 1) + length ps)) (at + length b)
            ((at + length b) + length (joined es)) r (row_place l (i + suc (length ps))) at (at + length (b ++ joined es)) x.frame y.frame
            (omega arith, omega arith, omega arith, omega arith, omega arith, omega arith, omega arith, omega arith);
      } in
      subst (λ (q : ℕ). Closed d (closed_bodies l d' (length ps) (i + 1) (at + q)) i at (p ∷ ps)) (sym w) whole
