-- The rows that stay close up (specs/Close.antt, `closed_rows`). Assumes nothing.
use mathlib.Core.Path.{◌≡◌, sym, ap, subst}
use mathlib.Core.Bool.{Bool, true, false}
use mathlib.Core.List.{List, [], ◌∷◌}
use Prim.Native.Nat.{ℕ, suc, ◌+◌, ◌≤◌}
use native.Mathlib.Omega.{arith}
use lib.ListN.{length}
use Rattle.octets.specs.Bytes.{Has}
use Rattle.octets.specs.Write.{over, moved_down}
use Rattle.octets.proofs.BytesLaws.{has_nil, has_left, has_fits, has_after, has_both}
use Rattle.octets.proofs.OverLaws.{over_has, Kept, kept_over, kept_has, kept_join, kept_self}
use Rattle.octets.proofs.MoveLaws.{down_has}
use Rattle.image_spec.specs.declared.Mark.{Mark}
use Rattle.image_spec.specs.declared.layout.Layout.{Layout}
use Rattle.image_spec.specs.Layout.{row_size, row_place, LayoutOk}
use Rattle.image_spec.specs.Image.{row}
use Rattle.image_spec.specs.Close.{stays, keep, kept, row_kept, one_more, closed_rows}
use Rattle.image_spec.proofs.RowPlaceLaws.{place_next, place_up}
use Rattle.image_spec.proofs.RowLaws.{row_length_lem}
use Rattle.image_spec.proofs.PlacedLaws.{Placed, rows_at}

module _ (l : Layout) (ok : LayoutOk l) where
  -- d' has the rows from row k on, and is d but for these
  pub record Rows (d d' : List ℕ) (k : ℕ) (ps : List Placed) : Type 0 where
    pub there : Has d' (row_place l k) (rows_at l ps)
    pub frame : Kept d d' (row_place l k) (row_place l (k + length ps))

  -- a row stays, and those after it close up
  row_first : (d : List ℕ) (p : Placed) (ps qs : List Placed) (gs : List Mark) (i k : ℕ) → k ≤ i → Has d (row_place l i) (rows_at l (p ∷ ps))
      → ((d' : List ℕ) → Has d' (row_place l (i + 1)) (rows_at l ps) → Rows d' (closed_rows l d' gs (i + 1) (k + 1)) (k + 1) qs)
      → Rows d (closed_rows l (moved_down d (row_place l i) (row_place l k) (row_size l)) gs (i + 1) (k + 1)) k (p ∷ qs)
  unfolding rows_at
  row_first d p ps qs gs i k le h more =
      let n : ℕ = row_size l in
      let from : ℕ = row_place l i in
      let to : ℕ = row_place l k in
      let r : List ℕ = row l p.from p.entry in
      let rl : length r ≡ n = row_length_lem l ok p.from p.entry in
      let hr : Has d from r = has_left d from r (rows_at l ps) h in
      let fits : from + length r ≤ length d = has_fits d from r (omega arith) hr in
      let low : to ≤ from = place_up l k i le in
      let d' : List ℕ = over d to r in
      let e : moved_down d from to n ≡ d' = down_has d from to r n rl low (omega arith) hr in
      let room : to + length r ≤ length d = omega arith in
      let kd : Kept d d' to (to + length r) = kept_over d to r room in
      let next : from + n ≡ row_place l (i + 1) = sym (place_next l i) in
      let up : to + n ≡ row_place l (k + 1) = sym (place_next l k) in
      let rest : Has d' (row_place l (i + 1)) (rows_at l ps)
      = kept_has d d' to (to + length r) (row_place l (i + 1)) (rows_at l ps) kd (omega arith)
      (has_after d from n (row_place l (i + 1)) r (rows_at l ps) rl next h) in
      let y : Rows d' (closed_rows l d' gs (i + 1) (k + 1)) (k + 1) qs = more d' rest in
      let d'' : List ℕ = closed_rows l d' gs (i + 1) (k + 1) in
      let first : Has d'' to r = y.frame.before to r (omega arith) (over_has d to r room) in
      let last : (k + 1) + length qs ≡ k + suc (length qs) = omega arith in
      let end : row_place l (k + 1) ≤ row_place l (k + suc (length qs)) = place_up l (k + 1) (k + suc (length qs)) (omega arith) in
      subst (λ (x : List ℕ). Rows d (closed_rows l x gs (i + 1) (k + 1)) k (p ∷ qs)) (sym e) (record {
        there = has_both d'' to n (row_place l (k + 1)) r (rows_at l qs) rl up first y.there;
        frame = kept_join d d' d'' to (to + length r) (row_place l (k + 1)) (row_place l ((k + 1) + length qs)) to
            (row_place l (k + suc (length qs))) kd y.frame (omega arith) (omega arith) (omega arith) (omega (arith, ap (row_place l) last));
      })

  -- where rows stand from row i on, those that stay then stand from row k on; nothing beyond them is written
  pub rows_closed : (d : List ℕ) (gs : List Mark) (ps : List Placed) (i k : ℕ) → length gs ≡ length ps → k ≤ i → Has d (row_place l i) (rows_at l ps)
      → Rows d (closed_rows l d gs i k) k (kept gs ps)
  unfolding closed_rows kept rows_at
  rows_closed d [] ps i k n le h = record { there = has_nil d (row_place l k); frame = kept_self d (row_place l k) (row_place l (k + 0)) }
  rows_closed d (g ∷ gs) [] i k n le h = absurd (omega arith)
  rows_closed d (g ∷ gs) (p ∷ ps) i k n le h = go (stays g) (λ d' k' a b. rows_closed d' gs ps (i + 1) k' (omega arith) a b)
    where
      go : (t : Bool)
          → ((d' : List ℕ) (k' : ℕ) → k' ≤ i + 1 → Has d' (row_place l (i + 1)) (rows_at l ps)
          → Rows d' (closed_rows l d' gs (i + 1) k') k' (kept gs ps))
          → Rows d (closed_rows l (row_kept l t d i k) gs (i + 1) (one_more t k)) k (keep t p (kept gs ps))
      go true more = row_first d p ps (kept gs ps) gs i k le h (λ d' m. more d' (k + 1) (omega arith) m)
      go false more =
          more d k (omega arith)
          (has_after d (row_place l i) (row_size l) (row_place l (i + 1)) (row l p.from p.entry) (rows_at l ps)
          (row_length_lem l ok p.from p.entry) (sym (place_next l i)) h)
