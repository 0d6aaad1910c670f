-- The writes of a removal come to the image of the rows that stay, and nothing at or past its end is written (specs/Close.antt). Assumes
-- nothing.
use mathlib.Core.Path.{◌≡◌, refl, sym, ap, ◌∙◌, subst}
use mathlib.Core.Bool.{Bool, true, false, ◌||◌}
use mathlib.Core.List.{List, [], ◌∷◌, ◌++◌}
use Prim.Native.Nat.{ℕ, ◌+◌, ◌*◌, ◌≤◌}
use native.Mathlib.Omega.{arith}
use native.Mathlib.Nat.{zero-add}
use lib.ListN.{length, drop}
use Rattle.octets.specs.Bytes.{Has, same}
use Rattle.octets.specs.Number.{big_endian}
use Rattle.octets.specs.Write.{over, put_at}
use Rattle.octets.proofs.NumberLaws.{length_big_endian}
use Rattle.octets.proofs.Tests.{or_no_left, or_no_right}
use Rattle.octets.proofs.OverLaws.{has_front, Kept, kept_over, kept_has, put_fits}
use Rattle.exact.specs.Reads.{AllFrom}
use Rattle.image_spec.specs.declared.Mark.{Mark}
use Rattle.image_spec.specs.declared.layout.Layout.{Layout}
use Rattle.image_spec.specs.Layout.{header_size, header_width, count_place, most_rows, row_place, LayoutOk}
use Rattle.image_spec.specs.Image.{Row, id_of, header, rows_of, joined, image_of, has_id, BodyOk, seen_with, Every, MomentOk, Holds}
use Rattle.image_spec.specs.Close.{stays, keep, kept, with_rows, closed_rows, count_kept, closed_bodies, closed_up}
use Rattle.image_spec.proofs.RowPlaceLaws.{place_first, place_after_lem, place_up, place_small}
use Rattle.image_spec.proofs.RowLaws.{header_length, image_length}
use Rattle.image_spec.proofs.ListLaws.{joined_short, has_snoc}
use Rattle.image_spec.proofs.SoundLaws.{ImageParts, image_stands, run_whole, holds_room}
use Rattle.image_spec.proofs.RaiseLaws.{header_counted}
use Rattle.image_spec.proofs.PlacedLaws.{Placed, placed, entries, placed_length, entries_length, placed_rows, placed_entries}
use Rattle.image_spec.proofs.PlacedLaws.{kept_entries, kept_count, kept_few}
use Rattle.image_spec.proofs.RowsClosed.{Rows, rows_closed}
use Rattle.image_spec.proofs.BodiesClosed.{Apart, apart_kept, apart_some, apart_joined, Closed, bodies_closed}

module _ (l : Layout) (ok : LayoutOk l) where
  -- where the header, the rows and the bodies of n rows stand one after the other, their image stands
  stands : (d : List ℕ) (rs : List Row) (n : ℕ) → length rs ≡ n → Has d 0 (header l n) → Has d (row_place l 0) (rows_of l (row_place l n) rs)
      → Has d (row_place l n) (joined rs)
      → Has d 0 (image_of l rs)
  stands d rs n e h r b =
      run_whole l ok d rs (record {
        has_header = subst (λ (m : ℕ). Has d 0 (header l m)) (sym e) h;
        has_rows = subst (λ (m : ℕ). Has d (row_place l 0) (rows_of l (row_place l m) rs)) (sym e) r;
        has_bodies = subst (λ (m : ℕ). Has d (row_place l m) (joined rs)) (sym e) b;
      })

  -- the writes of a removal leave the image of the rows that stay, and the old bytes beyond its end
  pub closed_up_lem : (d : List ℕ) (rs : List Row) (gs : List Mark) → Holds l d rs → length gs ≡ length rs
      → closed_up l d gs ≡ with_rows l d (kept gs rs)
  unfolding closed_up with_rows
  closed_up_lem d rs gs h same_number =
      let n : ℕ = length rs in
      let start : ℕ = row_place l n in
      let ps : List Placed = placed start rs in
      let pl : length ps ≡ n = placed_length start rs in
      let w : ImageParts l ok d rs = image_stands l ok d rs h in
      let il : length (image_of l rs) ≡ start + length (joined rs) = image_length l ok rs in
      let few : n ≤ most_rows l = h.rows.few in
      let short : length (joined rs) ≤ 32768 * n = joined_short [] rs h.rows.each in
      let fits : length (image_of l rs) ≤ length d = holds_room l ok d rs h in
      let first : row_place l 0 ≡ header_size = place_first l in
      let apart : Apart d start ps
      = apart_joined d start rs (omega arith) (omega (arith, place_small l ok n few)) w.has_bodies in
      let qs : List Placed = kept gs ps in
      let k : ℕ = length qs in
      let fewer : k ≤ length ps = kept_few gs ps in
      let low : row_place l k ≤ start = place_up l k n (omega arith) in
      let count : count_kept gs 0 ≡ k = kept_count gs ps 0 (omega arith) ∙ zero-add k in
      let none : 0 + k ≡ k = zero-add k in
      let last : row_place l (0 + k) ≡ row_place l k = ap (row_place l) none in
      let head : List ℕ = header l n in
      let hl : length head ≡ header_size = header_length l n in
      -- the rows
      let d₁ : List ℕ = closed_rows l d gs 0 0 in
      let x : Rows l ok d d₁ 0 qs
      = rows_closed l ok d gs ps 0 0 (omega arith) (omega arith)
      (subst (Has d (row_place l 0)) (sym (placed_rows l start rs)) w.has_rows) in
      let a₁ : Apart d₁ start qs
      = apart_kept d d₁ (row_place l (0 + k)) start qs x.frame.long x.frame.after (omega arith) (apart_some d gs start ps apart) in
      let head₁ : Has d₁ 0 head = x.frame.before 0 head (omega arith) w.has_header in
      -- the bodies
      let d₂ : List ℕ = closed_bodies l d₁ k 0 (row_place l k) in
      let y : Closed l ok d₁ d₂ 0 (row_place l k) qs = bodies_closed l ok d₁ qs 0 (row_place l k) start (omega arith) low x.there a₁ in
      let head₂ : Has d₂ 0 head = y.frame.before 0 head (omega arith) head₁ in
      let es : List Row = entries qs in
      -- the row count
      let c : List ℕ = big_endian header_width k in
      let cl : length c ≡ header_width = length_big_endian header_width k in
      let f₃ : count_place + length c ≤ length d₂ = omega (arith, y.frame.long, x.frame.long, place_after_lem l n) in
      let d₃ : List ℕ = over d₂ count_place c in
      let k₃ : Kept d₂ d₃ count_place (count_place + length c) = kept_over d₂ count_place c f₃ in
      -- what then stands
      let after : header_size ≤ row_place l k = place_after_lem l k in
      let has : Has d₃ 0 (image_of l es)
      = stands d₃ es k (entries_length qs) (header_counted l ok d₂ n k head₂)
      (kept_has d₂ d₃ count_place (count_place + length c) (row_place l 0) (rows_of l (row_place l k) es) k₃ (omega arith) y.rows)
      (kept_has d₂ d₃ count_place (count_place + length c) (row_place l k) (joined es) k₃ (omega arith) y.bodies) in
      let m : ℕ = length (image_of l es) in
      let ml : m ≡ row_place l k + length (joined es)
      = image_length l ok es ∙ ap (λ (q : ℕ). row_place l q + length (joined es)) (entries_length qs) in
      let rest : drop m d₃ ≡ drop m d = k₃.after m (omega arith) ∙ y.frame.after m (omega arith) ∙ x.frame.after m (omega arith) in
      let same_rows : es ≡ kept gs rs = kept_entries gs ps ∙ ap (kept gs) (placed_entries start rs) in
      ap (λ (q : ℕ). put_at (closed_bodies l d₁ q 0 (row_place l q)) count_place (big_endian header_width q)) count
      ∙ put_fits d₂ count_place c f₃
      ∙ has_front d₃ (image_of l es) has
      ∙ ap (λ (t : List ℕ). image_of l es ++ t) rest
      ∙ ap (λ (t : List Row). image_of l t ++ drop (length (image_of l t)) d) same_rows

-- ---- the rows that stay may be held

-- what is so of each row is so of each that stays
every_kept : (P : Row → Type 0) (gs : List Mark) (rs : List Row) → Every P rs → Every P (kept gs rs)
unfolding kept
every_kept P [] rs a = tt
every_kept P (g ∷ gs) [] a = tt
every_kept P (g ∷ gs) (r ∷ rs) a = go (stays g) (every_kept P gs rs a.1)
  where
    go : (t : Bool) → Every P (kept gs rs) → Every P (keep t r (kept gs rs))
    go true more = (a.0, more)
    go false more = more

-- an id that neither the rows nor one more has, the rows and it have not
snoc_none : (id : List ℕ) (rs : List Row) (r : Row) → has_id id rs ≡ false → same (id_of r.body) id ≡ false
    → has_id id (rs ++ (r ∷ [])) ≡ false
snoc_none id rs r e f = has_snoc id rs r ∙ rw (e, f)

-- rows that are allowed after those of `seen` are so, those that stay, after fewer
from_kept : (seen fewer rs : List Row) (gs : List Mark) → ((id : List ℕ) → has_id id seen ≡ false → has_id id fewer ≡ false)
    → AllFrom BodyOk seen_with seen rs
    → AllFrom BodyOk seen_with fewer (kept gs rs)
unfolding kept
from_kept seen fewer rs [] f a = tt
from_kept seen fewer [] (g ∷ gs) f a = tt
from_kept seen fewer (r ∷ rs) (g ∷ gs) f a =
    go (stays g) (from_kept (seen ++ (r ∷ [])) (fewer ++ (r ∷ [])) rs gs both a.1)
    (from_kept (seen ++ (r ∷ [])) fewer rs gs without a.1)
  where
    parts : (id : List ℕ) → has_id id (seen ++ (r ∷ [])) ≡ false → (has_id id seen || same (id_of r.body) id) ≡ false
    parts id e = sym (has_snoc id seen r) ∙ e

    both : (id : List ℕ) → has_id id (seen ++ (r ∷ [])) ≡ false → has_id id (fewer ++ (r ∷ [])) ≡ false
    both id e =
        snoc_none id fewer r (f id (or_no_left (has_id id seen) (same (id_of r.body) id) (parts id e)))
        (or_no_right (has_id id seen) (same (id_of r.body) id) (parts id e))

    without : (id : List ℕ) → has_id id (seen ++ (r ∷ [])) ≡ false → has_id id fewer ≡ false
    without id e = f id (or_no_left (has_id id seen) (same (id_of r.body) id) (parts id e))

    go : (t : Bool) → AllFrom BodyOk seen_with (fewer ++ (r ∷ [])) (kept gs rs) → AllFrom BodyOk seen_with fewer (kept gs rs)
        → AllFrom BodyOk seen_with fewer (keep t r (kept gs rs))
    go true with_it more = (record { reads = a.0.reads; new = f (id_of r.body) a.0.new }, with_it)
    go false with_it more = more

-- the buffer with the image of the rows that stay holds them
pub kept_holds : (l : Layout) → LayoutOk l → (d : List ℕ) (rs : List Row) (gs : List Mark) → Holds l d rs → length gs ≡ length rs
    → Holds l (with_rows l d (kept gs rs)) (kept gs rs)
unfolding with_rows
kept_holds l ok d rs gs h same_number = record {
  rows = record {
    few = omega (arith, kept_few gs rs, h.rows.few);
    each = from_kept [] [] rs gs (λ id e. e) h.rows.each;
    moments = every_kept (MomentOk l) gs rs h.rows.moments;
  };
  rest = drop (length (image_of l (kept gs rs))) d;
  whole = refl;
}
