-- The last-used moment of a row, raised in its bytes, is the image of the rows of which one was used (specs/Touch.antt). Assumes nothing.
use mathlib.Core.Path.{◌≡◌, refl, sym, ap, ap₂, ◌∙◌, subst}
use mathlib.Core.Bool.{Bool, true, false, ◌||◌, false≢true}
use mathlib.Core.List.{List, [], ◌∷◌, ◌++◌}
use mathlib.Core.Option.{Option, some}
use Prim.Native.Nat.{ℕ, zero, suc, ◌+◌, ◌^◌, ◌≤◌, ◌<◌, max}
use native.Mathlib.Omega.{arith}
use native.Mathlib.Nat.{zero-add}
use lib.ListN.{length, get_or, drop}
use lib.Dec.{leb, ltb}
use borrow.Author.Tests.{ltb-true, ltb-false, le-leb}
use Rattle.octets.specs.Bytes.{Has, same}
use Rattle.octets.specs.Number.{big_endian, number_in}
use Rattle.octets.specs.Write.{over, put_at}
use Rattle.octets.proofs.Tests.{by_cond, or_true}
use Rattle.octets.proofs.SameLaws.{same_equal}
use Rattle.octets.proofs.BytesLaws.{has_left, has_fits, has_after, has_both}
use Rattle.octets.proofs.NumberLaws.{length_big_endian, number_in_lem, number_of_has}
use Rattle.octets.proofs.OverLaws.{over_nil, over_has, has_front, Kept, kept_over, kept_has, kept_self, put_fits}
use Rattle.exact.specs.Reads.{AllFrom}
use Rattle.image_spec.specs.declared.layout.Layout.{Layout}
use Rattle.image_spec.specs.Layout.{body_width, mask_width, offset_place, length_place, mask_place, zero_place, zero_size}
use Rattle.image_spec.specs.Layout.{edition1, edition2, row_size, moment_place, moment_size, row_place, place_within, LayoutOk}
use Rattle.image_spec.specs.Image.{Row, row_of, id_of, modes_of, header, row, rows_of, joined, image_of, has_id, BodyOk, seen_with, Every, MomentOk}
use Rattle.image_spec.specs.Image.{Holds, body_with}
use Rattle.image_spec.specs.Close.{with_rows}
use Rattle.image_spec.specs.Touch.{used_again, touched, raised_at, touched_at, after_touch}
use Rattle.image_spec.specs.Laws.{TouchedBodies, TouchedImage, TouchedNone, AfterTouch2, AfterTouch1}
use Rattle.image_spec.proofs.RowPlaceLaws.{edition2_ok, place_first, place_next, place_order, place_up, place_within_lem}
use Rattle.image_spec.proofs.RowLaws.{id_length, header_length, row_length_lem, image_length, RowParts, row_parts, parts_row}
use Rattle.image_spec.proofs.ListLaws.{has_snoc, rest_new}
use Rattle.image_spec.proofs.PlaceLaws.{has_place}
use Rattle.image_spec.proofs.RaiseLaws.{kept_wide}
use Rattle.image_spec.proofs.SoundLaws.{ImageParts, image_stands, run_whole, holds_room}
use Rattle.image_spec.proofs.NamedLaws.{names_1, names_2}

-- ---- rows with the same bodies

-- the rows have the same bodies, one by one
abbrev Alike : List Row → List Row → Type 0
Alike [] [] = Unit {0}
Alike [] (q ∷ qs) = ⊥
Alike (r ∷ rs) [] = ⊥
Alike (r ∷ rs) (q ∷ qs) = (q.body ≡ r.body) × Alike rs qs

-- rows are like themselves
alike_self : (rs : List Row) → Alike rs rs
alike_self [] = tt
alike_self (r ∷ rs) = (refl, alike_self rs)

-- they are as many
alike_length : (rs qs : List Row) → Alike rs qs → length qs ≡ length rs
alike_length [] [] a = refl
alike_length [] (q ∷ qs) a = absurd a
alike_length (r ∷ rs) [] a = absurd a
alike_length (r ∷ rs) (q ∷ qs) a = ap suc (alike_length rs qs a.1)

-- their bodies back to back are the same
alike_joined : (rs qs : List Row) → Alike rs qs → joined qs ≡ joined rs
unfolding joined
alike_joined [] [] a = refl
alike_joined [] (q ∷ qs) a = absurd a
alike_joined (r ∷ rs) [] a = absurd a
alike_joined (r ∷ rs) (q ∷ qs) a = ap₂ (λ (x y : List ℕ). x ++ y) a.0 (alike_joined rs qs a.1)

-- an id has the same body in both
alike_with : (id : List ℕ) (rs qs : List Row) → Alike rs qs → body_with id qs ≡ body_with id rs
unfolding body_with
alike_with id [] [] a = refl
alike_with id [] (q ∷ qs) a = absurd a
alike_with id (r ∷ rs) [] a = absurd a
alike_with id (r ∷ rs) (q ∷ qs) a =
    ap₂ (λ (b : List ℕ) (o : Option (List ℕ)). elim (same (id_of b) id) as (λ t. Option (List ℕ)) [ true ↦ some b | false ↦ o ]) a.0
    (alike_with id rs qs a.1)

-- rows that are allowed after those of `seen` are so with the same bodies, after rows of the same ids
alike_from : (seen been rs qs : List Row) → ((id : List ℕ) → has_id id been ≡ has_id id seen) → Alike rs qs
    → AllFrom BodyOk seen_with seen rs → AllFrom BodyOk seen_with been qs
alike_from seen been [] [] f a b = tt
alike_from seen been [] (q ∷ qs) f a b = absurd a
alike_from seen been (r ∷ rs) [] f a b = absurd a
alike_from seen been (r ∷ rs) (q ∷ qs) f a b = (
  subst (λ (x : List ℕ). BodyOk been (record { body = x; used = q.used })) (sym a.0)
      (record { reads = b.0.reads; new = f (id_of r.body) ∙ b.0.new }),
  alike_from (seen ++ (r ∷ [])) (been ++ (q ∷ [])) rs qs more a.1 b.1,
)
  where
    more : (id : List ℕ) → has_id id (been ++ (q ∷ [])) ≡ has_id id (seen ++ (r ∷ []))
    more id =
        has_snoc id been q
        ∙ ap₂ (λ (x y : Bool). x || y) (f id) (ap (λ (x : List ℕ). same (id_of x) id) a.0)
        ∙ sym (has_snoc id seen r)

-- ---- one row used again

-- the row at the place of the list, used at the moment
abbrev used_at : List Row → ℕ → ℕ → List Row
used_at [] i t = []
used_at (r ∷ rs) zero t = used_again t r ∷ rs
used_at (r ∷ rs) (suc i) t = r ∷ used_at rs i t

-- where the ids differ the row with the id is the one at its place
touched_place : (seen rs : List Row) (i : ℕ) (id : List ℕ) (t : ℕ) → AllFrom BodyOk seen_with seen rs → i < length rs
    → same (id_of (get_or rs i (row_of [])).body) id ≡ true
    → touched id t rs ≡ used_at rs i t
unfolding touched
touched_place seen [] i id t a h e = refl
touched_place seen (r ∷ rs) zero id t a h e = rw (e, touched)
touched_place seen (r ∷ rs) (suc i) id t a h e = go (same (id_of r.body) id) refl
    (touched_place (seen ++ (r ∷ [])) rs i id t a.1 (omega arith) e)
  where
    go : (u : Bool) → same (id_of r.body) id ≡ u → touched id t rs ≡ used_at rs i t
        → elim u as (λ u. List Row) [ true ↦ used_again t r ∷ rs | false ↦ r ∷ touched id t rs ] ≡ r ∷ used_at rs i t
    go true f k =
        let b : List ℕ = (get_or rs i (row_of [])).body in
        let before : has_id id (seen ++ (r ∷ [])) ≡ true
        = has_snoc id seen r ∙ ap (λ (u : Bool). has_id id seen || u) f ∙ or_true (has_id id seen) in
        let there : has_id id rs ≡ true
        = subst (λ (x : List ℕ). has_id x rs ≡ true) (same_equal (id_of b) id e) (has_place rs i b (omega arith) refl) in
        absurd (false≢true (sym (rest_new id (seen ++ (r ∷ [])) rs a.1 before) ∙ there))
    go false f k = ap (λ (x : List Row). r ∷ x) k

-- a moment changes no body
touched_alike : (id : List ℕ) (t : ℕ) (rs : List Row) → Alike rs (touched id t rs)
unfolding touched
touched_alike id t [] = tt
touched_alike id t (r ∷ rs) = go (same (id_of r.body) id) (touched_alike id t rs)
  where
    go : (u : Bool) → Alike rs (touched id t rs)
        → Alike (r ∷ rs) (elim u as (λ u. List Row) [ true ↦ used_again t r ∷ rs | false ↦ r ∷ touched id t rs ])
    go true k = (refl, alike_self rs)
    go false k = (refl, k)

-- `TouchedBodies`
pub touched_bodies : TouchedBodies
touched_bodies id other t rs = let a = touched_alike id t rs in
    (alike_with other rs (touched id t rs) a, alike_length rs (touched id t rs) a)

module _ (l : Layout) (ok : LayoutOk l) where
  -- the moments fit where the new one fits
  touched_moments : (id : List ℕ) (t : ℕ) (rs : List Row) → t < 256 ^ moment_size l → Every (MomentOk l) rs
      → Every (MomentOk l) (touched id t rs)
  unfolding touched
  touched_moments id t [] h m = tt
  touched_moments id t (r ∷ rs) h m = go (same (id_of r.body) id) (touched_moments id t rs h m.1)
    where
      go : (u : Bool) → Every (MomentOk l) (touched id t rs)
          → Every (MomentOk l) (elim u as (λ u. List Row) [ true ↦ used_again t r ∷ rs | false ↦ r ∷ touched id t rs ])
      go true k = (record { fits = omega (arith, m.0.fits) }, m.1)
      go false k = (m.0, k)

  -- ---- in the bytes

  -- another moment written over that of a row: the row that was last used then, and no other byte is changed
  row_dated : (d : List ℕ) (r at t : ℕ) (b : Row) → Has d r (row l at b)
      → Has (put_at d (r + moment_place l) (big_endian (moment_size l) t)) r (row l at (record { body = b.body; used = t }))
      × Kept d (put_at d (r + moment_place l) (big_endian (moment_size l) t)) r (r + row_size l)
  row_dated d r at t b h =
      let p : RowParts l ok d r at b = row_parts l ok d r at b h in
      let i : r + row_size l ≤ length d = omega (arith, has_fits d r (row l at b) (omega (arith, row_length_lem l ok at b)) h, row_length_lem l ok at b) in
      let new : List ℕ = big_endian (moment_size l) t in
      let place : ℕ = r + moment_place l in
      let w : (n m : ℕ) → length (big_endian n m) ≡ n = length_big_endian in
      let m : length new ≡ moment_size l = w (moment_size l) t in
      let fit : place + length new ≤ length d = omega arith in
      let d' : List ℕ = over d place new in
      let k : Kept d d' place (place + length new) = kept_over d place new fit in
      let q : RowParts l ok d' r at (record { body = b.body; used = t }) = record {
        id = k.before r _ (omega (arith, id_length b.body)) p.id;
        offset = k.before (r + offset_place) _ (omega (arith, w body_width at)) p.offset;
        size = k.before (r + length_place) _ (omega (arith, w body_width (length b.body))) p.size;
        mask = k.before (r + mask_place) _ (omega (arith, w mask_width (modes_of b.body))) p.mask;
        zeros = k.before (r + zero_place) _ (omega (arith, w (zero_size l) 0)) p.zeros;
        moment = over_has d place new fit;
      } in
      subst (λ (x : List ℕ). Has x r (row l at (record { body = b.body; used = t })) × Kept d x r (r + row_size l))
      (sym (put_fits d place new fit)) (
        parts_row l ok d' r at (record { body = b.body; used = t }) q,
        kept_wide d d' place (place + length new) r (r + row_size l) k (omega arith) (omega arith),
      )

  -- the moment of a row raised: the row that was used again, and no other byte is changed
  row_used : (d : List ℕ) (r at t : ℕ) (b : Row) → MomentOk l b → Has d r (row l at b)
      → Has (raised_at l d r t) r (row l at (used_again t b)) × Kept d (raised_at l d r t) r (r + row_size l)
  unfolding raised_at
  row_used d r at t b dated h =
      let i : r + row_size l ≤ length d = omega (arith, has_fits d r (row l at b) (omega (arith, row_length_lem l ok at b)) h, row_length_lem l ok at b) in
      let p : RowParts l ok d r at b = row_parts l ok d r at b h in
      let n : ℕ = number_in d (r + moment_place l) (moment_size l) in
      let e : n ≡ b.used
      = number_in_lem d (r + moment_place l) (moment_size l) ok.moment (omega arith)
      ∙ number_of_has d (r + moment_place l) (moment_size l) b.used dated.fits (omega arith) p.moment in
      by_cond (λ (x : List ℕ). Has x r (row l at (used_again t b)) × Kept d x r (r + row_size l)) (ltb n t)
      (λ f. let more : max b.used t ≡ t = omega (arith, ltb-true n t f) in
      let x = row_dated d r at t b h in (
        subst (λ (u : ℕ). Has (put_at d (r + moment_place l) (big_endian (moment_size l) t)) r (row l at (record { body = b.body; used = u })))
            (sym more) x.0,
        x.1,
      ))
      (λ f. let less : max b.used t ≡ b.used = omega (arith, ltb-false n t f) in
      (subst (λ (u : ℕ). Has d r (row l at (record { body = b.body; used = u }))) (sym less) h, kept_self d r (r + row_size l)))

  -- the moment of row k of those from row i on raised: the rows of which that one was used again, and no byte of another row is changed
  rows_used : (d : List ℕ) (i at : ℕ) (rs : List Row) (k t : ℕ) → k < length rs → Every (MomentOk l) rs
      → Has d (row_place l i) (rows_of l at rs)
      → Has (raised_at l d (row_place l (i + k)) t) (row_place l i) (rows_of l at (used_at rs k t))
      × Kept d (raised_at l d (row_place l (i + k)) t) (row_place l (i + k)) (row_place l (i + k) + row_size l)
  unfolding rows_of
  rows_used d i at [] k t lt m h = absurd (omega arith)
  rows_used d i at (b ∷ rs) zero t lt m h =
      let r : ℕ = row_place l i in
      let here : i + 0 ≡ i = omega arith in
      let rest : List ℕ = rows_of l (at + length b.body) rs in
      let step : r + row_size l ≡ row_place l (i + 1) = sym (place_next l i) in
      let x = row_used d r at t b m.0 (has_left d r (row l at b) rest h) in
      let d' : List ℕ = raised_at l d r t in
      let more : Has d' (row_place l (i + 1)) rest
      = kept_has d d' r (r + row_size l) (row_place l (i + 1)) rest x.1 (omega arith)
      (has_after d r (row_size l) (row_place l (i + 1)) (row l at b) rest (row_length_lem l ok at b) step h) in
      subst (λ (j : ℕ). Has (raised_at l d (row_place l j) t) r (row l at (used_again t b) ++ rest)
      × Kept d (raised_at l d (row_place l j) t) (row_place l j) (row_place l j + row_size l)) (sym here) (
        has_both d' r (row_size l) (row_place l (i + 1)) (row l at (used_again t b)) rest (row_length_lem l ok at (used_again t b)) step x.0 more,
        x.1,
      )
  rows_used d i at (b ∷ rs) (suc k) t lt m h =
      let r : ℕ = row_place l i in
      let next : ℕ = row_place l (i + 1) in
      let here : (i + 1) + k ≡ i + suc k = omega arith in
      let rest : List ℕ = rows_of l (at + length b.body) rs in
      let step : r + row_size l ≡ next = sym (place_next l i) in
      let low : next ≤ row_place l ((i + 1) + k) = place_up l (i + 1) ((i + 1) + k) (omega arith) in
      let x = rows_used d (i + 1) (at + length b.body) rs k t (omega arith) m.1
      (has_after d r (row_size l) next (row l at b) rest (row_length_lem l ok at b) step h) in
      let d' : List ℕ = raised_at l d (row_place l ((i + 1) + k)) t in
      let first : Has d' r (row l at b)
      = x.1.before r (row l at b) (omega (arith, row_length_lem l ok at b)) (has_left d r (row l at b) rest h) in
      subst (λ (j : ℕ). Has (raised_at l d (row_place l j) t) r (row l at b ++ rows_of l (at + length b.body) (used_at rs k t))
      × Kept d (raised_at l d (row_place l j) t) (row_place l j) (row_place l j + row_size l)) here (
        has_both d' r (row_size l) next (row l at b) (rows_of l (at + length b.body) (used_at rs k t)) (row_length_lem l ok at b) step first x.0,
        x.1,
      )

  -- the row that has the place is touched: the image of the rows of which the one with the id was used, and beyond it what stood there
  touched_image : (s : List ℕ) (rs : List Row) (i : ℕ) (id : List ℕ) (t : ℕ) → Holds l s rs → i < length rs
      → same (id_of (get_or rs i (row_of [])).body) id ≡ true
      → touched_at l s i t ≡ with_rows l s (touched id t rs)
  unfolding touched_at with_rows
  touched_image s rs i id t h lt e =
      let n : ℕ = length rs in
      let qs : List Row = touched id t rs in
      let a : Alike rs qs = touched_alike id t rs in
      let same_length : length qs ≡ n = alike_length rs qs a in
      let same-joined : joined qs ≡ joined rs = alike_joined rs qs a in
      let place : place_within l i ≡ row_place l i = place_within_lem l ok i (omega (arith, h.rows.few)) in
      let r : ℕ = row_place l i in
      let up : r + row_size l ≤ row_place l n = place_order l i n lt in
      let low : row_place l 0 ≤ r = place_up l 0 i (omega arith) in
      let il : length (image_of l rs) ≡ row_place l n + length (joined rs) = image_length l ok rs in
      let room : r + row_size l ≤ length s = omega (arith, holds_room l ok s rs h) in
      let w : ImageParts l ok s rs = image_stands l ok s rs h in
      let d : List ℕ = raised_at l s r t in
      let x = rows_used s 0 (row_place l n) rs i t lt h.rows.moments w.has_rows in
      let from_start : 0 + i ≡ i = zero-add i in
      let y : Has d (row_place l 0) (rows_of l (row_place l n) (used_at rs i t)) × Kept s d r (r + row_size l)
      = subst (λ (j : ℕ). Has (raised_at l s (row_place l j) t) (row_place l 0) (rows_of l (row_place l n) (used_at rs i t))
      × Kept s (raised_at l s (row_place l j) t) (row_place l j) (row_place l j + row_size l)) from_start x in
      let rows : Has d (row_place l 0) (rows_of l (row_place l n) qs)
      = subst (λ (q : List Row). Has d (row_place l 0) (rows_of l (row_place l n) q))
      (sym (touched_place [] rs i id t h.rows.each lt e)) y.0 in
      let has : Has d 0 (image_of l qs) = run_whole l ok d qs (record {
        has_header = subst (λ (m : ℕ). Has d 0 (header l m)) (sym same_length)
            (y.1.before 0 (header l n) (omega (arith, header_length l n, place_first l)) w.has_header);
        has_rows = subst (λ (m : ℕ). Has d (row_place l 0) (rows_of l (row_place l m) qs)) (sym same_length) rows;
        has_bodies = subst (λ (m : ℕ). Has d (row_place l m) (joined qs)) (sym same_length)
            (subst (Has d (row_place l n)) (sym same-joined)
            (kept_has s d r (r + row_size l) (row_place l n) (joined rs) y.1 up w.has_bodies));
      }) in
      let m : ℕ = length (image_of l qs) in
      let ml : m ≡ row_place l n + length (joined qs)
      = image_length l ok qs ∙ ap (λ (k : ℕ). row_place l k + length (joined qs)) same_length in
      rw (place, le-leb (r + row_size l) (length s) room)
      (has_front d (image_of l qs) has ∙ ap (λ (z : List ℕ). image_of l qs ++ z) (y.1.after m (omega arith)))

  -- such a buffer holds the rows
  touched_holds : (s : List ℕ) (rs : List Row) (id : List ℕ) (t : ℕ) → Holds l s rs → t < 256 ^ moment_size l
      → Holds l (with_rows l s (touched id t rs)) (touched id t rs)
  unfolding with_rows
  touched_holds s rs id t h small =
      let a : Alike rs (touched id t rs) = touched_alike id t rs in
      record {
        rows = record {
          few = omega (arith, alike_length rs (touched id t rs) a, h.rows.few);
          each = alike_from [] [] rs (touched id t rs) (λ id. refl) a h.rows.each;
          moments = touched_moments id t rs small h.rows.moments;
        };
        rest = drop (length (image_of l (touched id t rs))) s;
        whole = refl;
      }

-- ---- in the edition that the header names

-- no byte written changes nothing, where it fits or not
put_nil : (d : List ℕ) (at : ℕ) → put_at d at [] ≡ d
unfolding put_at
put_nil d at = by_cond (λ (x : List ℕ). x ≡ d) (leb (at + 0) (length d)) (λ e. over_nil d at) (λ e. refl)

-- `TouchedNone`
pub touched_1 : TouchedNone
unfolding touched_at raised_at big_endian
touched_1 s i t =
    let r : ℕ = place_within edition1 i in
    by_cond (λ (x : List ℕ). x ≡ s) (leb (r + row_size edition1) (length s))
    (λ e. by_cond (λ (x : List ℕ). x ≡ s) (ltb (number_in s (r + moment_place edition1) (moment_size edition1)) t)
    (λ f. put_nil s (r + moment_place edition1)) (λ f. refl))
    (λ e. refl)

-- `TouchedImage`
pub touched_both : TouchedImage
touched_both l ok s rs i id t h lt e small =
    let w : touched_at l s i t ≡ with_rows l s (touched id t rs) = touched_image l ok s rs i id t h lt e in
    (w, subst (λ (x : List ℕ). Holds l x (touched id t rs)) (sym w) (touched_holds l ok s rs id t h small))

-- `AfterTouch2`
pub after_touch2 : AfterTouch2
unfolding after_touch
after_touch2 s rs i id t h lt e small =
    subst (λ (l : Layout). (touched_at l s i t ≡ with_rows edition2 s (touched id t rs)) × Holds edition2 (touched_at l s i t) (touched id t rs))
    (sym (names_2 s rs h)) (touched_both edition2 edition2_ok s rs i id t h lt e small)

-- `AfterTouch1`
pub after_touch1 : AfterTouch1
unfolding after_touch
after_touch1 s rs i t h = ap (λ (l : Layout). touched_at l s i t) (names_1 s rs h) ∙ touched_1 s i t
