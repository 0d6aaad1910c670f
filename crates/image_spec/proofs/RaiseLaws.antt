-- What the writes of one row leave (specs/Grow.antt): an offset raised, all offsets raised, a row written in pieces, the row count
-- written. Assumes nothing.
use mathlib.Core.Path.{◌≡◌, sym, ap, ◌∙◌, subst}
use mathlib.Core.List.{List, [], ◌∷◌, ◌++◌, append_assoc}
use Prim.Native.Nat.{ℕ, suc, ◌+◌, ◌≤◌, ◌<◌}
use native.Mathlib.Omega.{arith}
use lib.ListN.{length, length-append}
use Rattle.octets.specs.Bytes.{Has}
use Rattle.octets.specs.Number.{big_endian, number_in}
use Rattle.octets.proofs.BytesLaws.{has_left, has_fits, has_after, has_both}
use Rattle.octets.proofs.NumberLaws.{length_big_endian, number_in_lem, number_of_has}
use Rattle.octets.specs.Write.{over, put_at}
use Rattle.octets.proofs.OverLaws.{over_has, over_append, Kept, kept_over, kept_has, kept_join, kept_self, put_fits}
use Rattle.descriptor_spec.specs.declared.Fields.{Fields}
use Rattle.std.specs.Prelude.{Ok}
use Rattle.image_spec.specs.declared.layout.Layout.{Layout}
use Rattle.descriptor_spec.specs.Allowed.{id_size}
use Rattle.image_spec.specs.Layout.{mode_edition, header_size, header_width, edition_place, modes_place, count_place, header_zero}
use Rattle.image_spec.specs.Layout.{body_width, mask_width, offset_place, length_place, mask_place, zero_place, row_size, zero_size}
use Rattle.image_spec.specs.Layout.{moment_place, moment_size}
use Rattle.image_spec.specs.Layout.{row_place, LayoutOk}
use Rattle.image_spec.specs.Image.{Row, reading, id_of, modes_of, header, row, rows_of, joined}
use Rattle.image_spec.specs.Grow.{raised, with_row}
use Rattle.image_spec.proofs.RowLaws.{id_read, modes_read, id_length, row_length_lem, header_parts, parts_header, RowParts}
use Rattle.image_spec.proofs.RowLaws.{row_parts, parts_row}
use Rattle.image_spec.proofs.RowPlaceLaws.{place_next, place_order}

-- ---- offsets

-- what is kept but for some bytes is kept but for more
pub kept_wide : (d d' : List ℕ) (from to a b : ℕ) → Kept d d' from to → a ≤ from → to ≤ b → Kept d d' a b
kept_wide d d' from to a b k h m = kept_join d d d' from to from to a b (kept_self d from to) k h h m m

-- a piece written right after another is the two written together
pub put_next : (d : List ℕ) (r : ℕ) (s t : List ℕ) (p : ℕ) → r + length s ≡ p → p + length t ≤ length d
    → put_at (over d r s) p t ≡ over d r (s ++ t)
put_next d r s t p e h =
    let k : Kept d (over d r s) r (r + length s) = kept_over d r s (omega arith) in
    put_fits (over d r s) p t (omega (arith, k.long)) ∙ ap (λ (q : ℕ). over (over d r s) q t) (sym e) ∙ over_append d r s t (omega arith)

-- four pieces written one right after the other are the four written together
pub put_four : (d : List ℕ) (r p q t : ℕ) (a b c e : List ℕ) → r + length a ≡ p → p + length b ≡ q → q + length c ≡ t
    → t + length e ≤ length d
    → put_at (put_at (put_at (put_at d r a) p b) q c) t e ≡ over d r (a ++ (b ++ (c ++ e)))
put_four d r p q t a b c e f g h room =
    let whole : ((a ++ b) ++ c) ++ e ≡ a ++ (b ++ (c ++ e)) = simp append_assoc in
    rw (
      put_fits d r a (omega arith),
      put_next d r a b p f (omega arith),
      put_next d r (a ++ b) c q (omega (arith, length-append a b)) (omega arith),
      put_next d r ((a ++ b) ++ c) e t (omega (arith, length-append a b, length-append (a ++ b) c)) room,
    )
    (ap (over d r) whole)

module _ (l : Layout) (ok : LayoutOk l) where
  -- what the row of a body that lies below 2 ^ 32 says of its offset
  pub row_offset_lem : (d : List ℕ) (r at : ℕ) (b : Row) → at < 4294967296 → Has d r (row l at b)
      → number_in d (r + offset_place) body_width ≡ at
  row_offset_lem d r at b small h =
      let p : RowParts l ok d r at b = row_parts l ok d r at b h in
      let i : r + row_size l ≤ length d = omega (arith, has_fits d r (row l at b) (omega (arith, row_length_lem l ok at b)) h, row_length_lem l ok at b) in
      number_in_lem d (r + offset_place) body_width (omega arith) (omega arith) ∙ number_of_has d (r + offset_place) body_width at small
      (omega arith) p.offset

  -- another offset written over that of a row: the row of the body that lies there, and no other byte is changed
  pub row_placed : (d : List ℕ) (r at to : ℕ) (b : Row) → Has d r (row l at b)
      → Has (put_at d (r + offset_place) (big_endian body_width to)) r (row l to b)
      × Kept d (put_at d (r + offset_place) (big_endian body_width to)) r (r + row_size l)
  row_placed d r at to b h =
      let p : RowParts l ok d r at b = row_parts l ok d r at b h in
      let u : length (row l at b) ≡ row_size l = row_length_lem l ok at b in
      let i : r + row_size l ≤ length d = omega (arith, has_fits d r (row l at b) (omega arith) h) in
      let new : List ℕ = big_endian body_width to in
      let m : length new ≡ body_width = length_big_endian body_width to in
      let fit : (r + offset_place) + length new ≤ length d = omega arith in
      let d' : List ℕ = over d (r + offset_place) new in
      let k : Kept d d' (r + offset_place) ((r + offset_place) + length new) = kept_over d (r + offset_place) new fit in
      let q : RowParts l ok d' r to b = record {
        id = k.before r (id_of b.body) (omega (arith, id_length b.body)) p.id;
        offset = over_has d (r + offset_place) new fit;
        size = kept_has d d' _ _ (r + length_place) _ k (omega arith) p.size;
        mask = kept_has d d' _ _ (r + mask_place) _ k (omega arith) p.mask;
        zeros = kept_has d d' _ _ (r + zero_place) _ k (omega arith) p.zeros;
        moment = kept_has d d' _ _ (r + moment_place l) _ k (omega arith) p.moment;
      } in
      subst (λ (x : List ℕ). Has x r (row l to b) × Kept d x r (r + row_size l)) (sym (put_fits d (r + offset_place) new fit)) (
        parts_row l ok d' r to b q,
        kept_wide d d' (r + offset_place) ((r + offset_place) + length new) r (r + row_size l) k
            (omega arith) (omega arith),
      )

  -- the offset of a row raised by a row's size: the row of the body that lies so much higher, and no other byte is changed
  pub row_raised : (d : List ℕ) (r at : ℕ) (b : Row) → at < 4294967296 → Has d r (row l at b)
      → Has (put_at d (r + offset_place) (big_endian body_width (number_in d (r + offset_place) body_width + row_size l))) r
      (row l (at + row_size l) b)
      × Kept d (put_at d (r + offset_place) (big_endian body_width (number_in d (r + offset_place) body_width + row_size l))) r (r + row_size l)
  row_raised d r at b small h =
      subst (λ (n : ℕ). Has (put_at d (r + offset_place) (big_endian body_width (n + row_size l))) r (row l (at + row_size l) b)
      × Kept d (put_at d (r + offset_place) (big_endian body_width (n + row_size l))) r (r + row_size l)) (sym (row_offset_lem d r at b small h))
      (row_placed d r at (at + row_size l) b h)

  -- the offsets of all rows raised: the rows of the bodies that lie so much higher, and no other byte is changed
  pub rows_raised : (d : List ℕ) (i at : ℕ) (bs : List Row) → at + length (joined bs) < 4294967296 → Has d (row_place l i) (rows_of l at bs)
      → Has (raised l d (length bs) i) (row_place l i) (rows_of l (at + row_size l) bs)
      × Kept d (raised l d (length bs) i) (row_place l i) (row_place l (i + length bs))
  unfolding raised rows_of joined
  rows_raised d i at [] small h = (h, kept_self d (row_place l i) (row_place l (i + 0)))
  rows_raised d i at (b ∷ bs) small h =
      let r : ℕ = row_place l i in
      let next : ℕ = row_place l (i + 1) in
      let step : r + row_size l ≡ next = sym (place_next l i) in
      let last : (i + 1) + length bs ≡ i + suc (length bs) = omega arith in
      let more : next ≤ row_place l (i + suc (length bs)) = omega (arith, place_order l i (i + suc (length bs)) (omega arith)) in
      let rest : List ℕ = rows_of l (at + length b.body) bs in
      let short : at + (length b.body + length (joined bs)) < 4294967296 = omega (arith, length-append b.body (joined bs)) in
      let d' : List ℕ = put_at d (r + offset_place) (big_endian body_width (number_in d (r + offset_place) body_width + row_size l)) in
      let x = row_raised d r at b (omega arith) (has_left d r (row l at b) rest h) in
      let g : Has d' next rest
      = kept_has d d' r (r + row_size l) next rest x.1 (omega arith)
      (has_after d r (row_size l) next (row l at b) rest (row_length_lem l ok at b) step h) in
      let y = rows_raised d' (i + 1) (at + length b.body) bs (omega arith) g in
      let d'' : List ℕ = raised l d' (length bs) (i + 1) in
      let s : (at + length b.body) + row_size l ≡ (at + row_size l) + length b.body = omega arith in
      let first : Has d'' r (row l (at + row_size l) b)
      = y.1.before r (row l (at + row_size l) b) (omega (arith, row_length_lem l ok (at + row_size l) b)) x.0 in (
        has_both d'' r (row_size l) next (row l (at + row_size l) b) (rows_of l ((at + row_size l) + length b.body) bs)
            (row_length_lem l ok (at + row_size l) b) step first (subst (λ (n : ℕ). Has d'' next (rows_of l n bs)) s y.0),
        kept_join d d' d'' r (r + row_size l) next (row_place l ((i + 1) + length bs)) r (row_place l (i + suc (length bs))) x.1 y.1
            (omega arith) (omega arith) (omega arith) (omega (arith, ap (row_place l) last)),
      )

  -- ---- a row in pieces

  -- the row of a body, written in its six pieces, is the row written
  pub with_row_lem : (d : List ℕ) (r at : ℕ) (b : Row) (f : Fields) → reading b.body ≡ Ok f → r + row_size l ≤ length d
      → with_row l d r at b.body f.id f.mask b.used ≡ over d r (row l at b)
  unfolding with_row row
  with_row_lem d r at b f e room =
      let i : List ℕ = id_of b.body in
      let o : List ℕ = big_endian body_width at in
      let n : List ℕ = big_endian body_width (length b.body) in
      let m : List ℕ = big_endian mask_width (modes_of b.body) in
      let z : List ℕ = big_endian (zero_size l) 0 in
      let li : length i ≡ id_size = id_length b.body in
      let lo : length o ≡ body_width = length_big_endian body_width at in
      let ln : length n ≡ body_width = length_big_endian body_width (length b.body) in
      let lm : length m ≡ mask_width = length_big_endian mask_width (modes_of b.body) in
      let lz : length z ≡ zero_size l = length_big_endian (zero_size l) 0 in
      let t : List ℕ = big_endian (moment_size l) b.used in
      let lt : length t ≡ moment_size l = length_big_endian (moment_size l) b.used in
      let before : length (i ++ (o ++ (n ++ m))) ≡ zero_place
      = omega (arith, length-append i (o ++ (n ++ m)), length-append o (n ++ m), length-append n m) in
      let most : length ((i ++ (o ++ (n ++ m))) ++ z) ≡ moment_place l = omega (arith, length-append (i ++ (o ++ (n ++ m))) z) in
      let whole : ((i ++ (o ++ (n ++ m))) ++ z) ++ t ≡ row l at b = simp append_assoc in
      rw (
        ← id_read b.body f e,
        ← modes_read b.body f e,
        put_four d r (r + offset_place) (r + length_place) (r + mask_place) i o n m (omega arith) (omega arith) (omega arith) (omega arith),
        put_next d r (i ++ (o ++ (n ++ m))) z (r + zero_place) (omega arith) (omega arith),
        put_next d r ((i ++ (o ++ (n ++ m))) ++ z) t (r + moment_place l) (omega arith) (omega arith),
      )
      (ap (over d r) whole)

  -- ---- the row count

  -- another row count written over a header is the header of so many rows
  pub header_counted : (d : List ℕ) (n m : ℕ) → Has d 0 (header l n) → Has (over d count_place (big_endian header_width m)) 0 (header l m)
  header_counted d n m h =
      let w = header_parts l ok d n h in
      let inside : header_size ≤ length d = w.0 in
      let new : List ℕ = big_endian header_width m in
      let width : (k : ℕ) → length (big_endian header_width k) ≡ header_width = length_big_endian header_width in
      let fit : count_place + length new ≤ length d = omega (arith, width m) in
      let d' : List ℕ = over d count_place new in
      let k : Kept d d' count_place (count_place + length new) = kept_over d count_place new fit in
      parts_header l ok d' m (record {
        edition = k.before edition_place _ (omega (arith, width l.edition)) w.1.edition;
        modes = k.before modes_place _ (omega (arith, width mode_edition)) w.1.modes;
        count = over_has d count_place new fit;
        zeros = kept_has d d' count_place (count_place + length new) header_zero _ k (omega (arith, width m)) w.1.zeros;
      })
