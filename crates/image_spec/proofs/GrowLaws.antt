-- The writes of one body more, in the code's order, come to the image with one body more (specs/Grow.antt). Assumes nothing.
use mathlib.Core.Path.{◌≡◌, refl, ap, ◌∙◌, subst}
use mathlib.Core.Bool.{Bool, true, false, cond, ◌&&◌, and-true}
use mathlib.Core.List.{List, [], ◌∷◌, ◌++◌}
use Prim.Native.Nat.{ℕ, ◌+◌, ◌-◌, ◌*◌, ◌≤◌, ◌<◌}
use native.Mathlib.Omega.{arith}
use native.Mathlib.Nat.{zero-add}
use lib.ListN.{length, drop}
use lib.Dec.{leb, ltb}
use borrow.Author.Tests.{ltb-true, leb-true, le-leb}
use Rattle.octets.specs.Bytes.{part, Has}
use Rattle.octets.specs.Number.{big_endian}
use Rattle.octets.proofs.BytesLaws.{has_part}
use Rattle.octets.proofs.NumberLaws.{length_big_endian}
use Rattle.octets.specs.Write.{over, put_at, moved, moved_up}
use Rattle.octets.proofs.Tests.{and_left, and_right}
use Rattle.octets.proofs.SameLaws.{equal_same, not_same}
use Rattle.octets.proofs.OverLaws.{over_has, has_front, Kept, kept_over, kept_has, put_fits, moved_fits}
use Rattle.descriptor_spec.specs.declared.Fields.{Fields}
use Rattle.std.specs.Prelude.{Ok}
use Rattle.image_spec.specs.declared.layout.Layout.{Layout}
use Rattle.descriptor_spec.specs.Allowed.{id_size}
use Rattle.image_spec.specs.Layout.{header_size, header_width, count_place, row_size, most_rows, row_place, LayoutOk}
use Rattle.image_spec.specs.Image.{Row, reading, id_of, header, row, rows_of, joined, image_of, Holds}
use Rattle.image_spec.specs.Grow.{raised, with_row, grown, fits, added_of, after_add, has_room, with_body}
use Rattle.image_spec.specs.Laws.{BodyAddedFor, OneMoreFor}
use Rattle.image_spec.proofs.BodyLaws.{read_in}
use Rattle.image_spec.proofs.RowLaws.{header_length, row_length_lem, rows_end, image_length}
use Rattle.image_spec.proofs.RowPlaceLaws.{place_first, place_after_lem, place_small}
use Rattle.image_spec.proofs.ListLaws.{joined_short, with_new, with_other}
use Rattle.image_spec.proofs.SoundLaws.{ImageParts, image_stands}
use Rattle.image_spec.proofs.MoreLaws.{length_more, pieces, bodies_more}
use Rattle.image_spec.proofs.RaiseLaws.{rows_raised, with_row_lem, header_counted}

module _ (l : Layout) (ok : LayoutOk l) where
  -- what is written, from what each write leaves
  writes : (d : List ℕ) (n end : ℕ) (b : List ℕ) (id mask used : ℕ) (d₁ d₃ d₄ d₅ : List ℕ) → moved_up d (row_place l n) end (row_size l) ≡ d₁
      → with_row l (raised l d₁ n 0) (row_place l n) (end + row_size l) b id mask used ≡ d₃ → put_at d₃ (end + row_size l) b ≡ d₄
      → put_at d₄ count_place (big_endian header_width (n + 1)) ≡ d₅
      → grown l d n end b id mask used ≡ d₅
  unfolding grown
  writes d n end b id mask used d₁ d₃ d₄ d₅ e₁ e₃ e₄ e₅ = rw (e₁, e₃, e₄) e₅

  -- in the image of the rows bs, with room for a row and its body, the writes leave the image of those rows and the new one, and the old
  -- bytes beyond its end
  grown_image : (d : List ℕ) (bs : List Row) (b : Row) (f : Fields) → Holds l d bs → reading b.body ≡ Ok f
      → length (image_of l bs) + row_size l + length b.body ≤ length d
      → grown l d (length bs) (length (image_of l bs)) b.body f.id f.mask b.used ≡ with_body l d bs b
  unfolding moved with_body
  grown_image d bs b f h e room =
      let n : ℕ = length bs in
      let end : ℕ = length (image_of l bs) in
      let start : ℕ = row_place l n in
      let next : ℕ = start + row_size l in
      let at : ℕ = end + row_size l in
      let larger : List ℕ = image_of l (bs ++ (b ∷ [])) in
      let head : List ℕ = header l n in
      let rows : List ℕ = rows_of l next bs in
      let bodies : List ℕ = joined bs in
      let r : List ℕ = row l at b in
      let count : List ℕ = big_endian header_width (n + 1) in
      let w : ImageParts l ok d bs = image_stands l ok d bs h in
      let few : n ≤ most_rows l = h.rows.few in
      let short : length bodies ≤ 32768 * n = joined_short [] bs h.rows.each in
      let first : row_place l 0 ≡ header_size = place_first l in
      let after : header_size ≤ start = place_after_lem l n in
      let l₀ : length head ≡ header_size = header_length l n in
      let l₁ : row_place l 0 + length (rows_of l start bs) ≡ start = rows_end l ok start bs in
      let l₂ : row_place l 0 + length rows ≡ start = rows_end l ok next bs in
      let l₃ : length r ≡ row_size l = row_length_lem l ok at b in
      let l₄ : end ≡ start + length bodies = image_length l ok bs in
      let l₅ : length count ≡ header_width = length_big_endian header_width (n + 1) in
      let l₆ : length larger ≡ at + length b.body = length_more l ok bs b in
      -- the bodies, moved
      let sub : end - start ≡ length bodies = omega arith in
      let d₁ : List ℕ = over d next bodies in
      let f₁ : next + length bodies ≤ length d = omega arith in
      let e₁ : moved_up d start end (row_size l) ≡ d₁
      = moved_fits d start end (row_size l) (omega arith) (omega arith)
      ∙ ap (over d next) (ap (part d start) sub ∙ has_part d start bodies w.has_bodies) in
      let k₁ : Kept d d₁ next (next + length bodies) = kept_over d next bodies f₁ in
      -- the offsets
      let d₂ : List ℕ = raised l d₁ n 0 in
      let y = rows_raised l ok d₁ 0 start bs (omega (arith, place_small l ok n few))
      (k₁.before (row_place l 0) (rows_of l start bs) (omega arith) w.has_rows) in
      let k₂ : Kept d₁ d₂ (row_place l 0) start = subst (λ (k : ℕ). Kept d₁ d₂ (row_place l 0) (row_place l k)) (zero-add n) y.1 in
      -- the row
      let d₃ : List ℕ = over d₂ start r in
      let f₃ : start + length r ≤ length d₂ = omega (arith, k₂.long, k₁.long) in
      let k₃ : Kept d₂ d₃ start (start + length r) = kept_over d₂ start r f₃ in
      -- the body
      let d₄ : List ℕ = over d₃ at b.body in
      let f₄ : at + length b.body ≤ length d₃ = omega (arith, k₃.long, k₂.long, k₁.long) in
      let k₄ : Kept d₃ d₄ at (at + length b.body) = kept_over d₃ at b.body f₄ in
      -- the row count
      let d₅ : List ℕ = over d₄ count_place count in
      let f₅ : count_place + length count ≤ length d₄ = omega (arith, k₄.long, k₃.long, k₂.long, k₁.long) in
      let k₅ : Kept d₄ d₅ count_place (count_place + length count) = kept_over d₄ count_place count f₅ in
      -- what then stands
      let last : (p : ℕ) (t : List ℕ) → count_place + length count ≤ p → Has d₄ p t → Has d₅ p t
      = λ p t i x. kept_has d₄ d₅ count_place (count_place + length count) p t k₅ i x in
      let head₂ = k₂.before 0 head (omega arith) (k₁.before 0 head (omega arith) w.has_header) in
      let head₄ = k₄.before 0 head (omega arith) (k₃.before 0 head (omega arith) head₂) in
      let rows₄ = k₄.before (row_place l 0) rows (omega arith) (k₃.before (row_place l 0) rows (omega arith) y.0) in
      let row₄ = k₄.before start r (omega arith) (over_has d₂ start r f₃) in
      let bodies₂ = kept_has d₁ d₂ (row_place l 0) start next bodies k₂ (omega arith) (over_has d next bodies f₁) in
      let bodies₃ = kept_has d₂ d₃ start (start + length r) next bodies k₃ (omega arith) bodies₂ in
      let bodies₄ = k₄.before next bodies (omega arith) bodies₃ in
      let has : Has d₅ 0 larger =
      pieces l ok d₅ bs b (header_counted l ok d₄ n (n + 1) head₄) (last (row_place l 0) rows (omega arith) rows₄)
      (last start r (omega arith) row₄) (last next bodies (omega arith) bodies₄)
      (last at b.body (omega arith) (over_has d₃ at b.body f₄)) in
      let m : ℕ = length larger in
      let rest : drop m d₅ ≡ drop m d
      = k₅.after m (omega arith) ∙ k₄.after m (omega arith) ∙ k₃.after m (omega arith) ∙ k₂.after m (omega arith)
      ∙ k₁.after m (omega arith) in
      writes d n end b.body f.id f.mask b.used d₁ d₃ d₄ d₅ e₁ (with_row_lem l ok d₂ start at b f e (omega arith))
      (put_fits d₃ at b.body f₄) (put_fits d₄ count_place count f₅)
      ∙ has_front d₅ larger has
      ∙ ap (λ (x : List ℕ). larger ++ x) rest

  -- ---- over a buffer that holds rows

  -- where there is room fewer rows are held than there may be, and the larger image does not exceed the buffer
  room_says : (d : List ℕ) (bs : List Row) (b : Row) → has_room l d bs b ≡ true
      → (length bs < most_rows l) × (length (image_of l bs) + row_size l + length b.body ≤ length d)
  unfolding has_room
  room_says d bs b e =
      let larger : ℕ = length (image_of l (bs ++ (b ∷ []))) in (
        ltb-true (length bs) (most_rows l) (and_left (ltb (length bs) (most_rows l)) (leb larger (length d)) e),
        omega (
          arith,
          length_more l ok bs b,
          leb-true larger (length d)
              (and_right (ltb (length bs) (most_rows l)) (leb larger (length d)) e),
        ),
      )

  -- a body that reads fits where there is room for it
  fits_room : (d : List ℕ) (bs : List Row) (b : Row) (f : Fields) → reading b.body ≡ Ok f
      → fits l d (length bs) (length (image_of l bs)) b.body f.id ≡ has_room l d bs b
  unfolding fits has_room
  fits_room d bs b f e =
      rw (
        le-leb (row_place l (length bs)) (length (image_of l bs)) (omega (arith, image_length l ok bs)),
        le-leb (f.id + id_size) (length b.body) (read_in b.body f e).id,
        length_more l ok bs b,
      )
      (ap (λ (t : Bool). ltb (length bs) (most_rows l) && t)
      (and-true (leb (length (image_of l bs) + row_size l + length b.body) (length d))))

  -- `BodyAddedFor`
  pub body_added : BodyAddedFor l
  unfolding added_of after_add
  body_added d bs b f h e =
      let t : fits l d (length bs) (length (image_of l bs)) b.body f.id ≡ has_room l d bs b = fits_room d bs b f e in
      (rw t, rw t (go (has_room l d bs b) refl))
    where
      go : (t : Bool) → has_room l d bs b ≡ t
          → cond t (grown l d (length bs) (length (image_of l bs)) b.body f.id f.mask b.used) d ≡ cond t (with_body l d bs b) d
      go true u = grown_image d bs b f h e (room_says d bs b u).1
      go false u = refl

  -- `OneMoreFor`
  pub one_more : OneMoreFor l
  unfolding with_body
  one_more = record {
    holds = λ d bs b h room reads new dated. record {
      rows = bodies_more l ok bs b h.rows (room_says d bs b room).0 reads new dated;
      rest = drop (length (image_of l (bs ++ (b ∷ [])))) d;
      whole = refl;
    };
    mine = λ bs b e. with_new (id_of b.body) bs b e (equal_same (id_of b.body) (id_of b.body) refl);
    others = λ id bs b o. with_other id bs b (not_same (id_of b.body) id o);
  }
