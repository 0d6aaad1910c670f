-- The image of one body more (specs/Image.antt). Assumes nothing.
use mathlib.Core.Path.{◌≡◌, refl, sym, ap, ◌∙◌, subst}
use mathlib.Core.Bool.{Bool, true, false, ◌||◌}
use mathlib.Core.List.{List, [], ◌∷◌, ◌++◌}
use mathlib.Core.Option.{Option, none, some}
use Prim.Native.Nat.{ℕ, ◌+◌, ◌<◌}
use native.Mathlib.Omega.{arith}
use lib.ListN.{length, length-append}
use Rattle.octets.specs.Bytes.{Has, same}
use Rattle.octets.proofs.BytesLaws.{has_both}
use Rattle.octets.proofs.OptionLaws.{none_some}
use Rattle.image_spec.specs.declared.layout.Layout.{Layout}
use Rattle.image_spec.specs.Layout.{row_size, most_rows, row_place, LayoutOk}
use Rattle.image_spec.specs.Image.{Row, reading, is_read, id_of, header, row, rows_of, joined, image_of, has_id, MomentOk, RowsOk, body_with}
use Rattle.image_spec.proofs.RowPlaceLaws.{place_next}
use Rattle.image_spec.proofs.RowLaws.{rows_end, image_length, joined_snoc, rows_snoc}
use Rattle.image_spec.proofs.ListLaws.{each_snoc, every_snoc}
use Rattle.image_spec.proofs.SoundLaws.{run_whole}

-- an id that has no body is none of the bodies'
none_has_lem : (id : List ℕ) (bs : List Row) → body_with id bs ≡ none → has_id id bs ≡ false
unfolding body_with has_id
none_has_lem id [] e = refl
none_has_lem id (b ∷ bs) e = go (same (id_of b.body) id) e (none_has_lem id bs)
  where
    go : (t : Bool) → ◌≡◌ {A = Option (List ℕ)} (elim t as (λ t. Option (List ℕ)) [ true ↦ some b.body | false ↦ body_with id bs ]) none
        → (body_with id bs ≡ none → has_id id bs ≡ false) → (t || has_id id bs) ≡ false
    go true e k = absurd (none_some b.body (sym e))
    go false e k = k e

module _ (l : Layout) (ok : LayoutOk l) where
  -- the bodies of one more begin a row later
  place_more : (bs : List Row) (b : Row) → row_place l (length bs) + row_size l ≡ row_place l (length (bs ++ (b ∷ [])))
  place_more bs b = sym (ap (row_place l) (length-append bs (b ∷ [])) ∙ place_next l (length bs))

  -- the image of one body more is longer by a row and the body
  pub length_more : (bs : List Row) (b : Row) → length (image_of l (bs ++ (b ∷ []))) ≡ length (image_of l bs) + row_size l + length b.body
  length_more bs b =
      omega (
        arith,
        image_length l ok bs,
        image_length l ok (bs ++ (b ∷ [])),
        place_more bs b,
        ap length (joined_snoc bs b),
        length-append (joined bs) b.body,
      )

  -- where the pieces of the larger image stand, it stands
  pub pieces : (d : List ℕ) (bs : List Row) (b : Row) → Has d 0 (header l (length bs + 1))
      → Has d (row_place l 0) (rows_of l (row_place l (length bs) + row_size l) bs)
      → Has d (row_place l (length bs)) (row l (length (image_of l bs) + row_size l) b)
      → Has d (row_place l (length bs) + row_size l) (joined bs)
      → Has d (length (image_of l bs) + row_size l) b.body
      → Has d 0 (image_of l (bs ++ (b ∷ [])))
  pieces d bs b h₁ h₂ h₃ h₄ h₅ =
      let n : ℕ = length bs in
      let more : List Row = bs ++ (b ∷ []) in
      let up : ℕ = row_place l n + row_size l in
      let m : length more ≡ n + 1 = length-append bs (b ∷ []) in
      let start : up ≡ row_place l (length more) = place_more bs b in
      let at : length (image_of l bs) + row_size l ≡ up + length (joined bs) = omega (arith, image_length l ok bs) in
      let last : Has d (row_place l n) (row l (up + length (joined bs)) b) = subst (λ (q : ℕ). Has d (row_place l n) (row l q b)) at h₃ in
      let rows : Has d (row_place l 0) (rows_of l up more)
      = subst (Has d (row_place l 0)) (sym (rows_snoc l ok up bs b))
      (has_both d (row_place l 0) (length (rows_of l up bs)) (row_place l n) (rows_of l up bs) (row l (up + length (joined bs)) b) refl
      (rows_end l ok up bs) h₂ last) in
      let bodies : Has d up (joined more)
      = subst (Has d up) (sym (joined_snoc bs b))
      (has_both d up (length (joined bs)) (length (image_of l bs) + row_size l) (joined bs) b.body refl (sym at) h₄ h₅) in
      run_whole l ok d more (record {
        has_header = subst (λ (k : ℕ). Has d 0 (header l k)) (sym m) h₁;
        has_rows = subst (λ (k : ℕ). Has d (row_place l 0) (rows_of l k more)) start rows;
        has_bodies = subst (λ (k : ℕ). Has d k (joined more)) start bodies;
      })

  -- fewer bodies than there may be rows and one more that reads, whose id none of them has and whose moment fits, are allowed
  pub bodies_more : (bs : List Row) (b : Row) → RowsOk l bs → length bs < most_rows l → is_read (reading b.body) ≡ true
      → body_with (id_of b.body) bs ≡ none → MomentOk l b → RowsOk l (bs ++ (b ∷ []))
  bodies_more bs b o few reads new dated = record {
    few = omega (arith, length-append bs (b ∷ []));
    each = each_snoc [] bs b o.each (record { reads = reads; new = none_has_lem (id_of b.body) bs new });
    moments = every_snoc (MomentOk l) bs b o.moments dated;
  }
