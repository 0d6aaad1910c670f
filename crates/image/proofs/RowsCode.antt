-- Laws of a loop over the rows and of a loop over the ids (specs/Check.antt of `image_spec`), in the code's own form. Assumes nothing.
use mathlib.Core.Path.{◌≡◌, refl, sym, ap, ap₂, ◌∙◌}
use mathlib.Core.Bool.{Bool, true, false}
use mathlib.Core.List.{List}
use Prim.Native.Nat.{ℕ, suc, ◌+◌, ◌-◌, ◌≤◌, ◌<◌}
use native.Mathlib.Omega.{arith}
use lib.ListN.{take, drop}
use Rattle.octets.specs.Bytes.{same}
use Rattle.octets.proofs.PartLaws.{lent_part}
use Rattle.exact.specs.Reads.{got, refused}
use Rattle.exact.proofs.ReadsLaws.{bind_got, bind_refused}
use Rattle.descriptor_spec.specs.declared.Fields.{Fields}
use Rattle.descriptor_spec.specs.Allowed.{id_size}
use Rattle.image_spec.specs.Check.{Held}
use Rattle.image_spec.specs.declared.layout.Layout.{Layout}
use Rattle.image_spec.specs.Layout.{row_place, LayoutOk}
use Rattle.image_spec.specs.Check.{row_id, row_length, id_among, row_at, held_with, rows_from}
use Rattle.image_spec.proofs.Laws.{rows_in_order}

module _ (l : Layout) where
  -- the id of a row ends before a place that is not before the bodies
  pub row_inside : LayoutOk l → (i n r end : ℕ) → i < n → r ≡ row_place l i → row_place l n ≤ end → r + id_size ≤ end
  row_inside ok i n r end h e room = omega (arith, ok.wide, rows_in_order l i n h)

  -- the code compares the id of row i with the id
  pub id_is : (s id : List ℕ) (i r : ℕ) (b : Bool) → r ≡ row_place l i → b ≡ same (take (r + id_size - r) (drop r s)) id
      → b ≡ same (row_id s (row_place l i)) id
  id_is s id i r b p e = e ∙ ap (λ (x : List ℕ). same x id) (lent_part s r id_size) ∙ ap (λ (k : ℕ). same (row_id s k) id) p

  -- ---- all rows

  -- a row that passes leaves the rows after it
  pub rows_next : (s id : List ℕ) (n i at : ℕ) (h : Held) (f : Fields) (next : ℕ) → i < n → got f next ≡ row_at l s i at
      → rows_from l s id (n - i) i at h
      ≡ rows_from l s id (n - (i + 1)) (i + 1) next (held_with (same (row_id s (row_place l i)) id) h i at (row_length s (row_place l i)) f)
  unfolding rows_from
  rows_next s id n i at h f next q e =
      let k : n - i ≡ suc (n - (i + 1)) = omega arith in
      ap (λ (m : ℕ). rows_from l s id m i at h) k ∙ bind_got (row_at l s i at) _ f next e

  -- a row that does not pass refuses them all
  pub rows_stop : (s id : List ℕ) (n i at : ℕ) (h : Held) → i < n → refused ≡ row_at l s i at → rows_from l s id (n - i) i at h ≡ refused
  unfolding rows_from
  rows_stop s id n i at h q e =
      let k : n - i ≡ suc (n - (i + 1)) = omega arith in
      ap (λ (m : ℕ). rows_from l s id m i at h) k ∙ bind_refused (row_at l s i at) _ e

  -- after the last row what is held is answered
  pub rows_done : (s id : List ℕ) (n i at : ℕ) (h : Held) → n ≤ i → rows_from l s id (n - i) i at h ≡ got h at
  unfolding rows_from
  rows_done s id n i at h q =
      let k : n - i ≡ 0 = omega arith in
      ap (λ (m : ℕ). rows_from l s id m i at h) k

  -- before the first row all rows are left
  pub rows_begin : (s id : List ℕ) (n at at' : ℕ) (h : Held) → at' ≡ at → rows_from l s id n 0 at h ≡ rows_from l s id (n - 0) 0 at' h
  rows_begin s id n at at' h e = let k : n ≡ n - 0 = omega arith in ap₂ (λ (m p : ℕ). rows_from l s id m 0 p h) k (sym e)

  -- ---- the ids of the rows before

  -- no row is before the first
  pub among_none : (s id : List ℕ) → id_among l s id 0 ≡ false
  unfolding id_among
  among_none s id = refl

  -- where the last row has another id, the rows before it count
  pub among_next : (s id : List ℕ) (i r : ℕ) (b : Bool) → 0 < i → r ≡ row_place l (i - 1)
      → b ≡ same (take (r + id_size - r) (drop r s)) id → b ≡ false → id_among l s id i ≡ id_among l s id (i - 1)
  unfolding id_among
  among_next s id i r b m p e f =
      let k : i ≡ suc (i - 1) = omega arith in
      ap (id_among l s id) k ∙ rw (sym (id_is s id (i - 1) r b p e) ∙ f, id_among)

  -- where the last row has the id, it is among them
  pub among_hit : (s id : List ℕ) (i r : ℕ) (b : Bool) → 0 < i → r ≡ row_place l (i - 1)
      → b ≡ same (take (r + id_size - r) (drop r s)) id → b ≡ true → id_among l s id i ≡ true
  unfolding id_among
  among_hit s id i r b m p e f =
      let k : i ≡ suc (i - 1) = omega arith in
      ap (id_among l s id) k ∙ rw (sym (id_is s id (i - 1) r b p e) ∙ f, id_among)
