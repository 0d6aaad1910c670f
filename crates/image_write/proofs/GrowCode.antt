-- Laws that the proofs of growing apply: what the tests, calls and writes of the code say of the definitions of specs/Grow.antt of
-- `image_spec`. Assumes nothing.
use mathlib.Core.Path.{◌≡◌, refl, sym, ap, ap₂, ◌∙◌}
use mathlib.Core.Bool.{Bool, true, false, not, ◌&&◌}
use mathlib.Core.List.{List}
use Prim.Native.Nat.{ℕ, suc, ◌+◌, ◌-◌, ◌≤◌, ◌<◌}
use native.Mathlib.Omega.{arith}
use lib.ListN.{length, take, drop}
use lib.Dec.{leb, ltb}
use borrow.Author.Tests.{lt-ltb, le-leb, lt-leb, leb-false, ltb-true, leb-true, not-true, not-false}
use Rattle.octets.specs.Number.{big_endian, number_in}
use Rattle.octets.specs.Write.{put_at, moved_up}
use Rattle.octets.proofs.Tests.{and_left, and_right}
use Rattle.octets.proofs.PartLaws.{lent_part}
use Rattle.std.specs.Prelude.{Ok, Err}
use Rattle.image_spec.specs.declared.AddError.TheVariants.{Full}
use Rattle.image_spec.specs.declared.layout.Layout.{Layout}
use Rattle.descriptor_spec.specs.Allowed.{id_size}
use Rattle.image_spec.specs.Layout.{header_width, count_place}
use Rattle.image_spec.specs.Layout.{body_width, mask_width, offset_place, length_place, mask_place, zero_place, row_size, most_rows, zero_size}
use Rattle.image_spec.specs.Layout.{moment_place, moment_size, row_place}
use Rattle.image_spec.specs.Grow.{raised, with_row, grown, fits, added_of, after_add}

module _ (l : Layout) where
  -- ---- the offsets are raised

  -- before the first row all rows are left
  pub raise_begin : (d : List ℕ) (n : ℕ) → raised l d n 0 ≡ raised l d (n - 0) 0
  raise_begin d n = let k : n ≡ n - 0 = omega arith in ap (λ (m : ℕ). raised l d m 0) k

  -- a row whose offset was raised leaves the rows after it
  pub raise_next : (d d' : List ℕ) (n i r v : ℕ) → i < n → r ≡ row_place l i → v ≡ number_in d (r + offset_place) body_width
      → d' ≡ put_at d (r + offset_place) (big_endian body_width (v + row_size l))
      → raised l d (n - i) i ≡ raised l d' (n - (i + 1)) (i + 1)
  unfolding raised
  raise_next d d' n i r v q at e p =
      let k : n - i ≡ suc (n - (i + 1)) = omega arith in
      let f : v ≡ number_in d (row_place l i + offset_place) body_width = e ∙ ap (λ (x : ℕ). number_in d (x + offset_place) body_width) at in
      ap (λ (m : ℕ). raised l d m i) k
      ∙ ap (λ (x : List ℕ). raised l x (n - (i + 1)) (i + 1))
      (sym (p ∙ ap₂ (λ (x w : ℕ). put_at d (x + offset_place) (big_endian body_width (w + row_size l))) at f))

  -- after the last row nothing is left
  pub raise_end : (d : List ℕ) (n i : ℕ) → n ≤ i → raised l d (n - i) i ≡ d
  unfolding raised
  raise_end d n i q = let k : n - i ≡ 0 = omega arith in ap (λ (m : ℕ). raised l d m i) k

  -- ---- the row and the whole

  -- the six writes of a row
  pub row_done : (d d₁ d₂ d₃ d₄ d₅ d₆ : List ℕ) (r at : ℕ) (b : List ℕ) (id mask used : ℕ)
      → d₁ ≡ put_at d r (take (id + id_size - id) (drop id b)) → d₂ ≡ put_at d₁ (r + offset_place) (big_endian body_width at)
      → d₃ ≡ put_at d₂ (r + length_place) (big_endian body_width (length b))
      → d₄ ≡ put_at d₃ (r + mask_place) (big_endian mask_width mask) → d₅ ≡ put_at d₄ (r + zero_place) (big_endian (zero_size l) 0)
      → d₆ ≡ put_at d₅ (r + moment_place l) (big_endian (moment_size l) used) → d₆ ≡ with_row l d r at b id mask used
  unfolding with_row
  row_done d d₁ d₂ d₃ d₄ d₅ d₆ r at b id mask used e₁ e₂ e₃ e₄ e₅ e₆ = rw (e₆, e₅, e₄, e₃, e₂, e₁, lent_part b id id_size)

  -- the five writes of one more row and body
  pub grow_done : (d d₁ d₂ d₃ d₄ d₅ : List ℕ) (n end start : ℕ) (b : List ℕ) (id mask used : ℕ) → start ≡ row_place l n
      → d₁ ≡ moved_up d start end (row_size l) → d₂ ≡ raised l d₁ n 0 → d₃ ≡ with_row l d₂ start (end + row_size l) b id mask used
      → d₄ ≡ put_at d₃ (end + row_size l) b → d₅ ≡ put_at d₄ count_place (big_endian header_width (n + 1)) → d₅ ≡ grown l d n end b id mask used
  unfolding grown
  grow_done d d₁ d₂ d₃ d₄ d₅ n end start b id mask used e e₁ e₂ e₃ e₄ e₅ = rw (e₅, e₄, e₃, e₂, e₁, e)

  -- ---- whether it fits

  -- fewer rows are held than there may be, whose bodies begin after them; the larger image has room; and the id lies in the body
  abbrev Fits : List ℕ → ℕ → ℕ → List ℕ → ℕ → Type 0
  Fits d n end b id = (n < most_rows l) × (row_place l n ≤ end) × (end + row_size l + length b ≤ length d) × (id + id_size ≤ length b)

  -- what fits is so
  pub fits_says : (d : List ℕ) (n end : ℕ) (b : List ℕ) (id : ℕ) → fits l d n end b id ≡ true → Fits d n end b id
  unfolding fits
  fits_says d n end b id e =
      let t₀ : Bool = ltb n (most_rows l) in
      let t₁ : Bool = leb (row_place l n) end in
      let t₂ : Bool = leb (end + row_size l + length b) (length d) in
      let t₃ : Bool = leb (id + id_size) (length b) in
      let e₁ = and_right t₀ (t₁ && (t₂ && t₃)) e in
      let e₂ = and_right t₁ (t₂ && t₃) e₁ in (
        ltb-true n (most_rows l) (and_left t₀ (t₁ && (t₂ && t₃)) e),
        leb-true (row_place l n) end (and_left t₁ (t₂ && t₃) e₁),
        leb-true (end + row_size l + length b) (length d) (and_left t₂ t₃ e₂),
        leb-true (id + id_size) (length b) (and_right t₂ t₃ e₂),
      )

  -- what is not so does not fit
  pub fits_not : (d : List ℕ) (n end : ℕ) (b : List ℕ) (id : ℕ) → (Fits d n end b id → ⊥) → false ≡ fits l d n end b id
  fits_not d n end b id o = go (fits l d n end b id) refl
    where
      go : (t : Bool) → fits l d n end b id ≡ t → false ≡ t
      go true e = absurd (o (fits_says d n end b id e))
      go false e = refl

  -- where the rest is so, the code's test of the id is that of the definition
  pub fits_id : (d : List ℕ) (n end : ℕ) (b : List ℕ) (id : ℕ) → n < most_rows l → row_place l n ≤ end
      → end + row_size l + length b ≤ length d → id_size ≤ length b → leb id (length b - id_size) ≡ fits l d n end b id
  unfolding fits
  fits_id d n end b id few begins room long =
      rw (lt-ltb n (most_rows l) few, le-leb (row_place l n) end begins, le-leb (end + row_size l + length b) (length d) room)
      (go (leb (id + id_size) (length b)) refl)
    where
      go : (t : Bool) → leb (id + id_size) (length b) ≡ t → leb id (length b - id_size) ≡ t
      go true e = let k : id + id_size ≤ length b = leb-true (id + id_size) (length b) e in le-leb id (length b - id_size) (omega arith)
      go false e = let k : length b < id + id_size = leb-false (id + id_size) (length b) e in lt-leb id (length b - id_size) (omega arith)

  -- ---- the body added

  -- what the code's test says
  pub add_fits : (d : List ℕ) (n end : ℕ) (b : List ℕ) (id : ℕ) (t : Bool) → t ≡ fits l d n end b id → not t ≡ false → Fits d n end b id
  add_fits d n end b id t e f = fits_says d n end b id (sym e ∙ not-false t f)

  module _ (d : List ℕ) (n end : ℕ) (b : List ℕ) (id mask used : ℕ) (t : Bool) (e : t ≡ fits l d n end b id) where
    -- what does not fit is not added
    pub add_full : not t ≡ true → (Err Full ≡ added_of l d n end b id) × (d ≡ after_add l d n end b id mask used)
    unfolding added_of after_add
    add_full f = let k = sym e ∙ not-true t f in (rw k, rw k)

    -- what fits is added
    pub add_done : not t ≡ false → (d' : List ℕ) → d' ≡ grown l d n end b id mask used
        → (Ok tt ≡ added_of l d n end b id) × (d' ≡ after_add l d n end b id mask used)
    unfolding added_of after_add
    add_done f d' g = let k = sym e ∙ not-false t f in (rw k, g ∙ rw k)
