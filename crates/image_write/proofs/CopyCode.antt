-- Laws that the proofs of copying an image in another edition apply: what the tests, calls and writes of the code say of the definitions of
-- specs/Upgrade.antt of `image_spec`. Assumes nothing.
use mathlib.Core.Path.{◌≡◌, refl, sym, ap, ◌∙◌}
use mathlib.Core.Bool.{true, false}
use mathlib.Core.List.{List, []}
use Prim.Native.Nat.{ℕ, suc, ◌+◌, ◌-◌, ◌≤◌, ◌<◌}
use native.Mathlib.Omega.{arith}
use lib.ListN.{length, take, drop}
use lib.Dec.{leb}
use borrow.Author.Tests.{le-leb, lt-leb}
use Rattle.octets.specs.Bytes.{AreBytes, part}
use Rattle.octets.specs.Number.{big_endian, number_in}
use Rattle.octets.specs.Write.{put_at}
use Rattle.octets.proofs.OverLaws.{put_length}
use Rattle.octets.proofs.PartLaws.{lent_part}
use Rattle.std.specs.Prelude.{Result, Some, None, Ok, Err}
use Rattle.std.specs.Option.{ok_or}
use Rattle.image_spec.specs.declared.Contents.{Contents}
use Rattle.image_spec.specs.declared.UpgradeError.{UpgradeError}
use Rattle.image_spec.specs.declared.UpgradeError.TheVariants.{BadImage, TooShort}
use Rattle.image_spec.specs.declared.layout.Layout.{Layout}
use Rattle.image_spec.specs.Layout.{header_width, count_place, body_width, offset_place, moment_place, moment_size, row_place}
use Rattle.image_spec.specs.Layout.{edition1, edition2, most_rows}
use Rattle.image_spec.proofs.Laws.{edition1_ok, places_wider, sound_bounds}
use Rattle.image_spec.specs.Check.{ImageCheck, contents, check_of}
use Rattle.image_spec.specs.NewImage.{new_bytes}
use Rattle.image_spec.specs.Upgrade.{row_copied, rows_copied, copied, new_length, upgrade_by, after_by}

module _ (from to : Layout) (old : List ℕ) where
  -- ---- the rows

  -- the three writes of a row
  pub row_done : (d d₁ d₂ d₃ : List ℕ) (i by r q n : ℕ) → r ≡ row_place from i → q ≡ row_place to i
      → n ≡ number_in old (r + offset_place) body_width
      → d₁ ≡ put_at d q (take (r + moment_place from - r) (drop r old)) → d₂ ≡ put_at d₁ (q + offset_place) (big_endian body_width (n + by))
      → d₃ ≡ put_at d₂ (q + moment_place to) (big_endian (moment_size to) 0)
      → d₃ ≡ row_copied from to old d i by
  unfolding row_copied
  row_done d d₁ d₂ d₃ i by r q n er eq en e₁ e₂ e₃ = rw (e₃, e₂, e₁, en, lent_part old r (moment_place from), er, eq)

  -- a row keeps the length
  row_long : (d : List ℕ) (i by : ℕ) → length (row_copied from to old d i by) ≡ length d
  unfolding row_copied
  row_long d i by = put_length _ _ _ ∙ put_length _ _ _ ∙ put_length _ _ _

  -- a copied row is as long
  pub row_kept_lem : (d d' : List ℕ) (i by n : ℕ) → d' ≡ row_copied from to old d i by → length d ≡ n → length d' ≡ n
  row_kept_lem d d' i by n e h = ap length e ∙ row_long d i by ∙ h

  -- before the first row all rows are left
  pub rows_begin : (d : List ℕ) (n by : ℕ) → rows_copied from to old d n 0 by ≡ rows_copied from to old d (n - 0) 0 by
  rows_begin d n by = let k : n ≡ n - 0 = omega arith in ap (λ (m : ℕ). rows_copied from to old d m 0 by) k

  -- a row that was copied leaves the rows after it
  pub rows_next : (d d' : List ℕ) (n i by : ℕ) → i < n → d' ≡ row_copied from to old d i by
      → rows_copied from to old d (n - i) i by ≡ rows_copied from to old d' (n - (i + 1)) (i + 1) by
  unfolding rows_copied
  rows_next d d' n i by q e =
      let k : n - i ≡ suc (n - (i + 1)) = omega arith in
      ap (λ (m : ℕ). rows_copied from to old d m i by) k ∙ ap (λ (x : List ℕ). rows_copied from to old x (n - (i + 1)) (i + 1) by) (sym e)

  -- after the last row nothing is left
  pub rows_end : (d : List ℕ) (n i by : ℕ) → n ≤ i → rows_copied from to old d (n - i) i by ≡ d
  unfolding rows_copied
  rows_end d n i by q = let k : n - i ≡ 0 = omega arith in ap (λ (m : ℕ). rows_copied from to old d m i by) k

  -- ---- the whole

  -- the four writes of an image
  pub image_done : (d d₁ d₂ d₃ d₄ : List ℕ) (n end start new : ℕ) → start ≡ row_place from n → new ≡ row_place to n
      → d₁ ≡ new_bytes to d → d₂ ≡ rows_copied from to old d₁ n 0 (new - start) → d₃ ≡ put_at d₂ new (take (end - start) (drop start old))
      → d₄ ≡ put_at d₃ count_place (big_endian header_width n)
      → d₄ ≡ copied from to old d n end
  unfolding copied part
  image_done d d₁ d₂ d₃ d₄ n end start new es en e₁ e₂ e₃ e₄ =
      rw (e₄, e₃, e₂, e₁, es, en)

  -- ---- what is answered

  -- the refusal of an image that is not sound
  bad_is : (v : ImageCheck) (x : UpgradeError) → ok_or v BadImage ≡ Err x → (v ≡ None) × (x ≡ BadImage)
  bad_is (Some w) x f = absurd (sound_not w x f)
    where
      sound_not : (w : Contents) (x : UpgradeError) → ◌≡◌ {A = Result Contents UpgradeError} (Ok w) (Err x) → ⊥
      sound_not w x f = cc
  bad_is None x f = (refl, cc)

  -- the contents of one that is
  sound_is : (v : ImageCheck) (w : Contents) → ok_or v BadImage ≡ Ok w → v ≡ Some w
  sound_is (Some y) w f = ap Some (same_contents y w f)
    where
      same_contents : (y w : Contents) → ◌≡◌ {A = Result Contents UpgradeError} (Ok y) (Ok w) → y ≡ w
      same_contents y w f = cc
  sound_is None w f = cc

  module _ (d : List ℕ) (v : ImageCheck) (e : v ≡ check_of from old []) where
    -- the old image is not sound
    pub upgrade_bad : (x : UpgradeError) → ok_or v BadImage ≡ Err x
        → (Err x ≡ upgrade_by from to d (check_of from old [])) × (d ≡ after_by from to old d (check_of from old []))
    upgrade_bad x g =
        let f = bad_is v x g in
        (ap Err f.1 ∙ sym (ap (upgrade_by from to d) (sym e ∙ f.0)), sym (ap (after_by from to old d) (sym e ∙ f.0)))

    module _ (w : Contents) (g : ok_or v BadImage ≡ Ok w) where
      -- it is
      pub upgrade_sound : check_of from old [] ≡ contents w.rows w.end w.held
      upgrade_sound = sym e ∙ sound_is v w g

      module _ (x y : ℕ) (ex : x ≡ row_place to w.rows) (ey : y ≡ row_place from w.rows) where
        -- the new one exceeds the buffer
        pub upgrade_short : length d < w.end + (x - y)
            → (Err TooShort ≡ upgrade_by from to d (check_of from old [])) × (d ≡ after_by from to old d (check_of from old []))
        upgrade_short s =
            let long : ℕ = new_length from to w.rows w.end in
            let no_room : leb long (length d) ≡ false = lt-leb long (length d) (omega (arith, ex, ey)) in (
              sym (ap (upgrade_by from to d) upgrade_sound ∙ rw no_room),
              sym (ap (after_by from to old d) upgrade_sound ∙ rw no_room),
            )

        -- it does not
        pub upgrade_room : w.end + (x - y) ≤ length d → new_length from to w.rows w.end ≤ length d
        upgrade_room r = omega (arith, ex, ey)

        pub upgrade_done : (d' : List ℕ) → w.end + (x - y) ≤ length d → d' ≡ copied from to old d w.rows w.end
            → (Ok (w.end + (x - y)) ≡ upgrade_by from to d (check_of from old [])) × (d' ≡ after_by from to old d (check_of from old []))
        upgrade_done d' r u =
            let long : ℕ = new_length from to w.rows w.end in
            let fits : leb long (length d) ≡ true = le-leb long (length d) (upgrade_room r) in
            let same_length : w.end + (x - y) ≡ long = omega (arith, ex, ey) in (
              ap Ok same_length ∙ sym (ap (upgrade_by from to d) upgrade_sound ∙ rw fits),
              u ∙ sym (ap (after_by from to old d) upgrade_sound ∙ rw fits),
            )

-- what is known of an image of edition 1 that the check calls sound, and that its rows stand no later in one of edition 2
pub first_bounds : (old id : List ℕ) (w : Contents) → AreBytes old → check_of edition1 old id ≡ contents w.rows w.end w.held
    → (w.rows ≤ most_rows edition1) × (row_place edition1 w.rows ≤ w.end) × (w.end ≤ length old) × (w.end < 4294967296)
    × (row_place edition1 w.rows ≤ row_place edition2 w.rows)
first_bounds old id w bytes e =
    let b = sound_bounds edition1 edition1_ok old id bytes w.rows w.end w.held e in
    (b.0, b.1, b.2, b.3, places_wider edition1 edition2 (omega arith) w.rows)
