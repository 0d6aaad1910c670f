-- An image of one edition copied in another is the image of the same rows (specs/Upgrade.antt). Assumes nothing.
use Rattle.std.specs.Prelude.{None}
use Rattle.image_spec.specs.Check.{contents, Held, ImageCheck, check_of, rows_held, numbers_of}
use mathlib.Core.Path.{◌≡◌, refl, sym, ap, ap₂, ◌∙◌, subst}
use mathlib.Core.Logic.{inl, inr}
use mathlib.Core.Bool.{Bool, true, false}
use mathlib.Core.List.{List, [], ◌∷◌, ◌++◌}
use mathlib.Core.Option.{Option, none, some}
use Prim.Native.Nat.{ℕ, suc, ◌+◌, ◌-◌, ◌*◌, ◌≤◌, ◌<◌}
use native.Mathlib.Omega.{arith}
use native.Mathlib.Nat.{zero-add, mul-le-mul_right}
use lib.ListN.{length, drop, length-append}
use lib.Dec.{leb, eqb}
use borrow.Author.Tests.{le-leb, lt-leb, leb-true, leb-false, eqb-true, eqb-false}
use Rattle.octets.specs.Bytes.{AreBytes, part, Has}
use Rattle.octets.specs.Number.{big_endian, number_in}
use Rattle.octets.specs.Write.{over, put_at}
use Rattle.octets.proofs.BytesLaws.{has_nil, has_left, has_part, has_after, has_both}
use Rattle.octets.proofs.NumberLaws.{length_big_endian}
use Rattle.octets.proofs.OverLaws.{over_has, has_front, Kept, kept_over, kept_has, kept_join, kept_self, put_fits}
use Rattle.descriptor_spec.specs.Allowed.{id_size}
use Rattle.image_spec.specs.declared.StoredNumbers.{StoredNumbers}
use Rattle.image_spec.specs.declared.Written.{Written}
use Rattle.image_spec.specs.declared.layout.Layout.{Layout}
use Rattle.image_spec.specs.Layout.{header_size, header_width, count_place, body_width, offset_place, length_place, mask_place, zero_place}
use Rattle.image_spec.specs.Layout.{mask_width, edition1, edition2, row_size, most_rows, moment_place, zero_size, moment_size, row_place, LayoutOk}
use Rattle.image_spec.specs.Image.{Row, modes_of, header, row, rows_of, joined, image_of, Every, MomentOk, Holds, body_with}
use Rattle.image_spec.specs.Close.{with_rows}
use Rattle.image_spec.specs.NewImage.{new_bytes}
use Rattle.image_spec.specs.Upgrade.{row_copied, rows_copied, copied, new_length, upgrade_by, after_by, upgrade_of, after_upgrade, written_of}
use Rattle.image_spec.specs.Readable.{Holds as Readable, find_of}
use Rattle.image_spec.specs.Promises.{refusal, UpgradeExactly, UpgradeFinds}
use Rattle.image_spec.specs.Laws.{SoundCheck, PlacesWider, SoundBounds}
use Rattle.image_spec.proofs.RowPlaceLaws.{edition1_ok, edition2_ok, place_first, place_next, place_up, place_after_lem, place_small}
use Rattle.image_spec.proofs.RowLaws.{zero_fits, id_length, header_length, row_length_lem, image_length, rows_end, RowParts, row_parts, parts_row}
use Rattle.image_spec.proofs.ListLaws.{joined_short}
use Rattle.image_spec.proofs.SoundLaws.{ImageParts, image_stands, run_whole, holds_room}
use Rattle.image_spec.proofs.RaiseLaws.{row_offset_lem, row_placed, header_counted}
use Rattle.image_spec.proofs.NewImageLaws.{header_written}
use Rattle.image_spec.proofs.LayoutLaws.{holds1_exactly}
use Rattle.image_spec.proofs.FindLaws.{check_tells, check_says, check_unsound}
use Rattle.image_spec.proofs.NamedLaws.{holds_named}
use Rattle.image_spec.proofs.LookupLaws.{lookup_exactly}

-- ---- where rows and bodies stand

-- `PlacesWider`
pub places_wider : PlacesWider
unfolding row_place
places_wider from to w n = omega (arith, mul-le-mul_right n w)

-- `SoundBounds`
pub sound_bounds : SoundBounds
sound_bounds l ok s id bytes n end h e =
    let w : SoundCheck l s id n end h = check_says l ok s id bytes n end h e in
    let rs : List Row = rows_held l s in
    let count : n ≡ length rs = w.rows in
    let place : row_place l n ≡ row_place l (length rs) = ap (row_place l) count in
    let few : length rs ≤ most_rows l = w.holds.rows.few in
    let last : end ≡ row_place l (length rs) + length (joined rs) = w.ends ∙ image_length l ok rs in (
      omega arith,
      omega arith,
      omega (arith, w.ends, holds_room l ok s rs w.holds),
      omega (arith, joined_short [] rs w.holds.rows.each, place_small l ok (length rs) few),
    )

-- ---- the rows

-- rows without a moment, and rows of another edition whose fields before it stand at the same places
module _ (from to : Layout) (ok : LayoutOk from) (ok' : LayoutOk to) (alike : moment_place from ≡ moment_place to)
    (bare : row_size from ≡ moment_place from) where
  -- rows stand no earlier
  wider : (n : ℕ) → row_place from n ≤ row_place to n
  wider n = places_wider from to (omega (arith, ok'.last)) n

  -- a row is copied: the row of the body that lies so much higher, and no other byte is changed
  row_copied_lem : (old d : List ℕ) (i at by : ℕ) (b : Row) → at < 4294967296 → b.used ≡ 0 → Has old (row_place from i) (row from at b)
      → row_place to i + row_size to ≤ length d
      → Has (row_copied from to old d i by) (row_place to i) (row to (at + by) b)
      × Kept d (row_copied from to old d i by) (row_place to i) (row_place to i + row_size to)
  unfolding row_copied
  row_copied_lem old d i at by b small unused h room =
      let r : ℕ = row_place from i in
      let q : ℕ = row_place to i in
      let last : moment_place to ≤ row_size to = ok'.last in
      let early : zero_place ≤ moment_place to = ok'.wide in
      let first : List ℕ = row from at b in
      let fl : length first ≡ row_size from = row_length_lem from ok at b in
      let size : length first ≡ moment_place from = fl ∙ bare in
      -- the row as it is
      let d₁ : List ℕ = over d q first in
      let f₁ : q + length first ≤ length d = omega arith in
      let e₁ : put_at d q (part old r (moment_place from)) ≡ d₁
      = ap (put_at d q) (ap (part old r) (sym size) ∙ has_part old r first h) ∙ put_fits d q first f₁ in
      let k₁ : Kept d d₁ q (q + length first) = kept_over d q first f₁ in
      -- its offset
      let high : ℕ = at + by in
      let n : number_in old (r + offset_place) body_width ≡ at = row_offset_lem from ok old r at b small h in
      let d₂ : List ℕ = put_at d₁ (q + offset_place) (big_endian body_width high) in
      let x = row_placed from ok d₁ q at high b (over_has d q first f₁) in
      let p : RowParts from ok d₂ q high b = row_parts from ok d₂ q high b x.0 in
      -- its moment
      let place : ℕ = q + moment_place to in
      let new : List ℕ = big_endian (moment_size to) 0 in
      let nl : length new ≡ moment_size to = length_big_endian (moment_size to) 0 in
      let f₃ : place + length new ≤ length d₂ = omega (arith, x.1.long, k₁.long) in
      let d₃ : List ℕ = over d₂ place new in
      let k₃ : Kept d₂ d₃ place (place + length new) = kept_over d₂ place new f₃ in
      let w : (k m : ℕ) → length (big_endian k m) ≡ k = length_big_endian in
      let zs : zero_size from ≡ zero_size to = ap (λ (m : ℕ). m - zero_place) alike in
      let parts : RowParts to ok' d₃ q high b = record {
        id = k₃.before q _ (omega (arith, id_length b.body)) p.id;
        offset = k₃.before (q + offset_place) _ (omega (arith, w body_width high)) p.offset;
        size = k₃.before (q + length_place) _ (omega (arith, w body_width (length b.body))) p.size;
        mask = k₃.before (q + mask_place) _ (omega (arith, w mask_width (modes_of b.body))) p.mask;
        zeros = k₃.before (q + zero_place) _ (omega (arith, w (zero_size to) 0))
            (subst (λ (m : ℕ). Has d₂ (q + zero_place) (big_endian m 0)) zs p.zeros);
        moment = subst (λ (u : ℕ). Has d₃ place (big_endian (moment_size to) u)) (sym unused) (over_has d₂ place new f₃);
      } in
      let kept₂ : Kept d d₂ q (q + row_size to)
      = kept_join d d₁ d₂ q (q + length first) q (q + row_size from) q (q + row_size to) k₁ x.1 (omega arith) (omega arith) (omega arith)
      (omega arith) in
      let e₃ : put_at (put_at (put_at d q (part old r (moment_place from))) (q + offset_place)
      (big_endian body_width (number_in old (r + offset_place) body_width + by))) place new ≡ d₃
      = ap₂ (λ (y : List ℕ) (m : ℕ). put_at (put_at y (q + offset_place) (big_endian body_width (m + by))) place new) e₁ n
      ∙ put_fits d₂ place new f₃ in
      subst (λ (y : List ℕ). Has y q (row to high b) × Kept d y q (q + row_size to)) (sym e₃) (
        parts_row to ok' d₃ q high b parts,
        kept_join d d₂ d₃ q (q + row_size to) place (place + length new) q (q + row_size to) kept₂ k₃ (omega arith) (omega arith)
            (omega arith) (omega arith),
      )

  -- the rows are copied: the rows of the bodies that lie so much higher, and no other byte is changed
  rows_copied_lem : (old d : List ℕ) (i at by : ℕ) (rs : List Row) → at + length (joined rs) < 4294967296 → Every (λ r. r.used ≡ 0) rs
      → Has old (row_place from i) (rows_of from at rs) → row_place to (i + length rs) ≤ length d
      → Has (rows_copied from to old d (length rs) i by) (row_place to i) (rows_of to (at + by) rs)
      × Kept d (rows_copied from to old d (length rs) i by) (row_place to i) (row_place to (i + length rs))
  unfolding rows_copied rows_of joined
  rows_copied_lem old d i at by [] small unused h room = (has_nil d (row_place to i), kept_self d (row_place to i) (row_place to (i + 0)))
  rows_copied_lem old d i at by (b ∷ rs) small unused h room =
      let q : ℕ = row_place to i in
      let next : ℕ = row_place to (i + 1) in
      let step : q + row_size to ≡ next = sym (place_next to i) in
      let count : (i + 1) + length rs ≡ i + suc (length rs) = omega arith in
      let last : row_place to ((i + 1) + length rs) ≡ row_place to (i + suc (length rs)) = ap (row_place to) count in
      let order : next ≤ row_place to (i + suc (length rs)) = place_up to (i + 1) (i + suc (length rs)) (omega arith) in
      let end : ℕ = at + length b.body in
      let rest : List ℕ = rows_of from end rs in
      let short : at + (length b.body + length (joined rs)) < 4294967296 = omega (arith, length-append b.body (joined rs)) in
      let d' : List ℕ = row_copied from to old d i by in
      let x = row_copied_lem old d i at by b (omega arith) unused.0 (has_left old (row_place from i) (row from at b) rest h) (omega arith) in
      let y = rows_copied_lem old d' (i + 1) end by rs (omega arith) unused.1
      (has_after old (row_place from i) (row_size from) (row_place from (i + 1)) (row from at b) rest (row_length_lem from ok at b)
      (sym (place_next from i)) h) (omega (arith, x.1.long)) in
      let d'' : List ℕ = rows_copied from to old d' (length rs) (i + 1) by in
      let first : Has d'' q (row to (at + by) b)
      = y.1.before q (row to (at + by) b) (omega (arith, row_length_lem to ok' (at + by) b)) x.0 in
      let s : end + by ≡ (at + by) + length b.body = omega arith in (
        has_both d'' q (row_size to) next (row to (at + by) b) (rows_of to ((at + by) + length b.body) rs) (row_length_lem to ok' (at + by) b) step
            first (subst (λ (n : ℕ). Has d'' next (rows_of to n rs)) s y.0),
        kept_join d d' d'' q (q + row_size to) next (row_place to ((i + 1) + length rs)) q (row_place to (i + suc (length rs))) x.1 y.1
            (omega arith) (omega arith) (omega arith) (omega arith),
      )

  -- ---- the whole

  -- how long the image of the rows is in the other edition
  pub new_length_lem : (rs : List Row) → new_length from to (length rs) (length (image_of from rs)) ≡ length (image_of to rs)
  new_length_lem rs = omega (arith, wider (length rs), image_length from ok rs, image_length to ok' rs)

  -- what is written, from what each write leaves
  writes : (old d : List ℕ) (n end : ℕ) (d₁ d₃ d₄ : List ℕ) → new_bytes to d ≡ d₁
      → put_at (rows_copied from to old d₁ n 0 (row_place to n - row_place from n)) (row_place to n)
      (part old (row_place from n) (end - row_place from n)) ≡ d₃
      → put_at d₃ count_place (big_endian header_width n) ≡ d₄
      → copied from to old d n end ≡ d₄
  unfolding copied
  writes old d n end d₁ d₃ d₄ e₁ e₃ e₄ = rw (e₁, e₃) e₄

  -- the rows that a buffer holds, copied to another with room for their image: that image, and beyond it what stood there
  pub copied_image : (old d : List ℕ) (rs : List Row) → Holds from old rs → Every (λ r. r.used ≡ 0) rs
      → length (image_of to rs) ≤ length d
      → copied from to old d (length rs) (length (image_of from rs)) ≡ with_rows to d rs
  unfolding with_rows
  copied_image old d rs h unused room =
      let n : ℕ = length rs in
      let end : ℕ = length (image_of from rs) in
      let start : ℕ = row_place from n in
      let new : ℕ = row_place to n in
      let by : ℕ = new - start in
      let head : List ℕ = header to 0 in
      let rows : List ℕ = rows_of to new rs in
      let bodies : List ℕ = joined rs in
      let count : List ℕ = big_endian header_width n in
      let m : ℕ = length (image_of to rs) in
      let w : ImageParts from ok old rs = image_stands from ok old rs h in
      let few : n ≤ most_rows from = h.rows.few in
      let short : length bodies ≤ 32768 * n = joined_short [] rs h.rows.each in
      let up : start ≤ new = wider n in
      let higher : start + by ≡ new = omega arith in
      let after : header_size ≤ new = place_after_lem to n in
      let first : row_place to 0 ≡ header_size = place_first to in
      let l₀ : length head ≡ header_size = header_length to 0 in
      let l₁ : end ≡ start + length bodies = image_length from ok rs in
      let l₂ : m ≡ new + length bodies = image_length to ok' rs in
      let l₃ : length count ≡ header_width = length_big_endian header_width n in
      let l₄ : row_place to 0 + length rows ≡ new = rows_end to ok' new rs in
      -- the header
      let d₁ : List ℕ = over d 0 head in
      let f₁ : 0 + length head ≤ length d = omega arith in
      let k₁ : Kept d d₁ 0 (0 + length head) = kept_over d 0 head f₁ in
      -- the rows
      let d₂ : List ℕ = rows_copied from to old d₁ n 0 by in
      let none : row_place to (0 + n) ≡ new = ap (row_place to) (zero-add n) in
      let y = rows_copied_lem old d₁ 0 start by rs (omega (arith, place_small from ok n few)) unused w.has_rows (omega (arith, k₁.long)) in
      let k₂ : Kept d₁ d₂ (row_place to 0) (row_place to (0 + n)) = y.1 in
      let rows₂ : Has d₂ (row_place to 0) rows = subst (λ (k : ℕ). Has d₂ (row_place to 0) (rows_of to k rs)) higher y.0 in
      -- the bodies
      let sub : end - start ≡ length bodies = omega arith in
      let d₃ : List ℕ = over d₂ new bodies in
      let f₃ : new + length bodies ≤ length d₂ = omega (arith, k₂.long, k₁.long) in
      let e₃ : put_at d₂ new (part old start (end - start)) ≡ d₃
      = ap (put_at d₂ new) (ap (part old start) sub ∙ has_part old start bodies w.has_bodies) ∙ put_fits d₂ new bodies f₃ in
      let k₃ : Kept d₂ d₃ new (new + length bodies) = kept_over d₂ new bodies f₃ in
      -- the row count
      let d₄ : List ℕ = over d₃ count_place count in
      let f₄ : count_place + length count ≤ length d₃ = omega (arith, k₃.long, k₂.long, k₁.long) in
      let k₄ : Kept d₃ d₄ count_place (count_place + length count) = kept_over d₃ count_place count f₄ in
      -- what then stands
      let head₂ : Has d₂ 0 head = k₂.before 0 head (omega arith) (over_has d 0 head f₁) in
      let head₃ : Has d₃ 0 head = k₃.before 0 head (omega arith) head₂ in
      let rows₃ : Has d₃ (row_place to 0) rows = k₃.before (row_place to 0) rows (omega arith) rows₂ in
      let has : Has d₄ 0 (image_of to rs) = run_whole to ok' d₄ rs (record {
        has_header = header_counted to ok' d₃ 0 n head₃;
        has_rows = kept_has d₃ d₄ count_place (count_place + length count) (row_place to 0) rows k₄ (omega arith) rows₃;
        has_bodies = kept_has d₃ d₄ count_place (count_place + length count) new bodies k₄ (omega arith) (over_has d₂ new bodies f₃);
      }) in
      let rest : drop m d₄ ≡ drop m d
      = k₄.after m (omega arith) ∙ k₃.after m (omega arith) ∙ k₂.after m (omega arith) ∙ k₁.after m (omega arith) in
      writes old d n end d₁ d₃ d₄ (header_written to d (omega arith)) e₃ (put_fits d₃ count_place count f₄)
      ∙ has_front d₄ (image_of to rs) has
      ∙ ap (λ (x : List ℕ). image_of to rs ++ x) rest

  -- the buffer then holds the rows
  pub copied_holds : (old d : List ℕ) (rs : List Row) → most_rows from ≤ most_rows to → Holds from old rs → Every (λ r. r.used ≡ 0) rs
      → Holds to (with_rows to d rs) rs
  unfolding with_rows
  copied_holds old d rs more h unused = record {
    rows = record { few = omega (arith, h.rows.few); each = h.rows.each; moments = dated rs unused };
    rest = drop (length (image_of to rs)) d;
    whole = refl;
  }
    where
      dated : (qs : List Row) → Every (λ r. r.used ≡ 0) qs → Every (MomentOk to) qs
      dated [] u = tt
      dated (q ∷ qs) u = (record { fits = omega (arith, u.0, zero_fits (moment_size to)) }, dated qs u.1)

-- ---- edition 1 turned into edition 2

-- what the check says of an image of edition 1
told : (old : List ℕ) (rs : List Row) → Holds edition1 old rs
    → (h : Held) × (check_of edition1 old [] ≡ contents (length rs) (length (image_of edition1 rs)) h)
told old rs h = let w = check_tells edition1 edition1_ok old [] rs h in (w.0, w.1)

-- the moments of such rows are 0
unused : (old : List ℕ) (rs : List Row) → Holds edition1 old rs → Every (λ r. r.used ≡ 0) rs
unused old rs h = ((holds1_exactly old rs).0 h).3

-- the length of the new image
longer : (rs : List Row) → new_length edition1 edition2 (length rs) (length (image_of edition1 rs)) ≡ length (image_of edition2 rs)
longer rs = new_length_lem edition1 edition2 edition1_ok edition2_ok refl refl rs

-- the definition of `with_rows`, as an equation
opened : (d : List ℕ) (rs : List Row) → with_rows edition2 d rs ≡ image_of edition2 rs ++ drop (length (image_of edition2 rs)) d
unfolding with_rows
opened d rs = refl

-- an old image that is not a sound one of edition 1
bad_image : (old d : List ℕ) → AreBytes old → ((rs : List Row) → Holds edition1 old rs → ⊥)
    → (written_of (upgrade_of old d) ≡ record { answer = 16; len = 0 }) × (after_upgrade old d ≡ d)
unfolding upgrade_of after_upgrade
bad_image old d bytes no_rows =
    let e : check_of edition1 old [] ≡ None = (check_unsound edition1 edition1_ok old [] bytes).1 no_rows in
    (ap (λ (v : ImageCheck). written_of (upgrade_by edition1 edition2 d v)) e, ap (after_by edition1 edition2 old d) e)

-- a buffer that is shorter than the new image
too_short : (old d : List ℕ) (rs : List Row) → Holds edition1 old rs → length d < length (image_of edition2 rs)
    → (written_of (upgrade_of old d) ≡ record { answer = 17; len = 0 }) × (after_upgrade old d ≡ d)
unfolding upgrade_of after_upgrade
too_short old d rs h short =
    let e = (told old rs h).1 in
    let no_room = lt-leb (new_length edition1 edition2 (length rs) (length (image_of edition1 rs))) (length d) (omega (arith, longer rs)) in (
      ap (λ (v : ImageCheck). written_of (upgrade_by edition1 edition2 d v)) e ∙ rw no_room,
      ap (after_by edition1 edition2 old d) e ∙ rw no_room,
    )

-- what is answered with 0
abbrev written : ℕ → Written
written n = record { answer = 0; len = n }

-- a buffer with room for it
upgraded : (old d : List ℕ) (rs : List Row) → Holds edition1 old rs → length (image_of edition2 rs) ≤ length d
    → (written_of (upgrade_of old d) ≡ written (length (image_of edition2 rs))) × (after_upgrade old d ≡ with_rows edition2 d rs)
unfolding upgrade_of after_upgrade
upgraded old d rs h room =
    let e = (told old rs h).1 in
    let fits = le-leb (new_length edition1 edition2 (length rs) (length (image_of edition1 rs))) (length d) (omega (arith, longer rs)) in (
      ap (λ (v : ImageCheck). written_of (upgrade_by edition1 edition2 d v)) e
          ∙ rw fits (ap written (longer rs)),
      ap (after_by edition1 edition2 old d) e
          ∙ rw fits (copied_image edition1 edition2 edition1_ok edition2_ok refl refl old d rs h (unused old rs h) room),
    )

-- `UpgradeExactly`
pub upgrade_exactly : UpgradeExactly
upgrade_exactly = record {
  bad_image = bad_image;
  too_short = too_short;
  upgraded = λ old d rs h room.
      let w = upgraded old d rs h room in (
        w.0,
        w.1 ∙ opened d rs,
        subst (λ (x : List ℕ). Holds edition2 x rs) (sym w.1)
            (copied_holds edition1 edition2 edition1_ok edition2_ok refl refl old d rs (omega arith) h (unused old rs h)),
        unused old rs h,
      );
}

-- ---- what a lookup then finds

-- a lookup of the id in s is answered what it is in d, with the same bytes
abbrev Alike : List ℕ → List ℕ → List ℕ → Type 0
Alike s d id =
    let n = numbers_of (find_of s id) in
    let m = numbers_of (find_of d id) in
    (n.answer ≡ m.answer) × (part s n.body_at n.body_len ≡ part d m.body_at m.body_len)

-- buffers in which a lookup has the same refusal are alike
same_refusal : (s d id : List ℕ) (k : ℕ) → numbers_of (find_of s id) ≡ refusal k → numbers_of (find_of d id) ≡ refusal k → Alike s d id
unfolding part
same_refusal s d id k n m = (
  ap (λ (q : StoredNumbers). q.answer) (n ∙ sym m),
  ap (λ (q : StoredNumbers). part s q.body_at q.body_len) n
      ∙ sym (ap (λ (q : StoredNumbers). part d q.body_at q.body_len) m),
)

-- buffers that hold the same rows are alike
same_rows : (s d id : List ℕ) (rs : List Row) → Readable s rs → Readable d rs → Alike s d id
same_rows s d id rs k h = test (eqb (length id) id_size) refl
  where
    go : (o : Option (List ℕ)) → body_with id rs ≡ o → length id ≡ id_size → Alike s d id
    go none f l = same_refusal s d id 7 (lookup_exactly.not_held s id rs l k f) (lookup_exactly.not_held d id rs l h f)
    go (some b) f l =
        let n = lookup_exactly.held s id rs b l k f in
        let m = lookup_exactly.held d id rs b l h f in
        (n.answer ∙ sym m.answer, n.bytes ∙ sym m.bytes)

    test : (t : Bool) → eqb (length id) id_size ≡ t → Alike s d id
    test true e = go (body_with id rs) refl (eqb-true (length id) id_size e)
    test false e =
        same_refusal s d id 15 (lookup_exactly.bad_id s id (eqb-false (length id) id_size e))
        (lookup_exactly.bad_id d id (eqb-false (length id) id_size e))

-- an upgrade with 0 had room
had_room : (old d : List ℕ) (rs : List Row) → Holds edition1 old rs → (written_of (upgrade_of old d)).answer ≡ 0
    → length (image_of edition2 rs) ≤ length d
had_room old d rs h e = test (leb (length (image_of edition2 rs)) (length d)) refl
  where
    test : (t : Bool) → leb (length (image_of edition2 rs)) (length d) ≡ t → length (image_of edition2 rs) ≤ length d
    test true f = leb-true (length (image_of edition2 rs)) (length d) f
    test false f =
        let short : length d < length (image_of edition2 rs) = leb-false (length (image_of edition2 rs)) (length d) f in
        absurd (omega (arith, e, ap (λ (w : Written). w.answer) (upgrade_exactly.too_short old d rs h short).0))

-- `UpgradeFinds`
pub upgrade_finds : UpgradeFinds
upgrade_finds old d rs id h e =
    same_rows (after_upgrade old d) old id rs
    ((holds_named (after_upgrade old d) rs).1 (inr (upgrade_exactly.upgraded old d rs h (had_room old d rs h e)).2))
    ((holds_named old rs).1 (inl h))
