-- The check of a whole image says that s begins with the image of bodies that are allowed, both ways (specs/Check.antt). Assumes nothing.
use Rattle.std.specs.Prelude.{None}
use mathlib.Core.Path.{◌≡◌, refl, sym, ap, ◌∙◌, subst}
use mathlib.Core.Bool.{Bool, true, ◌&&◌}
use mathlib.Core.List.{List, [], ◌++◌}
use Prim.Native.Nat.{ℕ, ◌+◌, ◌≤◌, ◌<◌}
use native.Mathlib.Omega.{arith}
use lib.ListN.{length, drop}
use lib.Dec.{leb, eqb}
use borrow.Author.Tests.{leb-true, eqb-true, eq-eqb, le-leb}
use Rattle.octets.specs.Bytes.{AreBytes, Has}
use Rattle.octets.specs.Number.{big_endian, number_at}
use Rattle.exact.specs.Reads.{got, guard}
use Rattle.octets.proofs.Tests.{and_left, and_right}
use Rattle.octets.proofs.BytesLaws.{has_left, has_fits, has_after, has_both, front_has}
use Rattle.octets.proofs.NumberLaws.{number_of_has, has_of_number}
use Rattle.octets.proofs.OverLaws.{has_front}
use Rattle.image_spec.specs.Check.{Held, row_count, header_fits, rows_from, checked, rows_held_from, rows_held}
use Rattle.image_spec.specs.declared.layout.Layout.{Layout}
use Rattle.image_spec.specs.Layout.{mode_edition, header_size, header_width, edition_place, modes_place, count_place, header_zero, most_rows}
use Rattle.image_spec.specs.Layout.{row_place, LayoutOk}
use Rattle.image_spec.specs.Image.{Row, header, rows_of, joined, image_of, RowsOk, Holds}
use Rattle.image_spec.proofs.RowOkLaws.{guard_got}
use Rattle.image_spec.proofs.RowLaws.{header_length, rows_end, image_length, header_parts, parts_header}
use Rattle.image_spec.proofs.RowPlaceLaws.{place_first, place_after_lem, place_small}
use Rattle.image_spec.proofs.HeldLaws.{held_from, held_in}
use Rattle.image_spec.proofs.CheckLaws.{past_none}
use Rattle.image_spec.proofs.RunLaws.{Run, rows_sound, rows_complete, rows_bodies}

module _ (l : Layout) (ok : LayoutOk l) where
  -- ---- the header

  -- what the numbers of the header say
  pub record HeaderSays (s : List ℕ) (n : ℕ) : Type 0 where
    pub inside : header_size ≤ length s
    pub edition : number_at s edition_place header_width ≡ l.edition
    pub modes : number_at s modes_place header_width ≡ mode_edition
    pub count : number_at s count_place header_width ≡ n
    pub zeros : number_at s header_zero header_width ≡ 0

  -- the header of fewer than 65536 rows says how many
  pub header_says : (s : List ℕ) (n : ℕ) → n < 65536 → Has s 0 (header l n) → HeaderSays s n
  header_says s n small h =
      let w = header_parts l ok s n h in
      let inside : header_size ≤ length s = w.0 in
      record {
        inside = inside;
        edition = number_of_has s edition_place header_width l.edition ok.numbered (omega arith) w.1.edition;
        modes = number_of_has s modes_place header_width mode_edition (omega arith) (omega arith) w.1.modes;
        count = number_of_has s count_place header_width n small (omega arith) w.1.count;
        zeros = number_of_has s header_zero header_width 0 (omega arith) (omega arith) w.1.zeros;
      }

  -- bytes of which the numbers say so are the header
  pub says_header : (s : List ℕ) (n : ℕ) → AreBytes s → HeaderSays s n → Has s 0 (header l n)
  says_header s n bytes q =
      let inside : header_size ≤ length s = q.inside in
      let number : (at m : ℕ) → at + header_width ≤ length s → number_at s at header_width ≡ m → Has s at (big_endian header_width m)
      = λ at m i e.
      subst (λ (k : ℕ). Has s at (big_endian header_width k)) e (has_of_number s at header_width bytes i) in
      parts_header l ok s n (record {
        edition = number edition_place l.edition (omega arith) q.edition;
        modes = number modes_place mode_edition (omega arith) q.modes;
        count = number count_place n (omega arith) q.count;
        zeros = number header_zero 0 (omega arith) q.zeros;
      })

  -- the test of the header holds where its numbers say so
  pub says_fits : (s : List ℕ) (n : ℕ) → n ≤ most_rows l → HeaderSays s n → header_fits l s ≡ true
  unfolding header_fits row_count
  says_fits s n few q =
      rw (
        eq-eqb (number_at s edition_place header_width) l.edition q.edition,
        eq-eqb (number_at s modes_place header_width) mode_edition q.modes,
        le-leb (number_at s count_place header_width) (most_rows l) (omega (arith, q.count)),
        eq-eqb (number_at s header_zero header_width) 0 q.zeros,
      )

  -- the numbers say so where the test of the header holds
  pub fits_says : (s : List ℕ) → header_size ≤ length s → header_fits l s ≡ true → HeaderSays s (row_count s) × (row_count s ≤ most_rows l)
  unfolding header_fits row_count
  fits_says s m e =
      let a : Bool = eqb (number_at s edition_place header_width) l.edition in
      let b : Bool = eqb (number_at s modes_place header_width) mode_edition in
      let c : Bool = leb (number_at s count_place header_width) (most_rows l) in
      let d : Bool = eqb (number_at s header_zero header_width) 0 in
      let e₁ = and_right a (b && (c && d)) e in
      let e₂ = and_right b (c && d) e₁ in (
        record {
          inside = m;
          edition = eqb-true (number_at s edition_place header_width) l.edition (and_left a (b && (c && d)) e);
          modes = eqb-true (number_at s modes_place header_width) mode_edition (and_left b (c && d) e₁);
          count = refl;
          zeros = eqb-true (number_at s header_zero header_width) 0 (and_right c d e₂);
        },
        leb-true (number_at s count_place header_width) (most_rows l) (and_left c d e₂),
      )

  -- ---- the whole image

  -- an image that s begins with stands at its beginning
  pub holds_has : (s : List ℕ) (bs : List Row) → Holds l s bs → Has s 0 (image_of l bs)
  holds_has s bs h = front_has s (image_of l bs) h.rest h.whole

  -- the image of allowed bodies that stands at the beginning is what s begins with
  pub has_holds : (s : List ℕ) (bs : List Row) → RowsOk l bs → Has s 0 (image_of l bs) → Holds l s bs
  has_holds s bs o h = record { rows = o; rest = drop (length (image_of l bs)) s; whole = has_front s (image_of l bs) h }

  -- the header, the rows and the bodies of an image stand one after the other
  pub record ImageParts (s : List ℕ) (bs : List Row) : Type 0 where
    pub has_header : Has s 0 (header l (length bs))
    pub has_rows : Has s (row_place l 0) (rows_of l (row_place l (length bs)) bs)
    pub has_bodies : Has s (row_place l (length bs)) (joined bs)

  -- they do so in a buffer that holds the bodies
  pub image_stands : (s : List ℕ) (bs : List Row) → Holds l s bs → ImageParts s bs
  unfolding image_of
  image_stands s bs h =
      let n : ℕ = length bs in
      let rows : List ℕ = rows_of l (row_place l n) bs in
      let w : Has s 0 (header l n ++ (rows ++ joined bs)) = holds_has s bs h in
      let r : Has s (row_place l 0) (rows ++ joined bs)
      = has_after s 0 header_size (row_place l 0) (header l n) (rows ++ joined bs) (header_length l n) (sym (place_first l)) w in
      record {
        has_header = has_left s 0 (header l n) (rows ++ joined bs) w;
        has_rows = has_left s (row_place l 0) rows (joined bs) r;
        has_bodies = has_after s (row_place l 0) (length rows) (row_place l n) rows (joined bs) refl (rows_end l ok (row_place l n) bs) r;
      }

  -- where the header, the rows and the bodies of an image stand one after the other, it stands
  pub run_whole : (s : List ℕ) (bs : List Row) → ImageParts s bs → Has s 0 (image_of l bs)
  unfolding image_of
  run_whole s bs w =
      let n : ℕ = length bs in
      let rows : List ℕ = rows_of l (row_place l n) bs in
      has_both s 0 header_size (row_place l 0) (header l n) (rows ++ joined bs) (header_length l n) (sym (place_first l)) w.has_header
      (has_both s (row_place l 0) (length rows) (row_place l n) rows (joined bs) refl (rows_end l ok (row_place l n) bs) w.has_rows
      w.has_bodies)

  -- the rows and the bodies of an image that s begins with stand
  pub holds_run : (s : List ℕ) (bs : List Row) → Holds l s bs → Run l ok s [] 0 (row_place l (length bs)) bs
  holds_run s bs h = let w = image_stands s bs h in record { each = h.rows.each; moments = h.rows.moments; has_rows = w.has_rows; has_bodies = w.has_bodies }

  -- an image that s begins with lies within s
  pub holds_room : (s : List ℕ) (bs : List Row) → Holds l s bs → length (image_of l bs) ≤ length s
  holds_room s bs h = omega
      (arith, has_fits s 0 (image_of l bs) (omega (arith, image_length l ok bs, place_after_lem l (length bs))) (holds_has s bs h))

  -- its header says how many bodies it has
  pub holds_says : (s : List ℕ) (bs : List Row) → Holds l s bs → HeaderSays s (length bs)
  holds_says s bs h = header_says s (length bs) (omega (arith, h.rows.few, ok.few)) (image_stands s bs h).has_header

  -- the row count is the number of bodies
  pub count_of : (s : List ℕ) (bs : List Row) → Holds l s bs → row_count s ≡ length bs
  unfolding row_count
  count_of s bs h = (holds_says s bs h).count

  -- ---- the check

  -- an image that s begins with passes the check; what is held is what is held of its bodies
  pub check_complete : (s id : List ℕ) (bs : List Row) → Holds l s bs → checked l s id ≡ got (held_in l id bs) (length (image_of l bs))
  unfolding checked guard held_in
  check_complete s id bs h =
      let n : ℕ = length bs in
      let few : n ≤ most_rows l = h.rows.few in
      let q : HeaderSays s n = holds_says s bs h in
      let room : row_place l n ≤ length s = omega (arith, holds_room s bs h, image_length l ok bs) in
      rw (count_of s bs h, le-leb header_size (length s) q.inside, says_fits s n few q, le-leb (row_place l n) (length s) room)
      (rows_complete l ok s id bs [] 0 (row_place l n) None (place_small l ok n few) (past_none l ok s) (holds_run s bs h) ∙ ap
      (got (held_from id 0 (row_place l n) None bs)) (sym (image_length l ok bs)))

  -- what a check that passes says before the rows
  pub record Checked (s id : List ℕ) (h : Held) (end : ℕ) : Type 0 where
    pub inside : header_size ≤ length s
    pub header : header_fits l s ≡ true
    pub room : row_place l (row_count s) ≤ length s
    pub rows : got h end ≡ rows_from l s id (row_count s) 0 (row_place l (row_count s)) None

  -- a check that answers passes
  pub check_is : (s id : List ℕ) (h : Held) (end : ℕ) → got h end ≡ checked l s id → Checked s id h end
  unfolding checked
  check_is s id h end e =
      let a = guard_got (leb header_size (length s)) _ h end e in
      let b = guard_got (header_fits l s) _ h end a.1 in
      let c = guard_got (leb (row_place l (row_count s)) (length s)) _ h end b.1 in
      record {
        inside = leb-true header_size (length s) a.0;
        header = b.0;
        room = leb-true (row_place l (row_count s)) (length s) c.0;
        rows = c.1;
      }

  -- bytes that pass the check begin with the image of allowed bodies, and it ends where the check says
  pub check_sound : (s id : List ℕ) → AreBytes s → (h : Held) (end : ℕ) → got h end ≡ checked l s id
      → (bs : List Row) × (Holds l) s bs × (end ≡ length (image_of l bs))
  check_sound s id bytes h end e =
      let n : ℕ = row_count s in
      let k : Checked s id h end = check_is s id h end e in
      let q = fits_says s k.inside k.header in
      let y = rows_sound l ok s id bytes n [] 0 (row_place l n) end None h (past_none l ok s) n (omega arith) k.room k.rows in
      let bs : List Row = y.0 in
      let c : length bs ≡ n = y.1 in
      let g : Run l ok s [] 0 (row_place l (length bs)) bs = subst (λ (m : ℕ). Run l ok s [] 0 (row_place l m) bs) (sym c) y.2 in
      let w : ImageParts s bs = record {
        has_header = subst (λ (m : ℕ). Has s 0 (header l m)) (sym c) (says_header s n bytes q.0);
        has_rows = g.has_rows;
        has_bodies = g.has_bodies;
      } in (
        bs,
        has_holds s bs (record { few = omega (arith, c, q.1); each = g.each; moments = g.moments }) (run_whole s bs w),
        omega (arith, y.3, ap (row_place l) c, image_length l ok bs),
      )

  -- ---- the bodies that the rows name

  -- they are the bodies of the image that s begins with
  pub holds_bodies : (s : List ℕ) (bs : List Row) → Holds l s bs → rows_held l s ≡ bs
  unfolding rows_held
  holds_bodies s bs h =
      let few : length bs ≤ most_rows l = h.rows.few in
      ap (λ (n : ℕ). rows_held_from l s n 0) (count_of s bs h) ∙ rows_bodies l ok s bs [] 0 (row_place l (length bs))
      (place_small l ok (length bs) few) (holds_run s bs h)
