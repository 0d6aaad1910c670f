-- Laws of rows and of images (specs/Image.antt): their lengths, the fields of a row, and one body more. Assumes nothing.
use mathlib.Core.Path.{◌≡◌, refl, sym, ap, ◌∙◌, subst}
use mathlib.Core.List.{List, [], ◌∷◌, ◌++◌, append_assoc, append-nil}
use Prim.Native.Nat.{ℕ, zero, suc, ◌+◌, ◌^◌, ◌≤◌, ◌<◌}
use native.Mathlib.Omega.{arith}
use native.Mathlib.Nat.{add-zero}
use native.Mathlib.Numerals.{add-one}
use native.Mathlib.Nat.{pow-suc}
use lib.ListN.{length, length-append}
use lib.Dec.{lit<}
use Rattle.octets.specs.Bytes.{AreBytes, part, Has}
use Rattle.octets.specs.Number.{big_endian, number_at}
use Rattle.octets.proofs.BytesLaws.{part_has, has_left, has_part, has_fits, has_after, has_both}
use Rattle.octets.proofs.NumberLaws.{length_big_endian, number_of_has, has_of_number}
use Rattle.descriptor_spec.specs.declared.Fields.{Fields}
use Rattle.descriptor_spec.specs.Reading.{Reading}
use Rattle.std.specs.Prelude.{Ok, Err}
use Rattle.descriptor_spec.specs.declared.ReadError.TheVariants.{Structure, Validity}
use Rattle.image_spec.specs.declared.layout.Layout.{Layout}
use Rattle.descriptor_spec.specs.Allowed.{id_size}
use Rattle.image_spec.specs.Layout.{mode_edition, header_size, header_width, edition_place, modes_place, count_place, header_zero}
use Rattle.image_spec.specs.Layout.{body_width, mask_width, offset_place, length_place, mask_place, zero_place, row_size, zero_size}
use Rattle.image_spec.specs.Layout.{moment_place, moment_size}
use Rattle.image_spec.specs.Layout.{row_place, LayoutOk}
use Rattle.image_spec.specs.Image.{Row, reading, id_in, mask_in, id_of, modes_of, header, row, rows_of, joined, image_of, MomentOk}
use Rattle.image_spec.specs.Check.{row_id, row_offset, row_length, row_moment}
use Rattle.image_spec.proofs.RowPlaceLaws.{place_first, place_next}
use Rattle.image_spec.proofs.BodyLaws.{read_in}

-- ---- what reading says of a body

-- the id of a body that reads is the part that was read
pub id_read : (b : List ℕ) (f : Fields) → reading b ≡ Ok f → id_of b ≡ part b f.id id_size
unfolding id_of
id_read b f e = ap (id_in b) e

-- the modes of a body that reads are the mask that was read
pub modes_read : (b : List ℕ) (f : Fields) → reading b ≡ Ok f → modes_of b ≡ f.mask
unfolding modes_of
modes_read b f e = ap mask_in e

-- the id of a body has 16 bytes, whatever reading says
pub id_length : (b : List ℕ) → length (id_of b) ≡ id_size
unfolding id_of
id_length b = go (reading b) refl
  where
    go : (r : Reading) → reading b ≡ r → length (id_in b r) ≡ id_size
    go (Ok f) e = (part_has b f.id id_size (read_in b f e).id).1
    go (Err Structure) e = refl
    go (Err Validity) e = refl

-- the mask of a body is below 16, whatever reading says
pub modes_small : (b : List ℕ) → modes_of b < 16
unfolding modes_of
modes_small b = go (reading b) refl
  where
    go : (r : Reading) → reading b ≡ r → mask_in r < 16
    go (Ok f) e = (read_in b f e).mask
    go (Err Structure) e = omega arith
    go (Err Validity) e = omega arith

-- the bodies and one more are joined by the body's bytes
pub joined_snoc : (bs : List Row) (b : Row) → joined (bs ++ (b ∷ [])) ≡ joined bs ++ b.body
unfolding joined
joined_snoc [] b = append-nil b.body
joined_snoc (x ∷ bs) b = ap (λ (m : List ℕ). x.body ++ m) (joined_snoc bs b) ∙ sym (append_assoc x.body (joined bs) b.body)

-- the header has its bytes
pub header_length : (l : Layout) (n : ℕ) → length (header l n) ≡ header_size
unfolding header
header_length l n = simp (length-append, length_big_endian)

-- zero fits any bytes
pub zero_fits : (w : ℕ) → 0 < 256 ^ w
zero_fits zero = lit< tt
zero_fits (suc w) = rw pow-suc (omega (arith, zero_fits w))

module _ (l : Layout) (ok : LayoutOk l) where
  -- ---- lengths

  -- a row has its bytes
  pub row_length_lem : (at : ℕ) (b : Row) → length (row l at b) ≡ row_size l
  unfolding row
  row_length_lem at b =
      simp (length-append, id_length, length_big_endian) (omega arith)

  -- the rows end where the bodies begin
  pub rows_end : (at : ℕ) (bs : List Row) → row_place l 0 + length (rows_of l at bs) ≡ row_place l (length bs)
  unfolding rows_of
  rows_end at [] = omega arith
  rows_end at (b ∷ bs) =
      omega (
        arith,
        length-append (row l at b) (rows_of l (at + length b.body) bs),
        row_length_lem at b,
        rows_end (at + length b.body) bs,
        place_next l (length bs),
        ap (row_place l) (add-one (length bs)),
      )

  -- an image ends where its last body ends
  pub image_length : (bs : List Row) → length (image_of l bs) ≡ row_place l (length bs) + length (joined bs)
  unfolding image_of
  image_length bs =
      let n : ℕ = length bs in
      omega (
        arith,
        length-append (header l n) (rows_of l (row_place l n) bs ++ joined bs),
        length-append (rows_of l (row_place l n) bs) (joined bs),
        header_length l n,
        rows_end (row_place l n) bs,
        place_first l,
      )

  -- ---- the numbers of the header

  -- the four numbers of a header stand one after the other
  pub record HeaderParts (s : List ℕ) (n : ℕ) : Type 0 where
    pub edition : Has s edition_place (big_endian header_width l.edition)
    pub modes : Has s modes_place (big_endian header_width mode_edition)
    pub count : Has s count_place (big_endian header_width n)
    pub zeros : Has s header_zero (big_endian header_width 0)

  -- they do so where the header stands, and it lies in the bytes
  pub header_parts : (s : List ℕ) (n : ℕ) → Has s 0 (header l n) → (header_size ≤ length s) × HeaderParts s n
  unfolding header
  header_parts s n h =
      let a : List ℕ = big_endian header_width l.edition in
      let b : List ℕ = big_endian header_width mode_edition in
      let c : List ℕ = big_endian header_width n in
      let z : List ℕ = big_endian header_width 0 in
      let w : (m : ℕ) → length (big_endian header_width m) ≡ header_width = length_big_endian header_width in
      let h₁ : Has s modes_place (b ++ (c ++ z)) = has_after s 0 header_width modes_place a (b ++ (c ++ z)) (w l.edition) refl h in
      let h₂ : Has s count_place (c ++ z) = has_after s modes_place header_width count_place b (c ++ z) (w mode_edition) refl h₁ in
      let h₃ : Has s header_zero z = has_after s count_place header_width header_zero c z (w n) refl h₂ in (
        omega (arith, has_fits s header_zero z (omega (arith, w 0)) h₃, w 0),
        record {
          edition = has_left s 0 a (b ++ (c ++ z)) h;
          modes = has_left s modes_place b
              (c ++ z) h₁;
          count = has_left s count_place c z h₂;
          zeros = h₃;
        },
      )

  -- where they do so the header stands
  pub parts_header : (s : List ℕ) (n : ℕ) → HeaderParts s n → Has s 0 (header l n)
  unfolding header
  parts_header s n p =
      let w : (m : ℕ) → length (big_endian header_width m) ≡ header_width = length_big_endian header_width in
      has_both s 0 header_width modes_place (big_endian header_width l.edition) _ (w l.edition) refl p.edition
      (has_both s modes_place header_width count_place (big_endian header_width mode_edition) _ (w mode_edition) refl p.modes
      (has_both s count_place header_width header_zero (big_endian header_width n) _ (w n) refl p.count p.zeros))

  -- ---- one body more

  -- the rows of the bodies and one more are their rows and its row
  pub rows_snoc : (at : ℕ) (bs : List Row) (b : Row) → rows_of l at (bs ++ (b ∷ [])) ≡ rows_of l at bs ++ row l (at + length (joined bs)) b
  unfolding rows_of joined
  rows_snoc at [] b = append-nil (row l at b) ∙ ap (λ (n : ℕ). row l n b) (sym (add-zero at))
  rows_snoc at (x ∷ bs) b =
      let e : (at + length x.body) + length (joined bs) ≡ at + length (x.body ++ joined bs)
      = omega (arith, length-append x.body (joined bs)) in
      ap (λ (m : List ℕ). row l at x ++ m)
      (rows_snoc (at + length x.body) bs b ∙ ap (λ (n : ℕ). rows_of l (at + length x.body) bs ++ row l n b) e)
      ∙ sym (append_assoc (row l at x) (rows_of l (at + length x.body) bs) (row l (at + length (x.body ++ joined bs)) b))

  -- ---- the fields of a row

  -- the six fields of a row stand at r one after the other
  pub record RowParts (s : List ℕ) (r at : ℕ) (b : Row) : Type 0 where
    pub id : Has s r (id_of b.body)
    pub offset : Has s (r + offset_place) (big_endian body_width at)
    pub size : Has s (r + length_place) (big_endian body_width (length b.body))
    pub mask : Has s (r + mask_place) (big_endian mask_width (modes_of b.body))
    pub zeros : Has s (r + zero_place) (big_endian (zero_size l) 0)
    pub moment : Has s (r + moment_place l) (big_endian (moment_size l) b.used)

  -- the six fields of a row stand one after the other
  pub row_parts : (s : List ℕ) (r at : ℕ) (b : Row) → Has s r (row l at b) → RowParts s r at b
  unfolding row
  row_parts s r at b h =
      let t : List ℕ = big_endian (moment_size l) b.used in
      let z : List ℕ = big_endian (zero_size l) 0 ++ t in
      let m : List ℕ = big_endian mask_width (modes_of b.body) in
      let n : List ℕ = big_endian body_width (length b.body) in
      let o : List ℕ = big_endian body_width at in
      let h₁ : Has s (r + offset_place) (o ++ (n ++ (m ++ z)))
      = has_after s r id_size (r + offset_place) (id_of b.body) _ (id_length b.body) refl h in
      let h₂ : Has s (r + length_place) (n ++ (m ++ z))
      = has_after s (r + offset_place) body_width (r + length_place) o _ (length_big_endian body_width at) (omega arith) h₁ in
      let h₃ : Has s (r + mask_place) (m ++ z)
      = has_after s (r + length_place) body_width (r + mask_place) n _ (length_big_endian body_width (length b.body)) (omega arith) h₂ in
      let h₄ : Has s (r + zero_place) z
      = has_after s (r + mask_place) mask_width (r + zero_place) m z (length_big_endian mask_width (modes_of b.body)) (omega arith) h₃ in
      record {
        id = has_left s r (id_of b.body) _ h;
        offset = has_left s (r + offset_place) o _ h₁;
        size = has_left s (r + length_place) n _ h₂;
        mask = has_left s (r + mask_place) m z h₃;
        zeros = has_left s (r + zero_place) (big_endian (zero_size l) 0) t h₄;
        moment = has_after s (r + zero_place) (zero_size l) (r + moment_place l) (big_endian (zero_size l) 0) t (length_big_endian (zero_size l) 0)
            (omega arith) h₄;
      }

  -- where they stand one after the other the row stands
  pub parts_row : (s : List ℕ) (r at : ℕ) (b : Row) → RowParts s r at b → Has s r (row l at b)
  unfolding row
  parts_row s r at b p =
      has_both s r id_size (r + offset_place) (id_of b.body) _ (id_length b.body) refl p.id
      (has_both s (r + offset_place) body_width (r + length_place) (big_endian body_width at) _ (length_big_endian body_width at) (omega arith)
      p.offset
      (has_both s (r + length_place) body_width (r + mask_place) (big_endian body_width (length b.body)) _
      (length_big_endian body_width (length b.body)) (omega arith) p.size
      (has_both s (r + mask_place) mask_width (r + zero_place) (big_endian mask_width (modes_of b.body)) _
      (length_big_endian mask_width (modes_of b.body)) (omega arith) p.mask
      (has_both s (r + zero_place) (zero_size l) (r + moment_place l) (big_endian (zero_size l) 0) _ (length_big_endian (zero_size l) 0)
      (omega arith) p.zeros p.moment))))

  -- what the numbers of the row at r say
  pub record RowSays (s : List ℕ) (r at : ℕ) (b : Row) : Type 0 where
    pub inside : r + row_size l ≤ length s
    pub id : row_id s r ≡ id_of b.body
    pub offset : row_offset s r ≡ at
    pub size : row_length s r ≡ length b.body
    pub mask : number_at s (r + mask_place) mask_width ≡ modes_of b.body
    pub zeros : number_at s (r + zero_place) (zero_size l) ≡ 0
    pub moment : row_moment l s r ≡ b.used

  -- the row of a body that lies below 2 ^ 32 and is shorter than that says where it lies, how long it is, and when it was last used
  pub row_says : (s : List ℕ) (r at : ℕ) (b : Row) → at < 4294967296 → length b.body < 4294967296 → MomentOk l b → Has s r (row l at b)
      → RowSays s r at b
  row_says s r at b small short dated h =
      let p : RowParts s r at b = row_parts s r at b h in
      let m : length (row l at b) ≡ row_size l = row_length_lem at b in
      let i : r + row_size l ≤ length s = omega (arith, has_fits s r (row l at b) (omega arith) h) in
      record {
        inside = i;
        id = ap (part s r) (sym (id_length b.body)) ∙ has_part s r (id_of b.body) p.id;
        offset = number_of_has s (r + offset_place) body_width at small (omega arith) p.offset;
        size = number_of_has s (r + length_place) body_width (length b.body) short (omega arith) p.size;
        mask = number_of_has s (r + mask_place) mask_width (modes_of b.body) (omega (arith, modes_small b.body)) (omega arith) p.mask;
        zeros = number_of_has s (r + zero_place) (zero_size l) 0 (zero_fits (zero_size l)) (omega arith) p.zeros;
        moment = number_of_has s (r + moment_place l) (moment_size l) b.used dated.fits (omega arith) p.moment;
      }

  -- bytes of which the numbers say so are the row of the body
  pub says_row : (s : List ℕ) (r at : ℕ) (b : Row) → AreBytes s → RowSays s r at b → Has s r (row l at b)
  says_row s r at b bytes q =
      let i : r + row_size l ≤ length s = q.inside in
      parts_row s r at b (record {
        id = subst (Has s r) q.id (part_has s r id_size (omega arith)).0;
        offset = subst (λ (n : ℕ). Has s (r + offset_place) (big_endian body_width n)) q.offset
            (has_of_number s (r + offset_place) body_width bytes (omega arith));
        size = subst (λ (n : ℕ). Has s (r + length_place) (big_endian body_width n)) q.size
            (has_of_number s (r + length_place) body_width bytes (omega arith));
        mask = subst (λ (n : ℕ). Has s (r + mask_place) (big_endian mask_width n)) q.mask
            (has_of_number s (r + mask_place) mask_width bytes (omega arith));
        zeros = subst (λ (n : ℕ). Has s (r + zero_place) (big_endian (zero_size l) n)) q.zeros
            (has_of_number s (r + zero_place) (zero_size l) bytes (omega arith));
        moment = subst (λ (n : ℕ). Has s (r + moment_place l) (big_endian (moment_size l) n)) q.moment
            (has_of_number s (r + moment_place l) (moment_size l) bytes (omega arith));
      })
