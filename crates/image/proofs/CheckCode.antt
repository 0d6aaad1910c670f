-- Laws that the proofs of the code apply: what the numbers and parts that the code reads say of the definitions of specs/Check.antt of
-- `image_spec`. Assumes nothing.
use mathlib.Core.Path.{◌≡◌, refl, sym, ap, ap₂, ◌∙◌}
use mathlib.Core.Bool.{Bool, true, false, false≢true, not, ◌&&◌, and_assoc}
use mathlib.Core.List.{List}
use Prim.Native.Nat.{ℕ, zero, suc, ◌+◌, ◌-◌, ◌*◌, ◌≤◌, ◌<◌}
use native.Mathlib.Omega.{arith}
use native.Mathlib.Numerals.{add-one}
use lib.ListN.{length, take, drop, get_or}
use lib.Dec.{leb, eqb}
use borrow.Author.Tests.{not-true, not-false, leb-true, eq-eqb, ne_eqb}
use Rattle.octets.specs.Bytes.{part, same}
use Rattle.octets.specs.Number.{number_at, number_in}
use Rattle.exact.specs.Reads.{Got, got, refused, guard}
use Rattle.octets.proofs.Tests.{and_left, and_right}
use Rattle.octets.proofs.BytesLaws.{T_of_not, not_T_of, part_has}
use Rattle.exact.proofs.ReadsLaws.{guard_leb, passed, failed, passed_leb, failed_leb}
use Rattle.octets.proofs.NumberLaws.{number_in_lem}
use Rattle.octets.proofs.PartLaws.{lent_part}
use Rattle.descriptor_spec.specs.declared.Fields.{Fields}
use Rattle.descriptor_spec.specs.Reading.{Reading}
use Rattle.std.specs.Prelude.{Ok, Err}
use Rattle.descriptor_spec.specs.declared.ReadError.TheVariants.{Structure, Validity}
use Rattle.descriptor_spec.specs.Reader.{read_of}
use Rattle.descriptor_spec.specs.Code.{reading_of}
use Rattle.image_spec.specs.Check.{Held}
use Rattle.std.specs.Prelude.{Option, Some, None}
use Rattle.image_spec.specs.Check.{ImageCheck}
use Rattle.image_spec.specs.declared.Contents.{Contents}
use Rattle.image_spec.specs.declared.StoredBody.{StoredBody}
use Rattle.image_spec.specs.declared.FindError.{FindError}
use Rattle.image_spec.specs.declared.FindError.TheVariants.{Malformed, BadImage, NotFound}
use Rattle.std.specs.Prelude.{Result}
use Rattle.std.specs.Option.{ok_or}
use Rattle.image_spec.specs.declared.layout.Layout.{Layout}
use Rattle.descriptor_spec.specs.Allowed.{id_size}
use Rattle.image_spec.specs.Layout.{mode_edition, header_size, header_width, edition_place, modes_place, count_place, header_zero}
use Rattle.image_spec.specs.Layout.{body_width, mask_width, offset_place, length_place, mask_place, zero_place, row_size, most_rows, zero_size}
use Rattle.image_spec.specs.Layout.{row_place, edition1, edition2, LayoutOk}
use Rattle.image_spec.specs.Image.{reading}
use Rattle.image_spec.specs.Check.{row_count, row_id, row_length, header_fits, id_among, row_fits, on_read, row_at, held_with, rows_from, checked}
use Rattle.image_spec.specs.Check.{layout_of, check_answer, check_of, held_at, found_in, find_of}
use Rattle.std.specs.Result.{result_ok}
use Rattle.std.specs.List.{list_all}
use Rattle.std.proofs.lemmas.List.{get_or-drop}
use Rattle.std.proofs.lemmas.List.Folds.{list_all_more}
use lib.ListN.{length-drop}
use Rattle.image_spec.proofs.Laws.{row_next, read_in}
use Rattle.image.proofs.RowsCode.{rows_next, id_is}

-- ---- the layout that a header names

-- the header names edition 2
pub names_2 : (s : List ℕ) (n : ℕ) → n ≡ number_in s edition_place header_width → n ≡ 2 → edition2 ≡ layout_of s
unfolding layout_of
names_2 s n e f = rw (eq-eqb (number_in s edition_place header_width) 2 (sym e ∙ f))

-- it does not
pub names_1 : (s : List ℕ) (n : ℕ) → n ≡ number_in s edition_place header_width → (n ≡ 2 → ⊥) → edition1 ≡ layout_of s
unfolding layout_of
names_1 s n e f = rw (ne_eqb (number_in s edition_place header_width) 2 (λ g. f (e ∙ g)))

-- ---- bytes that are zero

-- a number and one byte more are zero where both are
zero_both : (a b : ℕ) → (eqb a 0 && eqb b 0) ≡ eqb (a * 256 + b) 0
zero_both zero b = ap (λ (n : ℕ). eqb n 0) (omega arith)
zero_both (suc a) b =
    ap (λ (t : Bool). t && eqb b 0) (ne_eqb (suc a) 0 (λ e. omega arith)) ∙ sym (ne_eqb (suc a * 256 + b) 0 (λ e. omega arith))

-- a number is zero where all its bytes are
zero_is : (s : List ℕ) (at n : ℕ) → at + n ≤ length s → list_all (λ b. eqb b 0) (take n (drop at s)) ≡ eqb (number_at s at n) 0
unfolding number_at
zero_is s at zero h = refl
zero_is s at (suc n) h =
    let k : n < length (drop at s) = omega (arith, length-drop at s) in
    ap (λ (m : ℕ). list_all (λ b. eqb b 0) (take m (drop at s))) (sym (add-one n))
    ∙ list_all_more (λ b. eqb b 0) (drop at s) n 0 k
    ∙ ap₂ (λ (x : Bool) (y : ℕ). x && eqb y 0) (zero_is s at n (omega arith)) (get_or-drop at s n 0)
    ∙ zero_both (number_at s at n) (get_or s (at + n) 0)

-- the bytes that the code looks at are those of the number
pub zeros_are : (s : List ℕ) (at n : ℕ) → at + n ≤ length s
    → list_all (λ b. eqb b 0) (take (at + n - at) (drop at s)) ≡ eqb (number_at s at n) 0
zeros_are s at n h =
    let k : at + n - at ≡ n = omega arith in
    ap (λ (m : ℕ). list_all (λ b. eqb b 0) (take m (drop at s))) k ∙ zero_is s at n h

-- ---- what the code reads

-- four tests in either grouping
and_four : (a b c d : Bool) → (((a && b) && c) && d) ≡ (a && (b && (c && d)))
and_four a b c d = and_assoc (a && b) c d ∙ and_assoc a b (c && d)

-- the two ids that the code compares are those of the row and of the body
ids_are : (s : List ℕ) (r id : ℕ) (b : Bool) → b ≡ same (take (r + id_size - r) (drop r s)) (take (id + id_size - id) (drop id s))
    → b ≡ same (part s r id_size) (part s id id_size)
ids_are s r id b e = e ∙ ap₂ same (lent_part s r id_size) (lent_part s id id_size)

-- what the code reads is the reading of the body
reading_is : (s : List ℕ) (at n : ℕ) (o : Reading) → o ≡ reading_of (read_of (take (at + n - at) (drop at s))) → o ≡ reading (part s at n)
unfolding reading
reading_is s at n o e = e ∙ ap (λ (b : List ℕ). reading_of (read_of b)) (lent_part s at n)

-- the id of a body that was read lies in it
pub id_room : (s : List ℕ) (at n : ℕ) (o : Reading) (f : Fields) → at ≤ length s → n ≤ length s - at
    → o ≡ reading_of (read_of (take (at + n - at) (drop at s))) → o ≡ Ok f → at + (f.id + id_size) ≤ length s
id_room s at n o f m g k e =
    omega (arith, (read_in (part s at n) f (sym (reading_is s at n o k) ∙ e)).id, (part_has s at n (omega arith)).1)

-- the row count is the number that the code reads
count_is : (s : List ℕ) (n : ℕ) → header_size ≤ length s → n ≡ number_in s count_place header_width → n ≡ row_count s
unfolding row_count
count_is s n h e = e ∙ number_in_lem s count_place header_width (omega arith) (omega arith)

-- ---- what reading answers

-- nothing was read
abbrev is_none : {A : Type 0} → Option A → Bool
is_none (Some x) = false
is_none None = true

-- equal contents that were told are equal
contents_is : (x w : Contents) → ◌≡◌ {A = Result Contents FindError} (Ok x) (Ok w) → x ≡ w
contents_is x w e = cc

-- and equal bodies that are held
body_is : (x b : StoredBody) → ◌≡◌ {A = Result StoredBody FindError} (Ok x) (Ok b) → x ≡ b
body_is x b e = cc

-- equal fields that were read are equal
some_is : (f g : Fields) → ◌≡◌ {A = Option Fields} (Some f) (Some g) → f ≡ g
some_is f g e = cc

-- what was read
ok_is : (o : Reading) (f : Fields) → result_ok o ≡ Some f → o ≡ Ok f
ok_is (Ok g) f e = ap Ok (some_is g f e)
ok_is (Err Structure) f e = absurd (false≢true (sym (ap is_none e)))
ok_is (Err Validity) f e = absurd (false≢true (sym (ap is_none e)))

module _ (l : Layout) where
  -- ---- the header

  -- the four tests of the code are those of the header
  pub header_is : (s : List ℕ) (a b c d : ℕ) → header_size ≤ length s → a ≡ number_in s edition_place header_width
      → b ≡ number_in s modes_place header_width
      → c ≡ number_in s count_place header_width → d ≡ number_in s header_zero header_width
      → (((eqb a l.edition && eqb b mode_edition) && leb c (most_rows l)) && eqb d 0) ≡ header_fits l s
  unfolding header_fits row_count
  header_is s a b c d h ea eb ec ed =
      let fa : a ≡ number_at s edition_place header_width = ea ∙ number_in_lem s edition_place header_width (omega arith) (omega arith) in
      let fb : b ≡ number_at s modes_place header_width = eb ∙ number_in_lem s modes_place header_width (omega arith) (omega arith) in
      let fc : c ≡ number_at s count_place header_width = ec ∙ number_in_lem s count_place header_width (omega arith) (omega arith) in
      let fd : d ≡ number_at s header_zero header_width = ed ∙ number_in_lem s header_zero header_width (omega arith) (omega arith) in
      and_four (eqb a l.edition) (eqb b mode_edition) (leb c (most_rows l)) (eqb d 0)
      ∙ ap₂ (λ (x y : ℕ). eqb x l.edition && (eqb y mode_edition && (leb c (most_rows l) && eqb d 0))) fa fb
      ∙ ap₂ (λ (x y : ℕ). eqb (number_at s edition_place header_width) l.edition &&
      (eqb (number_at s modes_place header_width) mode_edition && (leb x (most_rows l) && eqb y 0))) fc fd

  -- ---- one row

  -- a row with another id does not fit
  pub fits_not : (s : List ℕ) (r at : ℕ) (f : Fields) (b : Bool)
      → b ≡ same (take (r + id_size - r) (drop r s)) (take (at + f.id + id_size - (at + f.id)) (drop (at + f.id) s)) → not b ≡ true
      → false ≡ row_fits l s r at f
  unfolding row_fits
  fits_not s r at f b e t = rw (sym (ids_are s r (at + f.id) b e) ∙ not-true b t)

  -- a row with the body's id fits when the three tests of the code hold
  pub fits_is : (s : List ℕ) (r at : ℕ) (f : Fields) (b : Bool) (x y : ℕ) (t : Bool) → LayoutOk l → r + row_size l ≤ length s
      → b ≡ same (take (r + id_size - r) (drop r s)) (take (at + f.id + id_size - (at + f.id)) (drop (at + f.id) s)) → not b ≡ false
      → x ≡ number_in s (r + offset_place) body_width → y ≡ number_in s (r + mask_place) mask_width
      → t ≡ eqb (number_at s (r + zero_place) (zero_size l)) 0 → ((eqb x at && eqb y f.mask) && t) ≡ row_fits l s r at f
  unfolding row_fits
  fits_is s r at f b x y t ok h e n ex ey ez =
      let fx : x ≡ number_at s (r + offset_place) body_width = ex ∙ number_in_lem s (r + offset_place) body_width (omega arith) (omega arith) in
      let fy : y ≡ number_at s (r + mask_place) mask_width = ey ∙ number_in_lem s (r + mask_place) mask_width (omega arith) (omega arith) in
      rw (sym (ids_are s r (at + f.id) b e) ∙ not-false b n)
      (and_assoc (eqb x at) (eqb y f.mask) t
      ∙ ap₂ (λ (u v : ℕ). eqb u at && (eqb v f.mask && t)) fx fy
      ∙ ap (λ (u : Bool). eqb (number_at s (r + offset_place) body_width) at &&
      (eqb (number_at s (r + mask_place) mask_width) f.mask && u)) ez)

  -- what row i answers once its body was read
  abbrev pub after_read : List ℕ → ℕ → ℕ → ℕ → Fields → Got Fields
  after_read s i at n f = guard (row_fits l s (row_place l i) at f) (guard (not (id_among l s (row_id s (row_place l i)) i)) (got f (at + n)))

  -- row i, with the body's length as a number of its own
  row_long : (s : List ℕ) (i r at n : ℕ) → LayoutOk l → r ≡ row_place l i → r + row_size l ≤ length s
      → n ≡ number_in s (r + length_place) body_width
      → row_at l s i at ≡ guard (leb (at + n) (length s)) (on_read (reading (part s at n)) (after_read s i at n))
  unfolding row_at
  row_long s i r at n ok p h e =
      let k : n ≡ row_length s (row_place l i)
      = e ∙ number_in_lem s (r + length_place) body_width (omega arith) (omega arith) ∙ ap (row_length s) p in
      ap (λ (m : ℕ). guard (leb (at + m) (length s)) (on_read (reading (part s at m)) (after_read s i at m))) (sym k)

  -- a body that would end after the bytes is refused
  pub row_short : (s : List ℕ) (i r at n : ℕ) → LayoutOk l → r ≡ row_place l i → r + row_size l ≤ length s
      → n ≡ number_in s (r + length_place) body_width → at ≤ length s → length s - at < n → refused ≡ row_at l s i at
  row_short s i r at n ok p h e m g = failed_leb (at + n) (length s) _ (omega arith) ∙ sym (row_long s i r at n ok p h e)

  -- a body that ends within the bytes is read
  pub row_read_lem : (s : List ℕ) (i r at n : ℕ) (o : Reading) → LayoutOk l → r ≡ row_place l i → r + row_size l ≤ length s
      → n ≡ number_in s (r + length_place) body_width
      → at ≤ length s → n ≤ length s - at
      → o ≡ reading_of (read_of (take (at + n - at) (drop at s))) → row_at l s i at ≡ on_read o (after_read s i at n)
  row_read_lem s i r at n o ok p h e m g k =
      row_long s i r at n ok p h e
      ∙ guard_leb (at + n) (length s) _ (omega arith)
      ∙ ap (λ (x : Reading). on_read x (after_read s i at n)) (sym (reading_is s at n o k))

  -- what is known of row i at r once its body, of n bytes, was read
  pub record RowRead (s : List ℕ) (i r at n : ℕ) (o : Reading) : Type 0 where
    pub ok : LayoutOk l
    pub place : r ≡ row_place l i
    pub room : r + row_size l ≤ length s
    pub size : n ≡ number_in s (r + length_place) body_width
    pub begins : at ≤ length s
    pub ends : n ≤ length s - at
    pub read : o ≡ reading_of (read_of (take (at + n - at) (drop at s)))

  -- it is known from what the calls before ensure
  pub row_known : (s : List ℕ) (i r at n : ℕ) (o : Reading) → LayoutOk l → r ≡ row_place l i → row_place l i + row_size l ≤ length s
      → n ≡ number_in s (r + length_place) body_width → at ≤ length s → n ≤ length s - at
      → o ≡ reading_of (read_of (take (at + n - at) (drop at s))) → RowRead s i r at n o
  row_known s i r at n o ok p h e m g k = record {
    ok = ok;
    place = p;
    room = omega arith;
    size = e;
    begins = m;
    ends = g;
    read = k;
  }

  module _ (s : List ℕ) (i r at n : ℕ) (o : Reading) (w : RowRead s i r at n o) where
    -- a body that does not read with 0 is refused
    pub row_unread : result_ok o ≡ None → refused ≡ row_at l s i at
    row_unread e = sym (row_read_lem s i r at n o w.ok w.place w.room w.size w.begins w.ends w.read ∙ go o e)
      where
        go : (o : Reading) → result_ok o ≡ None → on_read o (after_read s i at n) ≡ refused
        go (Ok f) e = absurd (false≢true (ap is_none e))
        go (Err Structure) e = refl
        go (Err Validity) e = refl

    module _ (f : Fields) (e : result_ok o ≡ Some f) where
      -- what was read goes on
      goes : row_at l s i at ≡ guard (row_fits l s r at f) (guard (not (id_among l s (row_id s r) i)) (got f (at + n)))
      goes = row_read_lem s i r at n o w.ok w.place w.room w.size w.begins w.ends w.read ∙ go o e
          ∙ ap (λ (x : ℕ). guard (row_fits l s x at f) (guard (not (id_among l s (row_id s x) i)) (got f (at + n)))) (sym w.place)
        where
          go : (o : Reading) → result_ok o ≡ Some f → on_read o (after_read s i at n) ≡ after_read s i at n f
          go (Ok g) e = ap (after_read s i at n) (some_is g f e)
          go (Err Structure) e = absurd (false≢true (sym (ap is_none e)))
          go (Err Validity) e = absurd (false≢true (sym (ap is_none e)))

      -- the id of the body lies in it
      pub row_room : at + (f.id + id_size) ≤ length s
      row_room = id_room s at n o f w.begins w.ends w.read (ok_is o f e)

      -- a row that is not that of the body is refused
      pub row_other : false ≡ row_fits l s r at f → refused ≡ row_at l s i at
      unfolding guard
      row_other t = sym (goes ∙ ap (λ (b : Bool). guard b (guard (not (id_among l s (row_id s r) i)) (got f (at + n)))) (sym t))

      -- a row whose id a row before has is refused; another is answered with what was read of its body, and the place after the body
      row_among : (b : Bool) → true ≡ row_fits l s r at f → b ≡ id_among l s (row_id s r) i → row_at l s i at ≡ guard (not b) (got f (at + n))
      unfolding guard
      row_among b t u =
          goes ∙ ap₂ (λ (x y : Bool). guard x (guard (not y) (got f (at + n)))) (sym t) (sym u)

      pub row_twice : true ≡ row_fits l s r at f → true ≡ id_among l s (row_id s r) i → refused ≡ row_at l s i at
      unfolding guard
      row_twice t u = sym (row_among true t u)

      pub row_good : true ≡ row_fits l s r at f → false ≡ id_among l s (row_id s r) i → got f (at + n) ≡ row_at l s i at
      unfolding guard
      row_good t u = sym (row_among false t u)

  -- ---- all rows

  -- a row that passes leaves the rows after it, with what the code keeps
  pub rows_kept : (s id : List ℕ) (n i r at : ℕ) (h h' : Held) (f : Fields) (next : ℕ) (hit : Bool) → i < n → got f next ≡ row_at l s i at
      → r ≡ row_place l i → hit ≡ same (take (r + id_size - r) (drop r s)) id → h' ≡ held_with hit h i at (next - at) f
      → rows_from l s id (n - i) i at h ≡ rows_from l s id (n - (i + 1)) (i + 1) next h'
  rows_kept s id n i r at h h' f next hit m e place p q =
      let len : row_length s (row_place l i) ≡ next - at = omega (arith, (row_next l s i at f next e).0) in
      rows_next l s id n i at h f next m e
      ∙ ap (rows_from l s id (n - (i + 1)) (i + 1) next)
      (ap₂ (λ (b : Bool) (k : ℕ). held_with b h i at k f) (sym (id_is l s id i r hit place p)) len ∙ sym q)

  -- ---- the whole image

  -- a check that refuses is answered with `None`
  unsound : (s id : List ℕ) → refused ≡ checked l s id → None ≡ check_of l s id
  unfolding check_of
  unsound s id e = ap (check_answer (row_count s)) e

  -- a header that fits has no more rows than the most
  pub header_few : (s : List ℕ) (n : ℕ) (b : Bool) → header_size ≤ length s → b ≡ header_fits l s → not b ≡ false
      → n ≡ number_in s count_place header_width → n ≤ most_rows l
  unfolding header_fits
  header_few s n b h p t e =
      let y : header_fits l s ≡ true = sym p ∙ not-false b t in
      let u = and_right (eqb (number_at s modes_place header_width) mode_edition)
      (leb (row_count s) (most_rows l) && eqb (number_at s header_zero header_width) 0)
      (and_right (eqb (number_at s edition_place header_width) l.edition) _ y) in
      omega (
        arith,
        leb-true (row_count s) (most_rows l)
            (and_left (leb (row_count s) (most_rows l)) (eqb (number_at s header_zero header_width) 0) u),
        count_is s n h e,
      )

  -- bytes under a header are not sound
  pub check_short : (s id : List ℕ) → length s < header_size → None ≡ check_of l s id
  unfolding checked
  check_short s id h = unsound s id (failed_leb header_size (length s) _ h)

  module _ (s id : List ℕ) (h : header_size ≤ length s) (b : Bool) (p : b ≡ header_fits l s) where
    -- another header is not sound
    pub check_header : not b ≡ true → None ≡ check_of l s id
    unfolding checked
    check_header t = unsound s id (passed_leb header_size (length s) h (failed (header_fits l s) _ (not_T_of b p t)))

    -- rows that would end after the bytes are not sound
    pub check_long : not b ≡ false → (n : ℕ) → n ≡ number_in s count_place header_width → length s < row_place l n → None ≡ check_of l s id
    unfolding checked
    check_long t n e m =
        unsound s id (passed_leb header_size (length s) h (passed (header_fits l s) (T_of_not b p t)
        (failed_leb (row_place l (row_count s)) (length s) _ (omega (arith, ap (row_place l) (count_is s n h e))))))

    -- else the rows tell
    pub check_rows : not b ≡ false → (n : ℕ) → n ≡ number_in s count_place header_width → row_place l n ≤ length s → (r : ImageCheck)
        → r ≡ check_answer n (rows_from l s id n 0 (row_place l n) None) → r ≡ check_of l s id
    unfolding checked check_of
    check_rows t n e k r q =
        q
        ∙ ap (λ (m : ℕ). check_answer m (rows_from l s id m 0 (row_place l m) None)) (count_is s n h e)
        ∙ ap (check_answer (row_count s)) (passed_leb header_size (length s) h (passed (header_fits l s) (T_of_not b p t)
        (passed_leb (row_place l (row_count s)) (length s) (omega (arith, ap (row_place l) (count_is s n h e))) refl)))

  -- ---- a lookup

  -- an id that is not 16 bytes is refused
  pub find_bad : (s id : List ℕ) → (length id ≡ id_size → ⊥) → Err Malformed ≡ find_of l s id
  unfolding find_of
  find_bad s id h = rw (ne_eqb (length id) id_size h, find_of)

  module _ (s id : List ℕ) (v : ImageCheck) (h : length id ≡ id_size) (e : v ≡ check_of l s id) where
    -- else the check tells
    told : found_in v ≡ find_of l s id
    unfolding find_of
    told = ap found_in e ∙ rw (eq-eqb (length id) id_size h, find_of)

    -- an image that is not sound
    pub found_unsound : (x : FindError) → ok_or v BadImage ≡ Err x → Err x ≡ find_of l s id
    found_unsound x f = go v f ∙ told
      where
        go : (v : ImageCheck) → ok_or v BadImage ≡ Err x → Err x ≡ found_in v
        go (Some w) f = cc
        go None f = cc

    -- a sound one
    found_sound : (w : Contents) → ok_or v BadImage ≡ Ok w → held_at w.held ≡ find_of l s id
    found_sound w f = go v f ∙ told
      where
        go : (v : ImageCheck) → ok_or v BadImage ≡ Ok w → held_at w.held ≡ found_in v
        go (Some x) f = ap (λ (y : Contents). held_at y.held) (sym (contents_is x w f))
        go None f = cc

    -- that does not hold the id
    pub found_none : (w : Contents) (x : FindError) → ok_or v BadImage ≡ Ok w → ok_or w.held NotFound ≡ Err x → Err x ≡ find_of l s id
    found_none w x f g = go w.held g ∙ found_sound w f
      where
        go : (k : Held) → ok_or k NotFound ≡ Err x → Err x ≡ held_at k
        go (Some b) g = cc
        go None g = cc

    -- that holds it
    pub found_body : (w : Contents) (b : StoredBody) → ok_or v BadImage ≡ Ok w → ok_or w.held NotFound ≡ Ok b
        → Ok (record { at = b.at; len = b.len }) ≡ find_of l s id
    found_body w b f g = go w.held g ∙ found_sound w f
      where
        go : (k : Held) → ok_or k NotFound ≡ Ok b → Ok (record { at = b.at; len = b.len }) ≡ held_at k
        go (Some x) g = ap (λ (y : StoredBody). held_at (Some y)) (sym (body_is x b g))
        go None g = cc
