-- The check of one row says that the row and its body stand, both ways (specs/Check.antt). Assumes nothing.
use mathlib.Core.Path.{◌≡◌, refl, sym, ap, ◌∙◌}
use mathlib.Core.Bool.{Bool, true, false, ◌&&◌, ◌||◌, or-false}
use mathlib.Core.List.{List, [], ◌∷◌, ◌++◌}
use Prim.Native.Nat.{ℕ, suc, ◌+◌, ◌≤◌, ◌<◌}
use native.Mathlib.Omega.{arith}
use native.Mathlib.Numerals.{add-one}
use lib.ListN.{length, length-append}
use lib.Dec.{eqb}
use borrow.Author.Tests.{eqb-true, eq-eqb, le-leb}
use Rattle.octets.specs.Bytes.{AreBytes, part, Has, same}
use Rattle.octets.specs.Number.{number_at}
use Rattle.exact.specs.Reads.{got, guard}
use Rattle.octets.proofs.Tests.{and_left, and_right, or_true}
use Rattle.octets.proofs.BytesLaws.{has_part, part_has, has_fits}
use Rattle.descriptor_spec.specs.declared.Fields.{Fields}
use Rattle.std.specs.Prelude.{Ok}
use Rattle.image_spec.specs.declared.layout.Layout.{Layout}
use Rattle.descriptor_spec.specs.Allowed.{id_size}
use Rattle.image_spec.specs.Layout.{mask_width, mask_place, zero_place, row_size, zero_size, row_place, moment_place, moment_size, LayoutOk}
use Rattle.image_spec.specs.Image.{Row, reading, id_of, row, has_id, MomentOk}
use Rattle.image_spec.specs.Check.{row_id, row_offset, row_length, row_moment, id_among, row_fits, row_at}
use Rattle.image_spec.specs.Laws.{BodyIn}
use Rattle.image_spec.proofs.BodyLaws.{read_in}
use Rattle.image_spec.proofs.RowOkLaws.{RowOk, row_is, among_suc, hit_suc}
use Rattle.image_spec.proofs.RowLaws.{id_read, modes_read, RowSays, row_says, says_row}
use Rattle.octets.proofs.NumberLaws.{number_below}
use Rattle.octets.proofs.SameLaws.{same_equal, equal_same}
use Rattle.octets.proofs.PartLaws.{part_part}
use Rattle.image_spec.proofs.ListLaws.{has_snoc}

module _ (l : Layout) (ok : LayoutOk l) where
  -- ---- the bodies before

  -- the bodies of the i rows before: an id is among the ids of the rows exactly where one of them has it
  pub record Past (s : List ℕ) (seen : List Row) (i : ℕ) : Type 0 where
    pub count : length seen ≡ i
    pub ids : (id : List ℕ) → id_among l s id i ≡ has_id id seen

  -- there is none before the first
  pub past_none : (s : List ℕ) → Past s [] 0
  unfolding id_among has_id
  past_none s = record { count = refl; ids = λ id. refl }

  -- a row with a body's id makes one more
  pub past_more : (s : List ℕ) (seen : List Row) (i : ℕ) (b : Row) → Past s seen i → row_id s (row_place l i) ≡ id_of b.body
      → Past s (seen ++ (b ∷ [])) (i + 1)
  past_more s seen i b p e =
      record {
        count = omega (arith, length-append seen (b ∷ []), p.count);
        ids = λ id. ap (id_among l s id) (add-one i) ∙ go id (same (id_of b.body) id) refl ∙ sym (has_snoc id seen b);
      }
    where
      go : (id : List ℕ) (t : Bool) → same (id_of b.body) id ≡ t → id_among l s id (suc i) ≡ (has_id id seen || t)
      go id true h = hit_suc l s id i (ap (λ (x : List ℕ). same x id) e ∙ h) ∙ sym (or_true (has_id id seen))
      go id false h = among_suc l s id i (ap (λ (x : List ℕ). same x id) e ∙ h) ∙ p.ids id ∙ sym (or-false (has_id id seen))

  -- ---- one row

  -- what the test of a row says
  record Fits (s : List ℕ) (r at : ℕ) (f : Fields) : Type 0 where
    id : row_id s r ≡ part s (at + f.id) id_size
    offset : row_offset s r ≡ at
    mask : number_at s (r + mask_place) mask_width ≡ f.mask
    zeros : number_at s (r + zero_place) (zero_size l) ≡ 0

  -- it says so where it holds
  fits_says : (s : List ℕ) (r at : ℕ) (f : Fields) → row_fits l s r at f ≡ true → Fits s r at f
  unfolding row_fits
  fits_says s r at f e =
      let a : Bool = same (row_id s r) (part s (at + f.id) id_size) in
      let b : Bool = eqb (row_offset s r) at in
      let c : Bool = eqb (number_at s (r + mask_place) mask_width) f.mask in
      let d : Bool = eqb (number_at s (r + zero_place) (zero_size l)) 0 in
      let e₁ = and_right a (b && (c && d)) e in
      let e₂ = and_right b (c && d) e₁ in
      record {
        id = same_equal (row_id s r) (part s (at + f.id) id_size) (and_left a (b && (c && d)) e);
        offset = eqb-true (row_offset s r) at (and_left b (c && d) e₁);
        mask = eqb-true (number_at s (r + mask_place) mask_width) f.mask (and_left c d e₂);
        zeros = eqb-true (number_at s (r + zero_place) (zero_size l)) 0 (and_right c d e₂);
      }

  -- it holds where it says so
  says_fits : (s : List ℕ) (r at : ℕ) (f : Fields) → Fits s r at f → row_fits l s r at f ≡ true
  unfolding row_fits
  says_fits s r at f q =
      rw (
        equal_same (row_id s r) (part s (at + f.id) id_size) q.id,
        eq-eqb (row_offset s r) at q.offset,
        eq-eqb (number_at s (r + mask_place) mask_width) f.mask q.mask,
        eq-eqb (number_at s (r + zero_place) (zero_size l)) 0 q.zeros,
      )

  -- a body that stands with its row, after those of `seen`
  pub record Stands (s : List ℕ) (seen : List Row) (i at : ℕ) (b : Row) (f : Fields) : Type 0 where
    pub reads : reading b.body ≡ Ok f
    pub new : has_id (id_of b.body) seen ≡ false
    pub dated : MomentOk l b
    pub has_row : Has s (row_place l i) (row l at b)
    pub has_body : Has s at b.body

  -- a row that passes the check stands with its body
  pub row_sound : (s : List ℕ) (seen : List Row) (i at : ℕ) (f : Fields) (next : ℕ) → AreBytes s → row_place l i + row_size l ≤ length s
      → Past s seen i
      → got f next ≡ row_at l s i at → (b : Row) × Stands s seen i at b f × (next ≡ at + length b.body)
  row_sound s seen i at f next bytes room p e =
      let r : ℕ = row_place l i in
      let n : ℕ = row_length s r in
      let b : Row = record { body = part s at n; used = row_moment l s r } in
      let k : RowOk l s i at f next = row_is l s i at f next e in
      let q : Fits s r at f = fits_says s r at f k.fits in
      let h = part_has s at n k.inside in
      let w : BodyIn b.body f = read_in b.body f k.reads in
      let d : row_id s r ≡ id_of b.body
      = q.id ∙ sym (part_part s at n f.id id_size (omega (arith, w.id, h.1))) ∙ sym (id_read b.body f k.reads) in (
        b,
        record {
          reads = k.reads;
          new = ap (λ (x : List ℕ). has_id x seen) (sym d) ∙ sym (p.ids (row_id s r)) ∙ k.new;
          dated = record { fits = number_below s (r + moment_place l) (moment_size l) bytes };
          has_row = says_row l ok s r at b bytes (record {
            inside = room;
            id = d;
            offset = q.offset;
            size = sym h.1;
            mask = q.mask ∙ sym (modes_read b.body f k.reads);
            zeros = q.zeros;
            moment = refl;
          });
          has_body = h.0;
        },
        k.end ∙ ap (λ (m : ℕ). at + m) (sym h.1),
      )

  -- the row of a body that stands says where it lies
  pub stands_says : (s : List ℕ) (seen : List Row) (i at : ℕ) (b : Row) (f : Fields) → at < 4294967296 → Stands s seen i at b f
      → RowSays l ok s (row_place l i) at b
  stands_says s seen i at b f small h = row_says l ok s (row_place l i) at b small (omega (arith, (read_in b.body f h.reads).short))
      h.dated h.has_row

  -- a body that stands with its row passes the check
  pub row_complete : (s : List ℕ) (seen : List Row) (i at : ℕ) (b : Row) (f : Fields) → at < 4294967296 → Past s seen i
      → Stands s seen i at b f
      → got f (at + length b.body) ≡ row_at l s i at
  unfolding row_at guard
  row_complete s seen i at b f small p h =
      let r : ℕ = row_place l i in
      let q : RowSays l ok s r at b = stands_says s seen i at b f small h in
      let w : BodyIn b.body f = read_in b.body f h.reads in
      let body : part s at (length b.body) ≡ b.body = has_part s at b.body h.has_body in
      let inside : at + length b.body ≤ length s = has_fits s at b.body w.filled h.has_body in
      let mine : id_of b.body ≡ part s (at + f.id) id_size
      = id_read b.body f h.reads ∙ ap (λ (x : List ℕ). part x f.id id_size) (sym body) ∙ part_part s at (length b.body)
      f.id id_size w.id in
      let fits : row_fits l s r at f ≡ true
      = says_fits s r at f (record {
        id = q.id ∙ mine;
        offset = q.offset;
        mask = q.mask ∙ modes_read b.body f
            h.reads;
        zeros = q.zeros;
      }) in
      let new : id_among l s (row_id s r) i ≡ false = p.ids (row_id s r) ∙ ap (λ (x : List ℕ). has_id x seen) q.id ∙ h.new in
      rw (q.size, body, h.reads, le-leb (at + length b.body) (length s) inside, fits, new)
