-- A new row after the removal of expired ones: what the writes of both come to, and which bodies are then found (specs/Laws.antt,
-- `StoredAfterFor`, `StoredHoldsFor`, `LeftFinds`). Assumes nothing.
use mathlib.Core.Path.{◌≡◌, refl, sym, ap, ◌∙◌, subst}
use mathlib.Core.Logic.{◌⊎◌, inl, inr, ⊎_elim}
use mathlib.Core.Bool.{Bool, true, false, cond}
use mathlib.Core.List.{List, [], ◌∷◌, ◌++◌}
use mathlib.Core.Option.{none, some}
use Prim.Native.Nat.{ℕ, suc, ◌+◌, ◌-◌, ◌≤◌}
use native.Mathlib.Omega.{arith}
use lib.ListN.{length, drop, length-append, length-drop}
use lib.Seq.{drop-append-add, drop-drop}
use borrow.Author.Tests.{leb-true}
use Rattle.octets.specs.Bytes.{same}
use Rattle.octets.proofs.Tests.{or_true, or_no_left, or_no_right}
use Rattle.exact.specs.Reads.{AllFrom}
use Rattle.image_spec.specs.declared.Mark.{Mark}
use Rattle.image_spec.specs.declared.layout.Layout.{Layout}
use Rattle.std.specs.Prelude.{Ok, Err}
use Rattle.image_spec.specs.declared.AddError.TheVariants.{Full}
use Rattle.image_spec.specs.Layout.{LayoutOk}
use Rattle.image_spec.specs.Image.{Row, id_of, joined, image_of, has_id, BodyOk, seen_with, Holds}
use Rattle.image_spec.specs.Image.{body_with}
use Rattle.image_spec.specs.Grow.{added_of, after_add, has_room, with_body}
use Rattle.image_spec.specs.Close.{keep, stays, kept, closed_up, with_rows}
use Rattle.image_spec.specs.Choose.{end_of, is_expired, choice_of, staying_of, goes_of, after_room}
use Rattle.image_spec.specs.Removal.{row_in, left, Goes}
use Rattle.image_spec.specs.Laws.{StoredAfterFor, StoredHoldsFor, LeftFinds}
use Rattle.image_spec.proofs.BodyLaws.{read_in}
use Rattle.image_spec.proofs.RowPlaceLaws.{place_up}
use Rattle.image_spec.proofs.RowLaws.{image_length}
use Rattle.image_spec.proofs.ListLaws.{read_is, has_snoc, rest_new, with_first, with_rest}
use Rattle.image_spec.proofs.SoundLaws.{holds_room}
use Rattle.image_spec.proofs.MoreLaws.{length_more}
use Rattle.image_spec.proofs.GrowLaws.{body_added, one_more}
use Rattle.image_spec.proofs.PlacedLaws.{kept_few}
use Rattle.image_spec.proofs.CloseLaws.{closed_up_lem, kept_holds}
use Rattle.image_spec.proofs.RemovalLaws.{choice_room, choice_removal}
use Rattle.image_spec.proofs.BufferChoice.{room_made}

-- ---- the buffer

-- what lies beyond an exchanged beginning of the same length
beyond : (a d : List ℕ) (m : ℕ) → length a ≤ m → drop m (a ++ drop (length a) d) ≡ drop m d
beyond a d m h =
    let e : m ≡ length a + (m - length a) = omega arith in
    ap (λ (k : ℕ). drop k (a ++ drop (length a) d)) e
    ∙ drop-append-add a (drop (length a) d) (m - length a)
    ∙ drop-drop (m - length a) (length a) d
    ∙ ap (λ (k : ℕ). drop k d) (sym e)

-- the bodies of rows that stay are not longer than those of all
joined_kept : (gs : List Mark) (rs : List Row) → length (joined (kept gs rs)) ≤ length (joined rs)
unfolding kept joined
joined_kept [] rs = omega arith
joined_kept (g ∷ gs) [] = omega arith
joined_kept (g ∷ gs) (r ∷ rs) = go (stays g) (joined_kept gs rs)
  where
    go : (t : Bool) → length (joined (kept gs rs)) ≤ length (joined rs)
        → length (joined (keep t r (kept gs rs))) ≤ length (r.body ++ joined rs)
    go true h = omega (arith, length-append r.body (joined (kept gs rs)), length-append r.body (joined rs))
    go false h = omega (arith, length-append r.body (joined rs))

module _ (l : Layout) (ok : LayoutOk l) where
  -- the image of rows that stay is not longer than that of all
  image_kept : (gs : List Mark) (rs : List Row) → length (image_of l (kept gs rs)) ≤ length (image_of l rs)
  image_kept gs rs =
      omega (
        arith,
        image_length l ok (kept gs rs),
        image_length l ok rs,
        joined_kept gs rs,
        place_up l (length (kept gs rs)) (length rs) (kept_few gs rs),
      )

  -- a buffer that comes to hold rows keeps its length
  rows_length : (d : List ℕ) (rs : List Row) → length (image_of l rs) ≤ length d → length (with_rows l d rs) ≡ length d
  unfolding with_rows
  rows_length d rs h =
      omega (arith, length-append (image_of l rs) (drop (length (image_of l rs)) d), length-drop (length (image_of l rs)) d)

  -- there is as much room in it
  room_over : (d : List ℕ) (rs : List Row) (r : Row) → length (image_of l rs) ≤ length d → has_room l (with_rows l d rs) rs r ≡ has_room l d rs r
  unfolding has_room
  room_over d rs r h = rw (rows_length d rs h)

  -- and a row more leaves the same
  body_over : (d : List ℕ) (rs : List Row) (r : Row) → with_body l (with_rows l d rs) rs r ≡ with_body l d rs r
  unfolding with_body with_rows
  body_over d rs r =
      let larger : List ℕ = image_of l (rs ++ (r ∷ [])) in
      ap (λ (x : List ℕ). larger ++ x) (beyond (image_of l rs) d (length larger) (omega (arith, length_more l ok rs r)))

  -- ---- the rows that stay, in the buffer

  module _ (d : List ℕ) (clock : ℕ) (rs : List Row) (new : Row) (h : Holds l d rs) where
    -- those that stay
    abbrev ks : List Row
    ks = staying_of l (length d) clock rs (length new.body)

    abbrev gs : List Mark
    gs = (choice_of l (length d) clock rs (length new.body)).marks

    module _ (short : length new.body ≤ 32768) where
      marks_long : length gs ≡ length rs
      marks_long = (room_made l ok d rs h clock (length new.body) short).2

      -- the buffer comes to hold them
      closed : closed_up l d gs ≡ with_rows l d ks
      unfolding staying_of
      closed = closed_up_lem l ok d rs gs h marks_long

      holds_kept : Holds l (with_rows l d ks) ks
      unfolding staying_of
      holds_kept = kept_holds l ok d rs gs h marks_long

      fits_buffer : length (image_of l ks) ≤ length d
      unfolding staying_of
      fits_buffer = omega (arith, image_kept gs rs, holds_room l ok d rs h)

      -- the buffer after room was made
      after_room_lem : (choice_of l (length d) clock rs (length new.body)).ok ≡ true
          → after_room l d (length rs) (length (image_of l rs)) clock (length new.body) ≡ with_rows l d ks
      after_room_lem e = (room_made l ok d rs h clock (length new.body) short).1 ∙ ap (λ (t : Bool). cond t (closed_up l d gs) d) e ∙ closed

      -- there is room beside them
      room_kept : (choice_of l (length d) clock rs (length new.body)).ok ≡ true → has_room l (with_rows l d ks) ks new ≡ true
      room_kept e = room_over d ks new fits_buffer ∙ sym (choice_room l ok d clock rs new) ∙ e

  -- `StoredAfterFor`
  pub stored_after : StoredAfterFor l
  stored_after d clock rs new f h reads e =
      let short : length new.body ≤ 32768 = (read_in new.body f reads).short in
      let k : List Row = ks d clock rs new h in
      let w : List ℕ = with_rows l d k in
      let after = after_room_lem d clock rs new h short e in
      let room : has_room l w k new ≡ true = room_kept d clock rs new h short e in
      let a = body_added l ok w k new f (holds_kept d clock rs new h short) reads in (
        ap (λ (x : List ℕ). added_of l x (length k) (length (image_of l k)) new.body f.id) after
            ∙ a.0 ∙ ap (λ (t : Bool). cond t (Ok tt) (Err Full)) room,
        ap (λ (x : List ℕ). after_add l x (length k) (length (image_of l k)) new.body f.id f.mask new.used) after
            ∙ a.1 ∙ ap (λ (t : Bool). cond t (with_body l w k new) w) room ∙ body_over d k new,
      )

-- ---- which bodies are left

-- where no row has the id, none that is left has
left_none : (id : List ℕ) (goes : List Bool) (rs : List Row) → has_id id rs ≡ false → body_with id (left goes rs) ≡ none
unfolding has_id body_with
left_none id [] rs h = refl
left_none id (g ∷ goes) [] h = refl
left_none id (true ∷ goes) (r ∷ rs) h = left_none id goes rs (or_no_right (same (id_of r.body) id) (has_id id rs) h)
left_none id (false ∷ goes) (r ∷ rs) h =
    (with_rest id r (left goes rs) (or_no_left (same (id_of r.body) id) (has_id id rs) h)).0
    ∙ left_none id goes rs (or_no_right (same (id_of r.body) id) (has_id id rs) h)

-- a row that goes, one place further
goes_next : (g : Bool) (goes : List Bool) (i : ℕ) → Goes goes i → Goes (g ∷ goes) (suc i)
goes_next g goes i k = record { place = omega (arith, k.place); flag = k.flag }

-- what an id finds among the rows that are left, by whether it found an expired one that goes
abbrev Finds : ℕ → List ℕ → List Row → List Row → Type 0
Finds clock id rs ks = (body_with id ks ≡ body_with id rs)
    ⊎ ((body_with id ks ≡ none) × ((c : List ℕ) × (body_with id rs ≡ some c) × (end_of c ≤ clock)))

-- a row before that has another id changes nothing
finds_rest : (clock : ℕ) (id : List ℕ) (r : Row) (rs ks : List Row) → same (id_of r.body) id ≡ false → Finds clock id rs ks
    → Finds clock id (r ∷ rs) ks
finds_rest clock id r rs ks e (inl f) = inl (f ∙ sym (with_rest id r rs e).0)
finds_rest clock id r rs ks e (inr f) = inr (f.0, (f.1.0, (with_rest id r rs e).0 ∙ f.1.1, f.1.2))

left_finds_from : (clock : ℕ) (id : List ℕ) (seen : List Row) (goes : List Bool) (rs : List Row) → AllFrom BodyOk seen_with seen rs
    → length goes ≡ length rs → ((i : ℕ) → Goes goes i → is_expired clock (row_in rs i) ≡ true)
    → Finds clock id rs (left goes rs)
unfolding body_with is_expired
left_finds_from clock id seen [] [] a n due = inl refl
left_finds_from clock id seen [] (r ∷ rs) a n due = absurd (omega arith)
left_finds_from clock id seen (g ∷ goes) [] a n due = absurd (omega arith)
left_finds_from clock id seen (g ∷ goes) (r ∷ rs) a n due =
    go g (same (id_of r.body) id) refl due
    (left_finds_from clock id (seen ++ (r ∷ [])) goes rs a.1 (omega arith) (λ i k. due (suc i) (goes_next g goes i k)))
  where
    -- the rows after have other ids than this one
    other : same (id_of r.body) id ≡ true → has_id id rs ≡ false
    other e = rest_new id (seen ++ (r ∷ [])) rs a.1 (has_snoc id seen r ∙ rw e (or_true (has_id id seen)))

    go : (g t : Bool) → same (id_of r.body) id ≡ t → ((i : ℕ) → Goes (g ∷ goes) i → is_expired clock (row_in (r ∷ rs) i) ≡ true)
        → Finds clock id rs (left goes rs) → Finds clock id (r ∷ rs) (left (g ∷ goes) (r ∷ rs))
    go true true e due k = inr (
      left_none id goes rs (other e),
      (r.body, (with_first id r rs e).0, leb-true (end_of r.body) clock (due 0 (record { place = omega arith; flag = refl }))),
    )
    go true false e due k = finds_rest clock id r rs (left goes rs) e k
    go false true e due k = inl ((with_first id r (left goes rs) e).0 ∙ sym (with_first id r rs e).0)
    go false false e due (inl f) = inl ((with_rest id r (left goes rs) e).0 ∙ f ∙ sym (with_rest id r rs e).0)
    go false false e due (inr f) = inr (
      (with_rest id r (left goes rs) e).0 ∙ f.0,
      (f.1.0, (with_rest id r rs e).0 ∙ f.1.1, f.1.2),
    )

-- `LeftFinds`
pub left_finds : LeftFinds
left_finds l clock rs goes o n due id = left_finds_from clock id [] goes rs o.each n due

-- ---- what the buffer then holds

module _ (l : Layout) (ok : LayoutOk l) where
  -- an id that no row has none of those that stay has
  kept_new : (d : List ℕ) (clock : ℕ) (rs : List Row) (new : Row) (id : List ℕ) → Holds l d rs
      → (choice_of l (length d) clock rs (length new.body)).ok ≡ true → body_with id rs ≡ none
      → body_with id (staying_of l (length d) clock rs (length new.body)) ≡ none
  kept_new d clock rs new id h e n =
      let r = choice_removal l ok d clock rs new e in
      let goes : List Bool = goes_of (choice_of l (length d) clock rs (length new.body)).marks in
      ap (body_with id) (sym r.1)
      ∙ ⊎_elim {C = body_with id (left goes rs) ≡ none} (λ f. f ∙ n) (λ f. f.0)
      (left_finds l clock rs goes h.rows r.0.one_each r.0.due id)

  -- `StoredHoldsFor`
  pub stored_holds : StoredHoldsFor l
  stored_holds d clock rs new h reads e n dated =
      let f = read_is new.body reads in
      let short : length new.body ≤ 32768 = (read_in new.body f.0 f.1).short in
      let k : List Row = staying_of l (length d) clock rs (length new.body) in
      subst (λ (x : List ℕ). Holds l x (k ++ (new ∷ []))) (body_over l ok d k new)
      ((one_more l ok).holds (with_rows l d k) k new (holds_kept l ok d clock rs new h short) (room_kept l ok d clock rs new h short e) reads
      (kept_new d clock rs new (id_of new.body) h e n) dated)
