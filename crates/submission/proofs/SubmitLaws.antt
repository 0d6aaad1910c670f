-- What a choice comes to: an answer is the submission's and leaves the buffer as it was; a body that is stored leaves the buffer after the
-- submission (specs/Code.antt, specs/Submission.antt of `submission_spec`). Assumes nothing.
use mathlib.Core.Path.{◌≡◌, refl, sym, ap, ap₂, ◌∙◌, subst}
use mathlib.Core.Bool.{Bool, true, false, cond}
use mathlib.Core.List.{List}
use Prim.Native.Nat.{ℕ}
use lib.ListN.{length}
use Rattle.octets.specs.Bytes.{AreBytes}
use Rattle.descriptor_spec.specs.declared.Fields.{Fields}
use Rattle.std.specs.Prelude.{Option, Some, None, Ok, Err}
use Rattle.steps.specs.declared.Window.{Window}
use Rattle.image_spec.specs.declared.Contents.{Contents}
use Rattle.image_spec.specs.declared.AddError.TheVariants.{Full}
use Rattle.image_spec.specs.declared.Room.{Room}
use Rattle.image_spec.specs.Layout.{edition2}
use Rattle.image_spec.specs.Image.{Row, reading, id_of}
use Rattle.image_spec.specs.Check.{is_held}
use Rattle.image_spec.specs.Close.{closed_up}
use Rattle.image_spec.specs.Choose.{Chosen, unexpired, choice_of as choice_among, staying_of, room_of, after_room}
use Rattle.image_spec.specs.Edition2.{image_of, Holds, check_of, rows_held, added_of, after_add, has_room, with_body}
use Rattle.image_spec.proofs.Laws.{edition2_ok, read_in, check_says, body_added, room_made, stored_after, choice_exactly, fits_none_goes}
use Rattle.submission_spec.specs.declared.Refusal.{Refusal}
use Rattle.submission_spec.specs.declared.Refusal.TheVariants as answers
use Rattle.submission_spec.specs.Submission.{Submission}
use Rattle.submission.specs.declared.choose.Store.{Store}
use Rattle.submission.specs.Code.{Choice}
use Rattle.submission_spec.specs.Submission.{entering, row_now, staying, steps, submitted, after_answer, after_of}
use Rattle.submission_spec.proofs.Laws.{entering_reads}
use Rattle.submission.specs.Code.{choice_of, stored_as, stored_in, after_in, stored_after_removal, after_removal, stored_or, after_or}
use Rattle.submission.specs.Code.{stored_of, after_store}
use Rattle.submission.proofs.ChoiceLaws.{Storing, Answers, ChoiceIs, choice_is}

module _ (d b : List ℕ) (clock verdict : ℕ) (window : Window) where
  -- an answer is the submission's, and the buffer is as it was
  answer_is : (a : Submission) → Answers d b clock verdict window (entering b) (check_of d (id_of b)) a
      → (a ≡ submitted d b clock verdict window) × (d ≡ after_of d b clock verdict window)
  unfolding submitted steps after_of
  answer_is a k = (k.0, sym k.1 ∙ ap (after_answer d b clock (is_held (check_of d (id_of b)))) k.0)

  -- what is chosen is so
  chosen : (c : Choice) → choice_of d b clock verdict window ≡ c
      → ChoiceIs d b clock verdict window (entering b) (check_of d (id_of b)) c
  chosen c e = subst (ChoiceIs d b clock verdict window (entering b) (check_of d (id_of b))) e (choice_is d b clock verdict window)

  -- a refusal
  pub choice_refused : (x : Refusal) → choice_of d b clock verdict window ≡ Err x
      → (Err x ≡ submitted d b clock verdict window) × (d ≡ after_of d b clock verdict window)
  choice_refused x e = answer_is (Err x) (chosen (Err x) e)

  -- a body that is held already
  pub choice_held : choice_of d b clock verdict window ≡ Ok None
      → (Ok tt ≡ submitted d b clock verdict window) × (d ≡ after_of d b clock verdict window)
  choice_held e = answer_is (Ok tt) (chosen (Ok None) e)

-- ---- what storing a body comes to, in a buffer that holds rows

module _ (d b : List ℕ) (clock : ℕ) (rs : List Row) (f : Fields) (h : Holds d rs) (reads : reading b ≡ Ok f) where
  -- the choice of the rows that go
  abbrev choice : Chosen
  choice = choice_among edition2 (length d) clock rs (length b)

  -- the rows that stay
  abbrev stays : List Row
  stays = staying_of edition2 (length d) clock rs (length b)

  -- where the image of the rows ends
  abbrev end : ℕ
  end = length (image_of rs)

  -- what room is made
  abbrev room_made_of : Option Room
  room_made_of = Some (record { rows = length stays; end = length (image_of stays) })

  -- where the body is stored
  abbrev there : Store
  there = record { rows = length rs; end = end; id = f.id; mask = f.mask }

  -- what is to be so of an answer and a buffer: the body is stored after the rows that stay, or there is no room
  abbrev IsStored : Bool → Submission → List ℕ → Type 0
  IsStored t a d' = (a ≡ cond t (Ok tt) (Err answers.Full)) × (d' ≡ cond t (with_body d stays (row_now b clock)) d)

  -- what making room comes to, by whether the choice ends with room
  room_by_lem : (t : Bool) → choice.ok ≡ t
      → (room_of edition2 d (length rs) end clock (length b) ≡ cond t room_made_of None)
      × (after_room edition2 d (length rs) end clock (length b) ≡ cond t (closed_up edition2 d choice.marks) d)
  room_by_lem t e =
      let m = room_made edition2 edition2_ok d rs h clock (length b) (read_in b f reads).short in (
        m.0 ∙ ap (λ (x : Bool). cond x room_made_of None) e,
        m.1 ∙ ap (λ (x : Bool). cond x (closed_up edition2 d choice.marks) d) e,
      )

  -- what storing comes to where expired rows are removed first
  removal_by : (t : Bool) → choice.ok ≡ t
      → IsStored t (stored_after_removal d b there clock) (after_removal d b there clock)
  unfolding stored_after_removal after_removal
  removal_by true e =
      let d₁ : List ℕ = after_room edition2 d (length rs) end clock (length b) in
      let k = stored_after edition2 edition2_ok d clock rs (row_now b clock) f h reads e in (
        ap (stored_in d₁ b f.id) (room_by_lem true e).0 ∙ ap stored_as k.0,
        ap (after_in d₁ b f.id f.mask clock) (room_by_lem true e).0 ∙ k.1,
      )
  removal_by false e =
      let d₁ : List ℕ = after_room edition2 d (length rs) end clock (length b) in (
        ap (stored_in d₁ b f.id) (room_by_lem false e).0,
        ap (after_in d₁ b f.id f.mask clock) (room_by_lem false e).0 ∙ (room_by_lem false e).1,
      )

  -- what storing comes to, by whether the body fits as it is
  store_by : (t : Bool) → has_room d rs (row_now b clock) ≡ t
      → IsStored choice.ok (stored_of d b there clock) (after_store d b there clock)
  unfolding stored_of after_store
  store_by true e =
      let new : Row = row_now b clock in
      let k = body_added edition2 edition2_ok d rs new f h reads in
      let n = fits_none_goes edition2 edition2_ok d clock rs new e in
      let added : added_of d (length rs) end b f.id ≡ Ok tt = k.0 ∙ ap (λ (x : Bool). cond x (Ok tt) (Err Full)) e in
      let after : List ℕ = after_add d (length rs) end b f.id f.mask clock in
      let other : List ℕ = after_removal d b there clock in
      subst (λ (t : Bool). IsStored t (stored_of d b there clock) (after_store d b there clock))
      (sym n.1) (
        ap (stored_or (stored_after_removal d b there clock)) added,
        ap (after_or after other) added ∙ k.1 ∙ ap (λ (x : Bool). cond x (with_body d rs new) d) e
            ∙ ap (λ (l : List Row). with_body d l new) (sym n.0),
      )
  store_by false e =
      let k = body_added edition2 edition2_ok d rs (row_now b clock) f h reads in
      let added : added_of d (length rs) end b f.id ≡ Err Full = k.0 ∙ ap (λ (x : Bool). cond x (Ok tt) (Err Full)) e in
      let after : List ℕ = after_add d (length rs) end b f.id f.mask clock in
      let other : List ℕ = after_removal d b there clock in
      let r = removal_by choice.ok refl in (
        ap (stored_or (stored_after_removal d b there clock)) added ∙ r.0,
        ap (after_or after other) added ∙ r.1,
      )

  -- the body is stored exactly where there is room beside the rows that are not expired
  store_is : (t : Bool) → has_room d (unexpired clock rs) (row_now b clock) ≡ t
      → IsStored t (stored_of d b there clock) (after_store d b there clock)
  store_is t e =
      subst (λ (x : Bool). IsStored x (stored_of d b there clock) (after_store d b there clock))
      (choice_exactly edition2 edition2_ok d clock rs (row_now b clock) ∙ e) (store_by (has_room d rs (row_now b clock)) refl)

-- ---- a body that is to be stored

-- it is stored where there is room, and the answer and the buffer are those of the submission
stored_is : (d b : List ℕ) (clock verdict : ℕ) (window : Window) (p : Store) → AreBytes d
    → choice_of d b clock verdict window ≡ Ok (Some p)
    → (stored_of d b p clock ≡ submitted d b clock verdict window)
    × (after_store d b p clock ≡ after_of d b clock verdict window)
unfolding submitted steps after_of
stored_is d b clock verdict window p bytes e =
    let v : Option Contents = check_of d (id_of b) in
    let k : Storing d b clock verdict window (entering b) v p = chosen d b clock verdict window (Ok (Some p)) e in
    let rs : List Row = rows_held d in
    let s = check_says edition2 edition2_ok d (id_of b) bytes p.rows p.end None k.found in
    let t : Bool = has_room d (unexpired clock rs) (row_now b clock) in
    let a = store_is d b clock rs k.fields s.holds (entering_reads b k.fields k.reads) t refl in
    let x = go k t refl in
    let q : p ≡ there d b clock rs k.fields s.holds (entering_reads b k.fields k.reads) = same_place s.rows s.ends k.named k.modes in (
      ap (λ (y : Store). stored_of d b y clock) q ∙ a.0 ∙ x.0,
      ap (λ (y : Store). after_store d b y clock) q ∙ a.1 ∙ x.1,
    )
  where
    same_place : {r e i m : ℕ} → p.rows ≡ r → p.end ≡ e → p.id ≡ i → p.mask ≡ m → p ≡ record { rows = r; end = e; id = i; mask = m }
    same_place a b c d = rw (← a, ← b, ← c, ← d) refl

    go : Storing d b clock verdict window (entering b) (check_of d (id_of b)) p → (t : Bool)
        → has_room d (unexpired clock (rows_held d)) (row_now b clock) ≡ t
        → (cond t (Ok tt) (Err answers.Full) ≡ submitted d b clock verdict window)
        × (cond t (with_body d (staying d b clock) (row_now b clock)) d ≡ after_of d b clock verdict window)
    go k true u = (k.done u, ap₂ (after_answer d b clock) (sym (ap is_held k.found)) (k.done u))
    go k false u = (k.full u, ap₂ (after_answer d b clock) (sym (ap is_held k.found)) (k.full u))

-- what the code answers and leaves is so
pub choice_store : (d b : List ℕ) (clock verdict : ℕ) (window : Window) (p : Store) → AreBytes d
    → choice_of d b clock verdict window ≡ Ok (Some p)
    → (a : Submission) (d' : List ℕ) → (a ≡ stored_of d b p clock) × (d' ≡ after_store d b p clock)
    → (a ≡ submitted d b clock verdict window) × (d' ≡ after_of d b clock verdict window)
choice_store d b clock verdict window p bytes e a d' f =
    let k = stored_is d b clock verdict window p bytes e in
    (f.0 ∙ k.0, f.1 ∙ k.1)
