-- What a submission leaves in an image, said of its bodies (specs/Laws.antt). Assumes nothing.
use Rattle.std.specs.Prelude.{Ok, Err, Some, None}
use Rattle.image_spec.specs.Check.{contents, held_body, Held, ImageCheck, is_sound, is_held}
use mathlib.Core.Path.{◌≡◌, refl, sym, ap, ◌∙◌, subst}
use mathlib.Core.Logic.{◌⊎◌, inl, inr, ⊎_elim}
use mathlib.Core.Bool.{Bool, true, false, not, ◌||◌, false≢true}
use mathlib.Core.List.{List, [], ◌∷◌, ◌++◌}
use mathlib.Core.Option.{Option, none, some}
use Prim.Native.Nat.{ℕ, ◌^◌, ◌<◌}
use native.Mathlib.Omega.{arith}
use lib.ListN.{length}
use lib.Dec.{eqb}
use borrow.Author.Tests.{eqb-true, eqb-false}
use Rattle.octets.specs.Bytes.{AreBytes, part, same}
use Rattle.descriptor_spec.specs.declared.Fields.{Fields}
use Rattle.descriptor_spec.specs.Model.{Descriptor, encode}
use Rattle.descriptor_spec.specs.Allowed.{Formed}
use Rattle.steps.specs.declared.Window.{Window}
use Rattle.steps.specs.Order.{Step, AllPass}
use Rattle.steps.proofs.Laws.{none_is, passed_by}
use Rattle.steps.proofs.Promises as order
use Rattle.image_spec.specs.Layout.{edition2}
use Rattle.image_spec.specs.Image.{Row, id_of, MomentOk, body_with}
use Rattle.image_spec.specs.Close.{keep}
use Rattle.image_spec.specs.Choose.{is_expired, unexpired, choice_of, staying_of, goes_of}
use Rattle.image_spec.specs.Removal.{left, Removal}
use Rattle.image_spec.specs.Edition2.{image_of, Holds, check_of, rows_held, has_room, with_body}
use Rattle.octets.proofs.OptionLaws.{some_same, none_some}
use Rattle.octets.proofs.SameLaws.{same_equal}
use Rattle.octets.proofs.Tests.{and_left}
use Rattle.image_spec.specs.Laws.{HeldIs}
use Rattle.image_spec.proofs.Laws.{edition2_ok, body_read, rows_named, check_tells, check_says, editions_checked, one_more}
use Rattle.image_spec.proofs.Laws.{choice_exactly, choice_removal, unexpired_stay, stored_holds, left_finds}
use Rattle.submission_spec.specs.declared.Refusal.TheVariants as answers
use Rattle.submission_spec.specs.Submission.{row_now, agrees, submitted, number_of, after_of}
use Rattle.submission_spec.specs.Promises.{rows, descriptor, AreVersion7, version7_ids, steps_for}
use Rattle.submission_spec.specs.Promises.{RefusalKeeps, RepeatKeeps, EditionsRefused, UnexpiredKept}
use Rattle.submission_spec.specs.Laws.{DoneMeans, HasAfter, AfterHolds}
use Rattle.submission_spec.proofs.IdLaws.{ids_exactly}
use Rattle.submission_spec.proofs.NumberLaws.{itself, number_descriptor}
use Rattle.submission_spec.proofs.AfterLaws.{refused_keeps, after_held, after_new_lem}
use Rattle.submission_spec.proofs.StepLaws.{number_is, Passed, done_passed, unsound_refused}

-- ---- what the check finds

-- the check for an id that no body has
check_new : (d id : List ℕ) (bs : List Row) → Holds d bs → body_with id bs ≡ none
    → check_of d id ≡ contents (length bs) (length (image_of bs)) None
check_new d id bs h new = let w = check_tells edition2 edition2_ok d id bs h in w.1 ∙ ap (contents (length bs) (length (image_of bs))) (go w.0 w.2)
  where
    go : (x : Held) → HeldIs d id bs x → x ≡ None
    go None k = refl
    go (Some y) k = absurd (none_some (part d y.at y.len) (sym new ∙ k.which))

-- the body that is held under an id, and where the check found it
record Repeat (d id : List ℕ) (bs : List Row) (c : List ℕ) : Type 0 where
  row : ℕ
  at : ℕ
  len : ℕ
  fields : Fields
  found : check_of d id ≡ contents (length bs) (length (image_of bs)) (held_body row at len fields)
  body : part d at len ≡ c

-- the check for an id that a body has
check_repeat : (d id : List ℕ) (bs : List Row) (c : List ℕ) → Holds d bs → body_with id bs ≡ some c → Repeat d id bs c
check_repeat d id bs c h held = let w = check_tells edition2 edition2_ok d id bs h in go w.0 w.1 w.2
  where
    go : (x : Held) → check_of d id ≡ contents (length bs) (length (image_of bs)) x → HeldIs d id bs x → Repeat d id bs c
    go None e k = absurd (none_some c (sym k ∙ held))
    go (Some x) e k = record {
      row = x.row;
      at = x.at;
      len = x.len;
      fields = x.fields;
      found = e;
      body = some_same (part d x.at x.len) c
          (sym k.which ∙ held);
    }

-- ---- what is kept

-- `RefusalKeeps`
pub refusal_keeps : RefusalKeeps
unfolding after_of
refusal_keeps d b clock verdict window other = refused_keeps d b clock (is_held (check_of d (id_of b))) (submitted d b clock verdict window)
    (λ e. other (ap number_of e))

-- `RepeatKeeps`
pub repeat_keeps : RepeatKeeps
repeat_keeps d b clock verdict window bs c h held = after_held d b clock verdict window
    (ap is_held (check_repeat d (id_of b) bs c h held).found)

-- `EditionsRefused`
pub editions_refused : EditionsRefused
editions_refused d b clock verdict window h other =
    let e : submitted d b clock verdict window ≡ (Err answers.BadImage)
    = unsound_refused d b clock verdict window h (editions_checked edition2 edition2_ok d (id_of b) other) in
    (ap number_of e, refusal_keeps d b clock verdict window (λ f. omega (arith, ap number_of e, f)))

-- ---- what an answer of 0 says

-- the buffer holds a list of rows
done_holds : (d b : List ℕ) → AreBytes d → is_sound (check_of d (id_of b)) ≡ true → (bs : List Row) × Holds d bs
done_holds d b bytes = go (check_of d (id_of b)) refl
  where
    go : (v : ImageCheck) → check_of d (id_of b) ≡ v → is_sound v ≡ true → (bs : List Row) × Holds d bs
    go (Some v) e = λ t. (rows_held d, (check_says edition2 edition2_ok d (id_of b) bytes v.rows v.end v.held e).holds)
    go None e = λ t. absurd (false≢true t)

-- the ids of what was submitted are of version 7
done_ids : (d : List ℕ) (bs : List Row) (c : Descriptor) (clock verdict : ℕ) (window : Window) → Holds d bs → AreBytes (encode c) → Formed c
    → number_of (submitted d (encode c) clock verdict window) ≡ 0 → AreVersion7 c
done_ids d bs c clock verdict window h bytes q z =
    let all : List (Step ℕ) = steps_for (rows bs) (descriptor c) (length d) clock verdict window in
    let p : AllPass all = (order.pass_exactly ℕ all 0 (none_is itself 0 all refl)).0
    (sym (number_descriptor d clock verdict window bs c h bytes q) ∙ z) in
    (ids_exactly c bytes q).0 (and_left (version7_ids c) true (passed_by itself 1 all p))

-- `DoneMeans`
pub done_means : DoneMeans
done_means d b clock verdict window bytes a z =
    let p = done_passed d b clock verdict window (number_is (submitted d b clock verdict window) (Ok tt) z) in
    let r = body_read b a p.reads in
    let w = done_holds d b bytes p.sound in
    let mine : number_of (submitted d (encode r.0) clock verdict window) ≡ 0
    = sym (ap (λ (y : List ℕ). number_of (submitted d y clock verdict window)) r.2) ∙ z in
    (w, (r.0, r.1, r.2, r.3, done_ids d w.0 r.0 clock verdict window w.1 (subst AreBytes r.2 a) r.1.formed mine))

module _ (d b : List ℕ) (clock verdict : ℕ) (window : Window) (bs : List Row) (h : Holds d bs)
    (z : number_of (submitted d b clock verdict window) ≡ 0) where
  -- the answer is 0
  done : submitted d b clock verdict window ≡ (Ok tt)
  done = number_is (submitted d b clock verdict window) (Ok tt) z

  -- under an id that is held, it says that the same bytes are held
  repeat_same : (c : List ℕ) → body_with (id_of b) bs ≡ some c → c ≡ b
  repeat_same c held =
      let r : Repeat d (id_of b) bs c = check_repeat d (id_of b) bs c h held in
      let s : same (part d r.at r.len) b ≡ true
      = subst (λ (v : ImageCheck). agrees d b v ≡ true) r.found (done_passed d b clock verdict window done).same_bytes in
      sym r.body ∙ same_equal (part d r.at r.len) b s

  -- under a new id, it says that there is room beside the rows that are not expired, so that the choice of rows that go ends well
  stored_choice : body_with (id_of b) bs ≡ none → (choice_of edition2 (length d) clock bs (length b)).ok ≡ true
  stored_choice new =
      let found : check_of d (id_of b) ≡ contents (length bs) (length (image_of bs)) None = check_new d (id_of b) bs h new in
      let p : Passed d b clock = done_passed d b clock verdict window done in
      choice_exactly edition2 edition2_ok d clock bs (row_now b clock)
      ∙ ap (λ (l : List Row). has_room d (unexpired clock l) (row_now b clock)) (sym (rows_named edition2 edition2_ok d bs h))
      ∙ subst (λ (v : ImageCheck). (is_held v || has_room d (unexpired clock (rows_held d)) (row_now b clock)) ≡ true) found p.room

  -- the rows that stay
  abbrev pub kept_rows : List Row
  kept_rows = staying_of edition2 (length d) clock bs (length b)

  -- it leaves the buffer with the body added last to the rows that stay, which holds them and the new one
  pub stored_last : clock < 2 ^ 64 → body_with (id_of b) bs ≡ none
      → Holds (after_of d b clock verdict window) (kept_rows ++ (row_now b clock ∷ []))
      × (after_of d b clock verdict window ≡ with_body d kept_rows (row_now b clock))
  stored_last fits new =
      let found : check_of d (id_of b) ≡ contents (length bs) (length (image_of bs)) None = check_new d (id_of b) bs h new in
      let p : Passed d b clock = done_passed d b clock verdict window done in
      let dated : MomentOk edition2 (row_now b clock) = record { fits = fits } in
      let whole : after_of d b clock verdict window ≡ with_body d kept_rows (row_now b clock)
      = after_new_lem d b clock verdict window (ap is_held found) done
      ∙ ap (λ (l : List Row). with_body d (staying_of edition2 (length d) clock l (length b)) (row_now b clock))
      (rows_named edition2 edition2_ok d bs h) in (
        subst (λ (x : List ℕ). Holds x (kept_rows ++ (row_now b clock ∷ []))) (sym whole)
            (stored_holds edition2 edition2_ok d clock bs (row_now b clock) h p.reads (stored_choice new) new dated),
        whole,
      )

  -- the rows that go, and those that are left, which are those that stay
  pub stored_removal : body_with (id_of b) bs ≡ none → (goes : List Bool) × Removal edition2 d clock bs (row_now b clock) goes
      × (left goes bs ≡ kept_rows)
  stored_removal new =
      let r = choice_removal edition2 edition2_ok d clock bs (row_now b clock) (stored_choice new) in
      (goes_of (choice_of edition2 (length d) clock bs (length b)).marks, r.0, r.1)

  -- of the rows that stay each id finds what it found, or it found an expired body and finds none
  kept_finds : body_with (id_of b) bs ≡ none → (id : List ℕ) → HasAfter clock bs kept_rows id
  kept_finds new id =
      let r = stored_removal new in
      subst (λ (l : List Row). HasAfter clock bs l id) r.2
      (left_finds edition2 clock bs r.0 h.rows r.1.one_each r.1.due id)

  -- so the id of the body finds none
  kept_new : body_with (id_of b) bs ≡ none → body_with (id_of b) kept_rows ≡ none
  kept_new new = ⊎_elim {C = body_with (id_of b) kept_rows ≡ none} (λ e. e ∙ new) (λ e. e.0) (kept_finds new (id_of b))

  -- with the new row its id finds it, and every other one what it finds of those that stay
  pub stored_finds : body_with (id_of b) bs ≡ none
      → (body_with (id_of b) (kept_rows ++ (row_now b clock ∷ [])) ≡ some b)
      × ((id : List ℕ) → (id_of b ≡ id → ⊥) → HasAfter clock bs (kept_rows ++ (row_now b clock ∷ [])) id)
  stored_finds new = (
    (one_more edition2 edition2_ok).mine kept_rows (row_now b clock) (kept_new new),
    λ id o. let e = (one_more edition2 edition2_ok).others id kept_rows (row_now b clock) o in
        ⊎_elim {C = HasAfter clock bs (kept_rows ++ (row_now b clock ∷ [])) id} (λ f. inl (e ∙ f)) (λ f. inr (e ∙ f.0, f.1))
        (kept_finds new id),
  )

-- ---- the bodies after

-- what is so after a submission, by whether the buffer is as it was or a row was added
by_outcome : (P : List Row → Type 0) (d b : List ℕ) (clock verdict : ℕ) (window : Window) (bs : List Row) → Holds d bs
    → (after_of d b clock verdict window ≡ d → (number_of (submitted d b clock verdict window) ≡ 0 → body_with (id_of b) bs ≡ some b) → P bs)
    → (number_of (submitted d b clock verdict window) ≡ 0 → body_with (id_of b) bs ≡ none
    → P (staying_of edition2 (length d) clock bs (length b) ++ (row_now b clock ∷ [])))
    → (cs : List Row) × P cs
by_outcome P d b clock verdict window bs h kept added =
    go (body_with (id_of b) bs) (eqb (number_of (submitted d b clock verdict window)) 0) refl refl
  where
    go : (o : Option (List ℕ)) (t : Bool) → body_with (id_of b) bs ≡ o → eqb (number_of (submitted d b clock verdict window)) 0 ≡ t
        → (cs : List Row) × P cs
    go (some c) t e f = (
      bs,
      kept (repeat_keeps d b clock verdict window bs c h e) (λ z. e ∙ ap some (repeat_same d b clock verdict window bs h z c e)),
    )
    go none true e f = (
      staying_of edition2 (length d) clock bs (length b) ++ (row_now b clock ∷ []),
      added (eqb-true (number_of (submitted d b clock verdict window)) 0 f) e,
    )
    go none false e f =
        let n = eqb-false (number_of (submitted d b clock verdict window)) 0 f in
        (bs, kept (refusal_keeps d b clock verdict window n) (λ z. absurd (n z)))

-- `AfterHolds`
pub after_holds : AfterHolds
after_holds d b clock verdict window bs fits h =
    let w = by_outcome
    (λ (cs : List Row). Holds (after_of d b clock verdict window) cs
    × (number_of (submitted d b clock verdict window) ≡ 0 → body_with (id_of b) cs ≡ some b)
    × ((id : List ℕ) → (id_of b ≡ id → ⊥) → HasAfter clock bs cs id))
    d b clock verdict window bs h
    (λ e k. (subst (λ (x : List ℕ). Holds x bs) (sym e) h, k, λ id o. inl refl))
    (λ z new. let f = stored_finds d b clock verdict window bs h z new in
    ((stored_last d b clock verdict window bs h z fits new).0, λ i. f.0, f.1)) in
    (w.0, w.1.0, w.1.1, w.1.2)

-- ---- nothing that is not expired is lost

-- the rows that are not expired of two lists
unexpired_append : (clock : ℕ) (rs qs : List Row) → unexpired clock (rs ++ qs) ≡ unexpired clock rs ++ unexpired clock qs
unfolding unexpired
unexpired_append clock [] qs = refl
unexpired_append clock (r ∷ rs) qs = go (not (is_expired clock r)) (unexpired_append clock rs qs)
  where
    go : (t : Bool) → unexpired clock (rs ++ qs) ≡ unexpired clock rs ++ unexpired clock qs
        → keep t r (unexpired clock (rs ++ qs)) ≡ keep t r (unexpired clock rs) ++ unexpired clock qs
    go true e = ap (λ (l : List Row). r ∷ l) e
    go false e = e

-- `UnexpiredKept`
pub unexpired_kept : UnexpiredKept
unexpired_kept d b clock verdict window bs fits h =
    let w = by_outcome
    (λ (cs : List Row). Holds (after_of d b clock verdict window) cs
    × ((unexpired clock cs ≡ unexpired clock bs) ⊎ (unexpired clock cs ≡ unexpired clock bs ++ unexpired clock (row_now b clock ∷ []))))
    d b clock verdict window bs h
    (λ e k. (subst (λ (x : List ℕ). Holds x bs) (sym e) h, inl refl))
    (λ z new. (
      (stored_last d b clock verdict window bs h z fits new).0,
      inr (unexpired_append clock (staying_of edition2 (length d) clock bs (length b)) (row_now b clock ∷ [])
          ∙ ap (λ (l : List Row). l ++ unexpired clock (row_now b clock ∷ [])) (unexpired_stay edition2 edition2_ok d clock bs (row_now b clock))),
    )) in
    (w.0, w.1.0, w.1.1)
