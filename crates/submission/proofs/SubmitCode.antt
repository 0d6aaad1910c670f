-- Laws that the proofs of the code apply: what the tests and calls of the code say of the definitions of specs/Code.antt.
-- Assumes nothing.
use mathlib.Core.Path.{◌≡◌, refl, sym, ap, ap₂, ◌∙◌, subst}
use mathlib.Core.Bool.{Bool, true, false, not, cond, ◌&&◌}
use mathlib.Core.List.{List}
use mathlib.Core.Option.{Option as Maybe, none, some}
use Prim.Native.Nat.{ℕ, ◌+◌, ◌-◌, ◌≤◌, ◌<◌}
use native.Mathlib.Omega.{arith}
use lib.ListN.{length, take, drop, replicate}
use lib.Dec.{ltb}
use borrow.Author.Tests.{ltb-true, ltb-false, le-leb, lt-leb, eq-eqb, ne_eqb, not-true, not-false}
use Rattle.time.specs.declared.Seconds.{Seconds}
use Rattle.time.specs.Time.{seconds, plus_at_most}
use Rattle.octets.specs.Bytes.{AreBytes, part, same}
use Rattle.resource_spec.specs.Identifier.{fay_size, terminal_size}
use Rattle.uuid_spec.specs.Version7.{is_version7, is_version7_text}
use Rattle.descriptor_spec.specs.declared.Fields.{Fields}
use Rattle.descriptor_spec.specs.Reading.{Reading}
use Rattle.descriptor_spec.specs.declared.ReadError.{ReadError}
use Rattle.descriptor_spec.specs.declared.ReadError.TheVariants.{Structure}
use Rattle.std.specs.Prelude.{Option, Some, None, Result, Ok, Err}
use Rattle.descriptor_spec.specs.Reader.{Seen, formed_in}
use Rattle.descriptor_spec.specs.Code.{fields_of, form_of, within_period}
use Rattle.descriptor_spec.proofs.Laws.{formed_bounds}
use Rattle.steps.specs.declared.Window.{Window}
use Rattle.steps.specs.Key.{is_verdict, is_that, key_open}
use Rattle.image_spec.specs.declared.StoredBody.{StoredBody}
use Rattle.image_spec.specs.declared.Contents.{Contents}
use Rattle.image_spec.specs.declared.AddError.{AddError}
use Rattle.image_spec.specs.declared.AddError.TheVariants.{Full}
use Rattle.image_spec.specs.declared.Room.{Room}
use Rattle.image_spec.specs.Layout.{edition2}
use Rattle.image_spec.specs.Image.{reading, id_in, id_of}
use Rattle.image_spec.specs.Grow.{fits, grown}
use Rattle.image_spec.specs.Grow as grow
use Rattle.image_spec.specs.Choose.{room_of, after_room}
use Rattle.image_spec.specs.Edition2.{check_of, added_of, after_add}
use Rattle.image_spec.specs.Laws.{HeldFits}
use Rattle.image_spec.proofs.Laws.{edition2_ok, read_in, check_says, check_unsound}
use Rattle.descriptor_spec.specs.Allowed.{id_size}
use Rattle.octets.proofs.PartLaws.{lent_part, lent_later}
use Rattle.submission_spec.specs.declared.Refusal.{Refusal}
use Rattle.submission_spec.specs.declared.Refusal.TheVariants as answers
use Rattle.submission_spec.specs.Submission.{Submission}
use Rattle.submission.specs.declared.choose.Store.{Store}
use Rattle.submission.specs.Code.{Choice}
use Rattle.submission_spec.specs.Submission.{fay_text, terminal_text, ids_in, entering_by, entering, longest_lead}
use Rattle.submission_spec.proofs.Laws.{entering_reads}
use Rattle.submission.specs.Code.{IdsFit, admitted, place_in, placed_by, placed, when_admitted, refusal_of, chosen_read, chosen_unread, chosen_by, choice_of}
use Rattle.submission.specs.Code.{stored_as, stored_in, after_in, stored_after_removal, after_removal, stored_or, after_or, stored_of, after_store}

-- ---- the beginning, the issuer, the key and the signature

-- by whether the latest beginning is before a descriptor's, that is more than a day ahead, or not
module _ (before clock latest : Seconds) (e : latest ≡ plus_at_most clock (seconds longest_lead) before) {t : Bool}
    (k : t ≡ ltb latest.0 before.0) where
  pub begins_late : t ≡ true → clock.0 + longest_lead < before.0
  unfolding plus_at_most
  begins_late f = omega (arith, ap (λ (x : Seconds). x.0) e, ltb-true latest.0 before.0 (sym k ∙ f))

  pub begins_soon : t ≡ false → before.0 ≤ clock.0 + longest_lead
  unfolding plus_at_most
  begins_soon f = omega (arith, ap (λ (x : Seconds). x.0) e, ltb-false latest.0 before.0 (sym k ∙ f))

-- a descriptor that begins more than a day ahead is refused
pub admit_late : (before clock verdict : ℕ) (window : Window) → clock + longest_lead < before
    → Err answers.Validity ≡ admitted before clock verdict window
unfolding admitted
admit_late before clock verdict window h = rw (lt-leb before (clock + longest_lead) h)

module _ (before clock verdict : ℕ) (window : Window) (h : before ≤ clock + longest_lead) where
  -- where there is no such key the issuer is unknown
  pub admit_issuer : verdict ≡ 2 → Err answers.UnknownIssuer ≡ admitted before clock verdict window
  unfolding admitted is_that
  admit_issuer e = rw (le-leb before (clock + longest_lead) h, eq-eqb verdict 2 e)

  module _ (n : verdict ≡ 2 → ⊥) (opens : Bool) (k : opens ≡ key_open window clock) where
    -- a key whose window the clock is not in is refused
    pub admit_key : not opens ≡ true → Err answers.KeyInvalid ≡ admitted before clock verdict window
    unfolding admitted is_that
    admit_key t = rw (le-leb before (clock + longest_lead) h, ne_eqb verdict 2 n, sym k ∙ not-true opens t)

    -- a bad signature is refused
    pub admit_bad : not opens ≡ false → verdict ≡ 1 → Err answers.BadSignature ≡ admitted before clock verdict window
    unfolding admitted is_that
    admit_bad t e = rw (le-leb before (clock + longest_lead) h, ne_eqb verdict 2 n, sym k ∙ not-false opens t, eq-eqb verdict 1 e)

    -- else all pass
    pub admit_all : not opens ≡ false → (verdict ≡ 1 → ⊥) → Ok tt ≡ admitted before clock verdict window
    unfolding admitted is_that
    admit_all t e = rw (le-leb before (clock + longest_lead) h, ne_eqb verdict 2 n, sym k ∙ not-false opens t, ne_eqb verdict 1 e)

-- ---- a body that is held, and one that is not

-- the body that is held lies in the image
pub held_room : (d : List ℕ) (h : Option StoredBody) (x : StoredBody) → HeldFits d h → h ≡ Some x → x.at + x.len ≤ length d
held_room d h x k e = (subst (HeldFits d) e k).0

module _ (d b : List ℕ) (v : Contents) (f : Fields) where
  -- by what is held under the id
  placed_at : (h : Option StoredBody) → v.held ≡ h → placed_by d b (place_in v f) h ≡ placed d b v f
  unfolding placed
  placed_at h e = ap (placed_by d b (place_in v f)) (sym e)

  module _ (x : StoredBody) (e : v.held ≡ Some x) (t : Bool) (k : t ≡ same (take (x.at + x.len - x.at) (drop x.at d)) b) where
    -- the bytes that the code compares are those of the body that is held
    same_held : same (part d x.at x.len) b ≡ t
    same_held = sym (k ∙ ap (λ (y : List ℕ). same y b) (lent_part d x.at x.len))

    -- the same bytes are held: nothing is to be stored
    pub place_same : t ≡ true → Ok None ≡ placed d b v f
    place_same u = sym (rw (same_held ∙ u)) ∙ placed_at (Some x) e

    -- other bytes are held under the id
    pub place_other : t ≡ false → Err answers.Duplicate ≡ placed d b v f
    place_other u = sym (rw (same_held ∙ u)) ∙ placed_at (Some x) e

  -- no body has the id: it is to be stored
  pub place_store : v.held ≡ None → Ok (Some (place_in v f)) ≡ placed d b v f
  place_store e = placed_at None e

-- ---- by the check of the image

module _ (d b : List ℕ) (clock verdict : ℕ) (window : Window) (f : Fields) (v : Option Contents) where
  -- an image that is not sound is refused
  pub read_unsound : v ≡ None → Err answers.BadImage ≡ chosen_read d b clock verdict window f v
  unfolding chosen_read
  read_unsound e = sym (ap (chosen_read d b clock verdict window f) e)

  module _ (w : Contents) (e : v ≡ Some w) (a : Submission) (k : a ≡ admitted f.not_before.0 clock verdict window) where
    -- in a sound image it is placed, if it is admitted
    read_sound : chosen_read d b clock verdict window f v ≡ when_admitted a (placed d b w f)
    unfolding chosen_read
    read_sound =
        ap (chosen_read d b clock verdict window f) e
        ∙ ap (λ (x : Submission). when_admitted x (placed d b w f)) (sym k)

    -- a refusal is the answer
    pub read_refused : (x : Refusal) → a ≡ Err x → Err x ≡ chosen_read d b clock verdict window f v
    read_refused x u = sym (read_sound ∙ ap (λ (y : Submission). when_admitted y (placed d b w f)) u)

    -- what is admitted is placed
    pub read_placed : (r : Choice) (u : Unit) → a ≡ Ok u → r ≡ placed d b w f → r ≡ chosen_read d b clock verdict window f v
    read_placed r u h p = p ∙ sym (read_sound ∙ ap (λ (y : Submission). when_admitted y (placed d b w f)) h)

module _ (d id : List ℕ) (error : ReadError) (v : Option Contents) (e : v ≡ check_of d id) where
  -- what is answered of a body that does not read, in a sound image
  pub unread_sound : (w : Contents) → v ≡ Some w → refusal_of error ≡ chosen_unread error (check_of d id)
  unfolding chosen_unread
  unread_sound w u = ap (chosen_unread error) (sym u ∙ e)

  -- in an image that is not sound that comes first
  pub unread_unsound : v ≡ None → answers.BadImage ≡ chosen_unread error (check_of d id)
  unfolding chosen_unread
  unread_unsound u = ap (chosen_unread error) (sym u ∙ e)

-- ---- what is answered of the body

-- the three ids of a descriptor that is seen lie in the body
pub ids_room : (b : List ℕ) (o : Option Fields) (f : Fields) → o ≡ form_of (formed_in b) → o ≡ Some f → IdsFit b f
ids_room b o f k e = go (formed_in b) refl (sym k ∙ e)
  where
    same_fields : (x y : Fields) → Some x ≡ Some y → x ≡ y
    same_fields x y g = cc

    go : (x : Maybe Seen) → formed_in b ≡ x → form_of x ≡ Some f → IdsFit b f
    go (some v) g = λ t.
        let p = (formed_bounds b v g).1 in
        subst (IdsFit b) (same_fields (fields_of v) f t) (record { id = p.id; fay = p.fay; terminal = p.terminal })
    go none g = λ t. absurd (let z : ◌≡◌ {A = ℕ} 0 1 = cc in omega arith)

-- the answers of the three tests are that of the ids
pub ids_tested : (b : List ℕ) (f : Fields) (i n t : Bool) → i ≡ is_version7 (take (f.id + id_size - f.id) (drop f.id b))
    → n ≡ is_version7_text (take (f.fay + fay_size - (f.fay + fay_text)) (drop (f.fay + fay_text) b))
    → t ≡ is_version7_text (take (f.terminal + terminal_size - (f.terminal + terminal_text)) (drop (f.terminal + terminal_text) b))
    → (i && (n && t)) ≡ ids_in b f
unfolding ids_in
ids_tested b f i n t e g h =
    ap₂ (λ (x y : Bool). x && y) (e ∙ ap is_version7 (lent_part b f.id id_size))
    (ap₂ (λ (x y : Bool). x && y)
    (g ∙ ap is_version7_text (lent_later b f.fay fay_size fay_text))
    (h ∙ ap is_version7_text (lent_later b f.terminal terminal_size terminal_text)))

module _ (b : List ℕ) (o : Option Fields) (k : o ≡ form_of (formed_in b)) where
  -- no descriptor is seen
  pub entering_none : o ≡ None → (Err Structure) ≡ entering b
  unfolding entering
  entering_none e = ap (entering_by b) (sym e ∙ k)

  module _ (f : Fields) (e : o ≡ Some f) (t : Bool) (ids : t ≡ ids_in b f) where
    -- what is answered, by the test of the ids
    by_ids : entering b ≡ cond t (within_period f) (Err Structure)
    unfolding entering
    by_ids = sym (ap (entering_by b) (sym e ∙ k)) ∙ ap (λ (x : Bool). cond x (within_period f) (Err Structure)) (sym ids)

    -- an id is not of version 7
    pub entering_refused : not t ≡ true → (Err Structure) ≡ entering b
    entering_refused n = sym (by_ids ∙ rw (not-true t n))

    -- all are: the period decides
    pub entering_passed : not t ≡ false → (r : Reading) → r ≡ within_period f → r ≡ entering b
    entering_passed n r p = p ∙ sym (by_ids ∙ rw (not-false t n))

-- ---- what is to be done

-- the id that was read lies in the body
pub id_room : (b : List ℕ) (o : Reading) (f : Fields) → o ≡ entering b → o ≡ Ok f → f.id + id_size ≤ length b
id_room b o f k e = (read_in b f (entering_reads b f (sym k ∙ e))).id

-- it is the body's
id_read : (b : List ℕ) (f : Fields) → reading b ≡ Ok f → part b f.id id_size ≡ id_of b
unfolding id_of
id_read b f e = ap (id_in b) (sym e)

-- whether an image is sound does not depend on the id that is looked for
unread_alike : (d : List ℕ) (error : ReadError) (x y : List ℕ) → AreBytes d
    → chosen_unread error (check_of d x) ≡ chosen_unread error (check_of d y)
unfolding chosen_unread
unread_alike d error x y bytes = go (check_of d x) (check_of d y) refl refl
  where
    go : (v w : Option Contents) → check_of d x ≡ v → check_of d y ≡ w → chosen_unread error v ≡ chosen_unread error w
    go (Some v) (Some w) e f = refl
    go None None e f = refl
    go (Some v) None e f =
        absurd ((check_unsound edition2 edition2_ok d y bytes).0 f _ (check_says edition2 edition2_ok d x bytes v.rows v.end v.held e).holds)
    go None (Some w) e f =
        absurd ((check_unsound edition2 edition2_ok d x bytes).0 e _ (check_says edition2 edition2_ok d y bytes w.rows w.end w.held f).holds)

-- a verdict that is none of the three is refused
pub choice_malformed : (d b : List ℕ) (clock verdict : ℕ) (window : Window) → 2 < verdict
    → Err answers.Malformed ≡ choice_of d b clock verdict window
unfolding choice_of is_verdict
choice_malformed d b clock verdict window h = rw (lt-leb verdict 2 h)

module _ (d b : List ℕ) (clock verdict : ℕ) (window : Window) (h : verdict ≤ 2) (o : Reading) (k : o ≡ entering b) where
  -- what is to be done, by what is answered of the body
  choice_by : (x : Reading) → o ≡ x → chosen_by d b clock verdict window x (check_of d (id_of b)) ≡ choice_of d b clock verdict window
  unfolding choice_of is_verdict
  choice_by x e = ap (λ (y : Reading). chosen_by d b clock verdict window y (check_of d (id_of b))) (sym e ∙ k) ∙ rw (le-leb verdict 2 h)

  -- a body that enters
  pub choice_read : (f : Fields) (v : Option Contents) (r : Choice) → o ≡ Ok f → v ≡ check_of d (take (f.id + id_size - f.id) (drop f.id b))
      → r ≡ chosen_read d b clock verdict window f v → r ≡ choice_of d b clock verdict window
  choice_read f v r e s p =
      p
      ∙ ap (chosen_read d b clock verdict window f)
      (s ∙ ap (check_of d) (lent_part b f.id id_size ∙ id_read b f (entering_reads b f (sym k ∙ e))))
      ∙ choice_by (Ok f) e

  -- a body that does not read
  pub choice_unread : AreBytes d → (error : ReadError) (r : Refusal) → o ≡ Err error
      → r ≡ chosen_unread error (check_of d (replicate id_size 0)) → Err r ≡ choice_of d b clock verdict window
  choice_unread bytes error r e p =
      ap Err (p ∙ unread_alike d error (replicate id_size 0) (id_of b) bytes) ∙ choice_by (Err error) e

-- ---- storing the body

module _ (d b : List ℕ) (p : Store) (clock : ℕ) where
  module _ (o : Option Room) (d₁ : List ℕ)
      (e : (o ≡ room_of edition2 d p.rows p.end clock (length b)) × (d₁ ≡ after_room edition2 d p.rows p.end clock (length b))) where
    -- room was made: the body is added after the rows that stay
    pub removal_made : (m : Room) → o ≡ Some m → (a : Result Unit AddError) (d₂ : List ℕ)
        → (a ≡ added_of d₁ m.rows m.end b p.id) × (d₂ ≡ after_add d₁ m.rows m.end b p.id p.mask clock) → (r : Submission) → r ≡ stored_as a
        → (r ≡ stored_after_removal d b p clock) × (d₂ ≡ after_removal d b p clock)
    unfolding stored_after_removal after_removal
    removal_made m u a d₂ k r g = (
      g ∙ ap stored_as k.0 ∙ ap₂ (λ (x : List ℕ) (y : Option Room). stored_in x b p.id y) e.1 (sym u ∙ e.0),
      k.1 ∙ ap₂ (λ (x : List ℕ) (y : Option Room). after_in x b p.id p.mask clock y) e.1 (sym u ∙ e.0),
    )

    -- no room was made
    pub removal_none : o ≡ None → (Err answers.Full ≡ stored_after_removal d b p clock) × (d₁ ≡ after_removal d b p clock)
    unfolding stored_after_removal after_removal
    removal_none u = (
      ap₂ (λ (x : List ℕ) (y : Option Room). stored_in x b p.id y) e.1 (sym u ∙ e.0),
      ap₂ (λ (x : List ℕ) (y : Option Room). after_in x b p.id p.mask clock y) e.1 (sym u ∙ e.0),
    )

  -- a body that cannot be added leaves the buffer as it was
  full_keeps : (x : AddError) → added_of d p.rows p.end b p.id ≡ Err x → after_add d p.rows p.end b p.id p.mask clock ≡ d
  unfolding grow.added_of grow.after_add
  full_keeps x = go (fits edition2 d p.rows p.end b p.id) (grown edition2 d p.rows p.end b p.id p.mask clock)
    where
      go : (t : Bool) (larger : List ℕ) → ◌≡◌ {A = Result (Unit {0}) AddError} (cond t (Ok tt) (Err Full)) (Err x) → cond t larger d ≡ d
      go true larger u = ap (after_or larger d) u
      go false larger u = refl

  module _ (a : Result Unit AddError) (d₁ : List ℕ)
      (e : (a ≡ added_of d p.rows p.end b p.id) × (d₁ ≡ after_add d p.rows p.end b p.id p.mask clock)) where
    -- the body was added as it is
    pub store_fits : (u : Unit) → a ≡ Ok u → (Ok tt ≡ stored_of d b p clock) × (d₁ ≡ after_store d b p clock)
    unfolding stored_of after_store
    store_fits t u = (
      ap (stored_or (stored_after_removal d b p clock)) (sym u ∙ e.0),
      e.1 ∙ ap (after_or (after_add d p.rows p.end b p.id p.mask clock) (after_removal d b p clock)) (sym u ∙ e.0),
    )

    -- it was not: expired rows are removed first
    pub store_removes : (x : AddError) → a ≡ Err x → (r : Submission) (d₂ : List ℕ)
        → (r ≡ stored_after_removal d₁ b p clock) × (d₂ ≡ after_removal d₁ b p clock)
        → (r ≡ stored_of d b p clock) × (d₂ ≡ after_store d b p clock)
    unfolding stored_of after_store
    store_removes x u r d₂ k =
        let full : Err x ≡ added_of d p.rows p.end b p.id = sym u ∙ e.0 in
        let same-buffer : d₁ ≡ d = e.1 ∙ full_keeps x (sym full) in (
          k.0 ∙ ap (λ (y : List ℕ). stored_after_removal y b p clock) same-buffer
              ∙ ap (stored_or (stored_after_removal d b p clock)) full,
          k.1 ∙ ap (λ (y : List ℕ). after_removal y b p clock) same-buffer
              ∙ ap (after_or (after_add d p.rows p.end b p.id p.mask clock) (after_removal d b p clock)) full,
        )
