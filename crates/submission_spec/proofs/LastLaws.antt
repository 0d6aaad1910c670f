-- The last two steps, what they leave in the buffer and what a lookup then finds, in document 01's numbers (specs/Promises.antt).
-- Assumes nothing.
use mathlib.Core.Path.{◌≡◌, refl, sym, ap, ◌∙◌, subst}
use mathlib.Core.Logic.{◌⊎◌, inl, inr, ⊎_elim}
use mathlib.Core.Bool.{Bool, true, false, not, ◌&&◌, false≢true}
use mathlib.Core.List.{List, [], ◌∷◌}
use mathlib.Core.Option.{Option, none, some}
use Prim.Native.Nat.{ℕ, ◌+◌, ◌-◌, ◌≤◌, ◌<◌}
use native.Mathlib.Omega.{arith}
use lib.ListN.{length, length-append}
use lib.Dec.{leb}
use borrow.Author.Tests.{lt-ltb, le-ltb, le-leb, lt-leb}
use Rattle.std.specs.Prelude.{IfSome, None, Some}
use Rattle.std.specs.Option.{option_map_or}
use Rattle.octets.specs.Bytes.{part, same}
use Rattle.descriptor_spec.specs.Model.{Descriptor, encode}
use Rattle.descriptor_spec.specs.Reading.{Reading}
use Rattle.steps.specs.declared.Window.{Window}
use Rattle.steps.specs.Order.{Step}
use Rattle.steps.specs.Laws.{all_pass, fails_by}
use Rattle.steps.proofs.Laws.{passed_end, all_pass_lem, failed_by}
use Rattle.image_spec.specs.declared.StoredNumbers.{StoredNumbers}
use Rattle.descriptor_spec.specs.Allowed.{id_size}
use Rattle.image_spec.specs.Layout.{edition2}
use Rattle.image_spec.specs.Image.{Row, reading, id_of, body_with}
use Rattle.image_spec.specs.Choose.{end_in, end_of, is_expired, unexpired, staying_of}
use Rattle.image_spec.specs.Close.{keep}
use Rattle.image_spec.specs.Removal.{left, Removal}
use Rattle.image_spec.specs.Check.{numbers_of}
use Rattle.image_spec.specs.Grow as grow
use Rattle.image_spec.specs.Readable.{Holds as Readable, find_of}
use Rattle.image_spec.specs.Edition2.{image_of, Holds, has_room}
use Rattle.image_spec.specs.Promises.{refusal, FoundAt}
use Rattle.octets.proofs.SameLaws.{same_equal, equal_same, not_same}
use Rattle.image_spec.proofs.Promises.{rows_in_turn, lookup_exactly, readable_exactly}
use Rattle.image_spec.proofs.Laws.{edition2_ok, encoding_read, choice_exactly, fits_none_goes}
use Rattle.image_spec.proofs.Laws as laws
use Rattle.submission_spec.specs.Submission.{row_now, submitted, after_of, number_of}
use Rattle.submission_spec.specs.Promises.{rows, descriptor, version7_ids, steps_for, Gives, larger, written, room_for, Ready, LastSteps}
use Rattle.submission_spec.specs.Promises.{RoomKeepsAll, RoomExactly, ExpiredExactly, UnexpiredExactly, RemovalOnce}
use Rattle.submission_spec.specs.Promises.{StoredFound, FoundAlike, RemovedFrom, OthersFound, HeldFound, LeadBoundary, RowBoundary}
use Rattle.submission_spec.proofs.IdLaws.{ids_exactly}
use Rattle.submission_spec.proofs.NumberLaws.{itself, number_descriptor}
use Rattle.submission_spec.proofs.StoredLaws.{refusal_keeps, repeat_keeps, stored_last, stored_removal, after_holds}

-- ---- the last two steps

-- the clock is in the key's window
key_opens : (window : Window) (clock : ℕ) → window.from.0 ≤ clock → IfSome window.until (λ until. clock ≤ until.0)
    → (leb window.from.0 clock && option_map_or (λ until. leb clock until.0) window.until true) ≡ true
key_opens window clock f u =
    rw (le-leb window.from.0 clock f)
    (elim window.until as (λ o. IfSome o (λ until. clock ≤ until.0) → option_map_or (λ until. leb clock until.0) o true ≡ true) [
      | None ↦ λ u. refl
      | Some until ↦ λ u. le-leb clock until.0 u
    ] u)

module _ (d : List ℕ) (bs : List Row) (c : Descriptor) (clock : ℕ) (window : Window) (r : Ready d bs c clock window) where
  -- the steps
  abbrev all : List (Step ℕ)
  all = steps_for (rows bs) (descriptor c) (length d) clock 0 window

  -- the number is that of a step that fails, where those before it pass
  fails_with : (n : ℕ) → fails_by itself n all ≡ true → number_of (submitted d (encode c) clock 0 window) ≡ n
  fails_with n e = number_descriptor d clock 0 window bs c r.holds r.bytes r.allowed.formed ∙ failed_by itself n all 0 e

  -- it is 0 where every step passes
  all_passed : all_pass all ≡ true → number_of (submitted d (encode c) clock 0 window) ≡ 0
  all_passed e = number_descriptor d clock 0 window bs c r.holds r.bytes r.allowed.formed ∙ passed_end all 0 (all_pass_lem all e)

  -- the step of the ids passes
  real : version7_ids c ≡ true
  real = (ids_exactly c r.bytes r.allowed.formed).1 r.ids

  -- so does that of the period
  short : leb (c.payload.not_after - c.payload.not_before) 7776000 ≡ true
  short = le-leb (c.payload.not_after - c.payload.not_before) 7776000 r.allowed.period

  -- the id of the descriptor's encoding
  id_of_lem : id_of (encode c) ≡ c.payload.id
  id_of_lem = (encoding_read c r.bytes r.allowed).3

  -- a descriptor that begins too late gives 2
  late : clock + 86400 < c.payload.not_before → Gives d (encode c) clock 0 window 2 d
  late l =
      let e : number_of (submitted d (encode c) clock 0 window) ≡ 2 = fails_with 2 (rw (real, short, lt-leb c.payload.not_before (clock + 86400) l)) in
      (e, refusal_keeps d (encode c) clock 0 window (λ z. omega arith))

  module _ (l : c.payload.not_before ≤ clock + 86400) where
    -- the step of the beginning passes
    early : leb c.payload.not_before (clock + 86400) ≡ true
    early = le-leb c.payload.not_before (clock + 86400) l

    -- so does that of the key
    open_key : (leb window.from.0 clock && option_map_or (λ until. leb clock until.0) window.until true) ≡ true
    open_key = key_opens window clock r.opened r.lasts

    -- the same bytes are held
    same_held : body_with c.payload.id bs ≡ some (encode c) → Gives d (encode c) clock 0 window 0 d
    same_held e = (
      all_passed (rw (real, short, early, open_key, e, equal_same (encode c) (encode c) refl)),
      repeat_keeps d (encode c) clock 0 window bs (encode c) r.holds (ap (λ (id : List ℕ). body_with id bs) id_of_lem ∙ e),
    )

    -- other bytes are held
    other_held : (b : List ℕ) → body_with c.payload.id bs ≡ some b → (b ≡ encode c → ⊥) → Gives d (encode c) clock 0 window 5 d
    other_held b e o =
        let q : number_of (submitted d (encode c) clock 0 window) ≡ 5
        = fails_with 5 (rw (real, short, early, open_key, e, not_same b (encode c) o)) in
        (q, refusal_keeps d (encode c) clock 0 window (λ z. omega arith))

    module _ (e : body_with c.payload.id bs ≡ none) where
      -- there is no room beside the rows that are not expired
      no_room : room_for (length d) (unexpired clock bs) (row_now (encode c) clock) ≡ false → Gives d (encode c) clock 0 window 6 d
      no_room f =
          let q : number_of (submitted d (encode c) clock 0 window) ≡ 6 = fails_with 6 (rw (real, short, early, open_key, e, f)) in
          (q, refusal_keeps d (encode c) clock 0 window (λ z. omega arith))

      module _ (room : room_for (length d) (unexpired clock bs) (row_now (encode c) clock) ≡ true) where
        -- every step passes
        stored : number_of (submitted d (encode c) clock 0 window) ≡ 0
        stored = all_passed (rw (real, short, early, open_key, e, room))

        -- the id of the body is new
        new : body_with (id_of (encode c)) bs ≡ none
        new = ap (λ (id : List ℕ). body_with id bs) id_of_lem ∙ e

        -- the body is stored
        stores : (goes : List Bool) × Removal edition2 d clock bs (row_now (encode c) clock) goes
            × Gives d (encode c) clock 0 window 0 (written d (larger (left goes bs) c clock))
            × Holds (after_of d (encode c) clock 0 window) (larger (left goes bs) c clock)
        unfolding grow.with_body
        stores =
            let g = stored_removal d (encode c) clock 0 window bs r.holds stored new in
            let k = stored_last d (encode c) clock 0 window bs r.holds stored r.held new in (
              g.0,
              g.1,
              (stored, k.1 ∙ ap (λ (l : List Row). written d (larger l c clock)) (sym g.2)),
              subst (λ (l : List Row). Holds (after_of d (encode c) clock 0 window) (larger l c clock)) (sym g.2) k.0,
            )

-- where there is room beside all rows there is room beside those that are not expired, and none goes
module _ (d : List ℕ) (bs : List Row) (c : Descriptor) (clock : ℕ) (room : room_for (length d) bs (row_now (encode c) clock) ≡ true) where
  all_fit : has_room d bs (row_now (encode c) clock) ≡ true
  unfolding grow.has_room
  all_fit = room

  none_goes : staying_of edition2 (length d) clock bs (length (encode c)) ≡ bs
  none_goes = (fits_none_goes edition2 edition2_ok d clock bs (row_now (encode c) clock) all_fit).0

  rest_fit : room_for (length d) (unexpired clock bs) (row_now (encode c) clock) ≡ true
  unfolding grow.has_room
  rest_fit = sym (choice_exactly edition2 edition2_ok d clock bs (row_now (encode c) clock))
      ∙ (fits_none_goes edition2 edition2_ok d clock bs (row_now (encode c) clock) all_fit).1

-- `RoomKeepsAll`
pub room_keeps_all : RoomKeepsAll
unfolding grow.with_body
room_keeps_all d bs c clock window r l e room =
    let f = rest_fit d bs c clock room in
    let z = stored d bs c clock window r l e f in
    let k = stored_last d (encode c) clock 0 window bs r.holds z r.held (new d bs c clock window r l e f) in
    let n = none_goes d bs c clock room in (
      (z, k.1 ∙ ap (λ (q : List Row). written d (larger q c clock)) n),
      subst (λ (q : List Row). Holds (after_of d (encode c) clock 0 window) (larger q c clock)) n k.0,
    )

-- `LastSteps`
pub last_steps : LastSteps
last_steps = record {
  same_held = same_held;
  other_held = other_held;
  no_room = no_room;
  stores = stores;
}

-- `LeadBoundary`
pub lead_boundary : LeadBoundary
lead_boundary d bs c clock window r e room = (
  λ q. let k = room_keeps_all d bs c clock window r (omega arith) e room in (k.0.0, k.1),
  λ q. late d bs c clock window r (omega arith),
)

-- `RowBoundary`
pub row_boundary : RowBoundary
row_boundary d bs c clock window r l e room = (
  λ q. let fit : room_for (length d) bs (row_now (encode c) clock) ≡ true
      = rw (lt-ltb (length bs) 1024 (omega arith), le-leb (length (image_of (larger bs c clock))) (length d) room) in
      let k = room_keeps_all d bs c clock window r l e fit in
      (k.0.0, k.1, omega (arith, length-append bs (row_now (encode c) clock ∷ []))),
  λ q n. no_room d bs c clock window r l e
      (ap (λ (x : List Row). room_for (length d) x (row_now (encode c) clock)) n ∙ rw (le-ltb (length bs) 1024 (omega arith))),
)

-- ---- room, and the rows that may go for it

-- `RoomExactly`
pub room_exactly : RoomExactly
unfolding grow.has_room
room_exactly d rs new = refl

-- `ExpiredExactly`
pub expired_exactly : ExpiredExactly
unfolding is_expired end_of
expired_exactly clock r c bytes a e =
    let f = encoding_read c bytes a in
    ap (λ (b : List ℕ). leb (end_in (reading b)) clock) e
    ∙ ap (λ (x : Reading). leb (end_in x) clock) f.1
    ∙ ap (λ (n : ℕ). leb n clock) f.4

-- `UnexpiredExactly`
pub unexpired_exactly : UnexpiredExactly
unfolding unexpired
unexpired_exactly clock = (
  refl,
  λ r rs e. ap (λ (t : Bool). keep (not t) r (unexpired clock rs)) e,
  λ r rs e. ap (λ (t : Bool). keep (not t) r (unexpired clock rs)) e,
)

-- `RemovalOnce`
pub removal_once : RemovalOnce
removal_once = laws.removal_once edition2 edition2_ok

-- ---- what a lookup then finds

-- a buffer that holds rows in edition 2 may be read
readable : (d : List ℕ) (bs : List Row) → Holds d bs → Readable d bs
readable d bs h = (readable_exactly d bs).1 (inr h)

-- an id has 16 bytes
id_long : (b : List ℕ) → length (id_of b) ≡ 16
id_long = rows_in_turn.4

-- `StoredFound`
pub stored_found : StoredFound
stored_found d b clock verdict window bs fits h e =
    let w = after_holds d b clock verdict window bs fits h in
    let after : List ℕ = after_of d b clock verdict window in
    lookup_exactly.held after (id_of b) w.0 b (id_long b) (readable after w.0 w.1) (w.2 e)

-- buffers in which the id has the same body, or none, are alike
same_body : (s d id : List ℕ) (cs bs : List Row) → Holds s cs → Holds d bs → length id ≡ id_size → body_with id cs ≡ body_with id bs
    → FoundAlike s d id
unfolding part
same_body s d id cs bs k h l e = go (body_with id bs) refl
  where
    go : (o : Option (List ℕ)) → body_with id bs ≡ o → FoundAlike s d id
    go none f =
        let n : numbers_of (find_of s id) ≡ refusal 7 = lookup_exactly.not_held s id cs l (readable s cs k) (e ∙ f) in
        let m : numbers_of (find_of d id) ≡ refusal 7 = lookup_exactly.not_held d id bs l (readable d bs h) f in (
          ap (λ (q : StoredNumbers). q.answer) (n ∙ sym m),
          ap (λ (q : StoredNumbers). part s q.body_at q.body_len) n
              ∙ sym (ap (λ (q : StoredNumbers). part d q.body_at q.body_len) m),
        )
    go (some y) f =
        let n = lookup_exactly.held s id cs y l (readable s cs k) (e ∙ f) in
        let m = lookup_exactly.held d id bs y l (readable d bs h) f in
        (n.answer ∙ sym m.answer, n.bytes ∙ sym m.bytes)

-- an id that had an expired body, and has none, was removed
removed : (d id : List ℕ) (bs : List Row) (after : List ℕ) (cs : List Row) (clock : ℕ) → Holds d bs → Holds after cs → length id ≡ id_size
    → (body_with id cs ≡ none) × ((c : List ℕ) × (body_with id bs ≡ some c) × (end_of c ≤ clock)) → RemovedFrom clock after d id
unfolding is_expired
removed d id bs after cs clock h k l e = (
  lookup_exactly.not_held after id cs l (readable after cs k) e.0,
  (e.1.0, lookup_exactly.held d id bs e.1.0 l (readable d bs h) e.1.1, le-leb (end_of e.1.0) clock e.1.2),
)

-- `HeldFound`
pub held_found : HeldFound
held_found d b clock verdict window bs id c fits h l e = go (same (id_of b) id) refl
  where
    go : (t : Bool) → same (id_of b) id ≡ t
        → FoundAt (after_of d b clock verdict window) c (numbers_of (find_of (after_of d b clock verdict window) id))
        ⊎ RemovedFrom clock (after_of d b clock verdict window) d id
    go true k =
        let mine : body_with (id_of b) bs ≡ some c = ap (λ (x : List ℕ). body_with x bs) (same_equal (id_of b) id k) ∙ e in
        inl (subst (λ (s : List ℕ). FoundAt s c (numbers_of (find_of s id))) (sym (repeat_keeps d b clock verdict window bs c h mine))
        (lookup_exactly.held d id bs c l (readable d bs h) e))
    go false k =
        let w = after_holds d b clock verdict window bs fits h in
        let after : List ℕ = after_of d b clock verdict window in
        ⊎_elim {C = FoundAt after c (numbers_of (find_of after id)) ⊎ RemovedFrom clock after d id}
        (λ f. inl (lookup_exactly.held after id w.0 c l (readable after w.0 w.1) (f ∙ e)))
        (λ f. inr (removed d id bs after w.0 clock h w.1 l f))
        (w.3 id (λ i. false≢true (sym k ∙ equal_same (id_of b) id i)))

-- `OthersFound`
pub others_found : OthersFound
others_found d b clock verdict window bs id fits h l other =
    let w = after_holds d b clock verdict window bs fits h in
    let after : List ℕ = after_of d b clock verdict window in
    ⊎_elim {C = FoundAlike after d id ⊎ RemovedFrom clock after d id}
    (λ e. inl (same_body after d id w.0 bs w.1 h l e))
    (λ e. inr (removed d id bs after w.0 clock h w.1 l e))
    (w.3 id other)
