-- A request after a submission (specs/Promises.antt). Assumes nothing.
use Rattle.std.specs.Prelude.{Some, None}
use mathlib.Core.Path.{◌≡◌, refl, sym, ap, ◌∙◌, subst}
use mathlib.Core.Logic.{◌⊎◌, inl, inr, ⊎_elim}
use mathlib.Core.Bool.{Bool, true, false, false≢true}
use mathlib.Core.List.{List}
use mathlib.Core.Option.{some}
use Prim.Native.Nat.{ℕ, ◌^◌, ◌≤◌, ◌<◌}
use native.Mathlib.Omega.{arith}
use lib.Dec.{eqb}
use borrow.Author.Tests.{eqb-true, eqb-false}
use Rattle.octets.specs.Bytes.{AreBytes, part, same}
use Rattle.octets.proofs.OptionLaws.{some_same, none_some}
use Rattle.octets.proofs.PartLaws.{part_bytes}
use Rattle.octets.proofs.SameLaws.{same_equal, equal_same}
use Rattle.descriptor_spec.specs.Model.{Descriptor, encode}
use Rattle.descriptor_spec.specs.Allowed.{Allowed}
use Rattle.steps.specs.declared.Window.{Window}
use Rattle.image_spec.specs.Check.{Held, layout_of}
use Rattle.image_spec.specs.Image.{Row, reading, is_read, id_of, body_with}
use Rattle.image_spec.specs.Choose.{end_in, end_of}
use Rattle.image_spec.specs.Readable.{Holds}
use Rattle.image_spec.specs.Edition2 as edition2
use Rattle.image_spec.specs.Laws.{HeldIs}
use Rattle.image_spec.proofs.Laws.{named_ok, check_tells, body_read, encoding_read}
use Rattle.image_spec.proofs.Promises.{rows_once, not_in_both, readable_exactly}
use Rattle.submission_spec.specs.Submission.{submitted, after_of, number_of}
use Rattle.submission_spec.proofs.Laws.{done_means, after_holds}
use Rattle.submission_spec.proofs.Promises.{refusal_keeps, repeat_keeps}
use Rattle.request_spec.specs.Request.{Request}
use Rattle.request_spec.specs.Decision.{decision_of, numbers_of}
use Rattle.request_spec.specs.Promises.{not_held, held, Under, answer_for, StoredDecided, OthersDecided, HeldDecided}
use Rattle.request_spec.proofs.HeldLaws.{decided_on_body, decided_on_none}
use Rattle.request_spec.proofs.UnderLaws.{held_found, found_among}
use Rattle.request_spec.proofs.NumberLaws.{decided_exactly, missing_numbers}

-- a buffer that holds rows in edition 2 may be read
pub readable : (d : List ℕ) (bs : List Row) → edition2.Holds d bs → Holds d bs
readable d bs h = (readable_exactly d bs).1 (inr h)

-- `StoredDecided`
pub stored_decided : StoredDecided
stored_decided d b clock verdict window fits bytes a z =
    let m = done_means d b clock verdict window bytes a z in
    let c : Descriptor = m.1.0 in
    let w = after_holds d b clock verdict window m.0.0 fits m.0.1 in
    let after : List ℕ = after_of d b clock verdict window in
    let k : Holds after w.0 = readable after w.0 w.1 in (
      c,
      m.1.1,
      m.1.4,
      m.1.2,
      λ q i.
          let found : body_with q.id w.0 ≡ some (encode c)
          = ap (λ (x : List ℕ). body_with x w.0) (i ∙ sym m.1.3) ∙ w.2 z ∙ ap some m.1.2 in
          let u : Under after q.id (held c)
          = (w.0, k, found_among (layout_of after) q.id w.0 c k.rows m.1.1 (subst AreBytes m.1.2 a) found) in
          (u, decided_exactly after q (held c) u),
    )

-- two images in which the id finds the same body decide a request for it alike
pub found_alike : (s t : List ℕ) (q : Request) (bs cs : List Row) → Holds s bs → Holds t cs → body_with q.id cs ≡ body_with q.id bs
    → decision_of t q ≡ decision_of s q
found_alike s t q bs cs h k e = let w = check_tells (layout_of s) (named_ok s) s q.id bs h in go w.0 w.2
  where
    go : (x : Held) → HeldIs s q.id bs x → decision_of t q ≡ decision_of s q
    go None i = decided_on_none t q cs k (e ∙ i) ∙ sym (decided_on_none s q bs h i)
    go (Some b) i = decided_on_body t q cs (part s b.at b.len) b.fields k (e ∙ i.which) i.reads
        ∙ sym (decided_on_body s q bs (part s b.at b.len) b.fields h i.which i.reads)

-- a body that an id has in bytes that may be read is the encoding of a descriptor that is held, and ends when the descriptor does
body_held : (s id : List ℕ) (bs : List Row) (b : List ℕ) → AreBytes s → Holds s bs → body_with id bs ≡ some b
    → (c : Descriptor) × Under s id (held c) × (end_of b ≡ c.payload.not_after)
unfolding end_of
body_held s id bs b bytes h e = let w = check_tells (layout_of s) (named_ok s) s id bs h in go w.0 w.2
  where
    go : (x : Held) → HeldIs s id bs x → (c : Descriptor) × Under s id (held c) × (end_of b ≡ c.payload.not_after)
    go None i = absurd (none_some b (sym i ∙ e))
    go (Some x) i =
        let here : part s x.at x.len ≡ b = some_same (part s x.at x.len) b (sym i.which ∙ e) in
        let mine : AreBytes b = subst AreBytes here (part_bytes s x.at x.len bytes) in
        let r = body_read b mine (ap is_read (sym (ap reading here) ∙ i.reads)) in
        let own : AreBytes (encode r.0) = subst AreBytes r.2 mine in
        let n = encoding_read r.0 own r.1 in (
          r.0,
          (bs, h, found_among (layout_of s) id bs r.0 h.rows r.1 own (e ∙ ap some r.2)),
          ap (λ (y : List ℕ). end_in (reading y)) r.2 ∙ ap end_in n.1 ∙ n.4,
        )

-- `OthersDecided`
pub others_decided : OthersDecided
others_decided d b clock verdict window q fits bytes a other = go (eqb (number_of (submitted d b clock verdict window)) 0) refl
  where
    go : (t : Bool) → eqb (number_of (submitted d b clock verdict window)) 0 ≡ t
        → (numbers_of (decision_of (after_of d b clock verdict window) q) ≡ numbers_of (decision_of d q))
        ⊎ ((c : Descriptor) × Under d q.id (held c) × (c.payload.not_after ≤ clock)
        × (numbers_of (decision_of (after_of d b clock verdict window) q) ≡ answer_for q not_held))
    go true e =
        let m = done_means d b clock verdict window bytes a (eqb-true (number_of (submitted d b clock verdict window)) 0 e) in
        let rs : List Row = m.0.0 in
        let h : Holds d rs = readable d rs m.0.1 in
        let w = after_holds d b clock verdict window rs fits m.0.1 in
        let s : List ℕ = after_of d b clock verdict window in
        let k : Holds s w.0 = readable s w.0 w.1 in
        ⊎_elim {C = (numbers_of (decision_of s q) ≡ numbers_of (decision_of d q))
        ⊎ ((c : Descriptor) × Under d q.id (held c) × (c.payload.not_after ≤ clock) × (numbers_of (decision_of s q) ≡ answer_for q not_held))}
        (λ f. inl (ap numbers_of (found_alike d s q rs w.0 h k f)))
        (λ f. let x = body_held d q.id rs f.1.0 bytes h f.1.1 in
        inr (x.0, x.1, omega (arith, x.2, f.1.2), ap numbers_of (decided_on_none s q w.0 k f.0) ∙ missing_numbers q))
        (w.3 q.id (λ i. other m.1.0 m.1.1 m.1.2 (sym i ∙ m.1.3)))
    go false e =
        inl (ap (λ (x : List ℕ). numbers_of (decision_of x q))
        (refusal_keeps d b clock verdict window (eqb-false (number_of (submitted d b clock verdict window)) 0 e)))

-- ---- what is held from before

-- the rows that a buffer holds in edition 2 are those that may be read in it
rows_same : (d : List ℕ) (bs cs : List Row) → edition2.Holds d bs → Holds d cs → cs ≡ bs
rows_same d bs cs h k = ⊎_elim (λ one. absurd (not_in_both d cs bs one h)) (λ two. rows_once.1 d cs bs two h) ((readable_exactly d cs).0 k)

-- the encoding of an allowed descriptor ends when it does
encoding_ends : (c : Descriptor) → AreBytes (encode c) → Allowed c → end_of (encode c) ≡ c.payload.not_after
unfolding end_of
encoding_ends c bytes a = let n = encoding_read c bytes a in ap end_in n.1 ∙ n.4

module _ (d b : List ℕ) (clock verdict : ℕ) (window : Window) (q : Request) (c : Descriptor) (u : Under d q.id (held c)) where
  -- the image after
  abbrev after : List ℕ
  after = after_of d b clock verdict window

  -- the request is decided on the descriptor, or on none, which has expired
  abbrev Decided : Type 0
  Decided = (numbers_of (decision_of after q) ≡ answer_for q (held c))
      ⊎ ((c.payload.not_after ≤ clock) × (numbers_of (decision_of after q) ≡ answer_for q not_held))

  -- an image that is as it was decides as it did
  kept_decided : after ≡ d → Decided
  kept_decided e = inl (ap (λ (x : List ℕ). numbers_of (decision_of x q)) e ∙ decided_exactly d q (held c) u)

  -- an image that holds rows in edition 2 after a submission of bytes with the id, or with another
  rows_decided : (bs : List Row) → clock < 2 ^ 64 → edition2.Holds d bs → Decided
  rows_decided bs fits h = go (same (id_of b) q.id) refl
    where
      mine : body_with q.id bs ≡ some (encode c)
      mine = ap (body_with q.id) (sym (rows_same d bs u.0 h u.1)) ∙ held_found d q.id c u

      go : (t : Bool) → same (id_of b) q.id ≡ t → Decided
      go true e = kept_decided (repeat_keeps d b clock verdict window bs (encode c) h
          (ap (λ (x : List ℕ). body_with x bs) (same_equal (id_of b) q.id e) ∙ mine))
      go false e =
          let w = after_holds d b clock verdict window bs fits h in
          let k : Holds after w.0 = readable after w.0 w.1 in
          ⊎_elim {C = Decided}
          (λ f. inl (ap numbers_of (found_alike d after q bs w.0 (readable d bs h) k f) ∙ decided_exactly d q (held c) u))
          (λ f.
          let own : f.1.0 ≡ encode c = some_same f.1.0 (encode c) (sym f.1.1 ∙ mine) in
          let end : end_of f.1.0 ≡ c.payload.not_after = ap end_of own ∙ encoding_ends c u.2.bytes u.2.allowed in
          inr (omega (arith, end, f.1.2), ap numbers_of (decided_on_none after q w.0 k f.0) ∙ missing_numbers q))
          (w.3 q.id (λ i. false≢true (sym e ∙ equal_same (id_of b) q.id i)))

-- `HeldDecided`
pub held_decided : HeldDecided
held_decided d b clock verdict window q c fits bytes a u = go (eqb (number_of (submitted d b clock verdict window)) 0) refl
  where
    go : (t : Bool) → eqb (number_of (submitted d b clock verdict window)) 0 ≡ t → Decided d b clock verdict window q c u
    go true e =
        let m = done_means d b clock verdict window bytes a (eqb-true (number_of (submitted d b clock verdict window)) 0 e) in
        rows_decided d b clock verdict window q c u m.0.0 fits m.0.1
    go false e = kept_decided d b clock verdict window q c u
        (refusal_keeps d b clock verdict window (eqb-false (number_of (submitted d b clock verdict window)) 0 e))
