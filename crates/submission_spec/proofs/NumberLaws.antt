-- The number of a submission is that of the first failing step of specs/Promises.antt. Assumes nothing.
use Rattle.std.specs.Prelude.{Ok, Err, Some, None}
use Rattle.image_spec.specs.Check.{contents, Held, ImageCheck}
use mathlib.Core.Path.{◌≡◌, refl, sym, ap, ap₂, ◌∙◌, subst}
use mathlib.Core.Bool.{Bool, true, false}
use mathlib.Core.List.{List, []}
use mathlib.Core.Option.{Option, none, some}
use Prim.Native.Nat.{ℕ, ◌-◌}
use native.Mathlib.Omega.{arith}
use lib.ListN.{length}
use lib.Dec.{leb}
use borrow.Author.Tests.{leb-true}
use Rattle.octets.specs.Bytes.{AreBytes}
use Rattle.descriptor_spec.specs.declared.Fields.{Fields}
use Rattle.descriptor_spec.specs.Reading.{Reading}
use Rattle.descriptor_spec.specs.declared.ReadError.TheVariants.{Structure, Validity}
use Rattle.descriptor_spec.specs.Model.{Descriptor, encode}
use Rattle.descriptor_spec.specs.Allowed.{longest_period, period, Formed, Allowed}
use Rattle.descriptor_spec.specs.Numbers as descriptor
use Rattle.descriptor_spec.specs.Reader.{Seen, formed_in, read_of}
use Rattle.descriptor_spec.specs.View.{descriptor_view}
use Rattle.descriptor_spec.specs.Code.{fields_of, reading_of, form_of, within_period, reading_in}
use Rattle.descriptor_spec.proofs.Laws.{formed_exactly, read_by_period}
use Rattle.steps.specs.declared.Window.{Window}
use Rattle.steps.specs.Order.{Step, or_else, in_order, NoneIs}
use Rattle.steps.specs.Key.{is_verdict, is_that, key_open}
use Rattle.steps.specs.Laws.{mapped}
use Rattle.steps.proofs.Laws.{order_mapped, none_is}
use Rattle.steps.proofs.Promises as order
use Rattle.image_spec.specs.Image.{Row, reading, id_of}
use Rattle.image_spec.specs.Grow as grow
use Rattle.image_spec.specs.Layout.{edition2}
use Rattle.image_spec.specs.Edition2.{image_of, Holds, check_of, rows_held}
use Rattle.image_spec.specs.Promises.{answer_of}
use Rattle.image_spec.specs.Laws.{HeldIs}
use Rattle.image_spec.proofs.Laws.{edition2_ok, encoding_read, check_tells, check_says, check_unsound, rows_named}
use Rattle.submission_spec.specs.Submission.{entering, steps_by, steps, submitted, number_of}
use Rattle.submission_spec.specs.Promises.{Stored, bad_image, rows, structure, descriptor as encoding, IsStored, IsBody, version7_ids}
use Rattle.submission_spec.specs.Promises.{AlwaysMeets, steps_for, SubmittedExactly, DoneExactly, RefusedExactly}
use Rattle.submission_spec.specs.Promises as promised
use Rattle.submission_spec.proofs.IdLaws.{entering_formed, entering_structure}

-- ---- the number, by what is answered of the body and what the check finds

-- the number of the first failing step, by what is answered of the body, r, and the check v
abbrev number_by : List ℕ → List ℕ → ℕ → ℕ → Window → Reading → ImageCheck → ℕ
number_by d b clock verdict window r v = in_order (mapped number_of (steps_by d b clock verdict window r v)) 0

-- the number of a submission is that by what is answered of the body and the check of the buffer for its id
number_by_lem : (d b : List ℕ) (clock verdict : ℕ) (window : Window) (r : Reading) (v : ImageCheck) → entering b ≡ r → check_of d (id_of b) ≡ v
    → number_of (submitted d b clock verdict window) ≡ number_by d b clock verdict window r v
unfolding submitted steps
number_by_lem d b clock verdict window r v e f =
    order_mapped number_of (steps_by d b clock verdict window (entering b) (check_of d (id_of b))) (Ok tt)
    ∙ ap₂ (number_by d b clock verdict window) e f

-- the period of a descriptor is not too long
abbrev not_too_long : Descriptor → Bool
not_too_long c = leb (c.payload.not_after - c.payload.not_before) 7776000

-- a check that does not call the image sound, whatever is answered of the body
by_unsound : (d b : List ℕ) (clock verdict : ℕ) (window : Window) (r : Reading) (x : promised.Body)
    → number_by d b clock verdict window r None ≡ in_order (steps_for bad_image x (length d) clock verdict window) 0
unfolding steps_by in_order or_else is_verdict
by_unsound d b clock verdict window r x = refl

-- a body that is answered 1
by_structure : (d b : List ℕ) (clock verdict : ℕ) (window : Window) (bs : List Row) (n end : ℕ) (h : Held)
    → number_by d b clock verdict window (Err Structure) (contents n end h)
    ≡ in_order (steps_for (rows bs) structure (length d) clock verdict window) 0
unfolding steps_by in_order or_else is_verdict
by_structure d b clock verdict window bs n end h = refl

-- the encoding of a descriptor with another id
by_other_id : (d b : List ℕ) (clock verdict : ℕ) (window : Window) (bs : List Row) (c : Descriptor) (n end : ℕ) (h : Held)
    → version7_ids c ≡ false
    → number_by d b clock verdict window (Err Structure) (contents n end h)
    ≡ in_order (steps_for (rows bs) (encoding c) (length d) clock verdict window) 0
unfolding steps_by in_order or_else is_verdict
by_other_id d b clock verdict window bs c n end h e = rw e

-- one whose period is too long
by_period_lem : (d b : List ℕ) (clock verdict : ℕ) (window : Window) (bs : List Row) (c : Descriptor) (n end : ℕ) (h : Held)
    → version7_ids c ≡ true → not_too_long c ≡ false
    → number_by d b clock verdict window (Err Validity) (contents n end h)
    ≡ in_order (steps_for (rows bs) (encoding c) (length d) clock verdict window) 0
unfolding steps_by in_order or_else is_verdict
by_period_lem d b clock verdict window bs c n end h e f = rw (e, f)

-- one that is allowed
by_descriptor : (d : List ℕ) (clock verdict : ℕ) (window : Window) (bs : List Row) (c : Descriptor) (f : Fields) (h : Held)
    → version7_ids c ≡ true → not_too_long c ≡ true
    → rows_held d ≡ bs → f.not_before.0 ≡ c.payload.not_before → HeldIs d c.payload.id bs h
    → number_by d (encode c) clock verdict window (Ok f) (contents (length bs) (length (image_of bs)) h)
    ≡ in_order (steps_for (rows bs) (encoding c) (length d) clock verdict window) 0
unfolding steps_by is_verdict is_that key_open grow.has_room
by_descriptor d clock verdict window bs c f None i p q e k = ap (λ (l : List (Step ℕ)). in_order l 0) (rw (i, p, e, k, q))
by_descriptor d clock verdict window bs c f (Some b) i p q e k =
    ap (λ (l : List (Step ℕ)). in_order l 0) (rw (i, p, e, k.which))

-- ---- the number of a descriptor

-- what is answered of a descriptor with ids of version 7, by its period
entering_long : (c : Descriptor) → AreBytes (encode c) → Formed c → version7_ids c ≡ true → not_too_long c ≡ false
    → entering (encode c) ≡ (Err Validity)
unfolding within_period
entering_long c bytes q i p = entering_formed c bytes q ∙ rw (i, p)

entering_allowed : (c : Descriptor) → AreBytes (encode c) → Formed c → version7_ids c ≡ true → not_too_long c ≡ true
    → entering (encode c) ≡ Ok (fields_of (descriptor_view 0 c))
unfolding within_period
entering_allowed c bytes q i p = entering_formed c bytes q ∙ rw (i, p)

-- the number for a descriptor that is allowed but for its period and a buffer that holds a list of bodies
pub number_descriptor : (d : List ℕ) (clock verdict : ℕ) (window : Window) (bs : List Row) (c : Descriptor) → Holds d bs
    → AreBytes (encode c) → Formed c
    → number_of (submitted d (encode c) clock verdict window) ≡ in_order (steps_for (rows bs) (encoding c) (length d) clock verdict window) 0
number_descriptor d clock verdict window bs c h bytes q = go (version7_ids c) (not_too_long c) refl refl
  where
    go : (i p : Bool) → version7_ids c ≡ i → not_too_long c ≡ p
        → number_of (submitted d (encode c) clock verdict window)
        ≡ in_order (steps_for (rows bs) (encoding c) (length d) clock verdict window) 0
    go false p e f =
        let w = check_tells edition2 edition2_ok d (id_of (encode c)) bs h in
        number_by_lem d (encode c) clock verdict window (Err Structure) (contents (length bs) (length (image_of bs)) w.0)
        (entering_formed c bytes q ∙ rw e) w.1
        ∙ by_other_id d (encode c) clock verdict window bs c (length bs) (length (image_of bs)) w.0 e
    go true false e f =
        let w = check_tells edition2 edition2_ok d (id_of (encode c)) bs h in
        number_by_lem d (encode c) clock verdict window (Err Validity) (contents (length bs) (length (image_of bs)) w.0)
        (entering_long c bytes q e f) w.1
        ∙ by_period_lem d (encode c) clock verdict window bs c (length bs) (length (image_of bs)) w.0 e f
    go true true e f =
        let a : Allowed c = record { formed = q; period = leb-true (period c) longest_period f } in
        let r = encoding_read c bytes a in
        let w = check_tells edition2 edition2_ok d (id_of (encode c)) bs h in
        number_by_lem d (encode c) clock verdict window (Ok (fields_of (descriptor_view 0 c)))
        (contents (length bs) (length (image_of bs)) w.0) (entering_allowed c bytes q e f) w.1
        ∙ by_descriptor d clock verdict window bs c (fields_of (descriptor_view 0 c)) w.0 e f (rows_named edition2 edition2_ok d bs h) refl
        (subst (λ (id : List ℕ). HeldIs d id bs w.0) r.3 w.2)

-- ---- every case

-- what reading answers with 1
structure_read : (b : List ℕ) → answer_of b ≡ 1 → reading b ≡ (Err Structure)
unfolding reading
structure_read b e = go (reading_of (read_of b)) e
  where
    go : (r : Reading) → descriptor.number_of r ≡ 1 → r ≡ (Err Structure)
    go (Ok f) e = absurd (omega arith)
    go (Err Structure) e = refl
    go (Err Validity) e = absurd (omega arith)

-- `SubmittedExactly`
pub submitted_exactly : SubmittedExactly
submitted_exactly d b clock verdict window bad_image x m =
    number_by_lem d b clock verdict window (entering b) None refl ((check_unsound edition2 edition2_ok d (id_of b) m.buffer_bytes).1 m.stored)
    ∙ by_unsound d b clock verdict window (entering b) x
submitted_exactly d b clock verdict window (rows bs) structure m =
    let w = check_tells edition2 edition2_ok d (id_of b) bs m.stored in
    number_by_lem d b clock verdict window (Err Structure) (contents (length bs) (length (image_of bs)) w.0)
    (entering_structure b (structure_read b m.body)) w.1
    ∙ by_structure d b clock verdict window bs (length bs) (length (image_of bs)) w.0
submitted_exactly d b clock verdict window (rows bs) (encoding c) m =
    ap (λ (y : List ℕ). number_of (submitted d y clock verdict window)) m.body.1
    ∙ number_descriptor d clock verdict window bs c m.stored (subst AreBytes m.body.1 m.body_bytes) m.body.0

-- the number of a step
abbrev pub itself : ℕ → ℕ
itself n = n

-- no step's number is 0
never_zero : (s : Stored) (x : promised.Body) (room clock verdict : ℕ) (window : Window) → NoneIs 0 (steps_for s x room clock verdict window)
never_zero bad_image x room clock verdict window = none_is itself 0 (steps_for bad_image x room clock verdict window) refl
never_zero (rows bs) structure room clock verdict window = none_is itself 0
    (steps_for (rows bs) structure room clock verdict window) refl
never_zero (rows bs) (encoding c) room clock verdict window = none_is itself 0
    (steps_for (rows bs) (encoding c) room clock verdict window) refl

-- `DoneExactly`
pub done_exactly : DoneExactly
done_exactly d b clock verdict window s x m =
    let q = order.pass_exactly ℕ (steps_for s x (length d) clock verdict window) 0 (never_zero s x (length d) clock verdict window) in
    let e = submitted_exactly d b clock verdict window s x m in
    (λ z. q.0 (sym e ∙ z), λ a. e ∙ q.1 a)

-- `RefusedExactly`
pub refused_exactly : RefusedExactly
refused_exactly d b clock verdict window s x m n other =
    let q = order.fail_exactly ℕ (steps_for s x (length d) clock verdict window) 0 n other in
    let e = submitted_exactly d b clock verdict window s x m in
    (λ z. q.0 (sym e ∙ z), λ a. e ∙ q.1 a)

-- what every buffer holds
stored_of_lem : (d : List ℕ) → AreBytes d → (s : Stored) × IsStored d s
stored_of_lem d bytes = go (check_of d []) refl
  where
    go : (v : ImageCheck) → check_of d [] ≡ v → (s : Stored) × IsStored d s
    go (Some v) e = (rows (rows_held d), (check_says edition2 edition2_ok d [] bytes v.rows v.end v.held e).holds)
    go None e = (bad_image, (check_unsound edition2 edition2_ok d [] bytes).0 e)

-- what every body is
body_of : (b : List ℕ) → AreBytes b → (x : promised.Body) × IsBody b x
body_of b bytes = go (formed_in b) refl
  where
    go : (o : Option Seen) → formed_in b ≡ o → (x : promised.Body) × IsBody b x
    go (some v) e = let w = (formed_exactly b bytes v).0 e in (encoding w.0, (w.1, w.2))
    go none e = (structure, ap descriptor.number_of (read_by_period b ∙ ap (λ (o : Option Seen). reading_in (form_of o)) e))

-- `AlwaysMeets`
pub always_meets : AlwaysMeets
always_meets d b p q =
    let s = stored_of_lem d p in
    let x = body_of b q in
    (s.0, x.0, record { buffer_bytes = p; body_bytes = q; stored = s.1; body = x.1 })
