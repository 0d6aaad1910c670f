-- What a request is decided on: the check of the image, and the body that a sound image holds (specs/Decision.antt). Assumes nothing.
use Rattle.std.specs.Prelude.{Ok, Err, Some, None}
use Rattle.image_spec.specs.Check.{contents, Held, ImageCheck, is_sound, is_held, layout_of}
use Rattle.descriptor_spec.specs.Reading.{Reading}
use mathlib.Core.Path.{◌≡◌, refl, sym, ap, ◌∙◌}
use mathlib.Core.Bool.{Bool, true, false}
use mathlib.Core.List.{List, []}
use mathlib.Core.Option.{none, some}
use Prim.Native.Nat.{ℕ}
use lib.ListN.{length}
use Rattle.octets.specs.Bytes.{part}
use Rattle.octets.proofs.OptionLaws.{some_same, none_some}
use Rattle.descriptor_spec.specs.declared.Fields.{Fields}
use Rattle.steps.specs.Order.{or_else, in_order}
use Rattle.image_spec.specs.Image.{Row, reading, body_with}
use Rattle.image_spec.specs.Image.{image_of}
use Rattle.image_spec.specs.Readable.{Holds, check_of}
use Rattle.image_spec.specs.Laws.{HeldIs}
use Rattle.image_spec.proofs.Laws.{named_ok, check_tells}
use Rattle.request_spec.specs.Decision.{Decision}
use Rattle.request_spec.specs.declared.Refusal.TheVariants as answers
use Rattle.request_spec.specs.Decision.{Matched}
use Rattle.request_spec.specs.Request.{Request, well_formed, lease_for}
use Rattle.request_spec.specs.Decision.{Facts, steps_by, granted_by, facts_of, matched_on, facts_in, matched_in, steps_of, decision_of}

-- ---- what is decided on a check

-- the decision by the steps: whether the image is sound and holds the id, the facts of the descriptor, and the grant that is picked
abbrev pub decided_by : Request → Bool → Bool → Facts → Matched → Decision
decided_by q sound held x m = in_order (steps_by q sound held x m) (granted_by q (lease_for q) x m)

-- the decision of a request of which the check of the image is v
abbrev pub decided_in : List ℕ → Request → ImageCheck → Decision
decided_in s q v = decided_by q (is_sound v) (is_held v) (facts_in s v) (matched_in s q v)

-- the decision is that on the check of the image
pub decided_in_lem : (s : List ℕ) (q : Request) (v : ImageCheck) → check_of s q.id ≡ v → decision_of s q ≡ decided_in s q v
unfolding decision_of steps_of
decided_in_lem s q v e = ap (decided_in s q) e

-- where the arguments are not well formed the answer is 15, whatever else is asked
pub malformed_first : (q : Request) (sound held : Bool) (x : Facts) (m : Matched) (r : Decision) → well_formed q ≡ false
    → in_order (steps_by q sound held x m) r ≡ (Err answers.Malformed)
unfolding steps_by in_order or_else
malformed_first q sound held x m r e = rw e

-- ---- the body that is held

-- the fields of equal readings are equal
fields_same : (f g : Fields) → ◌≡◌ {A = Reading} (Ok f) (Ok g) → f ≡ g
fields_same f g e = cc

-- the decision on a body that is held and of which f is read
abbrev pub held_by : Request → List ℕ → Fields → Decision
held_by q b f = decided_by q true true (facts_of b f) (matched_on b f q.resource q.mode)

-- a request for the body b, which a sound image holds and of which f is read, is decided on b and f
pub decided_on_body : (s : List ℕ) (q : Request) (bs : List Row) (b : List ℕ) (f : Fields) → Holds s bs
    → body_with q.id bs ≡ some b → reading b ≡ Ok f
    → decision_of s q ≡ held_by q b f
decided_on_body s q bs b f h e r =
    let w = check_tells (layout_of s) (named_ok s) s q.id bs h in
    decided_in_lem s q (contents (length bs) (length (image_of (layout_of s) bs)) w.0) w.1 ∙ go w.0 w.2
  where
    go : (k : Held) → HeldIs s q.id bs k → decided_in s q (contents (length bs) (length (image_of (layout_of s) bs)) k) ≡ held_by q b f
    go None i = absurd (none_some b (sym i ∙ e))
    go (Some x) i =
        let here : part s x.at x.len ≡ b = some_same (part s x.at x.len) b (sym i.which ∙ e) in
        ap (λ (y : List ℕ). held_by q y x.fields) here ∙ ap (held_by q b) (fields_same x.fields f (sym i.reads ∙ ap reading here ∙ r))

-- ---- no body is held

-- the decision on a sound image that does not hold the id
abbrev pub missing_by : Request → Decision
missing_by q = decided_by q true false (record { not_before = 0; not_after = 0; fay = []; terminal = [] }) None

-- a request for an id that a sound image does not hold is decided without a body
pub decided_on_none : (s : List ℕ) (q : Request) (bs : List Row) → Holds s bs → body_with q.id bs ≡ none → decision_of s q ≡ missing_by q
decided_on_none s q bs h e =
    let w = check_tells (layout_of s) (named_ok s) s q.id bs h in
    decided_in_lem s q (contents (length bs) (length (image_of (layout_of s) bs)) w.0) w.1 ∙ go w.0 w.2
  where
    go : (k : Held) → HeldIs s q.id bs k → decided_in s q (contents (length bs) (length (image_of (layout_of s) bs)) k) ≡ missing_by q
    go None i = refl
    go (Some x) i = absurd (none_some (part s x.at x.len) (sym e ∙ i.which))
