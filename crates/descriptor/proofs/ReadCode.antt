-- The ways out of reading a whole descriptor, one by one (specs/Reader.antt of `descriptor_spec`). Assumes nothing.
use mathlib.Core.Path.{◌≡◌, refl, sym, ap, ◌∙◌}
use mathlib.Core.Bool.{Bool, true, false}
use mathlib.Core.List.{List}
use Prim.Native.Nat.{ℕ, ◌-◌, ◌≤◌, ◌<◌}
use native.Mathlib.Omega.{arith}
use lib.ListN.{length}
use lib.Dec.{ltb}
use borrow.Author.Tests.{eq-eqb, ne_eqb, le-leb, lt-leb, ltb-true, ltb-false}
use Rattle.time.specs.declared.Seconds.{Seconds}
use Rattle.time.specs.Time.{seconds, plus_at_most}
use Rattle.exact.specs.Reads.{Got, got, refused}
use Rattle.descriptor_spec.specs.declared.Fields.{Fields}
use Rattle.descriptor_spec.specs.Reading.{Reading}
use Rattle.std.specs.Prelude.{Ok, Err}
use Rattle.descriptor_spec.specs.declared.ReadError.TheVariants.{Structure, Validity}
use Rattle.std.specs.Prelude.{Option, Some, None}
use Rattle.octets.specs.Span.{span_of}
use Rattle.exact.proofs.ReadsLaws.{took}
use Rattle.entries_spec.specs.Keys.{k_payload}
use Rattle.entries_spec.specs.Value.{keyed_at}
use Rattle.entries_spec.specs.Reader.{SignatureSeen, signature_at}
use Rattle.entries.specs.Code.{after_key}
use Rattle.entries.proofs.Laws.{key_to, key_yes}
use Rattle.descriptor_spec.specs.Allowed.{longest, longest_period}
use Rattle.descriptor_spec.specs.Reader.{Seen, PayloadSeen, payload_at, before_payload, before_key_id, descriptor_at, whole, formed_in, read_of}
use Rattle.descriptor_spec.specs.Code.{fields_of, reading_of, form_of, within_period, reading_in}
use Rattle.descriptor_spec.proofs.Laws.{read_by_period}

-- ---- a payload and a signature behind their keys

module _ (s : List ℕ) {begins next : ℕ} {p : PayloadSeen} (a : Some begins ≡ after_key s 0 before_payload)
    (e : got p next ≡ payload_at s begins) where
  -- the payload behind its key
  pub payload_keyed : got p next ≡ keyed_at s 0 before_payload (payload_at s)
  payload_keyed = key_yes s 0 before_payload a (rw (key_to s 0 before_payload a).ends at e)

  -- it begins after the nine bytes of its key
  begins_at : begins ≡ 9
  unfolding before_payload k_payload
  begins_at = (key_to s 0 before_payload a).ends

  -- with a signature behind its key it is a descriptor
  pub signed : {place end : ℕ} {g : SignatureSeen} → Some place ≡ after_key s next before_key_id → got g end ≡ signature_at s place
      → got (record { covered = span_of 9 (next - begins); payload = p; signature = g }) end ≡ descriptor_at s 0
  unfolding descriptor_at before_payload k_payload
  signed b f =
      took _ payload_keyed
      (took _ (key_yes s next before_key_id b (rw (key_to s next before_key_id b).ends at f)) (rw begins_at))

-- ---- before the period is looked at

module _ (s : List ℕ) where
  -- too many bytes
  pub form_long : longest < length s → None ≡ form_of (formed_in s)
  unfolding formed_in
  form_long h = rw (lt-leb _ _ h) refl

  module _ (short : length s ≤ longest) where
    -- the length is allowed
    seen : formed_in s ≡ whole (length s) (descriptor_at s 0)
    unfolding formed_in
    seen = rw (le-leb _ _ short) refl

    -- no descriptor at the start
    pub form_refused : refused ≡ descriptor_at s 0 → None ≡ form_of (formed_in s)
    form_refused e = ap (λ (o : Got Seen). form_of (whole (length s) o)) e ∙ ap form_of (sym seen)

    module _ {v : Seen} {n : ℕ} (e : got v n ≡ descriptor_at s 0) where
      -- a descriptor at the start
      after : form_of (whole (length s) (got v n)) ≡ form_of (formed_in s)
      after = ap (λ (o : Got Seen). form_of (whole (length s) o)) e ∙ ap form_of (sym seen)

      -- bytes after it
      pub form_more : (n ≡ length s → ⊥) → None ≡ form_of (formed_in s)
      form_more h = (rw (ne_eqb _ _ h) refl) ∙ after

      -- none
      pub form_all : n ≡ length s → Some (fields_of v) ≡ form_of (formed_in s)
      form_all h = (rw (eq-eqb _ _ h) refl) ∙ after

-- ---- the period

module _ (f : Fields) (latest : Seconds) (e : latest ≡ plus_at_most f.not_before (seconds longest_period) f.not_after) {t : Bool}
    (k : t ≡ ltb latest.0 f.not_after.0) where
  -- the latest end is before the end: the period is too long
  pub period_long : t ≡ true → (Err Validity) ≡ within_period f
  unfolding plus_at_most within_period
  period_long g =
      let l : longest_period < f.not_after.0 - f.not_before.0
      = omega (arith, ap (λ (x : Seconds). x.0) e, ltb-true latest.0 f.not_after.0 (sym k ∙ g)) in
      rw (lt-leb _ _ l) refl

  -- it is not: the descriptor is allowed
  pub period_short : t ≡ false → Ok f ≡ within_period f
  unfolding plus_at_most within_period
  period_short g =
      let l : f.not_after.0 - f.not_before.0 ≤ longest_period
      = omega (arith, ap (λ (x : Seconds). x.0) e, ltb-false latest.0 f.not_after.0 (sym k ∙ g)) in
      rw (le-leb _ _ l) refl

-- ---- what reading answers

module _ (s : List ℕ) (o : Option Fields) (e : o ≡ form_of (formed_in s)) where
  -- what the period says of the fields
  pub read_formed : (f : Fields) → o ≡ Some f → (r : Reading) → r ≡ within_period f → r ≡ reading_of (read_of s)
  read_formed f g r h = h ∙ ap reading_in (sym g ∙ e) ∙ sym (read_by_period s)

  -- no descriptor
  pub read_unformed : o ≡ None → (Err Structure) ≡ reading_of (read_of s)
  read_unformed g = ap reading_in (sym g ∙ e) ∙ sym (read_by_period s)
