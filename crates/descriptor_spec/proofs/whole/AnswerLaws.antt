-- What reading answers (specs/Reader.antt): 0, 2 or 1. Assumes nothing.
use mathlib.Core.Path.{◌≡◌, refl, sym, ap, ◌∙◌, subst}
use mathlib.Core.Logic.{◌⊎◌, inl, inr, ⊎_elim}
use mathlib.Core.Bool.{cond}
use mathlib.Core.List.{List}
use mathlib.Core.Option.{Option, none, some}
use Prim.Native.Nat.{ℕ, ◌+◌, ◌-◌, ◌≤◌, ◌<◌}
use native.Mathlib.Omega.{arith}
use lib.ListN.{length}
use lib.Dec.{leb, eqb}
use borrow.Author.Tests.{leb-true, leb-false, eqb-true, le-leb, lt-leb, eq-eqb}
use Rattle.octets.specs.Bytes.{AreBytes, Has}
use Rattle.exact.specs.Reads.{Got, got, refused, Reads, found}
use Rattle.octets.proofs.Tests.{by_cond}
use Rattle.octets.proofs.OptionLaws.{none_some, some_same}
use Rattle.octets.proofs.BytesLaws.{has_all, all_has}
use Rattle.exact.proofs.ReadsLaws.{complete, unique}
use Rattle.descriptor_spec.specs.Model.{Descriptor, encode}
use Rattle.descriptor_spec.specs.Allowed.{longest, Formed, longest_period, period}
use Rattle.descriptor_spec.specs.Reader.{Seen, Answer, read, structure, validity, whole, formed_in, by_period, read_of, descriptor_at}
use Rattle.descriptor_spec.specs.View.{descriptor_view}
use Rattle.descriptor_spec.specs.Code.{reading_of, form_of, within_period, reading_in}
use Rattle.descriptor_spec.specs.Laws.{ReadsExactly, ValidityExactly, StructureExactly, FormedExactly, UnformedExactly, ReadByPeriod}
use Rattle.descriptor_spec.specs.Promises.{OneReading}
use Rattle.descriptor_spec.proofs.whole.DescriptorLaws.{Both, descriptor_exact}

-- the bytes are the encoding of a descriptor that is allowed but for its period
abbrev Encoded : List ℕ → Type 0
Encoded s = (d : Descriptor) × Formed d × (s ≡ encode d)

-- what is answered for such a descriptor
abbrev answer_of : Descriptor → Answer
answer_of d = cond (leb (period d) longest_period) (read (descriptor_view 0 d)) validity

-- the parts of such a descriptor are allowed
both_of : (d : Descriptor) → Formed d → Both d
both_of d q = record { payload = q.payload; signature = q.signature }

-- bytes that are an encoding have it at their start
whole_has : (s : List ℕ) (d : Descriptor) → s ≡ encode d → Has s 0 (encode d)
whole_has s d e = subst (Has s 0) e (all_has s)

-- where the descriptor at the start ends with the bytes, they are its encoding
whole_encoded : (s : List ℕ) (o : Got Seen) → length s ≤ longest → Reads s 0 Both encode (descriptor_view 0) o
    → (whole (length s) o ≡ none) ⊎ Encoded s
whole_encoded s (got v n) short (found a) =
    by_cond (λ b. (b ≡ none) ⊎ Encoded s) (eqb n (length s))
    (λ e.
    let l : length (encode a.val) ≡ length s = omega (arith, eqb-true, a.next) in
    inr (
      a.val,
      record { payload = a.fine.payload; signature = a.fine.signature; short = omega arith },
      has_all s (encode a.val)
          a.has l,
    ))
    (λ e. inl refl)
whole_encoded s refused short r = inl refl

-- nothing is seen, or the bytes are an encoding
formed_or_none : (s : List ℕ) → AreBytes s → (formed_in s ≡ none) ⊎ Encoded s
unfolding formed_in
formed_or_none s bs =
    by_cond (λ b. (b ≡ none) ⊎ Encoded s) (leb (length s) longest)
    (λ e. whole_encoded s (descriptor_at s 0) (leb-true (length s) longest e) (descriptor_exact s bs 0))
    (λ e. inl refl)

-- of the encoding of a descriptor that descriptor is seen
formed_seen : (s : List ℕ) → AreBytes s → (d : Descriptor) → Formed d → s ≡ encode d → formed_in s ≡ some (descriptor_view 0 d)
unfolding formed_in
formed_seen s bs d q e =
    let o = complete (descriptor_exact s bs 0) d (both_of d q) (whole_has s d e) in
    let l : length (encode d) ≡ length s = ap length (sym e) in
    let short = le-leb (length s) longest (omega (arith, q.short)) in
    let end = eq-eqb (0 + length (encode d)) (length s) (omega arith) in
    rw (short, o, end)

-- `FormedExactly`
pub formed_exactly : FormedExactly
formed_exactly s bs v = (
  λ e. ⊎_elim (λ n. absurd (none_some v (sym n ∙ e)))
      (λ x. (x.0, x.1, x.2, some_same v (descriptor_view 0 x.0) (sym e ∙ formed_seen s bs x.0 x.1 x.2)))
      (formed_or_none s bs),
  λ x. formed_seen s bs x.0 x.1 x.2 ∙ ap some (sym x.3),
)

-- `UnformedExactly`
pub unformed_exactly : UnformedExactly
unformed_exactly s bs = (
  λ n d q e. none_some (descriptor_view 0 d) (sym n ∙ formed_seen s bs d q e),
  λ no_one. ⊎_elim (λ n. n) (λ x. absurd (no_one x.0 x.1 x.2)) (formed_or_none s bs),
)

-- `ReadByPeriod`
pub read_by_period : ReadByPeriod
unfolding read_of within_period
read_by_period s = go (formed_in s)
  where
    go : (o : Option Seen) → reading_of (by_period o) ≡ reading_in (form_of o)
    go (some v) = by_cond (λ a. reading_of (cond (leb (v.payload.not_after - v.payload.not_before) longest_period) (read v) validity) ≡ a)
        (leb (v.payload.not_after - v.payload.not_before) longest_period)
        (λ e. rw e) (λ e. rw e)
    go none = refl

-- the answer is 1, or the bytes are an encoding
answered : (s : List ℕ) → AreBytes s → (read_of s ≡ structure) ⊎ Encoded s
unfolding read_of
answered s bs = ⊎_elim (λ n. inl (ap by_period n)) inr (formed_or_none s bs)

-- the encoding of a descriptor is answered for it
answers : (s : List ℕ) → AreBytes s → (d : Descriptor) → Formed d → s ≡ encode d → read_of s ≡ answer_of d
unfolding read_of
answers s bs d q e = ap by_period (formed_seen s bs d q e)

-- ---- the answers are different

-- what is read is not refused
read_structure : {v : Seen} → read v ≡ structure → ⊥
read_structure e = let z : ◌≡◌ {A = ℕ} 0 1 = cc in omega arith

-- nor too long valid
read_validity : {v : Seen} → read v ≡ validity → ⊥
read_validity e = let z : ◌≡◌ {A = ℕ} 0 1 = cc in omega arith

-- too long valid is not refused
validity_structure : validity ≡ structure → ⊥
validity_structure e = let z : ◌≡◌ {A = ℕ} 0 1 = cc in omega arith

module _ (d : Descriptor) where
  -- the answer for a descriptor is not 1
  not_structure : answer_of d ≡ structure → ⊥
  not_structure =
      by_cond (λ a. a ≡ structure → ⊥) (leb (period d) longest_period)
      (λ t e. read_structure e)
      (λ t e. validity_structure e)

  -- it is 0 only for a period that is not too long, with what is seen of the descriptor
  read_only : (v : Seen) → answer_of d ≡ read v → (period d ≤ longest_period) × (v ≡ descriptor_view 0 d)
  read_only v =
      by_cond (λ a. a ≡ read v → (period d ≤ longest_period) × (v ≡ descriptor_view 0 d)) (leb (period d) longest_period)
      (λ t e. (leb-true (period d) longest_period t, cc))
      (λ t e. absurd (read_validity (sym e)))

  -- and 2 only for a longer one
  validity_only : answer_of d ≡ validity → longest_period < period d
  validity_only =
      by_cond (λ a. a ≡ validity → longest_period < period d) (leb (period d) longest_period)
      (λ t e. absurd (read_validity e))
      (λ t e. leb-false (period d) longest_period t)

-- ---- which bytes have which answer

-- an answer other than 1 is that for a descriptor whose encoding the bytes are
answered_for : (s : List ℕ) → AreBytes s → (a : Answer) → (a ≡ structure → ⊥) → read_of s ≡ a
    → (d : Descriptor) × Formed d × (s ≡ encode d) × (answer_of d ≡ a)
answered_for s bs a ne e =
    ⊎_elim (λ r. absurd (ne (sym e ∙ r)))
    (λ x. (x.0, x.1, x.2, sym (answers s bs x.0 x.1 x.2) ∙ e))
    (answered s bs)

-- answer 0
pub reads_exactly : ReadsExactly
reads_exactly s bs v = (
  λ e.
      let x = answered_for s bs (read v) read_structure e in
      let r = read_only x.0 v x.3 in
      (x.0, record { formed = x.1; period = r.0 }, x.2, r.1),
  λ x. answers s bs x.0 x.1.formed x.2 ∙ rw (le-leb (period x.0) longest_period x.1.period) (ap read (sym x.3)),
)

-- answer 2
pub validity_exactly : ValidityExactly
validity_exactly s bs = (
  λ e. let x = answered_for s bs validity validity_structure e in (x.0, x.1, validity_only x.0 x.3, x.2),
  λ x. answers s bs x.0 x.1 x.3 ∙ rw (lt-leb (period x.0) longest_period x.2),
)

-- answer 1
pub structure_exactly : StructureExactly
structure_exactly s bs = (
  λ r d q e. not_structure d (sym (answers s bs d q e) ∙ r),
  λ no_one. ⊎_elim (λ r. r) (λ x. absurd (no_one x.0 x.1 x.2)) (answered s bs),
)

-- one reading
pub one_reading : OneReading
one_reading s bs d e q r i j = unique (descriptor_exact s bs 0) d e (both_of d q) (both_of e r) (whole_has s d i) (whole_has s e j)
