-- A lookup in document 01's numbers (specs/Check.antt). Assumes nothing.
use Rattle.std.specs.Prelude.{Ok, Err, Some, None}
use Rattle.image_spec.specs.Check.{contents, Held, ImageCheck, Finding, held_at, found_in, find_of as find-of, body_span, numbers_of}
use mathlib.Core.Path.{◌≡◌, refl, sym, ap, ◌∙◌, subst}
use mathlib.Core.Bool.{Bool, true, false}
use mathlib.Core.List.{List}
use mathlib.Core.Option.{none, some}
use Prim.Native.Nat.{ℕ, ◌+◌, ◌≤◌}
use native.Mathlib.Omega.{arith}
use lib.ListN.{length}
use lib.Dec.{eqb}
use borrow.Author.Tests.{eq-eqb, ne_eqb}
use Rattle.octets.specs.Bytes.{AreBytes, part}
use Rattle.octets.specs.Span.{span_of}
use Rattle.octets.proofs.SpanLaws.{inside_fits}
use Rattle.octets.proofs.BytesLaws.{part_has}
use Rattle.octets.proofs.OptionLaws.{some_same, none_some}
use Rattle.image_spec.specs.declared.FindError.TheVariants.{Malformed, BadImage, NotFound}
use Rattle.descriptor_spec.specs.Allowed.{id_size}
use Rattle.image_spec.specs.Image.{Row, body_with}
use Rattle.image_spec.specs.Image.{image_of}
use Rattle.image_spec.specs.Check.{layout_of}
use Rattle.image_spec.specs.Readable.{Holds, check_of, rows_held, find_of}
use Rattle.image_spec.specs.Promises.{refusal, FoundAt, LookupExactly, SoundExactly, EditionsKnown, BodyHanded}
use Rattle.image_spec.specs.Laws.{HeldIs, HeldFits, CheckFits}
use Rattle.image_spec.proofs.FindLaws as found
use Rattle.image_spec.proofs.NamedLaws.{named_ok, editions_named}

-- ---- the check of an image that may be read

check_tells : (s id : List ℕ) (rs : List Row) → Holds s rs
    → (h : Held) × (check_of s id ≡ contents (length rs) (length (image_of (layout_of s) rs)) h) × HeldIs s id rs h
check_tells s = found.check_tells (layout_of s) (named_ok s) s

check_says : (s id : List ℕ) → AreBytes s → (n end : ℕ) (h : Held) → check_of s id ≡ contents n end h → Holds s (rows_held s)
check_says s id bytes n end h e = (found.check_says (layout_of s) (named_ok s) s id bytes n end h e).holds

check_unsound : (s id : List ℕ) → AreBytes s → ((rs : List Row) → Holds s rs → ⊥) → check_of s id ≡ None
check_unsound s id bytes = (found.check_unsound (layout_of s) (named_ok s) s id bytes).1

-- ---- what a lookup answers

-- an id of 16 bytes is looked for in the check
pub find_in_lem : (s id : List ℕ) → length id ≡ id_size → find_of s id ≡ found_in (check_of s id)
unfolding find-of
find_in_lem s id l = rw (eq-eqb (length id) id_size l, find-of)

-- another is refused
find_bad : (s id : List ℕ) → (length id ≡ id_size → ⊥) → numbers_of (find_of s id) ≡ refusal 15
unfolding find-of
find_bad s id l = rw (ne_eqb (length id) id_size l, find-of)

-- a check that calls the image unsound is answered 16
unsound_16 : (s id : List ℕ) → length id ≡ id_size → check_of s id ≡ None → numbers_of (find_of s id) ≡ refusal 16
unsound_16 s id l e = ap numbers_of (find_in_lem s id l) ∙ ap (λ (v : ImageCheck). numbers_of (found_in v)) e

-- `LookupExactly`
pub lookup_exactly : LookupExactly
lookup_exactly = record {
  bad_id = find_bad;
  bad_image = λ s id bytes l n. unsound_16 s id l (check_unsound s id bytes n);
  not_held = λ s id bs l h e. ap numbers_of (find_in_lem s id l) ∙
      (let w = check_tells s id bs h in ap (λ (v : ImageCheck). numbers_of (found_in v)) w.1 ∙ missing s id bs e w.0 w.2);
  held = λ s id bs b l h e. subst (λ n. FoundAt s b n) (sym (ap numbers_of (find_in_lem s id l)))
      (let w = check_tells s id bs h in subst (λ (v : ImageCheck). FoundAt s b (numbers_of (found_in v))) (sym w.1)
      (found s id bs b e w.0 w.2));
}
  where
    missing : (s id : List ℕ) (bs : List Row) → body_with id bs ≡ none → (h : Held) → HeldIs s id bs h
        → numbers_of (held_at h) ≡ refusal 7
    missing s id bs e None k = refl
    missing s id bs e (Some x) k = absurd (none_some (part s x.at x.len) (sym e ∙ k.which))

    found : (s id : List ℕ) (bs : List Row) (b : List ℕ) → body_with id bs ≡ some b → (h : Held) → HeldIs s id bs h
        → FoundAt s b (numbers_of (held_at h))
    found s id bs b e None k = absurd (none_some b (sym k ∙ e))
    found s id bs b e (Some x) k =
        let q : part s x.at x.len ≡ b = some_same (part s x.at x.len) b (sym k.which ∙ e) in
        record { answer = refl; bytes = q; len = sym (part_has s x.at x.len k.inside).1 ∙ ap length q; inside = k.inside }

-- a check that calls the image sound is not answered 16
sound_other : (n end : ℕ) (h : Held) → (numbers_of (found_in (contents n end h))).answer ≡ 16 → ⊥
sound_other n end None e = omega arith
sound_other n end (Some b) e = omega arith

-- `SoundExactly`
pub sound_exactly : SoundExactly
sound_exactly s id bytes l = (
  λ n. go (check_of s id) refl n,
  λ x e. let w = check_tells s id x.0 x.1 in
      sound_other (length x.0) (length (image_of (layout_of s) x.0)) w.0
      (ap (λ (v : ImageCheck). (numbers_of (found_in v)).answer) (sym w.1) ∙ sym (ap (λ r. r.answer) (ap numbers_of (find_in_lem s id l))) ∙ e),
)
  where
    go : (v : ImageCheck) → check_of s id ≡ v → ((numbers_of (find_of s id)).answer ≡ 16 → ⊥) → (bs : List Row) × Holds s bs
    go (Some v) e n = (rows_held s, check_says s id bytes v.rows v.end v.held e)
    go None e n = absurd (n (ap (λ r. r.answer) (unsound_16 s id l e)))

-- `EditionsKnown`
pub editions_known : EditionsKnown
editions_known s id l other = unsound_16 s id l (editions_named s id other)

-- ---- the part that is handed back

-- a body that was found lies in the image
abbrev pub FindFits : List ℕ → Finding → Type 0
FindFits s (Ok p) = p.at + p.len ≤ length s
FindFits s (Err refusal) = Unit {0}

-- it does so for every id
pub find_fits : (s id : List ℕ) → AreBytes s → FindFits s (find_of s id)
unfolding find-of
find_fits s id bytes = test (eqb (length id) id_size)
  where
    held : (h : Held) → HeldFits s h → FindFits s (held_at h)
    held None k = tt
    held (Some b) k = k.0

    go : (v : ImageCheck) → CheckFits s v → FindFits s (found_in v)
    go (Some v) k = held v.held k.1
    go None k = tt

    test : (t : Bool) → FindFits s (elim t as (λ t. Finding) [ true ↦ found_in (check_of s id) | false ↦ Err Malformed ])
    test true = go (check_of s id) (found.check_inside (layout_of s) (named_ok s) s id bytes)
    test false = tt

-- `BodyHanded`
pub body_handed : BodyHanded
body_handed s id bytes = go (find_of s id) refl
  where
    go : (r : Finding) → find_of s id ≡ r → body_span s r ≡ span_of (numbers_of r).body_at (numbers_of r).body_len
    go (Ok p) e = let l : p.at + p.len ≤ length s = subst (FindFits s) e (find_fits s id bytes) in inside_fits s p.at p.len (omega arith)
        (omega arith)
    go (Err Malformed) e = refl
    go (Err BadImage) e = refl
    go (Err NotFound) e = refl
