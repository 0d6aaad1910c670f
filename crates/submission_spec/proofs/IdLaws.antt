-- The three ids that a submission asks for, in the bytes and in the descriptor (specs/Submission.antt, specs/Promises.antt). Assumes nothing.
use mathlib.Core.Path.{◌≡◌, refl, sym, ap, ap₂, ◌∙◌, subst}
use mathlib.Core.Logic.{◌↔◌}
use mathlib.Core.Bool.{Bool, true, cond, ◌&&◌, false≢true}
use mathlib.Core.List.{List, [], ◌∷◌, ◌++◌}
use Prim.Native.Nat.{ℕ, ◌-◌}
use native.Mathlib.Omega.{arith}
use lib.ListN.{length, drop}
use lib.Seq.{drop_at}
use lib.Dec.{leb, eqb}
use borrow.Author.Tests.{eqb-true}
use Rattle.octets.specs.Bytes.{AreBytes}
use Rattle.octets.proofs.Tests.{by_cond, and_left, and_right, and_both, no_flag}
use Rattle.octets.proofs.PartLaws.{part_later, part_bytes}
use Rattle.resource_spec.specs.Characters.{codes}
use Rattle.resource_spec.specs.Identifier.{Slot, char, has_form, uuid_form, fay_form, terminal_form, fay_size, terminal_size, is_fay, is_terminal}
use Rattle.resource_spec.specs.Promises.{form}
use Rattle.uuid_spec.specs.Uuid.{IsVersion7, text}
use Rattle.uuid_spec.specs.Version7.{is_version7, is_version7_text}
use Rattle.uuid_spec.proofs.Promises.{octets_exactly, text_of_version7}
use Rattle.descriptor_spec.specs.declared.Fields.{Fields}
use Rattle.std.specs.Prelude.{Option as CodeOption, Some, None, Ok, Err}
use Rattle.descriptor_spec.specs.declared.ReadError.TheVariants.{Structure, Validity}
use Rattle.descriptor_spec.specs.Reading.{Reading}
use Rattle.descriptor_spec.specs.Model.{Descriptor, encode}
use Rattle.descriptor_spec.specs.Allowed.{longest_period, Formed}
use Rattle.descriptor_spec.specs.Reader.{formed_in}
use Rattle.descriptor_spec.specs.View.{descriptor_view}
use Rattle.descriptor_spec.specs.Code.{fields_of, form_of, within_period, reading_in}
use Rattle.descriptor_spec.specs.Numbers.{number_of}
use Rattle.descriptor_spec.proofs.Laws.{formed_exactly, read_by_period, seen_handed}
use Rattle.image_spec.specs.Image.{reading, is_read}
use Rattle.submission_spec.specs.Submission.{fay_text, terminal_text, ids_in, entering_by, entering}
use Rattle.submission_spec.specs.Promises.{Version7After, version7_ids, IdsExactly}

-- ---- a prefix and a UUID text

-- the characters of a prefix, before other slots
abbrev after : List ℕ → List Slot → List Slot
after [] fs = fs
after (c ∷ cs) fs = char c ∷ after cs fs

-- a text of such a form is the prefix and a text of the other slots
prefix_first : (cs : List ℕ) (fs : List Slot) (s : List ℕ) → has_form (after cs fs) s ≡ true
    → (s ≡ cs ++ drop (length cs) s) × (has_form fs (drop (length cs) s) ≡ true)
unfolding has_form
prefix_first [] fs s e = (refl, e)
prefix_first (c ∷ cs) fs [] e = no_flag e
prefix_first (c ∷ cs) fs (b ∷ s) e =
    let k = prefix_first cs fs s (and_right (eqb b c) _ e) in
    (ap₂ (λ (x : ℕ) (u : List ℕ). x ∷ u) (eqb-true b c (and_left (eqb b c) _ e)) k.0, k.1)

-- document 01's form of a UUID text, as the letters show it
uuid_letters : uuid_form ≡ form (codes "xxxxxxxx-xxxx-xxxx-xxxx-xxxxxxxxxxxx")
unfolding uuid_form
uuid_letters = refl

-- after a prefix a UUID text is accepted exactly when the whole is the prefix and the text of a UUID of version 7
accepted_after : (cs s : List ℕ) → has_form (after cs uuid_form) s ≡ true
    → (is_version7_text (drop (length cs) s) ≡ true) ↔ ((b : List ℕ) × IsVersion7 b × (s ≡ cs ++ text b))
accepted_after cs s e =
    let k = prefix_first cs uuid_form s e in
    let t : List ℕ = drop (length cs) s in
    let v = text_of_version7 t (sym (ap (λ (fs : List Slot). has_form fs t) uuid_letters) ∙ k.1) in (
      λ a. let w = v.0 a in (w.0, w.1, k.0 ∙ ap (λ (u : List ℕ). cs ++ u) w.2),
      λ w. v.1 (w.0, w.1, ap (drop (length cs)) w.2 ∙ drop_at cs (text w.0) (length cs) refl),
    )

-- ---- the ids of a descriptor

module _ (c : Descriptor) (q : Formed c) where
  -- the fay id
  fay_accepted : (is_version7_text (drop 4 c.payload.fay) ≡ true) ↔ Version7After "fay:" c.payload.fay
  unfolding is_fay fay_form
  fay_accepted = accepted_after (codes "fay:") c.payload.fay q.payload.fay

  -- the terminal id
  terminal_accepted : (is_version7_text (drop 9 c.payload.terminal) ≡ true) ↔ Version7After "terminal:" c.payload.terminal
  unfolding is_terminal terminal_form
  terminal_accepted = accepted_after (codes "terminal:") c.payload.terminal q.payload.terminal

  -- the descriptor id is octets where the encoding is
  id_octets : AreBytes (encode c) → AreBytes c.payload.id
  id_octets bytes = let h = (seen_handed c q).id in subst AreBytes h (part_bytes (encode c) _ 16 bytes)

  -- the ids that are seen in the encoding are the descriptor's
  ids_seen_lem : ids_in (encode c) (fields_of (descriptor_view 0 c)) ≡ version7_ids c
  unfolding ids_in
  ids_seen_lem =
      let h = seen_handed c q in
      let v = (descriptor_view 0 c).payload in
      ap₂ (λ (x y : Bool). x && y) (ap is_version7 h.id)
      (ap₂ (λ (x y : Bool). x && y)
      (ap is_version7_text (part_later (encode c) v.fay fay_size fay_text ∙ ap (drop fay_text) h.fay))
      (ap is_version7_text (part_later (encode c) v.terminal terminal_size terminal_text ∙ ap (drop terminal_text) h.terminal)))

-- `IdsExactly`
pub ids_exactly : IdsExactly
ids_exactly c bytes q =
    let i : Bool = is_version7 c.payload.id in
    let f : Bool = is_version7_text (drop 4 c.payload.fay) in
    let t : Bool = is_version7_text (drop 9 c.payload.terminal) in
    let own = octets_exactly c.payload.id (id_octets c q bytes) in (
      λ e. record {
        id = own.0 (and_left i (f && t) e);
        fay = (fay_accepted c q).0 (and_left f t (and_right i (f && t) e));
        terminal = (terminal_accepted c q).0 (and_right f t (and_right i (f && t) e));
      },
      λ a. and_both i (f && t) (own.1 a.id) (and_both f t ((fay_accepted c q).1 a.fay) ((terminal_accepted c q).1 a.terminal)),
    )

-- ---- what is answered of bytes that are submitted

-- of the encoding of a descriptor that is allowed but for its period: 1 for another id, and then by the period
pub entering_formed : (c : Descriptor) → AreBytes (encode c) → Formed c
    → entering (encode c) ≡ cond (version7_ids c) (within_period (fields_of (descriptor_view 0 c))) (Err Structure)
unfolding entering
entering_formed c bytes q =
    let v = descriptor_view 0 c in
    ap (λ o. entering_by (encode c) (form_of o)) ((formed_exactly (encode c) bytes v).1 (c, q, refl, refl))
    ∙ ap (λ (x : Bool). cond x (within_period (fields_of v)) (Err Structure)) (ids_seen_lem c q)

-- what reading answers, by what is seen before the period is looked at
pub reading_by : (b : List ℕ) → reading b ≡ reading_in (form_of (formed_in b))
unfolding reading
reading_by b = read_by_period b

-- what reading answers with 1 is answered so
pub entering_structure : (b : List ℕ) → reading b ≡ (Err Structure) → entering b ≡ (Err Structure)
unfolding entering within_period
entering_structure b e = go (form_of (formed_in b)) (sym (reading_by b) ∙ e)
  where
    go : (o : CodeOption Fields) → reading_in o ≡ (Err Structure) → entering_by b o ≡ (Err Structure)
    go (Some g) = λ k. absurd (by_cond (λ (r : Reading). r ≡ (Err Structure) → ⊥) (leb (g.not_after.0 - g.not_before.0) longest_period)
        (λ t f. false≢true (sym (ap is_read f))) (λ t f. omega (arith, ap number_of f)) k)
    go None = λ k. refl

-- bytes that enter are read
pub entering_reads : (b : List ℕ) (f : Fields) → entering b ≡ Ok f → reading b ≡ Ok f
unfolding entering
entering_reads b f =
    subst (λ (r : Reading). entering_by b (form_of (formed_in b)) ≡ Ok f → r ≡ Ok f) (sym (reading_by b)) (go (form_of (formed_in b)))
  where
    go : (o : CodeOption Fields) → entering_by b o ≡ Ok f → reading_in o ≡ Ok f
    go (Some g) = by_cond (λ (r : Reading). r ≡ Ok f → within_period g ≡ Ok f) (ids_in b g)
        (λ t e. e)
        (λ t e. absurd (false≢true (ap is_read e)))
    go None = λ e. absurd (false≢true (ap is_read e))

-- the same, as a test
pub entering_read : (b : List ℕ) → is_read (entering b) ≡ true → is_read (reading b) ≡ true
entering_read b = go (entering b) refl
  where
    go : (r : Reading) → entering b ≡ r → is_read r ≡ true → is_read (reading b) ≡ true
    go (Ok f) e = λ t. ap is_read (entering_reads b f e)
    go (Err Structure) e = λ t. absurd (false≢true t)
    go (Err Validity) e = λ t. absurd (false≢true t)
