-- A UUID text is accepted exactly when it is lower case and what it spells is of version 7 (specs/Version7.antt). Assumes nothing.
use mathlib.Core.Path.{◌≡◌, refl, sym, ap, ap₂, ◌∙◌, subst}
use mathlib.Core.Bool.{Bool, true, false, not, ◌&&◌}
use mathlib.Core.List.{List, [], ◌∷◌}
use Prim.Native.Nat.{ℕ, ◌+◌, ◌/◌}
use native.Mathlib.Omega.{arith}
use lib.ListN.{length, drop, get_or}
use lib.Dec.{eqb}
use borrow.Author.Tests.{not-true, eq-eqb}
use Rattle.octets.specs.Bytes.{AreBytes}
use Rattle.octets.proofs.Tests.{and_left, and_right, and_both}
use Rattle.uuid_spec.specs.Uuid.{IsVersion7, digit, text, lower, lowered, Spells}
use Rattle.uuid_spec.specs.Version7.{version_octet, variant_octet, is_version7, version_place, variant_place, is_upper, no_upper, is_variant_digit, is_version7_text}
use Rattle.uuid_spec.specs.Promises.{TextExactly, TextOfVersion7}
use Rattle.uuid_spec.proofs.DigitLaws.{digit_seven, digit_variant}
use Rattle.uuid_spec.proofs.OctetLaws.{octets_exactly}
use Rattle.uuid_spec.proofs.SpellLaws.{texts_spell, text_spells}

-- ---- lower case

-- a character that is no letter of A-Z is itself in lower case
none_lower : (c : ℕ) → is_upper c ≡ false → lower c ≡ c
none_lower c e = rw e

-- and so is a text without one
none_lowered : (t : List ℕ) → no_upper t ≡ true → lowered t ≡ t
unfolding no_upper
none_lowered [] e = refl
none_lowered (c ∷ t) e =
    ap₂ (λ (x : ℕ) (u : List ℕ). x ∷ u) (none_lower c (not-true (is_upper c) (and_left (not (is_upper c)) _ e)))
    (none_lowered t (and_right (not (is_upper c)) _ e))

-- a character that is itself in lower case is no letter of A-Z
lower_none : (c : ℕ) → lower c ≡ c → not (is_upper c) ≡ true
lower_none c e = go (is_upper c) refl
  where
    go : (t : Bool) → is_upper c ≡ t → not t ≡ true
    go true k = let up : lower c ≡ c + 32 = rw k in absurd (omega (arith, up, e))
    go false k = refl

-- and a text that is itself in lower case has none
lowered_none : (t : List ℕ) → lowered t ≡ t → no_upper t ≡ true
unfolding no_upper
lowered_none [] e = refl
lowered_none (c ∷ t) e =
    and_both (not (is_upper c)) (no_upper t) (lower_none c (ap (λ (l : List ℕ). get_or l 0 0) e)) (lowered_none t (ap (drop 1) e))

-- ---- where the two digits stand

-- what holds of four elements before k others holds of each list of 4 + k
by_four : (P : List ℕ → Type 0) (k : ℕ) → ((a b c d : ℕ) (r : List ℕ) → length r ≡ k → P (a ∷ b ∷ c ∷ d ∷ r))
    → (l : List ℕ) → length l ≡ 4 + k → P l
by_four P k f [] e = absurd (omega arith)
by_four P k f (a ∷ []) e = absurd (omega arith)
by_four P k f (a ∷ b ∷ []) e = absurd (omega arith)
by_four P k f (a ∷ b ∷ c ∷ []) e = absurd (omega arith)
by_four P k f (a ∷ b ∷ c ∷ d ∷ r) e = f a b c d r (omega arith)

-- the text of 16 octets has 36 characters, and the digits of the version and of the variant at their places
record Places (b : List ℕ) : Type 0 where
  long : length (text b) ≡ 36
  version : get_or (text b) version_place 0 ≡ digit (get_or b version_octet 0 / 16)
  variant : get_or (text b) variant_place 0 ≡ digit (get_or b variant_octet 0 / 16)

text_places : (b : List ℕ) → length b ≡ 16 → Places b
text_places =
    by_four Places 12 (λ x0 x1 x2 x3 r.
    by_four (λ l. Places (x0 ∷ x1 ∷ x2 ∷ x3 ∷ l)) 8 (λ x4 x5 x6 x7 r.
    by_four (λ l. Places (x0 ∷ x1 ∷ x2 ∷ x3 ∷ x4 ∷ x5 ∷ x6 ∷ x7 ∷ l)) 4 (λ x8 x9 x10 x11 r.
    by_four (λ l. Places (x0 ∷ x1 ∷ x2 ∷ x3 ∷ x4 ∷ x5 ∷ x6 ∷ x7 ∷ x8 ∷ x9 ∷ x10 ∷ x11 ∷ l)) 0 (λ x12 x13 x14 x15 r e.
    record { long = refl; version = refl; variant = refl }) r) r) r)

-- ---- the text

-- of the text of 16 octets the two tests are those of the octets
text_tests : (b : List ℕ) → AreBytes b → length b ≡ 16
    → (eqb (get_or (text b) version_place 0) 55 && is_variant_digit (get_or (text b) variant_place 0)) ≡ (eqb (get_or b version_octet 0 / 16) 7 && eqb (get_or b variant_octet 0 / 64) 2)
text_tests b f l =
    let p = text_places b l in
    let two : get_or b variant_octet 0 / 16 / 4 ≡ get_or b variant_octet 0 / 64 = omega arith in
    ap₂ (λ (x y : Bool). x && y)
    (ap (λ (c : ℕ). eqb c 55) p.version ∙ digit_seven (get_or b version_octet 0 / 16) (omega (arith, f version_octet)))
    (ap is_variant_digit p.variant ∙ digit_variant (get_or b variant_octet 0 / 16) (omega (arith, f variant_octet)) ∙ ap (λ (n : ℕ). eqb n 2) two)

-- of a text in lower case that spells octets the answer is that of the octets
lower_answer : (t b : List ℕ) → Spells t b → lowered t ≡ t → is_version7_text t ≡ is_version7 b
unfolding is_version7_text is_version7
lower_answer t b s e =
    let same : t ≡ text b = sym e ∙ s.text in
    let p = text_places b s.size in
    let long : length t ≡ 36 = ap length same ∙ p.long in
    let tests : (eqb (get_or t version_place 0) 55 && is_variant_digit (get_or t variant_place 0)) ≡ (eqb (get_or b version_octet 0 / 16) 7 && eqb (get_or b variant_octet 0 / 64) 2)
    = ap (λ (u : List ℕ). eqb (get_or u version_place 0) 55 && is_variant_digit (get_or u variant_place 0)) same ∙ text_tests b s.octets s.size in
    rw (eq-eqb (length t) 36 long, eq-eqb (length b) 16 s.size, lowered_none t e, tests)

-- a text that is accepted has no letter of A-Z
accepted_lower : (t : List ℕ) → is_version7_text t ≡ true → lowered t ≡ t
unfolding is_version7_text
accepted_lower t e = none_lowered t (and_left (no_upper t) _ (and_right (eqb (length t) 36) _ e))

-- `TextExactly`
pub text_exactly : TextExactly
text_exactly t b s = (
  λ e. let low : lowered t ≡ t = accepted_lower t e in
      (low, (octets_exactly b s.octets).0 (sym (lower_answer t b s low) ∙ e)),
  λ w. lower_answer t b s w.0 ∙ (octets_exactly b s.octets).1 w.1,
)

-- `TextOfVersion7`
pub text_of_version7 : TextOfVersion7
text_of_version7 t e = (
  λ a.
      let w = (texts_spell t).0 e in
      let x = (text_exactly t w.0 w.1).0 a in
      (w.0, x.1, sym x.0 ∙ w.1.text),
  λ w.
      let v : IsVersion7 w.0 = w.1 in
      let s : Spells (text w.0) w.0 = text_spells w.0 v.octets v.size in
      subst (λ (u : List ℕ). is_version7_text u ≡ true) (sym w.2) ((text_exactly (text w.0) w.0 s).1 (s.text, v)),
)
