-- The readers of single values are exact (specs/Value.antt): each reads exactly the encodings of what is allowed. Assumes nothing.
use mathlib.Core.Path.{◌≡◌, refl, sym, ap}
use mathlib.Core.Logic.{◌↔◌}
use mathlib.Core.Bool.{Bool, true, false, cond, ◌&&◌}
use mathlib.Core.List.{List, [], ◌∷◌}
use Prim.Native.Nat.{ℕ, zero, suc, ◌+◌, ◌^◌, ◌≤◌, ◌<◌}
use native.Mathlib.Nat.{zero-add}
use native.Mathlib.Omega.{arith}
use lib.ListN.{length, get_or}
use lib.Dec.{T, leb, eqb, lit<}
use Rattle.octets.specs.Bytes.{AreBytes, part, Has, has_at, clash}
use Rattle.octets.proofs.BytesLaws.{has_right, has_part, has_clash, has_at_yes, yes_has_at}
use Rattle.octets.proofs.TruthLaws.{T_true, eqb_test, leb_test, and_test}
use Rattle.exact.specs.Reads.{got, Reads, found, lacks}
use Rattle.exact.proofs.ReadsLaws.{recast, refine}
use Rattle.cbor_item_spec.specs.Encoding.{head}
use Rattle.cbor_item_spec.specs.Utf8.{is_utf8}
use Rattle.cbor_item_spec.specs.Head.{head_of, encode_string}
use Rattle.cbor_item_spec.proofs.Promises.{heads_exact, spans_exact, utf8_exact}
use Rattle.resource_spec.specs.Identifier.{is_fay, is_terminal}
use Rattle.resource_spec.specs.Text.{pattern_ok}
use Rattle.resource_spec.proofs.Laws.{terminal_length, fay_length, pattern_short}
use Rattle.entries_spec.specs.declared.Kind.{Kind}
use Rattle.entries_spec.specs.declared.Kind.TheVariants.{Text, Bytes, Terminal, Fay, Pattern}
use Rattle.entries_spec.specs.Kinds.{within, major_of, is_kind}
use Rattle.entries_spec.specs.Allowed.{TextOk, KindOk, TimeOk}
use Rattle.entries_spec.specs.Value.{count_at, time_at, string_at, kind_at, one_of}
use Rattle.entries_spec.specs.View.{content_span}

-- ---- tests

-- the test of limits holds exactly of a number between them
within_test : (lo hi n : ℕ) → T (within lo hi n) ↔ ((lo ≤ n) × (n ≤ hi))
within_test lo hi n = and_test (leb lo n) (leb n hi) (leb_test lo n) (leb_test n hi)

-- the test of a text holds exactly of an allowed text
text_test : (lo hi : ℕ) (c : List ℕ) → T (within lo hi (length c) && is_utf8 c) ↔ TextOk lo hi c
text_test lo hi c =
    let both = and_test (within lo hi (length c)) (is_utf8 c) (within_test lo hi (length c)) (T_true (is_utf8 c)) in (
      λ t. let p = both.0 t in record { least = p.0.0; most = p.0.1; valid = (utf8_exact c).0 p.1 },
      λ p. both.1 ((p.least, p.most), (utf8_exact c).1 p.valid),
    )

-- the test of a kind holds exactly of what is allowed
kind_test : (kind : Kind) (c : List ℕ) → T (is_kind kind c) ↔ KindOk kind c
unfolding is_kind
kind_test (Text lo hi) c = text_test lo hi c
kind_test (Bytes lo hi) c = within_test lo hi (length c)
kind_test Terminal c = T_true (is_terminal c)
kind_test Fay c = T_true (is_fay c)
kind_test Pattern c = T_true (pattern_ok c)

-- ---- heads

-- the length of every string of the kind has a head
abbrev pub KindShort : Kind → Type 0
KindShort (Text lo hi) = hi < 2 ^ 64
KindShort (Bytes lo hi) = hi < 2 ^ 64
KindShort Terminal = Unit {0}
KindShort Fay = Unit {0}
KindShort Pattern = Unit {0}

-- so it is
kind_length : (kind : Kind) → KindShort kind → (c : List ℕ) → KindOk kind c → length c < 2 ^ 64
kind_length (Text lo hi) l c p = omega (arith, p.most)
kind_length (Bytes lo hi) l c p = omega arith
kind_length Terminal l c p = omega (arith, terminal_length c p)
kind_length Fay l c p = omega (arith, fay_length c p)
kind_length Pattern l c p = omega (arith, pattern_short c p)

-- a kind's major type has a head
kind_major : (kind : Kind) → major_of kind < 8
kind_major (Text lo hi) = lit< tt
kind_major (Bytes lo hi) = lit< tt
kind_major Terminal = lit< tt
kind_major Fay = lit< tt
kind_major Pattern = lit< tt

-- ---- tables

-- an entry cannot stand at one place with any entry of a table
abbrev pub AllApart : List ℕ → List (List ℕ) → Type 0
AllApart k [] = Unit {0}
AllApart k (l ∷ ls) = T (clash k l) × AllApart k ls

-- no two entries of a table can stand at one place
abbrev pub Apart : List (List ℕ) → Type 0
Apart [] = Unit {0}
Apart (k ∷ ks) = AllApart k ks × Apart ks

-- the entry clashes with each entry of that table
apart_at : (k : List ℕ) (ks : List (List ℕ)) (i : ℕ) → AllApart k ks → i < length ks → T (clash k (get_or ks i []))
apart_at k [] i t h = absurd (omega arith)
apart_at k (l ∷ ls) zero t h = t.0
apart_at k (l ∷ ls) (suc i) t h = apart_at k ls i t.1 (omega arith)

module _ (s : List ℕ) (at i : ℕ) (k : List ℕ) (ks : List (List ℕ)) (far : AllApart k ks)
    (rest : Reads s at (λ (m : ℕ). m < length ks) (λ (m : ℕ). get_or ks m []) (λ (m : ℕ). suc i + m) (one_of s at (suc i) ks)) where
  -- where the first entry stands, no other does
  only_first : Has s at k → (m : ℕ) → m < length (k ∷ ks) → Has s at (get_or (k ∷ ks) m []) → m ≡ 0
  only_first here zero l h = refl
  only_first here (suc m) l h = absurd (has_clash s at k (get_or ks m []) (apart_at k ks m far (omega arith)) here h)

  -- where the first entry does not stand, one of the others does
  one_of_rest : (Has s at k → ⊥) → (m : ℕ) → m < length (k ∷ ks) → Has s at (get_or (k ∷ ks) m [])
      → (j : ℕ) × (j < length ks) × (get_or ks j [] ≡ get_or (k ∷ ks) m []) × (suc j ≡ m)
  one_of_rest away zero l h = absurd (away h)
  one_of_rest away (suc m) l h = (m, omega arith, refl, refl)

  -- testing the first entry and then the others is exact
  one_step_lem : (b : Bool) → (T b → Has s at k) → (Has s at k → T b)
      → Reads s at (λ (m : ℕ). m < length (k ∷ ks)) (λ (m : ℕ). get_or (k ∷ ks) m []) (λ (m : ℕ). i + m)
      (cond b (got i (at + length k)) (one_of s at (suc i) ks))
  one_step_lem true yes' no' =
      found {r = i} {n = at + length k} (record {
        val = 0;
        fine = omega arith;
        has = yes' tt;
        seen = omega arith;
        next = refl;
        only = only_first (yes' tt);
      })
  one_step_lem false yes' no' =
      recast rest (λ m. m < length (k ∷ ks)) (λ m. get_or (k ∷ ks) m []) (λ m. i + m) suc
      (λ m p h. (omega arith, refl, omega arith))
      (one_of_rest no')

-- reading one of a table is exact, where its entries are numbered from i on
one_from : (s : List ℕ) (at i : ℕ) (table : List (List ℕ)) → Apart table
    → Reads s at (λ (m : ℕ). m < length table) (λ (m : ℕ). get_or table m []) (λ (m : ℕ). i + m) (one_of s at i table)
unfolding one_of
one_from s at i [] apart = lacks (λ m l h. omega arith)
one_from s at i (k ∷ ks) apart =
    one_step_lem s at i k ks apart.0 (one_from s at (suc i) ks apart.1) (has_at s at k) (has_at_yes s at k) (yes_has_at s at k)

-- ---- the readers

module _ (s : List ℕ) (bs : AreBytes s) (at : ℕ) where
  -- reading a number between two limits under a head is exact
  pub count_exact : (major lo hi : ℕ) → major < 8 → hi < 2 ^ 64
      → Reads s at (λ (n : ℕ). (lo ≤ n) × (n ≤ hi)) (head major) (λ (n : ℕ). n) (count_at s at major lo hi)
  unfolding count_at
  count_exact major lo hi k l =
      recast
      (refine (heads_exact s bs at) (λ h. (h.major ≡ major) × ((lo ≤ h.number) × (h.number ≤ hi))) (λ h. h.number)
      (λ h n. eqb h.major major && within lo hi h.number) (λ h n. h.number)
      (λ h p e. (
        and_test (eqb h.major major) (within lo hi h.number) (eqb_test h.major major)
            (within_test lo hi h.number),
        refl,
      )))
      (λ n. (lo ≤ n) × (n ≤ hi)) (head major) (λ n. n) (λ h. h.number)
      (λ h p e. (p.1.1, ap (λ (m : ℕ). head m h.number) (sym p.1.0), refl))
      (λ n p e. (head_of major n, (record { major = k; number = omega arith }, (refl, p)), refl, refl))

  -- reading a time is exact
  pub time_exact : Reads s at TimeOk (head 0) (λ (t : ℕ). t) (time_at s at)
  time_exact =
      recast (count_exact 0 0 18446744073709551615 (lit< tt) (lit< tt)) TimeOk (head 0) (λ t. t) (λ t. t)
      (λ t p h. (omega arith, refl, refl))
      (λ t p h. (t, (omega arith, omega arith), refl, refl))

  -- reading a string of a kind is exact
  pub string_exact : (kind : Kind) → KindShort kind
      → Reads s at (KindOk kind) (encode_string (major_of kind)) (content_span at (major_of kind)) (kind_at kind s at)
  unfolding kind_at string_at
  string_exact kind l =
      let major = major_of kind in
      recast
      (refine (spans_exact s bs at major (kind_major kind)) (KindOk kind) (content_span at major)
      (λ c n. is_kind kind (part s c.start c.len)) (λ c n. c)
      (λ c p h. (rw (has_part s _ c (has_right s at (head major (length c)) c h)) (kind_test kind c), refl)))
      (KindOk kind) (encode_string major) (content_span at major) (λ c. c)
      (λ c p h. (p.1, refl, refl))
      (λ c p h. (c, (kind_length kind l c p, p), refl, refl))

  -- reading one of a table is exact, where no two entries can stand at one place
  pub one_exact : (table : List (List ℕ)) → Apart table → Reads s at (λ (m : ℕ). m < length table) (λ (m : ℕ). get_or table m [])
      (λ (m : ℕ). m) (one_of s at 0 table)
  one_exact table apart = simp zero-add at (one_from s at 0 table apart)
