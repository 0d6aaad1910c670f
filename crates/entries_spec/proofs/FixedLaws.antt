-- Values whose heads are known bytes: after a key and such a head, which are compared as one byte string, the value is read without
-- looking at its head again. Assumes nothing.
use mathlib.Core.Path.{◌≡◌, refl, sym, ap, ◌∙◌}
use mathlib.Core.Bool.{true, ◌&&◌}
use mathlib.Core.Logic.{◌≢◌}
use mathlib.Core.List.{List, [], ◌∷◌, ◌++◌}
use Prim.Native.Nat.{ℕ, ◌+◌, ◌-◌, ◌/◌, ◌%◌, ◌^◌, ◌≤◌, ◌<◌}
use native.Mathlib.Omega.{arith}
use native.Mathlib.Numerals.{add-one}
use lib.ListN.{length, get_or, take, drop}
use lib.Seq.{drop-cons}
use lib.Dec.{T, ltb, leb, eqb}
use borrow.Author.Tests.{le-leb, lt-leb, ltb-true, lt-ltb, le-ltb, eq-eqb}
use Rattle.octets.proofs.Tests.{and_left, and_right}
use Rattle.octets.specs.Bytes.{part, Has, has_at}
use Rattle.octets.specs.Number.{number_at, number_in}
use Rattle.octets.proofs.NumberLaws.{number_in_lem, number_short}
use Rattle.octets.specs.Span.{Span, span_of}
use Rattle.octets.proofs.BytesLaws.{has_fits, has_left, has_right, has_at_yes, yes_has_at, has_at_differs}
use Rattle.exact.specs.Reads.{got, bind, guard}
use Rattle.exact.proofs.ReadsLaws.{took, passed, flag_yes}
use Rattle.cbor_item_spec.specs.Head.{long_head, wide_head, head_at, span_in, span_at}
use Rattle.entries_spec.specs.declared.Kind.{Kind}
use Rattle.entries_spec.specs.Kinds.{major_of, is_kind}
use Rattle.entries_spec.specs.Value.{count_at, time_at, string_at, kind_at, keyed_at, absent, or_absent}
use Rattle.entries_spec.specs.Reader.{opt_pairs_at}

-- ---- bytes

-- the first byte of what stands at a place
pub has_byte : (s : List ℕ) (at b : ℕ) (rest : List ℕ) → Has s at (b ∷ rest) → (at < length s) × (get_or s at 0 ≡ b)
unfolding Has part
has_byte s at b rest h =
    let here : at < length s = omega (arith, has_fits s at (b ∷ rest) (omega arith) h) in
    let first : take (length (b ∷ rest)) (drop at s) ≡ get_or s at 0 ∷ take (length rest) (drop (at + 1) s) = rw (add-one, drop-cons s at 0 here) in
    (here, ap (λ l. get_or l 0 0) (sym first ∙ h))

-- the number in one byte is the byte
pub byte_number : (s : List ℕ) (at : ℕ) → number_at s at 1 ≡ get_or s at 0
unfolding number_at
byte_number s at = let here : at + 0 ≡ at = omega arith in rw here (omega arith)

-- ---- heads

module _ (s : List ℕ) (at b : ℕ) where
  -- the span of a string whose length is in the initial byte
  pub span_one : (major n : ℕ) → Has s at (b ∷ []) → b / 32 ≡ major → b % 32 ≡ n → n < 24 → at + 1 + n ≤ length s
      → got (span_of (at + 1) n) (at + 1 + n) ≡ span_at s at major
  unfolding span_at head_at bind guard span_in
  span_one major n h m e l r =
      let p = has_byte s at b [] h in
      rw (lt-leb (length s) at p.0, p.1, e, m, lt-ltb n 24 l, eq-eqb major major refl, le-ltb (length s - (at + 1)) n (omega arith))

  -- the span of a string whose length is in the byte after it
  pub span_two : (major n : ℕ) → Has s at (b ∷ n ∷ []) → b / 32 ≡ major → b % 32 ≡ 24 → 24 ≤ n → at + 2 + n ≤ length s
      → got (span_of (at + 2) n) (at + 2 + n) ≡ span_at s at major
  unfolding span_at head_at wide_head long_head bind guard span_in
  span_two major n h m e l r =
      let p = has_byte s at b (n ∷ []) h in
      let q = has_byte s (at + 1) n [] (has_right s at (b ∷ []) (n ∷ []) h) in
      let next : at + 1 + 1 ≡ at + 2 = omega arith in
      rw (
        lt-leb (length s) at p.0,
        p.1,
        e,
        m,
        le-ltb (length s - (at + 1)) 1 (omega arith),
        byte_number s (at + 1),
        q.1,
        le-ltb n 24 l,
        eq-eqb major major refl,
        next,
        le-ltb (length s - (at + 2)) n (omega arith),
      )

-- a time in four bytes
pub time_four : (s : List ℕ) (at : ℕ) → Has s at (26 ∷ []) → at + 5 ≤ length s → 65536 ≤ number_at s (at + 1) 4
    → number_at s (at + 1) 4 ≤ 18446744073709551615 → got (number_at s (at + 1) 4) (at + 5) ≡ time_at s at
unfolding count_at head_at wide_head long_head bind guard
time_four s at h r l m =
    let p = has_byte s at 26 [] h in
    let next : at + 1 + 4 ≡ at + 5 = omega arith in
    rw (
      lt-leb (length s) at p.0,
      p.1,
      le-ltb (length s - (at + 1)) 4 (omega arith),
      le-ltb (number_at s (at + 1) 4) 65536 l,
      le-leb 0 (number_at s (at + 1) 4) (omega arith),
      le-leb (number_at s (at + 1) 4) 18446744073709551615 m,
      next,
    )

-- ---- values after their keys

-- a key with a head behind it stands at a place: so does the key
pub key_before : (s : List ℕ) (at : ℕ) (k h : List ℕ) → T (has_at s at (k ++ h)) → T (has_at s at k)
key_before s at k h t = yes_has_at s at k (has_left s at k h (has_at_yes s at (k ++ h) t))

-- and the head stands behind it
pub head_behind : (s : List ℕ) (at : ℕ) (k h : List ℕ) → T (has_at s at (k ++ h)) → Has s (at + length k) h
head_behind s at k h t = has_right s at k h (has_at_yes s at (k ++ h) t)

-- a string of a kind after its key, whose span is known
pub keyed_known : (kind : Kind) (s : List ℕ) (at : ℕ) (k : List ℕ) (c : Span) (n : ℕ) → T (has_at s at k)
    → got c n ≡ span_at s (at + length k) (major_of kind) → is_kind kind (part s c.start c.len) ≡ true
    → got c n ≡ keyed_at s at k (kind_at kind s)
unfolding kind_at string_at
keyed_known kind s at k c n t e i = passed _ t (took _ e (flag_yes _ (is_kind kind (part s c.start c.len)) refl i refl))

-- a time after its key, in four bytes
pub keyed_time_four : (s : List ℕ) (at : ℕ) (k : List ℕ) → T (has_at s at (k ++ (26 ∷ []))) → at + length k + 5 ≤ length s
    → 65536 ≤ number_at s (at + length k + 1) 4 → number_at s (at + length k + 1) 4 ≤ 18446744073709551615
    → got (number_at s (at + length k + 1) 4) (at + length k + 5) ≡ keyed_at s at k (time_at s)
keyed_time_four s at k t r l m = passed _ (key_before s at k _ t) (time_four s (at + length k) (head_behind s at k _ t) r l m)

-- a number that is not 0 is there
pub number_there : (s : List ℕ) (at w n : ℕ) → n ≡ number_in s at w → 0 < n → at + w ≤ length s
number_there s at w n e h =
    let not_short : length s < at + w → ⊥ = λ l. omega (arith, e, number_short s at w l) in
    omega (arith, not_short)

-- the same as the code finds it: the number is looked for at p, and what follows the time at q
pub time_found : (s : List ℕ) (at : ℕ) (k : List ℕ) (p q n : ℕ) → p ≡ at + length k + 1 → q ≡ at + length k + 5
    → T (has_at s at (k ++ (26 ∷ []))) → n ≡ number_in s p 4 → 65536 ≤ n → n < 256 ^ 4 → got n q ≡ keyed_at s at k (time_at s)
time_found s at k p q n e f t i l m =
    let there : p + 4 ≤ length s = number_there s p 4 n i (omega arith) in
    let number : number_at s (at + length k + 1) 4 ≡ n = ap (λ x. number_at s x 4) (sym e) ∙ sym (number_in_lem s p 4 (omega arith) there) ∙ sym i in
    let after : at + length k + 5 ≡ q = sym f in
    ap (λ x. got x q) (sym number) ∙ ap (got (number_at s (at + length k + 1) 4)) (sym after)
    ∙ keyed_time_four s at k t (omega (arith, there)) (omega (arith, number)) (omega (arith, number))

-- ---- counts and maps

-- a count below 24 is in the initial byte
pub count_one : (s : List ℕ) (at major lo hi : ℕ) → at < length s
    → (eqb (get_or s at 0 / 32) major && (leb lo (get_or s at 0 % 32) && ltb (get_or s at 0 % 32) 24)) ≡ true → 23 ≤ hi
    → got (get_or s at 0 % 32) (at + 1) ≡ count_at s at major lo hi
unfolding count_at head_at bind guard
count_one s at major lo hi h t l =
    let b = get_or s at 0 in
    let rest = and_right (eqb (b / 32) major) (leb lo (b % 32) && ltb (b % 32) 24) t in
    let few = and_right (leb lo (b % 32)) (ltb (b % 32) 24) rest in
    rw (
      lt-leb (length s) at h,
      few,
      and_left (eqb (b / 32) major) (leb lo (b % 32) && ltb (b % 32) 24) t,
      and_left (leb lo (b % 32)) (ltb (b % 32) 24) rest,
      le-leb (b % 32) hi (omega (arith, ltb-true (b % 32) 24 few)),
    )

-- a map of pairs is absent where another byte than the first of its key stands
pub pairs_absent : (s : List ℕ) (at : ℕ) (k : List ℕ) (most : ℕ) → 0 < length k → at < length s → get_or s at 0 ≢ get_or k 0 0
    → got absent at ≡ opt_pairs_at s at k most
unfolding opt_pairs_at or_absent
pairs_absent s at k most p h d = rw (has_at_differs s at k p h d)
