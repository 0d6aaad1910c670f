-- Narrowing of bytes that read: 18, 20 and 0 exactly where the promises have them, and chains. Assumes nothing.
use Rattle.std.specs.Prelude.{Ok, Err}
use mathlib.Core.Path.{◌≡◌, refl, sym, ap, ◌∙◌, subst}
use mathlib.Core.Logic.{◌↔◌}
use mathlib.Core.Bool.{Bool, true, false, cond, ◌&&◌}
use mathlib.Core.List.{List, [], ◌∷◌}
use Prim.Native.Nat.{ℕ, ◌-◌, ◌≤◌, ◌<◌}
use native.Mathlib.Omega.{arith}
use borrow.Author.Tests.{leb-true, le-leb, eq-eqb}
use lib.ListN.{length}
use lib.Dec.{eqb, leb}
use Rattle.octets.specs.Bytes.{AreBytes}
use Rattle.resource_spec.specs.Pattern.{Path, IsPath, Levels, done, deep, name, star, Pattern, admits}
use Rattle.resource_spec.specs.Text.{pattern_of}
use Rattle.resource_spec.specs.Cover.{CanTake}
use Rattle.octets.proofs.Tests.{and_left, and_right, and_both}
use Rattle.descriptor_spec.specs.Model.{Grant, Descriptor}
use Rattle.descriptor_spec.specs.Allowed.{is_in, GrantOk, All, Allowed}
use Rattle.descriptor_spec.specs.Reader.{Seen, Answer, read, structure, validity, read_of}
use Rattle.descriptor_spec.specs.View.{descriptor_view}
use Rattle.descriptor_spec.proofs.Laws.{reads_exactly}
use Rattle.narrowing_spec.specs.Narrow.{Narrowing}
use Rattle.narrowing_spec.specs.declared.NarrowingError.TheVariants.{NoParent, Structure, Validity, Constrained, Period}
use Rattle.narrowing_spec.specs.declared.NarrowingError.TheVariants.{NotCovered}
use Rattle.narrowing_spec.specs.Meaning.{grant_admits, any_admits, Admits}
use Rattle.narrowing_spec.specs.Escape.{witness_path}
use Rattle.narrowing_spec.specs.Narrow.{rules_in, unconstrained, under_parent, narrow}
use Rattle.narrowing_spec.specs.Promises.{ReadAs, PeriodInside, grant_of, FirstEscape, Inside}
use Rattle.narrowing_spec.specs.Laws.{rules_of, Attained}
use Rattle.narrowing_spec.proofs.CoveredLaws.{contra, true_of, or_left, witness_path_lem, witness_admitted}
use Rattle.narrowing_spec.proofs.RuleLaws.{pattern_of_lem, admitting, admitted_by}
use Rattle.narrowing_spec.proofs.ReadLaws.{rules_in_lem, pairs_none}
use Rattle.narrowing_spec.proofs.NumberLaws.{number}
use Rattle.narrowing_spec.proofs.OrderLaws.{goes_on, both_as, read_as}
use Rattle.narrowing_spec.proofs.EscapeLaws.{grants_ok, by_grants, Says, grants_say, grants_escape}

-- ---- answers

-- a choice that is not its second answer is its first, and its test holds
chosen : (b : Bool) (x y : Narrowing) {n : Narrowing} → (y ≡ n → ⊥) → cond b x y ≡ n → (b ≡ true) × (x ≡ n)
chosen true x y d e = (refl, e)
chosen false x y d e = absurd (d e)

-- ---- what the bytes come to

-- bytes of a descriptor are read as it
seen_as : (s : List ℕ) (d : Descriptor) → ReadAs s d → read_of s ≡ read (descriptor_view 0 d)
seen_as s d r = read_as s d r.bytes r.allowed r.encoded

-- the rules read from them are those of its grants
rules_as : (s : List ℕ) (d : Descriptor) → ReadAs s d → rules_in s (descriptor_view 0 d) ≡ rules_of d.payload.grants
rules_as s d r = ap (λ (u : List ℕ). rules_in u (descriptor_view 0 d)) r.encoded
    ∙ rules_in_lem d (subst AreBytes r.encoded r.bytes) r.allowed.formed

-- they have no pair
plain_as : (s : List ℕ) (d : Descriptor) → ReadAs s d → unconstrained (descriptor_view 0 d) ≡ true
plain_as s d r = (pairs_none d r.allowed.formed).1 r.plain

-- the period of the child lies within that of the parent
abbrev within : Descriptor → Descriptor → Bool
within p c = leb p.payload.not_before c.payload.not_before && leb c.payload.not_after p.payload.not_after

-- the answer for two descriptors
narrow_as : (s t : List ℕ) (p c : Descriptor) → ReadAs s p → ReadAs t c → narrow s t ≡ cond (within p c) (by_grants p c) (Err Period)
narrow_as s t p c a b =
    both_as s t (descriptor_view 0 p) (descriptor_view 0 c) (seen_as s p a) (seen_as t c b)
    ∙ rw (plain_as s p a, plain_as t c b, rules_as s p a, rules_as t c b)

-- a child that is accepted reads as a descriptor with no pair
pub accepted_reads : (s t : List ℕ) (p : Descriptor) → ReadAs s p → AreBytes t → narrow s t ≡ Ok tt → (d : Descriptor) × ReadAs t d
accepted_reads s t p a b e = go (read_of t) refl (sym (goes_on s t v (seen_as s p a)) ∙ e)
  where
    v : Seen
    v = descriptor_view 0 p

    go : (r : Answer) → read_of t ≡ r → under_parent s v t r ≡ Ok tt → (d : Descriptor) × ReadAs t d
    go (read w) q h =
        let r = (reads_exactly t b w).0 q in
        let u : (unconstrained v && unconstrained w) ≡ true
        = (chosen (unconstrained v && unconstrained w) _ (Err Constrained) (λ i. absurd (omega (arith, number i)))
        (sym (both_as s t v w (seen_as s p a) q) ∙ e)).0 in
        let n = subst (λ (x : Seen). unconstrained x ≡ true) r.3 (and_right (unconstrained v) (unconstrained w) u) in
        (r.0, record { bytes = b; allowed = r.1; encoded = r.2; plain = (pairs_none r.0 r.1.formed).0 n })
    go structure q h = absurd (omega (arith, number h))
    go validity q h = absurd (omega (arith, number h))

-- ---- inside

-- where the period lies within and the grants answer 0, the child is inside the parent
accepted_inside : (p c : Descriptor) → Allowed p → Allowed c → PeriodInside p c → by_grants p c ≡ Ok tt → Inside p c
accepted_inside p c a b w e moment x m j h =
    let r : (i : ℕ) × (i < length c.payload.grants) × (grant_admits (grant_of c i) m x ≡ true) =
    admitting c.payload.grants _ m x h.granted in
    record {
      begun = omega (arith, w.0, h.begun);
      lasting = omega (arith, w.1, h.lasting);
      granted = true_of (any_admits p.payload.grants m x)
          (λ n. subst (Says p c) e (grants_say p c a b) r.0 r.1 m x j (record { admitted = r.2; outside = n }));
    }

-- there is a number of names that "**" can take
some_take : (p : Levels) → (k : ℕ) × CanTake p k
some_take done = (0, refl)
some_take deep = (1, omega arith)
some_take (name n p) = some_take p
some_take (star p) = some_take p

-- there is a mode among one or more
some_mode : (ms : List ℕ) → 1 ≤ length ms → (m : ℕ) × (is_in m ms ≡ true)
unfolding is_in
some_mode [] h = absurd (omega arith)
some_mode (m ∷ ms) h = (m, or_left (eqb m m) (is_in m ms) (eq-eqb m m refl))

-- there is a path and a mode that one or more allowed grants admit: a witness path of the first
some_admitted : (gs : List Grant) → 1 ≤ length gs → All GrantOk gs → (m : ℕ) × (x : Path) × IsPath x × (any_admits gs m x ≡ true)
some_admitted [] h a = absurd (omega arith)
some_admitted (g ∷ gs) h a =
    let p : Pattern = pattern_of g.pattern in
    let k = some_take p.below in
    let m = some_mode g.modes a.0.modes.least in
    let x : Path = witness_path [] p k.0 in (
      m.0,
      x,
      witness_path_lem [] p k.0 (pattern_of_lem g.pattern a.0.pattern) k.1,
      or_left (grant_admits g m.0 x) (any_admits gs m.0 x)
          (and_both (is_in m.0 g.modes) (admits p x) m.1 (witness_admitted [] p k.0 k.1)),
    )

-- where the child is inside the parent, its period lies within the parent's: by its first and its last moment
inside_period : (p c : Descriptor) → Allowed c → Inside p c → PeriodInside p c
inside_period p c b i =
    let r = some_admitted c.payload.grants b.formed.payload.least (grants_ok c b) in
    let l = b.formed.payload.lasts in
    let at : (moment : ℕ) → c.payload.not_before ≤ moment → moment < c.payload.not_after → Admits p moment r.1 r.0 = λ moment s t.
    i moment r.1 r.0 r.2 (record { begun = s; lasting = t; granted = r.3 }) in
    let first = at c.payload.not_before (omega arith) l in
    let last = at (c.payload.not_after - 1) (omega (arith, l)) (omega (arith, l)) in
    (first.begun, omega (arith, last.lasting, l))

-- and the grants answer 0: a path that escapes would be admitted at the child's first moment
inside_said : (p c : Descriptor) → Allowed c → Inside p c → (n : Narrowing) → Says p c n → n ≡ Ok tt
inside_said p c b i (Ok tt) s = refl
inside_said p c b i (Err NoParent) s = absurd s
inside_said p c b i (Err Structure) s = absurd s
inside_said p c b i (Err Validity) s = absurd s
inside_said p c b i (Err Constrained) s = absurd s
inside_said p c b i (Err Period) s = absurd s
inside_said p c b i (Err (NotCovered j n l)) s =
    let w = s.0.attained in
    let g = admitted_by c.payload.grants _ _ _ j s.0.place w.2.admitted in
    let h = i c.payload.not_before _ _ w.1 (record { begun = omega arith; lasting = b.formed.payload.lasts; granted = g }) in
    absurd (contra _ h.granted w.2.outside)

inside_accepted : (p c : Descriptor) → Allowed p → Allowed c → Inside p c → by_grants p c ≡ Ok tt
inside_accepted p c a b i = inside_said p c b i (by_grants p c) (grants_say p c a b)

-- ---- the period

-- a period that lies within another passes the test
inside_test : (p c : Descriptor) → PeriodInside p c → within p c ≡ true
inside_test p c i =
    and_both _ _ (le-leb p.payload.not_before c.payload.not_before i.0)
    (le-leb c.payload.not_after p.payload.not_after i.1)

-- and one that passes it lies within
test_inside : (p c : Descriptor) → within p c ≡ true → PeriodInside p c
test_inside p c e = (
  leb-true _ _ (and_left (leb p.payload.not_before c.payload.not_before) (leb c.payload.not_after p.payload.not_after) e),
  leb-true _ _ (and_right (leb p.payload.not_before c.payload.not_before) (leb c.payload.not_after p.payload.not_after) e),
)

-- within the parent's period the grants decide
within_as : (s t : List ℕ) (p c : Descriptor) → ReadAs s p → ReadAs t c → PeriodInside p c → narrow s t ≡ by_grants p c
within_as s t p c a b i = narrow_as s t p c a b ∙ ap (λ (w : Bool). cond w (by_grants p c) (Err Period)) (inside_test p c i)

-- an answer other than 18 is that of the grants, within the parent's period
not_period : (s t : List ℕ) (p c : Descriptor) {n : Narrowing} → ReadAs s p → ReadAs t c → (Err Period ≡ n → ⊥) → narrow s t ≡ n
    → PeriodInside p c × (by_grants p c ≡ n)
not_period s t p c a b d h =
    let r = chosen (within p c) (by_grants p c) (Err Period) d (sym (narrow_as s t p c a b) ∙ h) in
    (test_inside p c r.0, r.1)

-- ---- the promises, of the answers

-- 18 exactly when the child's period does not lie within the parent's
pub narrow_period : (s t : List ℕ) (p c : Descriptor) → ReadAs s p → ReadAs t c → (narrow s t ≡ Err Period) ↔ (PeriodInside p c → ⊥)
narrow_period s t p c a b = (
  λ h i. subst (Says p c) (sym (within_as s t p c a b i) ∙ h) (grants_say p c a.allowed b.allowed),
  λ f. go f (within p c) refl,
)
  where
    go : (PeriodInside p c → ⊥) → (w : Bool) → within p c ≡ w → narrow s t ≡ Err Period
    go f true e = absurd (f (test_inside p c e))
    go f false e = narrow_as s t p c a b ∙ ap (λ (w : Bool). cond w (by_grants p c) (Err Period)) e

-- 20 exactly with the numbers of the first escape, within the parent's period
pub narrow_escape : (s t : List ℕ) (p c : Descriptor) (i m k : ℕ) → ReadAs s p → ReadAs t c
    → (narrow s t ≡ Err (NotCovered i m k)) ↔ (PeriodInside p c × FirstEscape p c i m k)
narrow_escape s t p c i m k a b =
    let g = grants_escape p c i m k a.allowed b.allowed in (
      λ h. let r = not_period s t p c a b (λ e. omega (arith, number e)) h in (r.0, g.0 r.1),
      λ r. within_as s t p c a b r.0 ∙ g.1 r.1,
    )

-- its numbers are those of the witness path
pub narrow_attained : (s t : List ℕ) (p c : Descriptor) (i m k : ℕ) → ReadAs s p → ReadAs t c → narrow s t ≡ Err (NotCovered i m k)
    → Attained p (grant_of c i) m k
narrow_attained s t p c i m k a b h =
    (subst (Says p c) (not_period s t p c a b (λ e. omega (arith, number e)) h).1 (grants_say p c a.allowed b.allowed)).1

-- accepted exactly when the child is inside the parent
pub narrow_accepted : (s t : List ℕ) (p c : Descriptor) → ReadAs s p → ReadAs t c → (narrow s t ≡ Ok tt) ↔ Inside p c
narrow_accepted s t p c a b = (
  λ h. let r = not_period s t p c a b (λ e. omega (arith, number e)) h in accepted_inside p c a.allowed b.allowed r.0 r.1,
  λ i. within_as s t p c a b (inside_period p c b.allowed i) ∙ inside_accepted p c a.allowed b.allowed i,
)
