-- The first escape of a child's grants (specs/Promises.antt) is the one that the search finds, and there is one alone. Assumes nothing.
use Rattle.std.specs.Prelude.{Ok, Err}
use mathlib.Core.Path.{◌≡◌, refl, subst, ap}
use mathlib.Core.Logic.{◌↔◌}
use mathlib.Core.List.{List}
use Rattle.std.specs.Prelude.{Option, None, Some}
use Prim.Native.Nat.{ℕ, ◌<◌}
use native.Mathlib.Omega.{arith}
use lib.ListN.{length}
use Rattle.descriptor_spec.specs.Model.{Descriptor}
use Rattle.descriptor_spec.specs.Allowed.{GrantOk, All, Allowed}
use Rattle.descriptor_spec.proofs.Laws.{grants_allowed}
use Rattle.narrowing_spec.specs.Narrow.{Narrowing}
use Rattle.narrowing_spec.specs.declared.NarrowingError.TheVariants.{NoParent, Structure, Validity, Constrained, Period}
use Rattle.narrowing_spec.specs.declared.NarrowingError.TheVariants.{NotCovered}
use Rattle.narrowing_spec.specs.Escape.{Rule, rule_at, first_rule}
use Rattle.narrowing_spec.specs.Narrow.{answer_at}
use Rattle.narrowing_spec.specs.Promises.{grant_of, NoEscape, FirstEscape}
use Rattle.narrowing_spec.specs.Laws.{rule_for, rules_of, witness_of, Attained}
use Rattle.narrowing_spec.proofs.SearchLaws.{NoRuleEscape, Lowest, First, first_none, first_some}
use Rattle.narrowing_spec.proofs.RuleLaws.{rules_length, rule_at_lem, rule_patterns, grant_mode, to_rule, of_rule}

-- ---- from rules to grants

-- an allowed descriptor's grants are allowed
pub grants_ok : (d : Descriptor) → Allowed d → All GrantOk d.payload.grants
grants_ok d a = a.formed.payload.grants

-- the grant at a place of the child is allowed
grant_ok : (d : Descriptor) (i : ℕ) → Allowed d → i < length d.payload.grants → GrantOk (grant_of d i)
grant_ok d i a h = grants_allowed d a.formed i _ h

-- where no path escapes by the child's rule at a place in a mode, none escapes by its grant; modes from 4 on are none of the grant's
no_escape : (p c : Descriptor) → Allowed p → Allowed c → (i : ℕ) → i < length c.payload.grants → (n : ℕ)
    → (n < 4 → NoRuleEscape (rules_of p.payload.grants) (rule_at (rules_of c.payload.grants) i) n) → NoEscape p (grant_of c i) n
no_escape p c a b i h n r x j e =
    let o : GrantOk (grant_of c i) = grant_ok c i b h in
    let l : n < 4 = grant_mode (grant_of c i) n x o e.admitted in
    subst (λ (g : Rule). NoRuleEscape (rules_of p.payload.grants) g n) (rule_at_lem c.payload.grants _ i h) (r l) x j
    (to_rule p.payload.grants (grant_of c i) n x (grants_ok p a) o l e)

-- the first escape by the rules has its place among the grants
first_place_lem : (p c : Descriptor) (i m k : ℕ) → First (rules_of p.payload.grants) (rules_of c.payload.grants) i m k
    → i < length c.payload.grants
first_place_lem p c i m k f = omega (arith, f.place, rules_length c.payload.grants)

-- and the lowest mode by the grant's own rule
first_lowest : (p c : Descriptor) (i m k : ℕ) → First (rules_of p.payload.grants) (rules_of c.payload.grants) i m k
    → Lowest (rules_of p.payload.grants) (rule_for (grant_of c i)) m k
first_lowest p c i m k f =
    subst (λ (r : Rule). Lowest (rules_of p.payload.grants) r m k) (rule_at_lem c.payload.grants _ i (first_place_lem p c i m k f))
    f.lowest

-- the witness path of the first escape by the rules escapes by the grant
first_attained : (p c : Descriptor) (i m k : ℕ) → Allowed p → Allowed c
    → First (rules_of p.payload.grants) (rules_of c.payload.grants) i m k → Attained p (grant_of c i) m k
first_attained p c i m k a b f =
    let w = (first_lowest p c i m k f).fewest in
    record {
      path = w.path;
      escapes = of_rule p.payload.grants (grant_of c i) m (witness_of p (grant_of c i) k) (grants_ok p a)
          (grant_ok c i b (first_place_lem p c i m k f)) f.lowest.mode w.escapes;
      takes = w.takes;
    }

-- the first escape by the rules is the first escape by the grants
first_escape : (p c : Descriptor) (i m k : ℕ) → Allowed p → Allowed c
    → First (rules_of p.payload.grants) (rules_of c.payload.grants) i m k → FirstEscape p c i m k
first_escape p c i m k a b f =
    let h = first_place_lem p c i m k f in
    let w = first_attained p c i m k a b f in
    record {
      place = h;
      mode = f.lowest.mode;
      first = λ j l n. no_escape p c a b j (omega (arith, h)) n (λ o. f.first j l n o);
      lowest = λ n l. no_escape p c a b i h n (λ o. f.lowest.lowest n l);
      attained = (witness_of p (grant_of c i) k, w.path, w.escapes, w.takes);
      fewest = λ x j e. (first_lowest p c i m k f).fewest.fewest x j
          (to_rule p.payload.grants (grant_of c i) m x (grants_ok p a) (grant_ok c i b h) f.lowest.mode e);
    }

-- ---- there is one alone

-- no first escape has its place before another's
place_before : (p c : Descriptor) {i m k j n l : ℕ} → FirstEscape p c i m k → FirstEscape p c j n l → i < j → ⊥
place_before p c {i = i} {m = m} f g h = let w = f.attained in g.first i h m w.0 w.1 w.2

-- at one place no mode is below another's
mode_before : (p c : Descriptor) {i m k n l : ℕ} → FirstEscape p c i m k → FirstEscape p c i n l → m < n → ⊥
mode_before p c {m = m} f g h = let w = f.attained in g.lowest m h w.0 w.1 w.2

-- in one mode there are no fewer names
names_least : (p c : Descriptor) {i m k l : ℕ} → FirstEscape p c i m k → FirstEscape p c i m l → (k < l → ⊥)
names_least p c f g h = let w = f.attained in omega (arith, h, w.3, g.fewest w.0 w.1 w.2)

-- two first escapes have the same numbers
one_escape : (p c : Descriptor) (i m k j n l : ℕ) → FirstEscape p c i m k → FirstEscape p c j n l → NotCovered i m k ≡ NotCovered j n l
one_escape p c i m k j n l f g =
    let x : i ≡ j = omega (arith, place_before p c f g, place_before p c g f) in
    let f₁ : FirstEscape p c j m k = subst (λ (z : ℕ). FirstEscape p c z m k) x f in
    let y : m ≡ n = omega (arith, mode_before p c f₁ g, mode_before p c g f₁) in
    let f₂ : FirstEscape p c j n k = subst (λ (z : ℕ). FirstEscape p c j z k) y f₁ in
    let z : k ≡ l = omega (arith, names_least p c f₂ g, names_least p c g f₂) in
    rw (x, y, z)

-- ---- the answer by the grants

abbrev pub by_grants : Descriptor → Descriptor → Narrowing
by_grants p c =
    let qs = rules_of p.payload.grants in
    let cs = rules_of c.payload.grants in
    answer_at qs cs (first_rule qs cs)

-- what an answer by the grants says: 0 that no path escapes, 20 which escape is the first, with its witness path; there is no other
abbrev pub Says : Descriptor → Descriptor → Narrowing → Type 0
Says p c (Ok tt) = (i : ℕ) → i < length c.payload.grants → (n : ℕ) → NoEscape p (grant_of c i) n
Says p c (Err NoParent) = ⊥
Says p c (Err Structure) = ⊥
Says p c (Err Validity) = ⊥
Says p c (Err Constrained) = ⊥
Says p c (Err Period) = ⊥
Says p c (Err (NotCovered i m k)) = FirstEscape p c i m k × Attained p (grant_of c i) m k

-- it is so
pub grants_say : (p c : Descriptor) → Allowed p → Allowed c → Says p c (by_grants p c)
grants_say p c a b = go (first_rule qs cs) refl
  where
    qs : List Rule
    qs = rules_of p.payload.grants

    cs : List Rule
    cs = rules_of c.payload.grants

    go : (o : Option ℕ) → first_rule qs cs ≡ o → Says p c (answer_at qs cs o)
    go None q =
        λ i h n. no_escape p c a b i h n
        (first_none qs cs (rule_patterns c.payload.grants (grants_ok c b)) q i
        (omega (arith, h, rules_length c.payload.grants)) n)
    go (Some i) q =
        let f = first_some qs cs i (rule_patterns c.payload.grants (grants_ok c b)) q in
        (first_escape p c i _ _ a b f, first_attained p c i _ _ a b f)

-- where there is a first escape, the answer is 20 with its numbers
escape_said : (p c : Descriptor) (i m k : ℕ) → FirstEscape p c i m k → (n : Narrowing) → Says p c n → n ≡ Err (NotCovered i m k)
escape_said p c i m k f (Ok tt) s = let w = f.attained in absurd (s i f.place m w.0 w.1 w.2)
escape_said p c i m k f (Err NoParent) s = absurd s
escape_said p c i m k f (Err Structure) s = absurd s
escape_said p c i m k f (Err Validity) s = absurd s
escape_said p c i m k f (Err Constrained) s = absurd s
escape_said p c i m k f (Err Period) s = absurd s
escape_said p c i m k f (Err (NotCovered j n l)) s = ap Err (one_escape p c j n l i m k s.0 f)

-- the grants answer 20 exactly with the numbers of the first escape
pub grants_escape : (p c : Descriptor) (i m k : ℕ) → Allowed p → Allowed c → (by_grants p c ≡ Err (NotCovered i m k)) ↔ FirstEscape p c i m k
grants_escape p c i m k a b =
    (λ e. (subst (Says p c) e (grants_say p c a b)).0, λ f. escape_said p c i m k f (by_grants p c) (grants_say p c a b))
