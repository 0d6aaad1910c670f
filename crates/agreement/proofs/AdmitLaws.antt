-- What a descriptor admits is what steps 9, 10 and 13 let pass (specs/Promises.antt). Assumes nothing.
use mathlib.Core.Path.{◌≡◌, refl, sym, ap, ap₂, ◌∙◌, subst}
use mathlib.Core.Logic.{◌⊎◌, inl, inr}
use mathlib.Core.Bool.{Bool, true, false, cond, ◌&&◌, ◌||◌, and-true, false≢true}
use mathlib.Core.List.{List, [], ◌∷◌, ◌++◌}
use Prim.Native.Nat.{ℕ, zero, suc}
use native.Mathlib.Omega.{arith}
use lib.ListN.{length}
use lib.Dec.{leb, eqb}
use borrow.Author.Tests.{leb-true, le-leb, ltb-true, lt-ltb, eq-eqb}
use Rattle.octets.proofs.Tests.{and_left, and_right, or_assoc}
use Rattle.resource_spec.specs.Identifier.{is_fay, is_terminal}
use Rattle.resource_spec.specs.Pattern.{Path, IsPath, admits}
use Rattle.resource_spec.specs.Text.{is_resource, path_of, pattern_of}
use Rattle.resource_spec.proofs.Promises.{resources_exact, resources_once}
use Rattle.entries_spec.specs.Model.{pair_count}
use Rattle.descriptor_spec.specs.Model.{Grant, Descriptor, encode}
use Rattle.descriptor_spec.specs.Allowed.{is_in}
use Rattle.request_spec.specs.Request.{Request}
use Rattle.request_spec.specs.Promises.{seconds_of, some_serves, formed_before, formed}
use Rattle.narrowing_spec.specs.Meaning.{any_admits}
use Rattle.narrowing_spec.specs.Promises.{NoPairs, Inside}
use Rattle.narrowing_spec.proofs.Promises.{constrained_exactly, accepted_exactly}
use Rattle.resource_spec.specs.Characters.{one_of}
use Rattle.steps.specs.Order.{Step, AllPass}
use Rattle.request_spec.specs.declared.DecisionNumbers.{DecisionNumbers}
use Rattle.agreement.specs.Promises.{numbered, AcceptedUnder, StepsAdmit}

-- a number is one of two lists exactly where it is one of the first or of the second
one_either : (c : ℕ) (xs ys : List ℕ) → one_of c (xs ++ ys) ≡ (one_of c xs || one_of c ys)
one_either c [] ys = refl
one_either c (x ∷ xs) ys = ap (λ (t : Bool). eqb c x || t) (one_either c xs ys) ∙ or_assoc (eqb c x) (one_of c xs) (one_of c ys)

-- ---- grants

-- of grants without constraint pairs some serves exactly where some admits
some_admits : (gs : List Grant) (m : ℕ) (x : Path) → NoPairs gs → some_serves gs m x ≡ any_admits gs m x
some_admits [] m x n = refl
some_admits (g ∷ gs) m x n =
    ap₂ ◌||◌
    (ap (λ (t : Bool). is_in m g.modes && (admits (pattern_of g.pattern) x && t)) (eq-eqb (pair_count g.constraints) 0 n.0)
    ∙ ap (λ (t : Bool). is_in m g.modes && t) (and-true (admits (pattern_of g.pattern) x)))
    (some_admits gs m x n.1)

-- whether grants have no constraint pair is decided
pairs_or_none : (gs : List Grant) → NoPairs gs ⊎ (NoPairs gs → ⊥)
pairs_or_none [] = inl tt
pairs_or_none (g ∷ gs) = go (pair_count g.constraints) refl (pairs_or_none gs)
  where
    go : (n : ℕ) → pair_count g.constraints ≡ n → NoPairs gs ⊎ (NoPairs gs → ⊥) → NoPairs (g ∷ gs) ⊎ (NoPairs (g ∷ gs) → ⊥)
    go zero e (inl p) = inl (e, p)
    go zero e (inr p) = inr (λ q. p q.1)
    go (suc n) e r = inr (λ q. omega (arith, q.0))

-- ---- steps by their numbers

-- where all steps pass, those of some numbers do
pub some_pass : (ns : List ℕ) (steps : List (Step DecisionNumbers)) → AllPass steps → AllPass (numbered ns steps)
some_pass ns [] a = tt
some_pass ns (s ∷ steps) a = go (one_of s.refusal.answer ns) (some_pass ns steps a.1)
  where
    go : (t : Bool) → AllPass (numbered ns steps) → AllPass (cond t (s ∷ numbered ns steps) (numbered ns steps))
    go true r = (a.0, r)
    go false r = r

-- each step has one of the numbers
abbrev pub all_of : List ℕ → List (Step DecisionNumbers) → Bool
all_of ns [] = true
all_of ns (s ∷ steps) = one_of s.refusal.answer ns && all_of ns steps

-- where the steps of some numbers pass and those of the others do, all pass
pub all_pass_lem : (ns ms : List ℕ) (steps : List (Step DecisionNumbers)) → all_of (ns ++ ms) steps ≡ true → AllPass (numbered ns steps)
    → AllPass (numbered ms steps) → AllPass steps
all_pass_lem ns ms [] e a b = tt
all_pass_lem ns ms (s ∷ steps) e a b =
    go (one_of s.refusal.answer ns) (one_of s.refusal.answer ms) refl refl a b
    (all_pass_lem ns ms steps (and_right (one_of s.refusal.answer (ns ++ ms)) (all_of (ns ++ ms) steps) e))
  where
    here : (t u : Bool) → one_of s.refusal.answer ns ≡ t → one_of s.refusal.answer ms ≡ u → (t || u) ≡ true
    here t u f g =
        sym (ap₂ ◌||◌ f g) ∙ sym (one_either s.refusal.answer ns ms)
        ∙ and_left (one_of s.refusal.answer (ns ++ ms)) (all_of (ns ++ ms) steps) e

    go : (t u : Bool) → one_of s.refusal.answer ns ≡ t → one_of s.refusal.answer ms ≡ u
        → AllPass (cond t (s ∷ numbered ns steps) (numbered ns steps))
        → AllPass (cond u (s ∷ numbered ms steps) (numbered ms steps))
        → (AllPass (numbered ns steps) → AllPass (numbered ms steps) → AllPass steps)
        → AllPass (s ∷ steps)
    go true true f g x y rest = (x.0, rest x.1 y.1)
    go true false f g x y rest = (x.0, rest x.1 y)
    go false true f g x y rest = (y.0, rest x y.1)
    go false false f g x y rest = absurd (false≢true (here false false f g))

-- ---- one descriptor

pub steps_admit : StepsAdmit
steps_admit q d n = (
  λ p. record {
    begun = leb-true d.payload.not_before (seconds_of q) p.0;
    lasting = ltb-true (seconds_of q) d.payload.not_after p.1.0;
    granted = sym (some_admits d.payload.grants q.mode (path_of q.resource) n) ∙ p.1.1.0;
  },
  λ a. (
    le-leb d.payload.not_before (seconds_of q) a.begun,
    (
      lt-ltb (seconds_of q) d.payload.not_after a.lasting,
      (some_admits d.payload.grants q.mode (path_of q.resource) n ∙ a.granted, tt),
    ),
  ),
)

-- ---- an accepted child

-- a child and a parent of which the answer is 0 have no constraint pairs
pub none_accepted : (parent child : Descriptor) → AcceptedUnder parent child
    → NoPairs parent.payload.grants × NoPairs child.payload.grants
none_accepted parent child a = go (pairs_or_none parent.payload.grants) (pairs_or_none child.payload.grants)
  where
    refused : ((NoPairs parent.payload.grants × NoPairs child.payload.grants) → ⊥) → ⊥
    refused f =
        let e = (constrained_exactly (encode parent) (encode child) parent child a.parent_bytes a.child_bytes a.parent_allowed
        a.child_allowed refl refl).1 f in
        omega (arith, ap (λ n. n.answer) (sym a.accepted ∙ e))

    go : NoPairs parent.payload.grants ⊎ (NoPairs parent.payload.grants → ⊥)
        → NoPairs child.payload.grants ⊎ (NoPairs child.payload.grants → ⊥)
        → NoPairs parent.payload.grants × NoPairs child.payload.grants
    go (inl p) (inl q) = (p, q)
    go (inl p) (inr q) = absurd (refused (λ r. q r.1))
    go (inr p) q = absurd (refused (λ r. p r.0))

-- so the child is inside the parent
pub inside_accepted : (parent child : Descriptor) → AcceptedUnder parent child → Inside parent child
inside_accepted parent child a =
    let n = none_accepted parent child a in
    (accepted_exactly (encode parent) (encode child) parent child
    (record { bytes = a.parent_bytes; allowed = a.parent_allowed; encoded = refl; plain = n.0 })
    (record { bytes = a.child_bytes; allowed = a.child_allowed; encoded = refl; plain = n.1 })).0 a.accepted

-- ---- the path of a request

-- a resource id spells a path
path_of_lem : (s : List ℕ) → is_resource s ≡ true → IsPath (path_of s)
path_of_lem s e =
    let x = (resources_exact s).0 e in
    subst IsPath (sym (ap path_of x.2 ∙ resources_once x.0 x.1)) x.1

-- so does that of well-formed arguments
pub path_formed : (q : Request) → formed q ≡ true → IsPath (path_of q.resource)
path_formed q e =
    path_of_lem q.resource
    (and_right (leb (length q.resource) 256) (is_resource q.resource)
    (and_left _ _ (and_right (is_terminal q.terminal) _
    (and_right (is_fay q.fay) _
    (and_right (eqb (length q.id) 16) _
    (and_right (leb q.mode 3) _ (and_right (leb q.verdict 2) _ (and_left (formed_before q) _ e))))))))
