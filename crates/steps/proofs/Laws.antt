-- Laws of steps in order that the crates above cite (specs/Laws.antt). Assumes nothing.
use mathlib.Core.Path.{◌≡◌, refl, ap, ◌∙◌}
use mathlib.Core.Bool.{Bool, true, false, not, cond, ◌&&◌, ◌||◌, false≢true}
use mathlib.Core.List.{List, [], ◌∷◌, ◌++◌}
use Prim.Native.Nat.{ℕ}
use lib.Dec.{eqb}
use borrow.Author.Tests.{eqb-true, eqb-false}
use Rattle.steps.specs.Order.{Step, or_else, in_order, AllPass, NoneIs}
use Rattle.steps.specs.Laws.{Decides, ends, passes, fails, mapped, all_pass, none_has, passes_by, fails_by}

-- ---- how an answer comes about

-- what the steps come to is the answer
pub decided : {R : Type 0} {steps : List (Step R)} {r x : R} → Decides steps r x → x ≡ in_order steps r
unfolding in_order or_else
decided ends = refl
decided (passes e d) = rw e (decided d)
decided (fails e) = rw e

-- steps that all pass lead to what follows them
pub passed_end : {R : Type 0} (steps : List (Step R)) (r : R) → AllPass steps → in_order steps r ≡ r
unfolding in_order or_else
passed_end [] r a = refl
passed_end (s ∷ steps) r a = rw a.0 (passed_end steps r a.1)

-- what follows the steps matters only where every step passes
pub same_end : {R : Type 0} (steps : List (Step R)) (r r' : R) → (AllPass steps → r ≡ r') → in_order steps r ≡ in_order steps r'
unfolding in_order or_else
same_end [] r r' k = k tt
same_end (s ∷ steps) r r' k = go s.passes refl (same_end steps r r')
  where
    go : (b : Bool) → s.passes ≡ b → ((AllPass steps → r ≡ r') → in_order steps r ≡ in_order steps r')
        → or_else b s.refusal (in_order steps r) ≡ or_else b s.refusal (in_order steps r')
    go true e f = f (λ a. k (e, a))
    go false e f = refl

-- steps after steps: what the later ones answer follows the earlier ones
pub order_append : {R : Type 0} (xs ys : List (Step R)) (r : R) → in_order (xs ++ ys) r ≡ in_order xs (in_order ys r)
unfolding in_order
order_append [] ys r = refl
order_append (s ∷ xs) ys r = ap (or_else s.passes s.refusal) (order_append xs ys r)

-- ---- the answer through a function

-- a function of the answer is the answer of the steps with their refusals through it
pub order_mapped : {R S : Type 0} (f : R → S) (steps : List (Step R)) (r : R) → f (in_order steps r) ≡ in_order (mapped f steps) (f r)
unfolding in_order or_else
order_mapped f [] r = refl
order_mapped f (s ∷ steps) r = go s.passes (order_mapped f steps r)
  where
    go : (t : Bool) → f (in_order steps r) ≡ in_order (mapped f steps) (f r)
        → f (or_else t s.refusal (in_order steps r)) ≡ or_else t (f s.refusal) (in_order (mapped f steps) (f r))
    go true e = e
    go false e = refl

-- refusals through a function and back are the refusals
mapped_back : {R S : Type 0} (f : R → S) (g : S → R) → ((x : R) → g (f x) ≡ x) → (steps : List (Step R)) → mapped g (mapped f steps) ≡ steps
mapped_back f g h [] = refl
mapped_back f g h (s ∷ steps) = rw (h s.refusal, mapped_back f g h steps)

-- steps that were decided as a stage, their refusals through f, and what g makes of the stage's answer
pub order_staged : {R S : Type 0} (f : R → S) (g : S → R) → ((x : R) → g (f x) ≡ x) → (steps : List (Step R)) (p : S)
    → g (in_order (mapped f steps) p) ≡ in_order steps (g p)
order_staged f g h steps p = order_mapped g (mapped f steps) p ∙ rw (mapped_back f g h steps)

-- ---- steps named by the number of their refusal

-- steps of which the test says so all pass
pub all_pass_lem : {R : Type 0} (steps : List (Step R)) → all_pass steps ≡ true → AllPass steps
all_pass_lem [] e = tt
all_pass_lem (s ∷ steps) e = go s.passes refl e (all_pass_lem steps)
  where
    go : (b : Bool) → s.passes ≡ b → (b && all_pass steps) ≡ true → (all_pass steps ≡ true → AllPass steps)
        → (s.passes ≡ true) × AllPass steps
    go true p e f = (p, f e)
    go false p e f = absurd (false≢true e)

-- where no step has the number of r, no step's refusal is r
pub none_is : {R : Type 0} (f : R → ℕ) (r : R) (steps : List (Step R)) → none_has f (f r) steps ≡ true → NoneIs r steps
none_is f r [] e = tt
none_is f r (s ∷ steps) e = go (eqb (f s.refusal) (f r)) refl e (none_is f r steps)
  where
    go : (b : Bool) → eqb (f s.refusal) (f r) ≡ b → (not b && none_has f (f r) steps) ≡ true
        → (none_has f (f r) steps ≡ true → NoneIs r steps)
        → (s.refusal ≡ r → ⊥) × NoneIs r steps
    go true p e k = absurd (false≢true e)
    go false p e k = (λ q. eqb-false (f s.refusal) (f r) p (ap f q), k e)

-- where every step passes, those of a number do
pub passed_by : {R : Type 0} (f : R → ℕ) (n : ℕ) (steps : List (Step R)) → AllPass steps → passes_by f n steps ≡ true
passed_by f n [] a = refl
passed_by f n (s ∷ steps) a = go (eqb (f s.refusal) n) (passed_by f n steps a.1)
  where
    go : (b : Bool) → passes_by f n steps ≡ true → cond b (s.passes && passes_by f n steps) (passes_by f n steps) ≡ true
    go true e = rw (a.0, e)
    go false e = e

-- where every step of the number n passes, the answer has that number only where every step passes, and it is what follows them
pub not_by : {R : Type 0} (f : R → ℕ) (n : ℕ) (steps : List (Step R)) (r : R) → passes_by f n steps ≡ true → f (in_order steps r) ≡ n
    → AllPass steps × (in_order steps r ≡ r)
unfolding in_order or_else
not_by f n [] r k e = (tt, refl)
not_by f n (s ∷ steps) r k e = go s.passes (eqb (f s.refusal) n) refl refl k (not_by f n steps r) e
  where
    go : (b t : Bool) → s.passes ≡ b → eqb (f s.refusal) n ≡ t → cond t (b && passes_by f n steps) (passes_by f n steps) ≡ true
        → (passes_by f n steps ≡ true → f (in_order steps r) ≡ n → AllPass steps × (in_order steps r ≡ r))
        → f (or_else b s.refusal (in_order steps r)) ≡ n
        → ((s.passes ≡ true) × AllPass steps) × (or_else b s.refusal (in_order steps r) ≡ r)
    go true true p q k w e = let x = w k e in ((p, x.0), x.1)
    go true false p q k w e = let x = w k e in ((p, x.0), x.1)
    go false true p q k w e = absurd (false≢true k)
    go false false p q k w e = absurd (eqb-false (f s.refusal) n q e)

-- where a step of the number n fails and those before it pass, the answer has that number
pub failed_by : {R : Type 0} (f : R → ℕ) (n : ℕ) (steps : List (Step R)) (r : R) → fails_by f n steps ≡ true → f (in_order steps r) ≡ n
unfolding in_order or_else
failed_by f n [] r e = absurd (false≢true e)
failed_by f n (s ∷ steps) r e = go s.passes (eqb (f s.refusal) n) refl e (failed_by f n steps r)
  where
    go : (b t : Bool) → eqb (f s.refusal) n ≡ t → cond t (not b || fails_by f n steps) (b && fails_by f n steps) ≡ true
        → (fails_by f n steps ≡ true → f (in_order steps r) ≡ n) → f (or_else b s.refusal (in_order steps r)) ≡ n
    go true true q e w = w e
    go true false q e w = w e
    go false true q e w = eqb-true (f s.refusal) n q
    go false false q e w = absurd (false≢true e)
