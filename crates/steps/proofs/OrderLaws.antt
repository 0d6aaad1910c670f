-- The two promises of steps in order (specs/Promises.antt). Assumes nothing.
use mathlib.Core.Path.{◌≡◌, refl, sym, subst}
use mathlib.Core.Logic.{◌↔◌}
use mathlib.Core.Bool.{Bool, true, false}
use mathlib.Core.List.{List, [], ◌∷◌}
use Rattle.steps.specs.Order.{Step, or_else, in_order, AllPass, FirstFails, here, later, NoneIs}

-- a refusal that is not r is not r
pub pass_exactly : (R : Type 0) (steps : List (Step R)) (r : R) → NoneIs r steps → (in_order steps r ≡ r) ↔ AllPass steps
unfolding in_order or_else
pass_exactly R [] r n = (λ e. tt, λ a. refl)
pass_exactly R (s ∷ steps) r n = go s.passes refl (pass_exactly R steps r n.1)
  where
    go : (b : Bool) → s.passes ≡ b → (in_order steps r ≡ r) ↔ AllPass steps → (or_else b s.refusal (in_order steps r) ≡ r)
        ↔ ((s.passes ≡ true) × AllPass steps)
    go true e k = (λ h. (e, k.0 h), λ a. k.1 a.1)
    go false e k = (λ h. absurd (n.0 h), λ a. let h = a.0 in cc)

-- among no steps none fails
nothing_fails : {R X : Type 0} {x : R} → FirstFails [] x → X
nothing_fails f = elim f [ ]

-- where the first passes, the first that fails is among the rest
fails_later : {R : Type 0} {s : Step R} {steps : List (Step R)} {x : R} → FirstFails (s ∷ steps) x → s.passes ≡ true → FirstFails steps x
fails_later (here f) e = cc
fails_later (later e f) g = f

-- where the first fails, the refusal is its own
fails_here : {R : Type 0} {s : Step R} {steps : List (Step R)} {x : R} → FirstFails (s ∷ steps) x → s.passes ≡ false → s.refusal ≡ x
fails_here (here f) e = refl
fails_here (later e f) g = cc

-- another answer is the refusal of the first step that fails
pub fail_exactly : (R : Type 0) (steps : List (Step R)) (r x : R) → (x ≡ r → ⊥) → (in_order steps r ≡ x) ↔ FirstFails steps x
unfolding in_order or_else
fail_exactly R [] r x n = (λ e. absurd (n (sym e)), λ f. nothing_fails f)
fail_exactly R (s ∷ steps) r x n = go s.passes refl (fail_exactly R steps r x n)
  where
    go : (b : Bool) → s.passes ≡ b → (in_order steps r ≡ x) ↔ FirstFails steps x → (or_else b s.refusal (in_order steps r) ≡ x)
        ↔ FirstFails (s ∷ steps) x
    go true e k = (λ h. later e (k.0 h), λ f. k.1 (fails_later f e))
    go false e k = (λ h. subst (FirstFails (s ∷ steps)) h (here e), λ f. fails_here f e)
