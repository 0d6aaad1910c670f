-- What the crates above stand on: how an answer comes about step by step, and steps named by the number of their refusal. A reader of
-- the promises does not need this page.
use Rattle.std.specs.Prelude.{◌≡◌, Bool, true, false, not, cond, ◌&&◌, ◌||◌, List, [], ◌∷◌, ℕ, eqb}
use Rattle.steps.specs.Order.{Step, step}

-- x is what the steps come to: each passes up to one that fails, or all do
pub data Decides {R : Type 0} : List (Step R) → R → R → Type 0 where
  ends : {r : R} → Decides [] r r
  passes : {s : Step R} {steps : List (Step R)} {r x : R} → s.passes ≡ true → Decides steps r x → Decides (s ∷ steps) r x
  fails : {s : Step R} {steps : List (Step R)} {r : R} → s.passes ≡ false → Decides (s ∷ steps) r s.refusal

-- the steps with their refusals through a function
abbrev pub mapped : {R S : Type 0} → (R → S) → List (Step R) → List (Step S)
mapped f [] = []
mapped f (s ∷ steps) = step s.passes (f s.refusal) ∷ mapped f steps

-- ---- tests of a list of steps, of which each is named by the number f of its refusal

-- every step passes
abbrev pub all_pass : {R : Type 0} → List (Step R) → Bool
all_pass [] = true
all_pass (s ∷ steps) = s.passes && all_pass steps

-- no step has the number n
abbrev pub none_has : {R : Type 0} → (R → ℕ) → ℕ → List (Step R) → Bool
none_has f n [] = true
none_has f n (s ∷ steps) = not (eqb (f s.refusal) n) && none_has f n steps

-- every step of the number n passes
abbrev pub passes_by : {R : Type 0} → (R → ℕ) → ℕ → List (Step R) → Bool
passes_by f n [] = true
passes_by f n (s ∷ steps) = cond (eqb (f s.refusal) n) (s.passes && passes_by f n steps) (passes_by f n steps)

-- a step of the number n fails, and those before it pass
abbrev pub fails_by : {R : Type 0} → (R → ℕ) → ℕ → List (Step R) → Bool
fails_by f n [] = false
fails_by f n (s ∷ steps) = cond (eqb (f s.refusal) n) (not s.passes || fails_by f n steps) (s.passes && fails_by f n steps)
