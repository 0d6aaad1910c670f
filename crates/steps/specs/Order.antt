-- Steps in a published order: the answer is that of the first step that fails. Document 01, "in this order".
use Rattle.std.specs.Prelude.{◌≡◌, Bool, true, false, List, [], ◌∷◌}

-- a step: whether it passes, and what is answered where it fails
pub record Step (R : Type 0) : Type 0 where
  pub passes : Bool
  pub refusal : R

-- the step that passes when the test is true, and is answered by the refusal when not
abbrev pub step : {R : Type 0} → Bool → R → Step R
step b a = record { passes = b; refusal = a }

-- the first of the two where the step passes, else its refusal
unfoldable pub or_else : {R : Type 0} → Bool → R → R → R
or_else true a r = r
or_else false a r = a

-- the refusal of the first step that fails; r where every step passes
unfoldable pub in_order : {R : Type 0} → List (Step R) → R → R
in_order [] r = r
in_order (s ∷ steps) r = or_else s.passes s.refusal (in_order steps r)

-- every step passes
abbrev pub AllPass : {R : Type 0} → List (Step R) → Type 0
AllPass [] = Unit {0}
AllPass (s ∷ steps) = (s.passes ≡ true) × AllPass steps

-- x is the refusal of the first step that fails: those before it pass
pub data FirstFails {R : Type 0} : List (Step R) → R → Type 0 where
  here : {s : Step R} {steps : List (Step R)} → s.passes ≡ false → FirstFails (s ∷ steps) s.refusal
  later : {s : Step R} {steps : List (Step R)} {x : R} → s.passes ≡ true → FirstFails steps x → FirstFails (s ∷ steps) x

-- no step's refusal is r
abbrev pub NoneIs : {R : Type 0} → R → List (Step R) → Type 0
NoneIs r [] = Unit {0}
NoneIs r (s ∷ steps) = (s.refusal ≡ r → ⊥) × NoneIs r steps
