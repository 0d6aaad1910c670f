-- What is promised of steps in order, and nothing else. Each statement `NameOfIt` is proved in proofs/Promises.antt as `name_of_it`.
use Rattle.std.specs.Prelude.{◌≡◌, ◌↔◌, List}
use Rattle.steps.specs.Order.{Step, in_order, AllPass, FirstFails, NoneIs}

-- where no step's refusal is r, the answer is r exactly when every step passes
abbrev pub PassExactly : Type 1
PassExactly = (R : Type 0) (steps : List (Step R)) (r : R) → NoneIs r steps → (in_order steps r ≡ r) ↔ AllPass steps

-- and it is another answer exactly when that is the refusal of the first step that fails
abbrev pub FailExactly : Type 1
FailExactly = (R : Type 0) (steps : List (Step R)) (r x : R) → (x ≡ r → ⊥) → (in_order steps r ≡ x) ↔ FirstFails steps x
