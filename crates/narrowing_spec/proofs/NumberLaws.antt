-- The numbers of an answer tell the answer. Assumes nothing.
use Rattle.std.specs.Prelude.{Ok, Err}
use mathlib.Core.Path.{◌≡◌, refl, sym, ap, ◌∙◌}
use mathlib.Core.Logic.{◌↔◌}
use mathlib.Core.Bool.{cond}
use mathlib.Core.List.{List, [], ◌∷◌}
use lib.Dec.{eqb}
use Rattle.narrowing_spec.specs.Narrow.{Narrowing}
use Rattle.narrowing_spec.specs.declared.NarrowingNumbers.{NarrowingNumbers}
use Rattle.narrowing_spec.specs.declared.NarrowingError.TheVariants.{NoParent, Structure, Validity, Constrained, Period}
use Rattle.narrowing_spec.specs.declared.NarrowingError.TheVariants.{NotCovered}
use Rattle.narrowing_spec.specs.Narrow.{numbers_of}

-- the first of some answers with the number of n; else the one with three numbers more
abbrev pick : List Narrowing → NarrowingNumbers → Narrowing
pick [] n = Err (NotCovered n.grant n.mode n.levels)
pick (a ∷ rest) n = cond (eqb (numbers_of a).answer n.answer) a (pick rest n)

-- the answer of its numbers
abbrev answer_in : NarrowingNumbers → Narrowing
answer_in n = pick (Ok tt ∷ Err NoParent ∷ Err Structure ∷ Err Validity ∷ Err Constrained ∷ Err Period ∷ []) n

answer_seen : (a : Narrowing) → answer_in (numbers_of a) ≡ a
answer_seen (Ok tt) = refl
answer_seen (Err NoParent) = refl
answer_seen (Err Structure) = refl
answer_seen (Err Validity) = refl
answer_seen (Err Constrained) = refl
answer_seen (Err Period) = refl
answer_seen (Err (NotCovered i m k)) = refl

-- answers are equal exactly when their numbers are
pub numbers_tell : (a b : Narrowing) → (numbers_of a ≡ numbers_of b) ↔ (a ≡ b)
numbers_tell a b = (λ e. sym (answer_seen a) ∙ ap answer_in e ∙ answer_seen b, λ e. ap numbers_of e)

-- equal answers have equal numbers
pub number : {a b : Narrowing} → a ≡ b → (numbers_of a).answer ≡ (numbers_of b).answer
number e = ap (λ (n : Narrowing). (numbers_of n).answer) e

-- what holds exactly with an answer holds exactly with its numbers
pub by_numbers : {P : Type 0} (a b : Narrowing) → (a ≡ b) ↔ P → (numbers_of a ≡ numbers_of b) ↔ P
by_numbers a b h = (λ e. h.0 ((numbers_tell a b).0 e), λ p. ap numbers_of (h.1 p))
