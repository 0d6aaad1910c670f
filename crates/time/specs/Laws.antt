-- What the crates above stand on. A reader of the promises does not need this page.
use Rattle.std.specs.Prelude.{◌≡◌, not, ℕ, suc, ◌+◌, ℤ, pos, negsuc, ◌-ℤ◌, leb, ltb}

-- a moment is not after another exactly when the other is not before it
abbrev pub NotBefore : Type 0
NotBefore = (a b : ℕ) → leb a b ≡ not (ltb b a)

-- what holds of a − b: a is k more than b, or b is k + 1 more than a
abbrev pub DifferenceBy : Type 1
DifferenceBy = (P : ℤ → Type 0) (a b : ℕ) → ((k : ℕ) → a ≡ b + k → P (pos k)) → ((k : ℕ) → b ≡ a + suc k → P (negsuc k))
    → P (pos a -ℤ pos b)
