-- What the crates above stand on beyond the promises: the rules that are read of a descriptor's bytes, the search for the least number, and
-- the witness path of an answer 20, a path that escapes, written out. A reader of the promises does not need this page.
use Rattle.std.specs.Prelude.{◌≡◌, Bool, false, List, [], ◌∷◌, ℕ, suc, ◌+◌, ◌≤◌, ◌<◌}
use Rattle.std.specs.Prelude.{None, Some}
use Rattle.resource_spec.specs.Pattern.{Path, IsPath}
use Rattle.resource_spec.specs.Text.{pattern_of}
use Rattle.descriptor_spec.specs.Model.{Grant, Descriptor}
use Rattle.descriptor_spec.specs.View.{mask_of}
use Rattle.descriptor_spec.specs.Laws.{InTurn}
use Rattle.narrowing_spec.specs.Meaning.{Escapes, taken_by}
use Rattle.narrowing_spec.specs.Escape.{Rule, least, deepest, escapes_with, witness_path}
use Rattle.narrowing_spec.specs.Narrow.{rules_at, narrow, numbers_of}
use Rattle.narrowing_spec.specs.Promises.{ReadAs, grant_of}

-- ---- rules

-- a grant as a rule
abbrev pub rule_for : Grant → Rule
rule_for g = record { mask = mask_of g.modes; pattern = pattern_of g.pattern }

-- grants as rules
abbrev pub rules_of : List Grant → List Rule
rules_of [] = []
rules_of (g ∷ gs) = rule_for g ∷ rules_of gs

-- the rules read from a place on are those of the grants that are read from there on
abbrev pub RulesInTurn : Type 0
RulesInTurn = (s t : List ℕ) (n at : ℕ) (gs : List Grant) → InTurn s t n at gs → rules_at s n at ≡ rules_of gs

-- ---- searches for the least number

-- a number that the search finds is one of the n from a on
abbrev pub LeastBelow : Type 0
LeastBelow = (f : ℕ → Bool) (a n k : ℕ) → least f a n ≡ Some k → k < a + n

-- where no number passes the search finds none
abbrev pub LeastFails : Type 0
LeastFails = (f : ℕ → Bool) (a n : ℕ) → ((k : ℕ) → a ≤ k → k < a + n → f k ≡ false) → least f a n ≡ None

-- tests that agree find the same
abbrev pub LeastSame : Type 0
LeastSame = (f g : ℕ → Bool) (a n : ℕ) → ((k : ℕ) → a ≤ k → k < a + n → f k ≡ g k) → least f a n ≡ least g a n

-- with more names than any of the rules has levels, a path escapes exactly when one with one name more than the most levels does
abbrev pub NamesSettle : Type 0
NamesSettle = (qs : List Rule) (g : Rule) (m k : ℕ) → deepest qs < k → escapes_with qs g m k ≡ escapes_with qs g m (suc (deepest qs))

-- ---- the witness path

-- the witness path of the child's grant with k names for its "**"
abbrev pub witness_of : Descriptor → Grant → ℕ → Path
witness_of parent g k = witness_path (rules_of parent.payload.grants) (pattern_of g.pattern) k

-- the witness path is a path, it escapes by the grant in the mode, and the grant's "**" takes k names in it
pub record Attained (parent : Descriptor) (g : Grant) (m k : ℕ) : Type 0 where
  pub path : IsPath (witness_of parent g k)
  pub escapes : Escapes parent.payload.grants g m (witness_of parent g k)
  pub takes : taken_by g (witness_of parent g k) ≡ k

-- the numbers of an answer 20 are those of the witness path
abbrev pub WitnessAttained : Type 0
WitnessAttained =
    (s t : List ℕ) (parent child : Descriptor) (i m k : ℕ) → ReadAs s parent → ReadAs t child
    → numbers_of (narrow s t) ≡ record { answer = 20; grant = i; mode = m; levels = k } → Attained parent (grant_of child i) m k
