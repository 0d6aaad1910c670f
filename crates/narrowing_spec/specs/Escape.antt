-- The first grant, the lowest mode and the fewest names by which a path escapes, as a search that computes. A reader of the promises
-- does not need this page. A grant is here its mask and its pattern.
use Rattle.std.specs.Prelude.{Bool, false, not, ◌&&◌, ◌||◌, List, [], ◌∷◌, ℕ, zero, suc, ◌+◌, max, length, get_or, cond, is_some}
use Rattle.std.specs.Prelude.{Option, None, Some}
use Rattle.octets.specs.Bytes.{same}
use Rattle.resource_spec.specs.Pattern.{Path, Levels, done, Pattern, levels_before, ends_deep}
use Rattle.resource_spec.specs.Cover.{covers, witness, longest_name, zs}
use Rattle.descriptor_spec.specs.Modes.{mode_count}
use Rattle.descriptor_spec.specs.Reader.{has_mode}

-- a grant: the mask of its modes, and its pattern
pub record Rule : Type 0 where
  pub mask : ℕ
  pub pattern : Pattern

-- q matches every path that p matches with k names for the "**" of p
abbrev pub pattern_covers : Pattern → Pattern → ℕ → Bool
pattern_covers q p k = same q.terminal p.terminal && covers q.below p.below k

-- one of the parent's rules that has the mode covers p with k names
abbrev pub covered : List Rule → ℕ → Pattern → ℕ → Bool
covered [] m p k = false
covered (q ∷ qs) m p k = (has_mode q.mask m && pattern_covers q.pattern p k) || covered qs m p k

-- "**" takes one name or more; without "**" there is none to take
abbrev pub can_take : Levels → ℕ → Bool
can_take p zero = not (ends_deep p)
can_take p (suc k) = ends_deep p

-- a path with k names for its "**" escapes by the rule in the mode
abbrev pub escapes_with : List Rule → Rule → ℕ → ℕ → Bool
escapes_with qs g m k = has_mode g.mask m && (can_take g.pattern.below k && not (covered qs m g.pattern k))

-- the most levels before "**" of a parent's pattern
abbrev pub deepest : List Rule → ℕ
deepest [] = 0
deepest (q ∷ qs) = max (levels_before q.pattern.below) (deepest qs)

-- the least number, of the n from a on, that passes a test
abbrev pub least : (ℕ → Bool) → ℕ → ℕ → Option ℕ
least f a zero = None
least f a (suc n) = cond (f a) (Some a) (least f (suc a) n)

-- a number, or 0 where there is none
abbrev pub or_zero : Option ℕ → ℕ
or_zero None = 0
or_zero (Some k) = k

-- the fewest names of "**" in a path that escapes by the rule in the mode; past one more than the deepest pattern nothing changes
unfoldable pub fewest_names : List Rule → Rule → ℕ → Option ℕ
fewest_names qs g m = least (escapes_with qs g m) 0 (2 + deepest qs)

-- the lowest mode in which a path escapes by the rule
unfoldable pub lowest_mode : List Rule → Rule → Option ℕ
lowest_mode qs g = least (λ m. is_some (fewest_names qs g m)) 0 mode_count

-- the rule at a place; past the end one that admits nothing
abbrev pub rule_at : List Rule → ℕ → Rule
rule_at cs i = get_or cs i (record { mask = 0; pattern = record { terminal = []; below = done } })

-- the first rule by which a path escapes
unfoldable pub first_rule : List Rule → List Rule → Option ℕ
first_rule qs cs = least (λ i. is_some (lowest_mode qs (rule_at cs i))) 0 (length cs)

-- the length of the longest level of a parent's pattern
abbrev pub longest_level : List Rule → ℕ
longest_level [] = 0
longest_level (q ∷ qs) = max (longest_name q.pattern.below) (longest_level qs)

-- the fresh name: the letter z, one time more than the longest level of any parent pattern
abbrev pub fresh_name : List Rule → List ℕ
fresh_name qs = zs (suc (longest_level qs))

-- the witness path: the pattern with the fresh name for each "*" and, k times, for "**"
abbrev pub witness_path : List Rule → Pattern → ℕ → Path
witness_path qs p k = record { terminal = p.terminal; names = witness (fresh_name qs) p.below k }
