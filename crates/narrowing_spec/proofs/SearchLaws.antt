-- Laws of the search for the first rule, the lowest mode and the fewest names by which a path escapes (specs/Escape.antt). Assumes nothing.
use mathlib.Core.Path.{◌≡◌, sym, ◌∙◌}
use mathlib.Core.Bool.{true, false, not, ◌&&◌}
use mathlib.Core.List.{List}
use Rattle.std.specs.Prelude.{None, Some, is_some}
use mathlib.Core.Logic.{⊎_elim}
use Prim.Native.Nat.{ℕ, zero, suc, zero-le, ◌+◌, ◌≤◌, ◌<◌}
use native.Mathlib.Nat.{not-suc-le-zero, eq-or-lt_of_le, le_of_suc-le-suc}
use native.Mathlib.Omega.{arith}
use native.Mathlib.Decide.{dec_lt}
use borrow.Author.Tests.{not-true, not-false}
use lib.ListN.{length}
use Rattle.resource_spec.specs.Pattern.{Path, IsPath, Pattern, IsPattern, matches, admits}
use Rattle.octets.specs.Bytes.{same}
use Rattle.resource_spec.specs.Cover.{CanTake}
use Rattle.resource_spec.proofs.Laws.{taken_can}
use Rattle.octets.proofs.Tests.{and_left, and_right, and_both}
use Rattle.descriptor_spec.specs.Reader.{has_mode}
use Rattle.narrowing_spec.specs.Escape.{Rule, covered, can_take, escapes_with, deepest, or_zero, fewest_names, lowest_mode, rule_at}
use Rattle.narrowing_spec.specs.Escape.{first_rule, witness_path}
use Rattle.narrowing_spec.proofs.LeastLaws.{Least, least_some, least_none, some_of, none_of}
use Rattle.narrowing_spec.proofs.CoveredLaws.{contra, true_of, rule_admits, rules_admit, taken_in, can_take_lem, covered_admits}
use Rattle.narrowing_spec.proofs.CoveredLaws.{covered_stays}
use Rattle.narrowing_spec.proofs.CoveredLaws.{witness_covered, witness_path_lem, witness_admitted, witness_taken}

-- a path escapes by a rule and a mode when that rule admits it in that mode and none of qs does
pub record RuleEscape (qs : List Rule) (g : Rule) (m : ℕ) (x : Path) : Type 0 where
  pub admitted : rule_admits g m x ≡ true
  pub outside : rules_admit qs m x ≡ false

-- no path escapes by the rule in the mode
abbrev pub NoRuleEscape : List Rule → Rule → ℕ → Type 0
NoRuleEscape qs g m = (x : Path) → IsPath x → RuleEscape qs g m x → ⊥

-- k is the fewest names of "**" in a path that escapes by g in m, and the witness path has that many
pub record Fewest (qs : List Rule) (g : Rule) (m k : ℕ) : Type 0 where
  pub path : IsPath (witness_path qs g.pattern k)
  pub escapes : RuleEscape qs g m (witness_path qs g.pattern k)
  pub takes : taken_in g.pattern (witness_path qs g.pattern k) ≡ k
  pub fewest : (x : Path) → IsPath x → RuleEscape qs g m x → k ≤ taken_in g.pattern x

-- ---- one rule and one mode

-- a path that escapes does so with the number of names that "**" takes in it
escape_with : (qs : List Rule) (g : Rule) (m : ℕ) (x : Path) → IsPattern g.pattern → IsPath x → RuleEscape qs g m x
    → escapes_with qs g m (taken_in g.pattern x) ≡ true
escape_with qs g m x i j h =
    let p : Pattern = g.pattern in
    let k : ℕ = taken_in p x in
    let a : admits p x ≡ true = and_right (has_mode g.mask m) (admits p x) h.admitted in
    let b : matches p.below x.names ≡ true = and_right (same p.terminal x.terminal) (matches p.below x.names) a in
    and_both (has_mode g.mask m) (can_take p.below k && not (covered qs m p k))
    (and_left (has_mode g.mask m) (admits p x) h.admitted)
    (and_both (can_take p.below k) (not (covered qs m p k)) ((can_take_lem p.below k).1 (taken_can p.below x.names b))
    (true_of (not (covered qs m p k))
    (λ n. contra (rules_admit qs m x) (covered_admits qs m p x i j a (not-false (covered qs m p k) n)) h.outside)))

-- the witness path escapes with each number that passes the test
with_escapes : (qs : List Rule) (g : Rule) (m k : ℕ) → escapes_with qs g m k ≡ true
    → CanTake g.pattern.below k × RuleEscape qs g m (witness_path qs g.pattern k)
with_escapes qs g m k e =
    let p : Pattern = g.pattern in
    let o : has_mode g.mask m ≡ true = and_left (has_mode g.mask m) (can_take p.below k && not (covered qs m p k)) e in
    let r : (can_take p.below k && not (covered qs m p k)) ≡ true =
    and_right (has_mode g.mask m) (can_take p.below k && not (covered qs m p k)) e in
    let c : CanTake p.below k = (can_take_lem p.below k).0 (and_left (can_take p.below k) (not (covered qs m p k)) r) in (
      c,
      record {
        admitted = and_both (has_mode g.mask m) (admits p (witness_path qs p k)) o (witness_admitted qs p k c);
        outside = witness_covered qs m p k ∙ not-true (covered qs m p k) (and_right (can_take p.below k) (not (covered qs m p k)) r);
      },
    )

-- past the deepest pattern one name more changes nothing
with_stays : (qs : List Rule) (g : Rule) (m k : ℕ) → deepest qs < k → escapes_with qs g m (suc k) ≡ escapes_with qs g m k
with_stays qs g m zero h = absurd (not-suc-le-zero h)
with_stays qs g m (suc k) h = rw (covered_stays qs m g.pattern (suc k) h)

-- and no number of names more does
pub with_last_lem : (qs : List Rule) (g : Rule) (m k : ℕ) → deepest qs < k → escapes_with qs g m k ≡ escapes_with qs g m (suc (deepest qs))
with_last_lem qs g m zero h = absurd (not-suc-le-zero h)
with_last_lem qs g m (suc k) h =
    ⊎_elim (λ (e : deepest qs ≡ k). rw e) (λ l. with_stays qs g m k l ∙ with_last_lem qs g m k l) (eq-or-lt_of_le (le_of_suc-le-suc h))

-- where the search finds no number of names, no path escapes by the rule in the mode
fewest_none : (qs : List Rule) (g : Rule) (m : ℕ) → IsPattern g.pattern → fewest_names qs g m ≡ None → NoRuleEscape qs g m
unfolding fewest_names
fewest_none qs g m i e x j h = go (dec_lt k (2 + deepest qs))
  where
    k : ℕ
    k = taken_in g.pattern x

    fails : (n : ℕ) → n < 2 + deepest qs → escapes_with qs g m n ≡ false
    fails n l = least_none (escapes_with qs g m) 0 (2 + deepest qs) e n zero-le (omega arith)

    go : Dec (k < 2 + deepest qs) → ⊥
    go (yes l) = contra (escapes_with qs g m k) (escape_with qs g m x i j h) (fails k l)
    go (no l) =
        contra (escapes_with qs g m (suc (deepest qs))) (sym (with_last_lem qs g m k (omega arith)) ∙ escape_with qs g m x i j h)
        (fails (suc (deepest qs)) (omega arith))

-- a number of names that the search finds is the fewest
fewest_some : (qs : List Rule) (g : Rule) (m k : ℕ) → IsPattern g.pattern → fewest_names qs g m ≡ Some k → Fewest qs g m k
unfolding fewest_names
fewest_some qs g m k i e =
    record { path = witness_path_lem qs g.pattern k i w.0; escapes = w.1; takes = witness_taken qs g.pattern k w.0; fewest = few }
  where
    l : Least (escapes_with qs g m) 0 (2 + deepest qs) k
    l = least_some (escapes_with qs g m) 0 (2 + deepest qs) k e

    w : CanTake g.pattern.below k × RuleEscape qs g m (witness_path qs g.pattern k)
    w = with_escapes qs g m k l.passes

    few : (x : Path) → IsPath x → RuleEscape qs g m x → k ≤ taken_in g.pattern x
    few x j h = go (dec_lt (taken_in g.pattern x) k)
      where
        go : Dec (taken_in g.pattern x < k) → k ≤ taken_in g.pattern x
        go (yes b) = absurd (contra (escapes_with qs g m (taken_in g.pattern x)) (escape_with qs g m x i j h)
            (l.none_before (taken_in g.pattern x) zero-le b))
        go (no b) = omega arith

-- ---- the modes of a rule

-- where the search finds no mode, no path escapes by the rule
lowest_none : (qs : List Rule) (g : Rule) → IsPattern g.pattern → lowest_mode qs g ≡ None → (n : ℕ) → n < 4 → NoRuleEscape qs g n
unfolding lowest_mode
lowest_none qs g i e n h =
    fewest_none qs g n i (none_of (fewest_names qs g n) (least_none (λ m. is_some (fewest_names qs g m)) 0 4 e n zero-le (omega arith)))

-- m is the lowest mode in which a path escapes by g, and k its fewest names
pub record Lowest (qs : List Rule) (g : Rule) (m k : ℕ) : Type 0 where
  pub mode : m < 4
  pub lowest : (n : ℕ) → n < m → NoRuleEscape qs g n
  pub fewest : Fewest qs g m k

-- a mode that the search finds is the lowest, with its fewest names
lowest_some : (qs : List Rule) (g : Rule) (m : ℕ) → IsPattern g.pattern → lowest_mode qs g ≡ Some m
    → Lowest qs g m (or_zero (fewest_names qs g m))
unfolding lowest_mode
lowest_some qs g m i e =
    let l : Least (λ n. is_some (fewest_names qs g n)) 0 4 m = least_some (λ n. is_some (fewest_names qs g n)) 0 4 m e in
    record {
      mode = omega (arith, l.below);
      lowest = λ n h. fewest_none qs g n i (none_of (fewest_names qs g n) (l.none_before n zero-le h));
      fewest = fewest_some qs g m (or_zero (fewest_names qs g m)) i (some_of (fewest_names qs g m) l.passes);
    }

-- ---- the rules of a child

-- each rule's pattern is one
abbrev pub ArePatterns : List Rule → Type 0
ArePatterns cs = (i : ℕ) → i < length cs → IsPattern (rule_at cs i).pattern

-- where the search finds no rule, no path escapes by any
pub first_none : (qs cs : List Rule) → ArePatterns cs → first_rule qs cs ≡ None
    → (i : ℕ) → i < length cs → (n : ℕ) → n < 4 → NoRuleEscape qs (rule_at cs i) n
unfolding first_rule
first_none qs cs a e i l =
    lowest_none qs (rule_at cs i) (a i l)
    (none_of (lowest_mode qs (rule_at cs i)) (least_none (λ j. is_some (lowest_mode qs (rule_at cs j))) 0 (length cs) e i zero-le (omega arith)))

-- i is the place of the first rule by which a path escapes, m the lowest mode, k the fewest names
pub record First (qs cs : List Rule) (i m k : ℕ) : Type 0 where
  pub place : i < length cs
  pub first : (j : ℕ) → j < i → (n : ℕ) → n < 4 → NoRuleEscape qs (rule_at cs j) n
  pub lowest : Lowest qs (rule_at cs i) m k

-- a rule that the search finds is the first, with its lowest mode and its fewest names
pub first_some : (qs cs : List Rule) (i : ℕ) → ArePatterns cs → first_rule qs cs ≡ Some i
    → (let m = or_zero (lowest_mode qs (rule_at cs i)) in First qs cs i m (or_zero (fewest_names qs (rule_at cs i) m)))
unfolding first_rule
first_some qs cs i a e =
    record {
      place = h;
      first = λ j b. lowest_none qs (rule_at cs j) (a j (omega (arith, h)))
          (none_of (lowest_mode qs (rule_at cs j)) (l.none_before j zero-le b));
      lowest = lowest_some qs (rule_at cs i) (or_zero (lowest_mode qs (rule_at cs i))) (a i h)
          (some_of (lowest_mode qs (rule_at cs i)) l.passes);
    }
  where
    l : Least (λ j. is_some (lowest_mode qs (rule_at cs j))) 0 (length cs) i
    l = least_some (λ j. is_some (lowest_mode qs (rule_at cs j))) 0 (length cs) i e

    h : i < length cs
    h = omega (arith, l.below)
