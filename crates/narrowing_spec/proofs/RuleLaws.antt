-- The rules of a list of allowed grants admit what the grants admit. Assumes nothing.
use mathlib.Core.Path.{◌≡◌, refl, sym, ap, ap₂, ◌∙◌, subst}
use mathlib.Core.Bool.{Bool, true, ◌&&◌, ◌||◌}
use mathlib.Core.List.{List, [], ◌∷◌}
use Prim.Native.Nat.{ℕ, zero, suc, ◌<◌}
use native.Mathlib.Omega.{arith}
use borrow.Author.Tests.{eqb-true}
use lib.ListN.{length, get_or}
use lib.Dec.{eqb, leb}
use Rattle.exact.specs.Reads.{AllFrom}
use Rattle.resource_spec.specs.Pattern.{Path, Pattern, IsPattern, pattern_text, admits}
use Rattle.resource_spec.specs.Text.{is_pattern, longest_text, pattern_ok, pattern_of}
use Rattle.resource_spec.proofs.Promises.{patterns_exact, patterns_once}
use Rattle.octets.proofs.Tests.{and_left, and_right, or_elim, no_flag}
use Rattle.descriptor_spec.specs.Model.{Grant}
use Rattle.descriptor_spec.specs.Allowed.{is_in, ModeOk, seen_with, GrantOk, All}
use Rattle.descriptor_spec.proofs.Laws.{mask_exactly}
use Rattle.narrowing_spec.specs.Meaning.{grant_admits, any_admits, Escapes}
use Rattle.narrowing_spec.specs.Escape.{rule_at}
use Rattle.narrowing_spec.specs.Laws.{rule_for, rules_of}
use Rattle.narrowing_spec.proofs.CoveredLaws.{or_left, or_right, rule_admits, rules_admit}
use Rattle.narrowing_spec.proofs.SearchLaws.{RuleEscape, ArePatterns}

-- ---- modes

-- each of some allowed modes is below 4
modes_known : (seen ms : List ℕ) (k : ℕ) → AllFrom ModeOk seen_with seen ms → is_in k ms ≡ true → k < 4
unfolding is_in
modes_known seen [] k a e = no_flag e
modes_known seen (m ∷ ms) k a e =
    or_elim (eqb k m) (is_in k ms) (λ h. rw (eqb-true k m h) a.0.known) (λ h. modes_known (m ∷ seen) ms k a.1 h) e

-- ---- patterns

-- an allowed text spells a pattern
pub pattern_of_lem : (s : List ℕ) → pattern_ok s ≡ true → IsPattern (pattern_of s)
unfolding pattern_ok
pattern_of_lem s e =
    let r : (p : Pattern) × IsPattern p × (s ≡ pattern_text p) =
    (patterns_exact s).0 (and_right (leb (length s) longest_text) (is_pattern s) e) in
    subst IsPattern (sym (ap pattern_of r.2 ∙ patterns_once r.0 r.1)) r.1

-- ---- the rules of grants

-- the rule of a grant admits what the grant admits
rule_admits_lem : (g : Grant) (m : ℕ) (x : Path) → GrantOk g → m < 4 → grant_admits g m x ≡ rule_admits (rule_for g) m x
rule_admits_lem g m x o h = ap (λ (b : Bool). b && admits (pattern_of g.pattern) x) (sym ((mask_exactly g o).1 m h))

-- and so do the rules of grants
rules_admit_lem : (gs : List Grant) (m : ℕ) (x : Path) → All GrantOk gs → m < 4 → any_admits gs m x ≡ rules_admit (rules_of gs) m x
rules_admit_lem [] m x a h = refl
rules_admit_lem (g ∷ gs) m x a h = ap₂ ◌||◌ (rule_admits_lem g m x a.0 h) (rules_admit_lem gs m x a.1 h)

-- there are as many
pub rules_length : (gs : List Grant) → length (rules_of gs) ≡ length gs
rules_length [] = refl
rules_length (g ∷ gs) = ap suc (rules_length gs)

-- the rule at a place is that of the grant there
pub rule_at_lem : (gs : List Grant) (d : Grant) (i : ℕ) → i < length gs → rule_at (rules_of gs) i ≡ rule_for (get_or gs i d)
rule_at_lem [] d i h = absurd (omega arith)
rule_at_lem (g ∷ gs) d zero h = refl
rule_at_lem (g ∷ gs) d (suc i) h = rule_at_lem gs d i (omega arith)

-- each rule's pattern is one
pub rule_patterns : (gs : List Grant) → All GrantOk gs → ArePatterns (rules_of gs)
rule_patterns [] a i h = absurd (omega arith)
rule_patterns (g ∷ gs) a zero h = pattern_of_lem g.pattern a.0.pattern
rule_patterns (g ∷ gs) a (suc i) h = rule_patterns gs a.1 i (omega arith)

-- ---- escapes

-- a mode in which a grant admits a path is below 4
pub grant_mode : (g : Grant) (m : ℕ) (x : Path) → GrantOk g → grant_admits g m x ≡ true → m < 4
grant_mode g m x o e = modes_known [] g.modes m o.modes.each (and_left (is_in m g.modes) (admits (pattern_of g.pattern) x) e)

-- one of the grants that admit a path
pub admitting : (gs : List Grant) (d : Grant) (m : ℕ) (x : Path) → any_admits gs m x ≡ true
    → (i : ℕ) × (i < length gs) × (grant_admits (get_or gs i d) m x ≡ true)
admitting [] d m x e = no_flag e
admitting (g ∷ gs) d m x e =
    or_elim (grant_admits g m x) (any_admits gs m x) (λ h. (0, omega arith, h))
    (λ h. let r = admitting gs d m x h in (suc r.0, omega (arith, r.1), r.2)) e

-- a path that one of the grants admits
pub admitted_by : (gs : List Grant) (d : Grant) (m : ℕ) (x : Path) (i : ℕ) → i < length gs → grant_admits (get_or gs i d) m x ≡ true
    → any_admits gs m x ≡ true
admitted_by [] d m x i h e = absurd (omega arith)
admitted_by (g ∷ gs) d m x zero h e = or_left (grant_admits g m x) (any_admits gs m x) e
admitted_by (g ∷ gs) d m x (suc i) h e = or_right (grant_admits g m x) (any_admits gs m x) (admitted_by gs d m x i (omega arith) e)

-- a path that escapes by a grant escapes by its rule
pub to_rule : (ps : List Grant) (g : Grant) (m : ℕ) (x : Path) → All GrantOk ps → GrantOk g → m < 4
    → Escapes ps g m x → RuleEscape (rules_of ps) (rule_for g) m x
to_rule ps g m x a o h e =
    record { admitted = sym (rule_admits_lem g m x o h) ∙ e.admitted; outside = sym (rules_admit_lem ps m x a h) ∙ e.outside }

-- and the other way
pub of_rule : (ps : List Grant) (g : Grant) (m : ℕ) (x : Path) → All GrantOk ps → GrantOk g → m < 4
    → RuleEscape (rules_of ps) (rule_for g) m x → Escapes ps g m x
of_rule ps g m x a o h e = record { admitted = rule_admits_lem g m x o h ∙ e.admitted; outside = rules_admit_lem ps m x a h ∙ e.outside }
