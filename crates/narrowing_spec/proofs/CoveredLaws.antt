-- Laws of what a list of rules admits, of covering by it, and of the witness path (specs/Escape.antt). Assumes nothing.
use mathlib.Core.Path.{◌≡◌, refl, sym, ◌∙◌}
use mathlib.Core.Logic.{◌↔◌}
use mathlib.Core.Bool.{Bool, true, false, ◌&&◌, ◌||◌, false≢true}
use mathlib.Core.List.{List, [], ◌∷◌}
use Prim.Native.Nat.{ℕ, zero, suc, ◌<◌}
use native.Mathlib.Omega.{arith}
use Rattle.octets.specs.Bytes.{same}
use Rattle.resource_spec.specs.Level.{is_name}
use Rattle.resource_spec.specs.Pattern.{Path, IsPath, Levels, done, deep, name, star, Pattern, IsPattern, matches, admits, taken}
use Rattle.resource_spec.specs.Cover.{covers, witness, CanTake, Fresh, zs}
use Rattle.resource_spec.proofs.Laws.{covers_exact, taken_can, covers_stay, witness_matched, witness_decides, witness_names, zs_fresh}
use Rattle.octets.proofs.Tests.{and_left, and_right, and_both, or_elim, no_flag}
use Rattle.octets.proofs.SameLaws.{same_self, same_equal}
use Rattle.descriptor_spec.specs.Reader.{has_mode}
use Rattle.narrowing_spec.specs.Escape.{Rule, pattern_covers, covered, can_take, deepest, longest_level, fresh_name, witness_path}

-- ---- tests

-- a test is not both true and false
pub contra : (b : Bool) → b ≡ true → b ≡ false → ⊥
contra b p q = false≢true (sym q ∙ p)

-- a test that is not false is true
pub true_of : (b : Bool) → (b ≡ false → ⊥) → b ≡ true
true_of true f = refl
true_of false f = absurd (f refl)

-- the first of two tests holds
pub or_left : (a b : Bool) → a ≡ true → (a || b) ≡ true
or_left a b e = rw e

-- the second of two tests holds
pub or_right : (a b : Bool) → b ≡ true → (a || b) ≡ true
or_right true b e = refl
or_right false b e = e

-- ---- what rules admit

-- a rule admits a path in each of its modes when its pattern matches the path
abbrev pub rule_admits : Rule → ℕ → Path → Bool
rule_admits g m x = has_mode g.mask m && admits g.pattern x

-- one of the rules admits the path in the mode
abbrev pub rules_admit : List Rule → ℕ → Path → Bool
rules_admit [] m x = false
rules_admit (q ∷ qs) m x = rule_admits q m x || rules_admit qs m x

-- the number of names that the "**" of a pattern takes in a path
abbrev pub taken_in : Pattern → Path → ℕ
taken_in p x = taken p.below x.names

-- "**" can take a number of names exactly when the test says so
pub can_take_lem : (p : Levels) (k : ℕ) → (can_take p k ≡ true) ↔ CanTake p k
can_take_lem done zero = (λ e. refl, λ c. refl)
can_take_lem done (suc k) = (λ e. no_flag e, λ c. absurd (omega arith))
can_take_lem deep zero = (λ e. no_flag e, λ c. absurd (omega arith))
can_take_lem deep (suc k) = (λ e. omega arith, λ c. refl)
can_take_lem (name n p) zero = can_take_lem p zero
can_take_lem (name n p) (suc k) = can_take_lem p (suc k)
can_take_lem (star p) zero = can_take_lem p zero
can_take_lem (star p) (suc k) = can_take_lem p (suc k)

-- a pattern that covers p with the number of names that p takes in a path matches the path
covers_admits : (q p : Pattern) (x : Path) → IsPattern p → IsPath x → admits p x ≡ true
    → pattern_covers q p (taken_in p x) ≡ true → admits q x ≡ true
covers_admits q p x i j a c =
    let t : p.terminal ≡ x.terminal
    = same_equal p.terminal x.terminal (and_left (same p.terminal x.terminal) (matches p.below x.names) a) in
    let m : matches p.below x.names ≡ true = and_right (same p.terminal x.terminal) (matches p.below x.names) a in
    let k : ℕ = taken_in p x in
    and_both (same q.terminal x.terminal) (matches q.below x.names)
    (rw (← t) (and_left (same q.terminal p.terminal) (covers q.below p.below k) c))
    ((covers_exact q.below p.below k i.names (taken_can p.below x.names m)).0
    (and_right (same q.terminal p.terminal) (covers q.below p.below k) c) x.names j.names m refl)

-- where the rules cover p with that number, they admit the path
pub covered_admits : (qs : List Rule) (m : ℕ) (p : Pattern) (x : Path) → IsPattern p → IsPath x → admits p x ≡ true
    → covered qs m p (taken_in p x) ≡ true → rules_admit qs m x ≡ true
covered_admits [] m p x i j a c = c
covered_admits (q ∷ qs) m p x i j a c =
    let h : Bool = has_mode q.mask m in
    let v : Bool = pattern_covers q.pattern p (taken_in p x) in
    or_elim (h && v) (covered qs m p (taken_in p x))
    (λ e. or_left (rule_admits q m x) (rules_admit qs m x)
    (and_both h (admits q.pattern x) (and_left h v e) (covers_admits q.pattern p x i j a (and_right h v e))))
    (λ e. or_right (rule_admits q m x) (rules_admit qs m x) (covered_admits qs m p x i j a e))
    c

-- from more names on than any pattern of the rules has levels before its "**" nothing changes
pub covered_stays : (qs : List Rule) (m : ℕ) (p : Pattern) (k : ℕ) → deepest qs < k → covered qs m p (suc k) ≡ covered qs m p k
covered_stays [] m p k h = refl
covered_stays (q ∷ qs) m p k h = rw (covers_stay q.pattern.below p.below k (omega arith), covered_stays qs m p k (omega arith))

-- ---- the witness path

-- the path of p with the name z for each "*" and, k times, for "**"
abbrev path_with : List ℕ → Pattern → ℕ → Path
path_with z p k = record { terminal = p.terminal; names = witness z p.below k }

-- z is no name of any pattern of the rules
abbrev FreshAll : List ℕ → List Rule → Type 0
FreshAll z [] = Unit {0}
FreshAll z (q ∷ qs) = Fresh z q.pattern.below × FreshAll z qs

-- more letters z than the longest level of the rules has characters are such a name
fresh_all : (qs : List Rule) (n : ℕ) → longest_level qs < n → FreshAll (zs n) qs
fresh_all [] n h = tt
fresh_all (q ∷ qs) n h = ((zs_fresh q.pattern.below n (omega arith)).1, fresh_all qs n (omega arith))

-- the rules admit the path with such a name exactly when they cover p
decides_with : (z : List ℕ) (qs : List Rule) (m : ℕ) (p : Pattern) (k : ℕ) → FreshAll z qs
    → rules_admit qs m (path_with z p k) ≡ covered qs m p k
decides_with z [] m p k f = refl
decides_with z (q ∷ qs) m p k f = rw (witness_decides z q.pattern.below p.below k f.0, decides_with z qs m p k f.1)

-- the rules admit the witness path exactly when they cover p
pub witness_covered : (qs : List Rule) (m : ℕ) (p : Pattern) (k : ℕ) → rules_admit qs m (witness_path qs p k) ≡ covered qs m p k
witness_covered qs m p k = decides_with (fresh_name qs) qs m p k (fresh_all qs (suc (longest_level qs)) (omega arith))

-- the fresh name is a name
fresh_name_lem : (qs : List Rule) → is_name (fresh_name qs) ≡ true
fresh_name_lem qs = (zs_fresh done (suc (longest_level qs)) (omega arith)).0

-- the witness path is a path
pub witness_path_lem : (qs : List Rule) (p : Pattern) (k : ℕ) → IsPattern p → CanTake p.below k → IsPath (witness_path qs p k)
witness_path_lem qs p k i c =
    let n = witness_names (fresh_name qs) p.below k (fresh_name_lem qs) i.names c i.some in
    record { terminal = i.terminal; names = n.0; some = n.1 }

-- p matches its witness path
pub witness_admitted : (qs : List Rule) (p : Pattern) (k : ℕ) → CanTake p.below k → admits p (witness_path qs p k) ≡ true
witness_admitted qs p k c =
    and_both (same p.terminal p.terminal) (matches p.below (witness (fresh_name qs) p.below k)) (same_self p.terminal)
    (witness_matched (fresh_name qs) p.below k c).0

-- the "**" of p takes k names in it
pub witness_taken : (qs : List Rule) (p : Pattern) (k : ℕ) → CanTake p.below k → taken_in p (witness_path qs p k) ≡ k
witness_taken qs p k c = (witness_matched (fresh_name qs) p.below k c).1
