-- What the crates above stand on: of texts, of their levels, and of covering. A reader of the promises does not need this page.
-- Each statement `NameOfIt` is proved in proofs/Laws.antt as `name_of_it`.
use Rattle.std.specs.Prelude.{◌≡◌, ◌↔◌, Bool, true, false, ◌&&◌, List, [], ◌∷◌, ◌++◌, ℕ, suc, ◌≤◌, ◌<◌, length, take, drop, get_or}
use Rattle.octets.specs.Bytes.{same}
use Rattle.octets.specs.Scan.{without}
use Rattle.resource_spec.specs.Identifier.{is_fay, is_terminal, fay_size, levels_place, terminal_size}
use Rattle.resource_spec.specs.Level.{is_name, is_star, is_deep, levels, levels_ok}
use Rattle.resource_spec.specs.Pattern.{Levels, Pattern, matches, admits, equal_names, levels_before, taken, AllNames, Some, NamesIn}
use Rattle.resource_spec.specs.Pattern.{spelled, IsPattern, pattern_text}
use Rattle.resource_spec.specs.Text.{well_formed, resource_ok, pattern_ok, path_of, pattern_of, with_level, levels_of, levels_match}
use Rattle.resource_spec.specs.Text.{levels_named}
use Rattle.resource_spec.specs.Cover.{covers, witness, CanTake, Fresh, longest_name, zs}

-- ---- levels

-- a text is its first level, or its first level, "/" and more
pub data Parted : List ℕ → Type 0 where
  last : (l : List ℕ) → without 47 l ≡ true → Parted l
  more : (l t : List ℕ) → without 47 l ≡ true → Parted (l ++ (47 ∷ t))

-- each text is parted so
abbrev pub EachParted : Type 0
EachParted = (s : List ℕ) → Parted s

-- a text with no "/" is one level
abbrev pub LevelsOne : Type 0
LevelsOne = (l : List ℕ) → without 47 l ≡ true → levels l ≡ l ∷ []

-- a level with no "/", then "/": it is the first level
abbrev pub LevelsMore : Type 0
LevelsMore = (l t : List ℕ) → without 47 l ≡ true → levels (l ++ (47 ∷ t)) ≡ l ∷ levels t

-- there is one level at least
abbrev pub LevelsSome : Type 0
LevelsSome = (s : List ℕ) → (l : List ℕ) × (ls : List (List ℕ)) × (levels s ≡ l ∷ ls)

-- a byte that a text has not is not in its first level
abbrev pub FirstWithout : Type 0
FirstWithout = (c : ℕ) (s l : List ℕ) (ls : List (List ℕ)) → levels s ≡ l ∷ ls → without c s ≡ true → without c l ≡ true

-- the first level of a text that is not "**" spells "*" or a name, before what the others spell
abbrev pub SpelledFirst : Type 0
SpelledFirst = (s l : List ℕ) (ls : List (List ℕ)) → levels s ≡ l ∷ ls → is_deep s ≡ false
    → levels_of (l ∷ ls) ≡ with_level (is_star l) l (levels_of ls)

-- ---- texts

-- a terminal id has 45 bytes
abbrev pub TerminalLength : Type 0
TerminalLength = (c : List ℕ) → is_terminal c ≡ true → length c ≡ terminal_size

-- a fay id has 40 bytes
abbrev pub FayLength : Type 0
FayLength = (c : List ℕ) → is_fay c ≡ true → length c ≡ fay_size

-- a pattern that may enter has 46 to 256 bytes
abbrev pub PatternShort : Type 0
PatternShort = (p : List ℕ) → pattern_ok p ≡ true → (levels_place ≤ length p) × (length p ≤ 256)

-- so has a resource id that may enter
abbrev pub ResourceShort : Type 0
ResourceShort = (r : List ℕ) → resource_ok r ≡ true → (levels_place ≤ length r) × (length r ≤ 256)

-- the first 45 bytes of a pattern are a terminal id
abbrev pub PatternTerminal : Type 0
PatternTerminal = (p : List ℕ) → pattern_ok p ≡ true → is_terminal (take terminal_size p) ≡ true

-- the levels of a pattern are its first 45 bytes and the levels of what follows the 46th
abbrev pub PatternLevels : Type 0
PatternLevels = (p : List ℕ) → pattern_ok p ≡ true → levels p ≡ take terminal_size p ∷ levels (drop levels_place p)

-- a pattern matches a path exactly where the first 45 bytes of their texts are the same and the levels below match
abbrev pub AdmitsText : Type 0
AdmitsText = (p r : List ℕ) → pattern_ok p ≡ true → resource_ok r ≡ true
    → admits (pattern_of p) (path_of r)
    ≡ (same (take terminal_size p) (take terminal_size r) && levels_match (drop levels_place p) (drop levels_place r))

-- how many levels are matched by equal names is told by the texts below
abbrev pub NamesText : Type 0
NamesText = (p r : List ℕ) → pattern_ok p ≡ true → resource_ok r ≡ true
    → equal_names (pattern_of p).below (path_of r).names ≡ levels_named (drop levels_place p) (drop levels_place r)

-- no "*" stands in a resource id below the terminal id
abbrev pub ResourceStarless : Type 0
ResourceStarless = (r : List ℕ) → resource_ok r ≡ true → without 42 (drop levels_place r) ≡ true

-- a text begins with a terminal id and "/"
pub record Begins (s : List ℕ) : Type 0 where
  pub long : levels_place ≤ length s
  pub slash : get_or s terminal_size 0 ≡ 47
  pub terminal : is_terminal (take terminal_size s) ≡ true

-- so does each well-formed text
abbrev pub WellBegins : Type 0
WellBegins = (wild : Bool) (s : List ℕ) → well_formed wild (levels s) ≡ true → Begins s

-- whether a text that does is well formed is decided by the levels below
abbrev pub BeginsWell : Type 0
BeginsWell = (wild : Bool) (s : List ℕ) → Begins s → well_formed wild (levels s) ≡ levels_ok wild (levels (drop levels_place s))

-- the text of a pattern has no space
abbrev pub PatternSpaceless : Type 0
PatternSpaceless = (p : Pattern) → IsPattern p → without 32 (pattern_text p) ≡ true

-- ---- covering, over levels

-- q covers p with k names exactly when q matches every path that p matches with k names for its "**"
abbrev pub CoversExact : Type 0
CoversExact = (q p : Levels) (k : ℕ) → NamesIn p → CanTake p k
    → (covers q p k ≡ true) ↔ ((xs : List (List ℕ)) → AllNames xs → matches p xs ≡ true → taken p xs ≡ k → matches q xs ≡ true)

-- a path that p matches gives its "**" a number of names that it can take
abbrev pub TakenCan : Type 0
TakenCan = (p : Levels) (xs : List (List ℕ)) → matches p xs ≡ true → CanTake p (taken p xs)

-- from more names on than q has levels before its "**" nothing changes
abbrev pub CoversStay : Type 0
CoversStay = (q p : Levels) (k : ℕ) → levels_before q < k → covers q p (suc k) ≡ covers q p k

-- the witness path is matched by p, with k names for its "**"
abbrev pub WitnessMatched : Type 0
WitnessMatched = (z : List ℕ) (p : Levels) (k : ℕ) → CanTake p k → (matches p (witness z p k) ≡ true) × (taken p (witness z p k) ≡ k)

-- with a name that q does not have it is matched by q exactly when q covers p with k names
abbrev pub WitnessDecides : Type 0
WitnessDecides = (z : List ℕ) (q p : Levels) (k : ℕ) → Fresh z q → matches q (witness z p k) ≡ covers q p k

-- it is a path of names, one at least where p has a level
abbrev pub WitnessNames : Type 0
WitnessNames = (z : List ℕ) (p : Levels) (k : ℕ) → is_name z ≡ true → NamesIn p → CanTake p k → Some (spelled p)
    → AllNames (witness z p k) × Some (witness z p k)

-- the letter z, more times than the longest name of q has characters, is a name that q does not have
abbrev pub ZsFresh : Type 0
ZsFresh = (q : Levels) (n : ℕ) → longest_name q < n → (is_name (zs n) ≡ true) × Fresh (zs n) q
