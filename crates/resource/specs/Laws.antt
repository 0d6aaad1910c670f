-- What the crates above stand on: of the first levels of texts, and of the step from them. A reader of the promises does not need this
-- page.
-- Each statement `NameOfIt` is proved in proofs/Laws.antt as `name_of_it`.
use Rattle.std.specs.Prelude.{◌≡◌, Bool, true, false, cond, ◌&&◌, ◌||◌, List, [], ◌∷◌, ℕ, ◌+◌, ◌-◌, ◌≤◌, ◌<◌, length, take, drop}
use Rattle.std.specs.Prelude.{Option, Some, None}
use Rattle.octets.specs.Bytes.{same}
use Rattle.octets.specs.Scan.{without}
use Rattle.resource.specs.declared.LevelStep.{LevelStep}
use Rattle.resource.specs.declared.LevelStep.TheVariants.{Finish, Next}
use Rattle.resource_spec.specs.Identifier.{is_terminal, terminal_size}
use Rattle.resource_spec.specs.Level.{is_star, levels}
use Rattle.resource_spec.specs.Text.{pattern_ok, levels_match, levels_named}
use Rattle.resource.specs.Code.{pattern_under, star_first, step_of, match_step}

-- ---- a pattern under a terminal id

-- where t is a terminal id, what is told of s is whether s is a pattern that may enter and begins with t
abbrev pub PatternUnder : Type 0
PatternUnder = (t s : List ℕ) → is_terminal t ≡ true → pattern_under t s ≡ (pattern_ok s && same (take terminal_size s) t)

-- ---- the first level of a text

-- each text has a first level, which is "*" where its first bytes say so
abbrev pub FirstStar : Type 0
FirstStar = (s : List ℕ) → (l : List ℕ) × (ls : List (List ℕ)) × (levels s ≡ l ∷ ls) × (star_first s ≡ is_star l)

-- ---- the first levels of two texts, and what the step from them says

-- the first levels of p and r, with ls and ks after them: whether the one of p is "*" or the same as the one of r
pub record Firsts (p r : List ℕ) (ls ks : List (List ℕ)) (fits : Bool) : Type 0 where
  pub first_p : List ℕ
  pub first_r : List ℕ
  pub of_p : levels p ≡ first_p ∷ ls
  pub of_r : levels r ≡ first_r ∷ ks
  pub fit : (is_star first_p || same first_p first_r) ≡ fits

-- there are levels in both, or in none
abbrev pub alike : List (List ℕ) → List (List ℕ) → Bool
alike [] [] = true
alike [] (k ∷ ks) = false
alike (l ∷ ls) [] = false
alike (l ∷ ls) (k ∷ ks) = true

-- first levels count 1 where they are the same, else 0
abbrev pub Counted : {p r : List ℕ} {ls ks : List (List ℕ)} {fits : Bool} → Firsts p r ls ks fits → ℕ → Type 0
Counted f names = cond (same f.first_p f.first_r) 1 0 ≡ names

-- what a step says: the first levels do not fit, or levels follow only one of them; they fit and are the last; or they fit and "/"
-- follows both
abbrev pub FirstLevels : List ℕ → List ℕ → Option LevelStep → Type 0
FirstLevels p r None = (ls : List (List ℕ)) × (ks : List (List ℕ)) × (t : Bool) × Firsts p r ls ks t × ((t && alike ls ks) ≡ false)
FirstLevels p r (Some (Finish names)) = (f : Firsts p r [] [] true) × Counted f names
FirstLevels p r (Some (Next i j names)) =
    (i < length p) × (j < length r) × (f : Firsts p r (levels (drop (i + 1) p)) (levels (drop (j + 1) r)) true) × Counted f names

-- the step of two texts says so
abbrev pub StepLevels : Type 0
StepLevels = (p r : List ℕ) → FirstLevels p r (step_of p r)

-- two texts match, and n levels are matched by equal names
pub record MatchesWith (p r : List ℕ) (n : ℕ) : Type 0 where
  pub match : levels_match p r ≡ true
  pub named : levels_named p r ≡ n

-- the levels after the first decide, there are fewer of them, and the names among them are counted beside those of the first
pub record Goes (p r : List ℕ) (i j names : ℕ) : Type 0 where
  pub in_p : i < length p
  pub in_r : j < length r
  pub decides : levels_match p r ≡ levels_match (drop (i + 1) p) (drop (j + 1) r)
  pub counts : levels_named p r ≡ names + levels_named (drop (i + 1) p) (drop (j + 1) r)
  pub one : names ≤ 1
  pub fewer : length (levels (drop (i + 1) p)) < length (levels p)

-- what is told of the matching of two texts by the step of their first levels
abbrev pub Stepped : List ℕ → List ℕ → Option LevelStep → Type 0
Stepped p r None = levels_match p r ≡ false
Stepped p r (Some (Finish names)) = MatchesWith p r names × (names ≤ 1)
Stepped p r (Some (Next i j names)) = Goes p r i j names

-- it holds of each two texts of which the second has no "*", as no path has
abbrev pub StepDecides : Type 0
StepDecides = (p r : List ℕ) → without 42 r ≡ true → Stepped p r (match_step p r)

-- the levels a and b after the first ones of p and r decide, and the names among them are counted beside those of the first
pub record Later (p r : List ℕ) (names : ℕ) (a b : List ℕ) : Type 0 where
  pub decides : levels_match p r ≡ levels_match a b
  pub counts : levels_named p r ≡ names + levels_named a b
  pub starless : without 42 b ≡ true

-- so do they as slices that go to the end
abbrev pub NextSame : Type 0
NextSame = (p r : List ℕ) (i j names : ℕ) → Goes p r i j names → without 42 r ≡ true
    → Later p r names (take (length p - (i + 1)) (drop (i + 1) p)) (take (length r - (j + 1)) (drop (j + 1) r))
