-- Laws of the loop of `match_levels`, which takes the first levels off two texts until they are the last: what a step of first levels
-- says of the places, for any two texts, and of the matching of all, where the second has no "*". Assumes nothing.
use Rattle.std.proofs.Common.{◌≡◌, ℕ, suc, ◌+◌, ◌-◌, ◌<◌, ◌≤◌, Bool, true, false, cond, Option, Some, None, List, length, take, drop, refl, sym, ap, subst, ◌∙◌, arith}
use native.Mathlib.Nat.{zero-add}
use lib.ListN.{length-take, length-drop}
use lib.Seq.{take-length}
use Rattle.std.specs.Option.{option_or}
use Rattle.octets.specs.Scan.{without}
use Rattle.resource_spec.specs.Level.{is_deep}
use Rattle.resource_spec.specs.Text.{levels_named}
use Rattle.resource.specs.declared.LevelStep.{LevelStep}
use Rattle.resource.specs.declared.LevelStep.TheVariants.{Finish, Next}
use Rattle.resource.specs.Code.{step_of, match_step, by_steps, levels_by_steps, answer_of}
use Rattle.resource.specs.Laws.{FirstLevels, Stepped, Later}
use Rattle.resource.proofs.FirstLevelLaws.{first_levels, next_decides, one_name}
use Rattle.resource.proofs.NameFirstCode.{match_step_tells}

-- ---- the places, for any two texts

-- a step counts one name at most, and the places that it answers are inside
abbrev Inside : List ℕ → List ℕ → Option LevelStep → Type 0
Inside p r None = 0 ≤ 1
Inside p r (Some (Finish names)) = names ≤ 1
Inside p r (Some (Next i j names)) = (i < length p) × (j < length r) × (names ≤ 1)

-- the first levels say so, and "**" counts no name
inside_or : (p r : List ℕ) (o : Option LevelStep) (t : Bool) → FirstLevels p r o → Inside p r (option_or o (cond t (Some (Finish 0)) None))
inside_or p r None true f = omega arith
inside_or p r None false f = omega arith
inside_or p r (Some (Finish n)) t f = one_name _ n f.1
inside_or p r (Some (Next i j n)) t f = (f.0, f.1, one_name _ n f.3)

-- so does a step
inside : (p r : List ℕ) {x : Option LevelStep} → x ≡ match_step p r → Inside p r x
unfolding match_step
inside p r e = subst (Inside p r) (sym e) (inside_or p r (step_of p r) (is_deep p) (first_levels p r))

module _ (p r : List ℕ) where
  -- where the first levels are the last
  pub finish_inside : (n : ℕ) → Some (Finish n) ≡ match_step p r → n ≤ 1
  finish_inside n e = inside p r e

  -- where others follow
  pub next_inside : (i j n : ℕ) → Some (Next i j n) ≡ match_step p r → (i < length p) × (j < length r) × (n ≤ 1)
  next_inside i j n e = inside p r e

-- ---- the matching, where the path has no "*"

-- the levels after those that end at i
abbrev rest : List ℕ → ℕ → List ℕ
rest s i = take (length s - (i + 1)) (drop (i + 1) s)

-- they are all that stands after that place
rest_is : (s : List ℕ) (i : ℕ) → rest s i ≡ drop (i + 1) s
rest_is s i = rw (← length-drop (i + 1) s) (take-length (drop (i + 1) s))

-- before the first step all levels are left
pub left_begin : (p r : List ℕ) → without 42 r ≡ true → Later p r 0 p r
left_begin p r h = record { decides = refl; counts = sym (zero-add (levels_named p r)); starless = h }

module _ (p r a b : List ℕ) (c : ℕ) (left : without 42 r ≡ true → Later p r c a b) where
  -- what the answer of a step tells
  told : {x : Option LevelStep} → x ≡ match_step a b → without 42 r ≡ true → Stepped a b x
  told e h = subst (Stepped a b) (sym e) (match_step_tells a b (left h).starless)

  -- the first levels that are left do not match
  pub left_differ : None ≡ match_step a b → without 42 r ≡ true → None ≡ answer_of p r
  left_differ e h = rw ((left h).decides, told e h)

  -- they match and are the last
  pub left_finish : (n : ℕ) → Some (Finish n) ≡ match_step a b → without 42 r ≡ true → Some (c + n) ≡ answer_of p r
  left_finish n e h = let f = told e h in rw ((left h).decides, f.0.match, (left h).counts, f.0.named)

  -- they match, and the levels after them decide
  pub left_next : (i j n : ℕ) → Some (Next i j n) ≡ match_step a b → without 42 r ≡ true → Later p r (c + n) (rest a i) (rest b j)
  left_next i j n e h =
      let k = left h in
      let later = next_decides a b i j n (told e h) k.starless in
      record {
        decides = k.decides ∙ later.decides;
        counts = omega (arith, k.counts, later.counts);
        starless = later.starless;
      }

-- ---- the steps, for any two texts

-- what the steps from the beginning answer is what those from a and b do, with k levels counted before
pub record Walked (p r a b : List ℕ) (k : ℕ) : Type 0 where
  pub steps : ℕ
  pub enough : length a < steps
  pub same : levels_by_steps p r ≡ by_steps steps a b k

-- before the first step it is so
pub walk_begin : (p r : List ℕ) → Walked p r p r 0
walk_begin p r = record { steps = suc (length p); enough = omega arith; same = refl }

module _ (p r a b : List ℕ) (k : ℕ) (w : Walked p r a b k) where
  -- a step is left
  one_left : w.steps ≡ suc (w.steps - 1)
  one_left = omega (arith, w.enough)

  -- the first levels that are left do not match
  pub walk_differ : None ≡ match_step a b → None ≡ levels_by_steps p r
  unfolding by_steps
  walk_differ e = sym (w.same ∙ rw (one_left, by_steps, ← e))

  -- they match and are the last
  pub walk_finish : (n : ℕ) → Some (Finish n) ≡ match_step a b → Some (k + n) ≡ levels_by_steps p r
  unfolding by_steps
  walk_finish n e = sym (w.same ∙ rw (one_left, by_steps, ← e))

  -- they match, and the steps go on after them
  step_next : (m i j n : ℕ) → Some (Next i j n) ≡ match_step a b → by_steps (suc m) a b k ≡ by_steps m (rest a i) (rest b j) (k + n)
  unfolding by_steps
  step_next m i j n e = rw (by_steps, ← e, rest_is a i, rest_is b j) refl

  pub walk_next : (i j n : ℕ) → Some (Next i j n) ≡ match_step a b → Walked p r (rest a i) (rest b j) (k + n)
  walk_next i j n e =
      let shorter : length (rest a i) ≤ length a - (i + 1) = simp length-take (omega arith) in
      record {
        steps = w.steps - 1;
        enough = omega (arith, w.enough, (next_inside a b i j n e).0, shorter);
        same = w.same ∙ ap (λ (m : ℕ). by_steps m a b k) one_left ∙ step_next (w.steps - 1) i j n e;
      }

-- the laws of the loop
pub ruleset levels_laws = (finish_inside, next_inside, left_begin, left_differ, left_finish, left_next, walk_begin, walk_differ, walk_finish, walk_next)
