-- Laws of comparing two first levels byte by byte, before it is looked whether the one of the pattern is a wildcard (specs/Code.antt).
-- Where the path has no "*", a level that is equal is no wildcard. Assumes nothing.
use mathlib.Core.Path.{◌≡◌, refl, sym, ap, ◌∙◌}
use mathlib.Core.Bool.{Bool, true, false, cond}
use mathlib.Core.List.{List, [], ◌∷◌}
use Prim.Native.Nat.{ℕ}
use native.Mathlib.Omega.{arith}
use Rattle.octets.specs.Bytes.{same}
use Rattle.octets.specs.Scan.{without}
use Rattle.octets.proofs.SameLaws.{same_equal}
use Rattle.octets.proofs.Tests.{no_flag}
use Rattle.resource.specs.declared.LevelStep.{LevelStep}
use Rattle.resource.specs.declared.LevelStep.TheVariants.{Finish, Next}
use Rattle.std.proofs.Common.{Option, Some, None}
use Rattle.std.specs.Option.{option_or}
use Rattle.resource_spec.specs.Level.{is_deep, levels}
use Rattle.resource_spec.proofs.Laws.{first_without}
use Rattle.resource.specs.Code.{step_of, match_step}
use Rattle.resource.specs.Laws.{Firsts, FirstLevels, Stepped, StepDecides}
use Rattle.resource.proofs.FirstLevelLaws.{starless_other, first_levels, step_tells, deep_tells}

-- ---- "**"

-- the first of some levels
abbrev first_of : List (List ℕ) → List ℕ
first_of [] = []
first_of (l ∷ ls) = l

-- the first level of "**" fits no level without "*"
deep_unlike : (p r : List ℕ) (ls ks : List (List ℕ)) → Firsts p r ls ks true → is_deep p ≡ true → without 42 r ≡ true → ⊥
unfolding levels same without
deep_unlike p r ls ks f d h =
    let whole : p ≡ 42 ∷ 42 ∷ [] = same_equal p (42 ∷ 42 ∷ []) d in
    let first : f.first_p ≡ 42 ∷ 42 ∷ [] = sym (ap first_of f.of_p) ∙ ap (λ (s : List ℕ). first_of (levels s)) whole in
    let other = starless_other (42 ∷ 42 ∷ []) f.first_r refl (first_without 42 r f.first_r ks f.of_r h) in
    no_flag (sym other ∙ (rw first at f.fit))

-- so the step from "**" says that they differ
deep_differs : (p r : List ℕ) (o : Option LevelStep) → FirstLevels p r o → is_deep p ≡ true → without 42 r ≡ true → o ≡ None
deep_differs p r None f d h = refl
deep_differs p r (Some (Finish names)) f d h = absurd (deep_unlike p r [] [] f.0 d h)
deep_differs p r (Some (Next i j names)) f d h = absurd (deep_unlike p r _ _ f.2 d h)

-- a step, or that they differ
or_differ : (o : Option LevelStep) → option_or o None ≡ o
or_differ None = refl
or_differ (Some step) = refl

-- `StepDecides`
pub match_step_tells : StepDecides
unfolding match_step
match_step_tells p r h = go (is_deep p) refl
  where
    go : (t : Bool) → is_deep p ≡ t → Stepped p r (option_or (step_of p r) (cond t (Some (Finish 0)) None))
    go true d = rw (deep_differs p r (step_of p r) (first_levels p r) d h) (deep_tells p r d, omega arith)
    go false d = rw (or_differ (step_of p r)) (step_tells p r d h)
