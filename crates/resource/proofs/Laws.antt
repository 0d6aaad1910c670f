-- The statements of specs/Laws.antt, each from its law. Assumes nothing.
use Rattle.resource.specs.Laws.{PatternUnder, FirstStar, StepLevels, StepDecides, NextSame}
use Rattle.resource.proofs.TextCode.{under_pattern}
use Rattle.resource.proofs.FirstLevelLaws.{star_level, first_levels, next_decides}
use Rattle.resource.proofs.NameFirstCode.{match_step_tells}

pub pattern_under_lem : PatternUnder
pattern_under_lem = under_pattern

pub first_star : FirstStar
first_star = star_level

pub step_levels : StepLevels
step_levels = first_levels

pub step_decides : StepDecides
step_decides = match_step_tells

pub next_same : NextSame
next_same = next_decides
