-- The statements of specs/Laws.antt, each from its law. Assumes nothing.
use Rattle.resource_spec.specs.Laws.{EachParted, LevelsOne, LevelsMore, LevelsSome, FirstWithout, SpelledFirst}
use Rattle.resource_spec.specs.Laws.{TerminalLength, FayLength, PatternShort, ResourceShort, PatternTerminal, PatternLevels}
use Rattle.resource_spec.specs.Laws.{AdmitsText, NamesText, ResourceStarless, WellBegins, BeginsWell, PatternSpaceless}
use Rattle.resource_spec.specs.Laws.{CoversExact, TakenCan}
use Rattle.resource_spec.specs.Laws.{CoversStay, WitnessMatched, WitnessDecides, WitnessNames, ZsFresh}
use Rattle.resource_spec.proofs.LevelLaws as level
use Rattle.resource_spec.proofs.TextLaws as texts
use Rattle.resource_spec.proofs.TextLaws.{terminal_long, fay_long, pattern_sized, resource_sized, pattern_id, pattern_parts}
use Rattle.resource_spec.proofs.TextLaws.{admits_parts, names_parts}
use Rattle.resource_spec.proofs.WithoutLaws.{pattern_without}
use Rattle.resource_spec.proofs.SpellLaws.{first_spelled}
use Rattle.resource_spec.proofs.NameLaws.{resource_without}
use Rattle.resource_spec.proofs.CoverLaws.{covers_exactly, taken_can_be, covers_stays, witness_is_matched, witness_covers}
use Rattle.resource_spec.proofs.CoverLaws.{witness_has_names, zs_are_fresh}

-- ---- levels

pub each_parted : EachParted
each_parted = level.parted

pub levels_one : LevelsOne
levels_one = level.levels_one

pub levels_more : LevelsMore
levels_more = level.levels_more

pub levels_some : LevelsSome
levels_some = level.levels_some

pub first_without : FirstWithout
first_without = level.first_without

pub spelled_first : SpelledFirst
spelled_first = first_spelled

-- ---- texts

pub terminal_length : TerminalLength
terminal_length = terminal_long

pub fay_length : FayLength
fay_length = fay_long

pub pattern_short : PatternShort
pattern_short = pattern_sized

pub resource_short : ResourceShort
resource_short = resource_sized

pub pattern_terminal : PatternTerminal
pattern_terminal = pattern_id

pub pattern_levels : PatternLevels
pattern_levels = pattern_parts

pub admits_text : AdmitsText
admits_text = admits_parts

pub names_text : NamesText
names_text = names_parts

pub resource_starless : ResourceStarless
resource_starless = resource_without

pub pattern_spaceless : PatternSpaceless
pattern_spaceless = pattern_without

pub well_begins : WellBegins
well_begins = texts.well_begins

pub begins_well : BeginsWell
begins_well = texts.begins_well

-- ---- covering

pub covers_exact : CoversExact
covers_exact = covers_exactly

pub taken_can : TakenCan
taken_can = taken_can_be

pub covers_stay : CoversStay
covers_stay = covers_stays

pub witness_matched : WitnessMatched
witness_matched = witness_is_matched

pub witness_decides : WitnessDecides
witness_decides = witness_covers

pub witness_names : WitnessNames
witness_names = witness_has_names

pub zs_fresh : ZsFresh
zs_fresh = zs_are_fresh
