-- The statements of specs/Laws.antt, each from its law. Assumes nothing.
use Rattle.descriptor_spec.specs.Laws.{ReadsExactly, ValidityExactly, StructureExactly, NumberTells, SeenHanded, GrantsAllowed}
use Rattle.descriptor_spec.specs.Laws.{FormedExactly, UnformedExactly, ReadByPeriod, FormedBounds}
use Rattle.descriptor_spec.specs.Laws.{MaskExactly, GrantsWalk, GrantsEnd, GrantsInTurn}
use Rattle.descriptor_spec.specs.Laws.{ModeBounds, ModesBounds, GrantBounds, MoreBounds, GrantsBounds, IdsBounds}
use Rattle.descriptor_spec.specs.Laws.{PatternRoom, PayloadBounds, DescriptorBounds}
use Rattle.descriptor_spec.proofs.grants.MaskLaws as mask
use Rattle.descriptor_spec.proofs.whole.AnswerLaws as answer
use Rattle.descriptor_spec.proofs.places.SeenLaws as seen
use Rattle.descriptor_spec.proofs.places.TurnLaws as turn
use Rattle.descriptor_spec.proofs.places.EndLaws as end
use Rattle.descriptor_spec.proofs.bounds.GrantBounds as grant
use Rattle.descriptor_spec.proofs.bounds.PayloadBounds as payload
use Rattle.descriptor_spec.proofs.handed.NumberLaws as number
use Rattle.descriptor_spec.proofs.handed.BackLaws as back

-- ---- reading

pub reads_exactly : ReadsExactly
reads_exactly = answer.reads_exactly

pub validity_exactly : ValidityExactly
validity_exactly = answer.validity_exactly

pub structure_exactly : StructureExactly
structure_exactly = answer.structure_exactly

pub formed_exactly : FormedExactly
formed_exactly = answer.formed_exactly

pub unformed_exactly : UnformedExactly
unformed_exactly = answer.unformed_exactly

pub read_by_period : ReadByPeriod
read_by_period = answer.read_by_period

pub number_tells : NumberTells
number_tells = number.number_tells

pub seen_handed : SeenHanded
seen_handed = back.seen_handed

-- ---- grants

pub grants_allowed : GrantsAllowed
grants_allowed = turn.grants_allowed

pub mask_exactly : MaskExactly
mask_exactly = mask.mask_exactly

pub grants_walk : GrantsWalk
grants_walk = seen.grants_walk

pub grants_end : GrantsEnd
grants_end = end.grants_end

pub grants_in_turn : GrantsInTurn
grants_in_turn = turn.grants_in_turn

-- ---- where what is read lies

pub mode_bounds : ModeBounds
mode_bounds = grant.mode_bounds

pub modes_bounds : ModesBounds
modes_bounds = grant.modes_bounds

pub grant_bounds : GrantBounds
grant_bounds = grant.grant_bounds

pub pattern_room : PatternRoom
pattern_room = grant.pattern_room

pub more_bounds : MoreBounds
more_bounds = grant.more_bounds

pub grants_bounds : GrantsBounds
grants_bounds = grant.grants_bounds

pub ids_bounds : IdsBounds
ids_bounds = payload.ids_bounds

pub payload_bounds : PayloadBounds
payload_bounds = payload.payload_bounds

pub formed_bounds : FormedBounds
formed_bounds = payload.formed_bounds

pub descriptor_bounds : DescriptorBounds
descriptor_bounds = payload.descriptor_bounds
