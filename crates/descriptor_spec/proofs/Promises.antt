-- The promises of specs/Promises.antt, each from its law or by computation. Assumes nothing.
use mathlib.Core.Path.{refl}
use Rattle.descriptor_spec.specs.Promises.{LimitsFixed, MapsDeterministic, BytewiseOrder, PairsAscend, PairsDistinct, NamesEncoded}
use Rattle.descriptor_spec.specs.Promises.{AlgorithmsFixed, ModesFixed, AllowedExactly, AnsweredExactly, OneReading, HandsBack}
use Rattle.descriptor_spec.specs.Promises.{RefusalZero, PayloadHanded, GrantFound, GrantAbsent, GrantHanded}
use Rattle.descriptor_spec.proofs.encoding.NameLaws as names
use Rattle.descriptor_spec.proofs.encoding.BitLaws as modes
use Rattle.descriptor_spec.proofs.encoding.MapLaws as maps
use Rattle.descriptor_spec.proofs.encoding.OrderLaws as order
use Rattle.descriptor_spec.proofs.whole.LimitLaws as limits
use Rattle.descriptor_spec.proofs.whole.AnswerLaws as answer
use Rattle.descriptor_spec.proofs.handed.NumberLaws as number
use Rattle.descriptor_spec.proofs.handed.BackLaws as back
use Rattle.descriptor_spec.proofs.handed.FoundLaws as grants

-- ---- the deterministic encoding

pub limits_fixed : LimitsFixed
limits_fixed = (refl, refl)

pub maps_deterministic : MapsDeterministic
maps_deterministic = maps.maps_deterministic

pub bytewise_order : BytewiseOrder
bytewise_order = order.bytewise_order

pub pairs_ascend : PairsAscend
pairs_ascend = order.pairs_ascend

pub pairs_distinct : PairsDistinct
pairs_distinct = order.pairs_distinct

-- ---- the fixed byte strings

pub names_encoded : NamesEncoded
names_encoded = names.names_encoded

pub algorithms_fixed : AlgorithmsFixed
algorithms_fixed = names.algorithms_fixed

pub modes_fixed : ModesFixed
modes_fixed = modes.modes_fixed

-- ---- what is allowed

pub allowed_exactly : AllowedExactly
allowed_exactly = limits.allowed_exactly

-- ---- reading

pub answered_exactly : AnsweredExactly
answered_exactly = number.answered_exactly

pub one_reading : OneReading
one_reading = answer.one_reading

-- ---- what is handed back

pub hands_back : HandsBack
hands_back = back.hands_back

pub refusal_zero : RefusalZero
refusal_zero = number.refusal_zero

pub payload_handed : PayloadHanded
payload_handed = back.payload_handed

-- ---- a grant

pub grant_found : GrantFound
grant_found = grants.grant_found

pub grant_absent : GrantAbsent
grant_absent = grants.grant_absent

pub grant_handed : GrantHanded
grant_handed = grants.grant_handed
