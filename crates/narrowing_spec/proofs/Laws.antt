-- The laws of specs/Laws.antt, proved. Assumes nothing.
use Rattle.std.specs.Prelude.{Err}
use Rattle.narrowing_spec.specs.declared.NarrowingError.TheVariants.{NotCovered}
use Rattle.narrowing_spec.specs.Narrow.{narrow}
use Rattle.narrowing_spec.specs.Laws.{RulesInTurn, LeastBelow, LeastFails, LeastSame, NamesSettle, WitnessAttained}
use Rattle.narrowing_spec.proofs.LeastLaws as least
use Rattle.narrowing_spec.proofs.SearchLaws.{with_last_lem}
use Rattle.narrowing_spec.proofs.ReadLaws.{turn_rules}
use Rattle.narrowing_spec.proofs.NumberLaws.{numbers_tell}
use Rattle.narrowing_spec.proofs.NarrowLaws.{narrow_attained}

pub rules_in_turn : RulesInTurn
rules_in_turn s t n at gs i = turn_rules i

pub least_below : LeastBelow
least_below f a n k e = (least.least_some f a n k e).below

pub least_fails : LeastFails
least_fails f a n h = least.least_fails f a n h

pub least_same : LeastSame
least_same f g a n h = least.least_same f g a n h

pub names_settle : NamesSettle
names_settle qs g m k h = with_last_lem qs g m k h

pub witness_attained : WitnessAttained
witness_attained s t p c i m k a b h = narrow_attained s t p c i m k a b ((numbers_tell (narrow s t) (Err (NotCovered i m k))).0 h)
