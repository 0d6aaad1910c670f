-- The promises of specs/Promises.antt. Assumes nothing.
use Rattle.std.proofs.Common.{arith, refl, ap}
use Rattle.std.proofs.lemmas.Int.{ints}
use Rattle.time.specs.Time.{seconds, in_milliseconds, plus_at_most, sum_held, margin_between}
use Rattle.time.specs.Promises.{RoundedDown, ScaledExactly, SmallScaled, ThereAndBack, CutExactly, SumExactly, UntilExactly}

pub rounded_down : RoundedDown
rounded_down t = (omega arith, omega arith)

pub scaled_exactly : ScaledExactly
unfolding in_milliseconds
scaled_exactly t = ((λ h. omega arith), (λ h. omega arith))

pub small_scaled : SmallScaled
unfolding in_milliseconds
small_scaled t h = omega arith

pub there_and_back : ThereAndBack
unfolding in_milliseconds
there_and_back t h = ap seconds (omega arith)

pub cut_exactly : CutExactly
unfolding plus_at_most
cut_exactly t more end = refl

pub sum_exactly : SumExactly
unfolding sum_held
sum_exactly t more = ((λ h. omega arith), (λ h. omega arith))

pub until_exactly : UntilExactly
unfolding margin_between
until_exactly t end = ((λ h k. omega (arith, ints)), (λ h. omega (arith, ints)), (λ h. omega (arith, ints)))
