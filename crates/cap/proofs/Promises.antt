-- The promises of specs/Promises.antt. Assumes nothing.
use Rattle.std.proofs.Common.{arith}
use Rattle.std.proofs.lemmas.Bool.Decides.{nat_tests}
use Rattle.steps.specs.Key.{key_open}
use Rattle.cap.specs.Promises.{WindowExactly}

pub window_exactly : WindowExactly
unfolding key_open
window_exactly from has until clock = (λ e. grind (arith, nat_tests), λ h. grind (arith, nat_tests))
