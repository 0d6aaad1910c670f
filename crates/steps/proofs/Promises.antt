-- The promises of specs/Promises.antt, each by its law. Assumes nothing.
use Rattle.steps.specs.Promises.{PassExactly, FailExactly}
use Rattle.steps.proofs.OrderLaws as laws

pub pass_exactly : PassExactly
pass_exactly = laws.pass_exactly

pub fail_exactly : FailExactly
fail_exactly = laws.fail_exactly
