-- `before` meets its contract.
use Rattle.std.proofs.Common.{arith, refl}
use Rattle.std.specs.Ordering.{nat_cmp, is_lt}
use Rattle.std.proofs.lemmas.Bool.Decides.{nat_tests}
use Rattle.std.proofs.lemmas.Cmp.{same_from_slice_cmp_tested}
use Rattle.octets.specs.Order.{before}
use Rattle.octets.proofs.order.before.Goals as goal

pub returns : goal.returns
unfolding before
returns c =
    same_from_slice_cmp_tested nat_cmp is_lt before refl (λ _ _. refl) (λ _ _. refl) (λ x y xs ys o h. grind (arith, nat_tests))
    c.args.x.now c.args.y.now c.lt.result c.lt.ensures
