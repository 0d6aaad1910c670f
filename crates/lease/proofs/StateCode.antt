-- The margin of a lease, in the code's own form. Assumes nothing.
use Rattle.std.proofs.Common.{◌≡◌, true, ℤ, ap, arith}
use borrow.Author.Tests.{leb-true}
use Rattle.time.specs.declared.Margin.{Margin}
use Rattle.time.specs.declared.Milliseconds.{Milliseconds}
use Rattle.time.specs.Time.{milliseconds, margin_between}
use Rattle.time.proofs.Promises.{until_exactly}
use Rattle.lease_spec.specs.declared.Lease.{Lease}
use Rattle.lease_spec.specs.Lease.{latest, lease_ok, clock_ok, last_active, margin_of}
use Rattle.lease_spec.proofs.Laws.{tests_within}

-- how long it is from the clock to the last active millisecond is the margin, since within the limits 63 bits hold both
pub margin_is : (l : Lease) (n : Milliseconds) → lease_ok l ≡ true → clock_ok n.0 ≡ true
    → margin_between n (milliseconds (last_active l)) ≡ margin_of l n.0
unfolding margin_of last_active clock_ok
margin_is l n ok at =
    let end = milliseconds (last_active l) in
    let as_margin : ℤ → Margin = λ z. record { 0 = z } in
    ap as_margin ((until_exactly n end).0 (omega (arith, tests_within l ok)) (omega (arith, leb-true n.0 latest at)))
