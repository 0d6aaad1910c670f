-- The promises of specs/Promises.antt, proved: each is a law of the answers, told by their numbers. Assumes nothing.
use Rattle.std.specs.Prelude.{Ok, Err}
use Rattle.descriptor_spec.proofs.Laws.{number_tells}
use Rattle.narrowing_spec.specs.declared.NarrowingError.TheVariants.{NoParent, Structure, Validity, Constrained, Period}
use Rattle.narrowing_spec.specs.declared.NarrowingError.TheVariants.{NotCovered}
use Rattle.narrowing_spec.specs.Narrow.{narrow}
use Rattle.narrowing_spec.specs.Promises.{NoParentExactly, ChildExactly, ConstrainedExactly, PeriodExactly, EscapeExactly}
use Rattle.narrowing_spec.specs.Promises.{AcceptedExactly, one, more, ChainInside}
use Rattle.narrowing_spec.proofs.NumberLaws.{numbers_tell, by_numbers}
use Rattle.narrowing_spec.proofs.OrderLaws.{order_parent, order_child, order_constrained}
use Rattle.narrowing_spec.proofs.NarrowLaws.{narrow_period, narrow_escape, narrow_accepted, accepted_reads}

pub no_parent_exactly : NoParentExactly
no_parent_exactly s t =
    let r = order_parent s t in
    by_numbers (narrow s t) (Err NoParent)
    (λ h z. let v = (number_tells s).done.0 z in r.0 h v.0 v.1, λ f. r.1 (λ v e. f ((number_tells s).done.1 (v, e))))

pub child_exactly : ChildExactly
child_exactly s t z =
    let v = (number_tells s).done.0 z in
    let r = order_child s t v.0 v.1 in (
      by_numbers (narrow s t) (Err Structure) (λ h. (number_tells t).structure.1 (r.0.0 h), λ e. r.0.1 ((number_tells t).structure.0 e)),
      by_numbers (narrow s t) (Err Validity) (λ h. (number_tells t).validity.1 (r.1.0 h), λ e. r.1.1 ((number_tells t).validity.0 e)),
    )

pub constrained_exactly : ConstrainedExactly
constrained_exactly s t p c bs bt op oc es et = by_numbers (narrow s t) (Err Constrained) (order_constrained s t p c bs bt op oc es et)

pub period_exactly : PeriodExactly
period_exactly s t p c a b = by_numbers (narrow s t) (Err Period) (narrow_period s t p c a b)

pub escape_exactly : EscapeExactly
escape_exactly s t p c i m k a b = by_numbers (narrow s t) (Err (NotCovered i m k)) (narrow_escape s t p c i m k a b)

pub accepted_exactly : AcceptedExactly
accepted_exactly s t p c a b = by_numbers (narrow s t) (Ok tt) (narrow_accepted s t p c a b)

pub chain_inside : ChainInside
chain_inside s t p c a b (one e) = (accepted_exactly s t p c a b).0 e
chain_inside s t p c a b (more {t = u} v e k) =
    let d = accepted_reads s u p a v ((numbers_tell (narrow s u) (Ok tt)).0 e) in
    λ moment x m j h. (accepted_exactly s u p d.0 a d.1).0 e moment x m j (chain_inside u t d.0 c d.1 b k moment x m j h)
