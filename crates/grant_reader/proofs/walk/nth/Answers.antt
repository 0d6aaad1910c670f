-- `nth` gives the grant with the index: what is left to pass from the place reached leads to the same grant.
use Rattle.std.proofs.Common.{◌≡◌, ◌+◌, ◌-◌, ◌∙◌, ap, sym, arith}
use Rattle.descriptor_spec.specs.Reader.{grant_at}
use Rattle.grant_reader.proofs.WalkLaws.{nth_from, from_here, from_step, refused_stays}
use Rattle.grant_reader.proofs.walk.nth.Goals as goal

pub loop-init : goal.loop-init
loop-init c =
    let all : c.args.index - 0 ≡ c.args.index = omega arith in
    rw all (nth_from _ _ c.start_of-at.ensures)

pub returns-in_err-next : goal.returns-in_err-next
returns-in_err-next c =
    rw c.from_residual.ensures (sym (c.loop.invariant ∙ refused_stays _ _ (sym c.in_err-next.ensures) _))

pub loop-preserved : goal.loop-preserved
loop-preserved c =
    let less : c.args.index - (c.loop.counter + 1) ≡ c.args.index - c.loop.counter - 1 = omega arith in
    rw less (c.loop.invariant ∙ ap (grant_at _) (from_step _ _ _ _ _ (omega (arith, c.loop-test.true)) c.in_ok-next.ensures))

pub returns : goal.returns
returns c =
    c.read_grant-2.ensures ∙ sym (c.loop.invariant ∙ ap (grant_at _) (from_here _ _ _ (omega (arith, c.loop-test.false))))
