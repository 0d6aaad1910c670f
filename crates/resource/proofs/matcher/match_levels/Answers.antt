-- `match_levels` meets its contract.
use mathlib.Core.Path.{sym, ap, ◌∙◌}
use native.Mathlib.Omega.{arith}
use Rattle.std.proofs.Common.{Some}
use Rattle.resource.proofs.LevelsCode.{next_inside, left_differ, left_finish, left_next, walk_differ, walk_finish, walk_next}
use Rattle.resource.proofs.matcher.match_levels.Goals as goal

pub returns-in_err-names : goal.returns-in_err-names
returns-in_err-names c =
    let i = c.loop-names.invariant in
    record {
      steps = rw c.from_residual.ensures (walk_differ _ _ _ _ _ i.walked c.in_err-names.ensures);
      named = rw c.from_residual.ensures (left_differ _ _ _ _ _ i.left c.in_err-names.ensures);
    }

pub returns-in-Finish : goal.returns-in-Finish
returns-in-Finish c =
    let i = c.loop-names.invariant in
    let e = ap Some (sym c.in-Finish.is) ∙ c.in_ok-names.ensures in
    record { steps = walk_finish _ _ _ _ _ i.walked _ e; named = left_finish _ _ _ _ _ i.left _ e }

pub loop-names-preserved : goal.loop-names-preserved
loop-names-preserved c =
    let e = ap Some (sym c.in-Next.is) ∙ c.in_ok-names.ensures in
    let i = next_inside _ _ _ _ _ e in
    record {
      walked = walk_next _ _ _ _ _ c.loop-names.invariant.walked _ _ _ e;
      left = left_next _ _ _ _ _ c.loop-names.invariant.left _ _ _ e;
      room_p = omega (arith, i.0, i.2);
      room_r = omega arith;
    }
