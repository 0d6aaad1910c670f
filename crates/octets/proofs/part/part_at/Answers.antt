-- `part_at` meets its contract.
use Rattle.std.proofs.Common.{refl, arith}
use Rattle.std.proofs.lemmas.Grind.{common_steps}
use native.Mathlib.Nat.{add-sub_cancel_left}
use Rattle.octets.specs.Bytes.{part}
use Rattle.octets.proofs.SpanLaws.{inside_short, inside_fits}
use Rattle.octets.proofs.part.part_at.Goals as goal

pub returns-then-s-start : goal.returns-then-s-start
unfolding part
returns-then-s-start c = rw (inside_short c.args.s.now c.args.start c.args.n (grind (arith, common_steps)))
    (record { inside = omega arith; holds = refl; block = refl; offset = omega arith })

pub returns : goal.returns
unfolding part
returns c = rw (inside_fits _ _ _ c.if-s-start.false c.if-s-start-2.false)
    (record { inside = omega arith; holds = rw add-sub_cancel_left; block = refl; offset = omega arith })
