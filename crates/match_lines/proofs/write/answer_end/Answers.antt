-- `answer_end` meets its contract.
use mathlib.Core.Path.{◌≡◌}
use mathlib.Core.Bool.{false}
use native.Mathlib.Omega.{arith}
use lib.ListN.{length, take}
use Rattle.std.proofs.lemmas.List.{take_min}
use Rattle.std.proofs.lemmas.Grind.{common_steps}
use Rattle.match_lines.proofs.LineCode.{last_none, last_line_done}
use Rattle.match_lines.proofs.write.answer_end.Goals as goal
use Rattle.match_lines.proofs.write.answer_end.Goals.{else-not-long-via-then-not-long+else-is_empty, else-not-long-via-else-not-long}

pub returns-then-is_empty : goal.returns-then-is_empty
returns-then-is_empty c =
    let a = c.args in
    let same : take c.min.result a.buffer.now ≡ take a.n a.buffer.now = rw c.min.ensures (take_min a.n a.buffer.now) in
    let none : length (take c.min.result a.buffer.now) ≡ 0 = grind (arith, common_steps) in
    let both = last_none _ _ _ c.if-out-lt4.false c.if-not-long.true (rw same at none) in
    record { answer = both.0; output = both.1 }

pub returns-else-not-long : goal.returns-else-not-long
returns-else-not-long c =
    let a = c.args in
    let same : take c.min.result a.buffer.now ≡ take a.n a.buffer.now = rw c.min.ensures (take_min a.n a.buffer.now) in
    let some : a.long ≡ false → length (take c.min.result a.buffer.now) ≡ 0 → ⊥ =
    elim c.else-not-long.branch [
      | else-not-long-via-then-not-long+else-is_empty w ↦ λ _ k. grind (arith, common_steps)
      | else-not-long-via-else-not-long w ↦ λ e _. cc
    ] in
    let both = last_line_done _ _ _ c.if-out-lt4.false (rw same at some) _ (rw same at c.verdict_if.ensures) c.put-written.ensures.place c.put-written.ensures.holds in
    record { answer = both.0; output = both.1 }
