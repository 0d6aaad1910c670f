-- `lowest` meets its contract.
use Rattle.std.proofs.Common.{sym, ◌∙◌}
use Rattle.narrowing.proofs.SearchCode.{lowest_skip, lowest_hit, lowest_miss, lowest_end}
use Rattle.narrowing.proofs.search.lowest.Goals as goal
use Rattle.narrowing.proofs.search.lowest.Goals.{then-has_mode+in_default, else-has_mode}

pub returns-in-Some : goal.returns-in-Some
returns-in-Some c =
    sym (c.loop-mode.invariant ∙ lowest_hit _ _ _ _ _ c.loop-mode-test.true (sym c.if-has_mode.ensures) c.in-Some.ensures)

pub loop-mode-preserved : goal.loop-mode-preserved
loop-mode-preserved c =
    c.loop-mode.invariant
    ∙ elim c.if-has_mode.branch [
      | then-has_mode+in_default w ↦ lowest_miss _ _ _ _ _ c.loop-mode-test.true (sym w.if-has_mode.ensures) w.in_default.ensures
      | else-has_mode w ↦ lowest_skip _ _ _ _ _ c.loop-mode-test.true (sym w.if-has_mode.ensures)
    ]

pub returns : goal.returns
returns c = sym (c.loop-mode.invariant ∙ lowest_end _ _ _ _ _ c.loop-mode-test.false)
