-- `answer_block` meets its contract.
use Rattle.match_lines.proofs.LineCode.{step_kept, step_done, step_refused}
use Rattle.match_lines.proofs.write.answer_block.Goals as goal

pub returns-in_err-progress-clause-kept : goal.returns-in_err-progress-clause-kept
returns-in_err-progress-clause-kept c = step_refused _ _ _ _ _ c.min-size.ensures c.in_err-progress.ensures.answer

pub overflow_sub-size : goal.overflow_sub-size
overflow_sub-size c = (step_kept _ _ _ _ _ c.min-size.ensures c.in_ok-progress.ensures.answer).0

pub returns-clause-kept : goal.returns-clause-kept
returns-clause-kept c = step_done _ _ _ _ _ c.min-size.ensures c.in_ok-progress.ensures.answer c.move_down.ensures
