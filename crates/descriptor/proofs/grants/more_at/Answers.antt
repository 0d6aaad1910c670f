-- `more_at` meets its contract.
use native.Mathlib.Omega.{arith}
use Rattle.descriptor.specs.Code.{sum_of}
use Rattle.descriptor.proofs.RoomCode.{more_room}
use Rattle.descriptor.proofs.UnderCode.{more_took, more_stopped}
use Rattle.descriptor.proofs.grants.more_at.Goals as goal

pub grant_of-requires : goal.grant_of-requires
grant_of-requires c = c.requires.terminal_size_in_bounds.0

pub returns-in_err-fields : goal.returns-in_err-fields
returns-in_err-fields c =
    rw c.from_residual.ensures (more_stopped _ _ _ _ c.requires.terminal_size_in_bounds.1 c.in_err-fields.ensures)

pub overflow_add-more : goal.overflow_add-more
overflow_add-more c =
    omega (
      arith,
      (more_room _ _ _ _ (more_took _ _ (sum_of c.args.sum) _ c.requires.terminal_size_in_bounds.1 c.in_ok-fields.ensures)).few,
      c.requires.pairs_bound,
    )

pub returns : goal.returns
returns c = more_took _ _ _ _ c.requires.terminal_size_in_bounds.1 c.in_ok-fields.ensures
