-- `is_level_char` meets its contract.
use Rattle.resource.proofs.FollowCode.{level_char}
use Rattle.resource.proofs.levels.is_level_char.Goals as goal

pub returns : goal.returns
returns c = rw (c.between.ensures, c.between-2.ensures, c.between-3.ensures) (level_char c.args.b)
