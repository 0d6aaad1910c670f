-- `new_image` meets its contract.
use native.Mathlib.Omega.{arith}
use Rattle.image_write.proofs.NewCode.{new_short, new_done}
use Rattle.image_write.proofs.grow.new_image.Goals as goal

pub returns-then-d-lt-HEADER_SIZE : goal.returns-then-d-lt-HEADER_SIZE
returns-then-d-lt-HEADER_SIZE c = new_short _ _ (omega arith)

pub returns : goal.returns
returns c = new_done _ _ _ (omega arith) c.put_header.ensures
