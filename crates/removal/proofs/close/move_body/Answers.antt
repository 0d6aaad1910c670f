-- `move_body` meets its contract.
use native.Mathlib.Omega.{arith}
use Rattle.removal.proofs.CloseCode.{body_done}
use Rattle.removal.proofs.close.move_body.Goals as goal

pub returns : goal.returns
returns c =
    let e = body_done _ _ _ _ _ _ _ _ _ (c.place-row.ensures.in_image (c.requires.0, omega arith)) c.number_at-from.ensures.value c.number_at-len.ensures.value
    c.move_down.ensures c.put_number.ensures in
    record {
      value = (e.0, omega (arith, c.number_at-len.ensures.upper_bound));
      d_after = e.1;
    }
