-- `row_fits` meets its contract.
use mathlib.Core.Bool.{not}
use mathlib.Core.Path.{ap}
use native.Mathlib.Omega.{arith}
use Rattle.image.proofs.CheckCode.{fits_is}
use Rattle.image.proofs.rows.row_fits.Goals as goal

pub returns : goal.returns
returns c =
    fits_is _ _ _ _ _ _ _ _ _ c.requires.0 (omega arith) c.same_bytes.ensures
    (ap not c.if-not-same_bytes.false) c.number_at.ensures.value c.number_at-2.ensures.value c.is_zero.ensures
