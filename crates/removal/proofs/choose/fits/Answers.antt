-- `fits` meets its contract.
use mathlib.Core.Path.{refl}
use Rattle.image_spec.specs.Choose.{fits_after}
use Rattle.removal.proofs.choose.fits.Goals as goal

pub returns : goal.returns
unfolding fits_after
returns c = refl
