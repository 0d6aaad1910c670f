-- Which grant is picked, by example: computed. Assumes nothing.
use mathlib.Core.Path.{refl}
use Rattle.octets.specs.Bytes.{same}
use Rattle.resource_spec.specs.Level.{levels}
use Rattle.resource_spec.specs.Text.{levels_of, path_of, pattern_of}
use Rattle.descriptor_spec.specs.Allowed.{is_in}
use Rattle.request_spec.specs.Cases.{PickedCases}

pub picked_cases : PickedCases
unfolding same levels levels_of path_of pattern_of is_in
picked_cases = (refl, refl, refl, refl, refl, refl)
