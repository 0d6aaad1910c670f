-- What the crates above stand on beyond the promises. A reader of the promises does not need this page.
use Rattle.std.specs.Prelude.{◌≡◌, true, ◌≤◌}
use Rattle.resource_spec.specs.Text.{resource_ok}
use Rattle.descriptor_spec.specs.Modes.{highest_mode}
use Rattle.request_spec.specs.Request.{Request, well_formed}

-- the mode of well-formed arguments is one of the modes, and their resource is a resource id
abbrev pub FormedArguments : Type 0
FormedArguments = (q : Request) → well_formed q ≡ true → (q.mode ≤ highest_mode) × (resource_ok q.resource ≡ true)
