-- What well-formed arguments of a request say (specs/Request.antt). Assumes nothing.
use mathlib.Core.Path.{◌≡◌}
use mathlib.Core.Bool.{true}
use Prim.Native.Nat.{◌≤◌}
use lib.ListN.{length}
use lib.Dec.{leb, eqb}
use borrow.Author.Tests.{leb-true}
use Rattle.octets.proofs.Tests.{and_left, and_right}
use Rattle.resource_spec.specs.Identifier.{is_fay, is_terminal}
use Rattle.resource_spec.specs.Text.{resource_ok}
use Rattle.steps.specs.Key.{is_verdict}
use Rattle.descriptor_spec.specs.Allowed.{id_size}
use Rattle.descriptor_spec.specs.Modes.{highest_mode}
use Rattle.request_spec.specs.Request.{Request, arguments_ok, well_formed}

module _ (q : Request) (w : well_formed q ≡ true) where
  -- the arguments but for the clock and the lease table are well formed
  pub formed_arguments : arguments_ok q ≡ true
  unfolding well_formed
  formed_arguments = and_left (arguments_ok q) _ w

  -- the mode of well-formed arguments is one of the four
  pub formed_mode : q.mode ≤ highest_mode
  unfolding arguments_ok
  formed_mode =
      leb-true q.mode highest_mode (and_left (leb q.mode highest_mode) _ (and_right (is_verdict q.verdict) _ formed_arguments))

  -- their resource is a resource id
  pub formed_resource : resource_ok q.resource ≡ true
  unfolding arguments_ok
  formed_resource =
      and_left (resource_ok q.resource) _
      (and_right (is_terminal q.terminal) _
      (and_right (is_fay q.fay) _
      (and_right (eqb (length q.id) id_size) _
      (and_right (leb q.mode highest_mode) _ (and_right (is_verdict q.verdict) _ formed_arguments)))))
