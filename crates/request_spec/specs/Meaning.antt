-- The decision on a descriptor, in the code's own answers. A reader of the promises does not need this page. Nothing here knows of bytes.
use Rattle.std.specs.Prelude.{true, List, [], ◌∷◌, ℕ, ◌+◌, None}
use Rattle.resource_spec.specs.Pattern.{Path}
use Rattle.resource_spec.specs.Text.{path_of}
use Rattle.descriptor_spec.specs.Model.{Grant, Descriptor}
use Rattle.descriptor_spec.specs.View.{mask_of}
use Rattle.steps.specs.Order.{in_order}
use Rattle.request_spec.specs.Decision.{Decision}
use Rattle.request_spec.specs.Decision.{Matched}
use Rattle.request_spec.specs.Request.{Request, lease_for}
use Rattle.request_spec.specs.Decision.{Facts, picked_with, steps_by, granted_by}
use Rattle.request_spec.specs.Promises.{grant_serves, grant_names}

-- what is picked of the grants, of which i came before and of those best was picked
abbrev pub pick_serving : List Grant → ℕ → Path → ℕ → Matched → Matched
pick_serving [] m x i best = best
pick_serving (g ∷ gs) m x i best =
    pick_serving gs m x (i + 1) (picked_with (grant_serves g m x) best i (mask_of g.modes) (grant_names g x))

-- what the steps look at
abbrev pub facts_of_descriptor : Descriptor → Facts
facts_of_descriptor d = record {
  not_before = d.payload.not_before;
  not_after = d.payload.not_after;
  fay = d.payload.fay;
  terminal = d.payload.terminal;
}

-- the decision of a request in a sound image that holds the descriptor d under the id
unfoldable pub decided_for : Request → Descriptor → Decision
decided_for q d =
    let x = facts_of_descriptor d in
    let m = pick_serving d.payload.grants q.mode (path_of q.resource) 0 None in
    in_order (steps_by q true true x m) (granted_by q (lease_for q) x m)
