-- The image after a request, as the code leaves it. A reader of the promises does not need this page.
use Rattle.std.specs.Prelude.{Bool, true, false, cond, List, ℕ, Ok, Err, Some, None}
use Rattle.image_spec.specs.Check.{Held, ImageCheck}
use Rattle.image_spec.specs.Touch.{after_touch}
use Rattle.image_spec.specs.Readable.{check_of}
use Rattle.request_spec.specs.Decision.{Decision}
use Rattle.request_spec.specs.Request.{Request, seconds_of}
use Rattle.request_spec.specs.Decision.{decision_of}

-- the request is granted
abbrev pub is_granted : Decision → Bool
is_granted (Ok g) = true
is_granted (Err refusal) = false

-- the row of the body that is held was used at the moment
abbrev pub used_in : List ℕ → ℕ → Held → List ℕ
used_in s t (Some b) = after_touch s b.row t
used_in s t None = s

-- the same by the check of the image
abbrev pub used_by : List ℕ → ℕ → ImageCheck → List ℕ
used_by s t (Some v) = used_in s t v.held
used_by s t None = s

-- a request that is granted uses the row now; another leaves every byte as it was
unfoldable pub after_request : List ℕ → Request → List ℕ
after_request s q = cond (is_granted (decision_of s q)) (used_by s (seconds_of q) (check_of s q.id)) s
