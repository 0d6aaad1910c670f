-- Walking the grants of a descriptor. These definitions compute. A reader of the promises does not need this page.
use Rattle.std.specs.Prelude.{ℕ, zero, suc, List, length}
use Rattle.exact.specs.Reads.{Got, got, refused}
use Rattle.descriptor_spec.specs.Reader.{GrantSeen, grant_at, Answer, read, structure, validity, read_of}

-- the place of the first grant of what was read from s; the end of s where nothing was
abbrev pub start_in : List ℕ → Answer → ℕ
start_in s (read v) = v.payload.grants.start
start_in s structure = length s
start_in s validity = length s

-- where a walk over the grants of s begins
unfoldable pub start_of : List ℕ → ℕ
start_of s = start_in s (read_of s)

-- the place after a grant that was read; the place itself where none was
abbrev pub next_in : ℕ → Got GrantSeen → ℕ
next_in at (got g next) = next
next_in at refused = at

-- the place after the grant at a place
unfoldable pub place_after : List ℕ → ℕ → ℕ
place_after s at = next_in at (grant_at s at)

-- the place after n grants from a place on
unfoldable pub place_from : List ℕ → ℕ → ℕ → ℕ
place_from s at zero = at
place_from s at (suc n) = place_from s (place_after s at) n

-- the grant after n others
unfoldable pub nth_of : List ℕ → ℕ → Got GrantSeen
nth_of s n = grant_at s (place_from s (start_of s) n)
