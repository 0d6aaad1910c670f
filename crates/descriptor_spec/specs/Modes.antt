-- The modes of grants and their mask. Document 01: read 0, write 1, execute 2, configure 3; a mask gives them 1, 2, 4, 8.
use Rattle.std.specs.Prelude.{Bool, true, false, ◌||◌, List, [], ◌∷◌, ℕ, ◌+◌}
use Rattle.descriptor_spec.specs.Model.{Grant}
use Rattle.descriptor_spec.specs.Allowed.{is_in}

-- how many modes there are
abbrev pub mode_count : ℕ
mode_count = 4

-- the highest of their numbers
abbrev pub highest_mode : ℕ
highest_mode = 3

-- some grant has the mode
abbrev pub any_has : ℕ → List Grant → Bool
any_has m [] = false
any_has m (g ∷ gs) = is_in m g.modes || any_has m gs

-- n where a test holds, else 0
abbrev pub bit : Bool → ℕ → ℕ
bit true n = n
bit false n = 0

-- the union of the grants' modes, as a mask
abbrev pub union_of : List Grant → ℕ
union_of gs = bit (any_has 0 gs) 1 + (bit (any_has 1 gs) 2 + (bit (any_has 2 gs) 4 + bit (any_has 3 gs) 8))
