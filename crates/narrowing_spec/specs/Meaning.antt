-- What a descriptor admits, and when a path escapes, in document 01's words ("Narrowing, in this order"). It stands on `resource`'s
-- matching and on the data model; nothing here knows of bytes.
use Rattle.std.specs.Prelude.{◌≡◌, Bool, true, false, ◌&&◌, ◌||◌, List, [], ◌∷◌, ℕ, ◌≤◌, ◌<◌}
use Rattle.resource_spec.specs.Pattern.{Path, admits, taken}
use Rattle.resource_spec.specs.Text.{pattern_of}
use Rattle.descriptor_spec.specs.Model.{Grant, Descriptor}
use Rattle.descriptor_spec.specs.Allowed.{is_in}

-- a grant admits a path in each of its modes when its pattern matches the path
abbrev pub grant_admits : Grant → ℕ → Path → Bool
grant_admits g m x = is_in m g.modes && admits (pattern_of g.pattern) x

-- one of the grants admits that path in that mode
abbrev pub any_admits : List Grant → ℕ → Path → Bool
any_admits [] m x = false
any_admits (g ∷ gs) m x = grant_admits g m x || any_admits gs m x

-- a descriptor admits a moment, a path and a mode together
pub record Admits (d : Descriptor) (moment : ℕ) (x : Path) (m : ℕ) : Type 0 where
  pub begun : d.payload.not_before ≤ moment
  pub lasting : moment < d.payload.not_after
  pub granted : any_admits d.payload.grants m x ≡ true

-- a path escapes by a child grant and a mode when that grant admits it in that mode and no parent grant does
pub record Escapes (parent : List Grant) (g : Grant) (m : ℕ) (x : Path) : Type 0 where
  pub admitted : grant_admits g m x ≡ true
  pub outside : any_admits parent m x ≡ false

-- the number of names that a grant's "**" takes in a path
abbrev pub taken_by : Grant → Path → ℕ
taken_by g x = taken (pattern_of g.pattern).below x.names
