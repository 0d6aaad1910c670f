-- A reader of the promises does not need this page.
-- What the code answers of a choice (specs/Choose.antt of `image_spec`).
use Rattle.std.specs.Prelude.{Bool, cond, ℕ, Option, Some, None}
use Rattle.image_spec.specs.Choose.{Chosen}
use Rattle.removal.specs.declared.choose.Choice.{Choice}

-- so many rows and bytes go, where there is room then
abbrev pub choice_by : Bool → ℕ → ℕ → Option Choice
choice_by ok removed freed = cond ok (Some (record { removed = removed; freed = freed })) None

-- what is answered of a choice
abbrev pub choice_in : Chosen → Option Choice
choice_in c = choice_by c.ok c.removed c.freed
