-- The arguments of the byte interface that stand for one thing. Its answers are the lower crates' own numbers.
-- A reader of the promises does not need this page.
use Rattle.std.specs.Prelude.{cond, ℕ, eqb, None, Some}
use Rattle.time.specs.Time.{seconds}
use Rattle.steps.specs.declared.Window.{Window}

-- the key's window: has_valid_until is 0 for absent, anything else for present
abbrev pub window_of : ℕ → ℕ → ℕ → Window
window_of from has until = record { from = seconds from; until = cond (eqb has 0) None (Some (seconds until)) }
