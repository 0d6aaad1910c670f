-- The host's verdict on a signature, and the key's window. Document 01, "Submission, in this order". A reader of the promises does not
-- need this page: where a promise has a step it says what passes.
use Rattle.std.specs.Prelude.{Bool, true, ◌&&◌, ℕ, leb, eqb}
use Rattle.std.specs.Option.{option_map_or}
use Rattle.steps.specs.declared.Window.{Window}

-- the host's verdict on a signature: it is good
abbrev pub good : ℕ
good = 0

-- it is bad
abbrev pub bad : ℕ
bad = 1

-- there is no such key
abbrev pub no_key : ℕ
no_key = 2

-- a verdict is one of the three
unfoldable pub is_verdict : ℕ → Bool
is_verdict verdict = leb verdict no_key

-- the verdict is this one
unfoldable pub is_that : ℕ → ℕ → Bool
is_that verdict n = eqb verdict n

-- the clock is in the key's window: not before valid_from and, where there is a valid_until, not after it
unfoldable pub key_open : Window → ℕ → Bool
key_open window clock = leb window.from.0 clock && option_map_or (λ until. leb clock until.0) window.until true
