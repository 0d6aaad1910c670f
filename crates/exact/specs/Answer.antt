-- What the code of a reader answers: its value and the place after it, or nothing. A reader of the promises does not need this page.
use Rattle.std.specs.Prelude.{Option, Some, None, ℕ}
use Rattle.exact.specs.Reads.{Got, got, refused}

-- what such an answer says, where `view` is what is seen of its value
abbrev pub got_by : {A R : Type 0} → (A → R) → Option (A × ℕ) → Got R
got_by view (Some x) = got (view x.0) x.1
got_by view None = refused
