-- What holds of an answer. A reader of the promises does not need this page.
use Rattle.std.specs.Prelude.{ℕ}
use Rattle.exact.specs.Reads.{Got, got, refused}

-- P holds of the result and of the place after it, where there is an answer
abbrev pub Holds : {R : Type 0} → (R → ℕ → Type 0) → Got R → Type 0
Holds P (got r n) = P r n
Holds P refused = Unit {0}
