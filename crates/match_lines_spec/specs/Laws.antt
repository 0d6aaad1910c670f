-- What the functions' proofs stand on beyond the promises. A reader of the promises does not need this page. Each statement `NameOfIt` is
-- proved in proofs/Laws.antt as `name_of_it`.
use Rattle.std.specs.Prelude.{◌≡◌, Bool, List, [], ◌++◌, ℕ, ◌≤◌, ◌<◌, length}
use Rattle.match_lines_spec.specs.declared.Verdict.{Verdict}
use Rattle.match_lines_spec.specs.Lines.{longest_line, verdict_line, verdict, last_line}
use Rattle.match_lines_spec.specs.Block.{kept_of, fed_from}

-- k ends t, and has at most 600 bytes
abbrev pub Ends : List ℕ → List ℕ → Type 0
Ends k t = (p : List ℕ) × (p ++ k ≡ t) × (length k ≤ longest_line)

-- so is what is kept of a block, of the line that has begun and the block after it
abbrev pub FedEnds : Type 0
FedEnds = (long : Bool) (begun s : List ℕ) → Ends (fed_from long begun s).kept (begun ++ s)

-- nothing is written at the end of a block
abbrev pub KeptOut : Type 0
KeptOut = (long : Bool) (begun : List ℕ) → (kept_of long begun).out ≡ []

-- a verdict's line has four bytes at most
abbrev pub WordLe : Type 0
WordLe = (v : Verdict) → length (verdict_line v) ≤ 4

-- a last line without newline is answered
abbrev pub BegunEnd : Type 0
BegunEnd = (s : List ℕ) → 0 < length s → last_line s ≡ verdict_line (verdict s)
