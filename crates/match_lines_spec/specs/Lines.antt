-- What the matching tool answers. A reader of the promises does not need this page: they say for which lines each verdict is written. As
-- document 01 has it ("Matching tool"), a line is `pattern resource` with one space, at most 600 bytes; yes, no or bad is written for
-- each.
use Rattle.std.specs.Prelude.{true, false, cond, List, [], ◌∷◌, ◌++◌, ℕ, suc, length, take, drop, leb, eqb}
use Rattle.octets.specs.Scan.{bytes_before}
use Rattle.std.specs.Prelude.{Option, Some, None, Result, Ok, Err}
use Rattle.resource_spec.specs.declared.Malformed.{Malformed}
use Rattle.resource_spec.specs.Text.{matching}
use Rattle.match_lines_spec.specs.declared.Verdict.{Verdict}
use Rattle.match_lines_spec.specs.declared.Verdict.TheVariants.{IsYes, IsNo, IsBad}

-- the most bytes that a line has
abbrev pub longest_line : ℕ
longest_line = 600

-- "yes", "no" or "bad", and a newline
abbrev pub verdict_line : Verdict → List ℕ
verdict_line IsYes = 121 ∷ 101 ∷ 115 ∷ 10 ∷ []
verdict_line IsNo = 110 ∷ 111 ∷ 10 ∷ []
verdict_line IsBad = 98 ∷ 97 ∷ 100 ∷ 10 ∷ []

-- bad is also for what matching answers with 15
abbrev pub verdict_of : Result (Option ℕ) Malformed → Verdict
verdict_of (Ok (Some names)) = IsYes
verdict_of (Ok None) = IsNo
verdict_of (Err malformed) = IsBad

-- how many bytes stand before the first space, or all where there is none
abbrev pub before_space : List ℕ → ℕ
before_space line = bytes_before 32 line

-- a line with its first space after n bytes; one without a space is bad
unfoldable pub verdict_at : List ℕ → ℕ → Verdict
verdict_at line n = cond (leb (length line) n) IsBad (verdict_of (matching (take n line) (drop (suc n) line)))

-- the verdict on a line, given without its newline
unfoldable pub verdict : List ℕ → Verdict
verdict line = cond (leb (length line) longest_line) (verdict_at line (before_space line)) IsBad

-- a last line without newline is answered; nothing is written where there is none
abbrev pub last_line : List ℕ → List ℕ
last_line [] = []
last_line (b ∷ bs) = verdict_line (verdict (b ∷ bs))

-- what is written for an input whose first line has begun with the bytes `begun`
unfoldable pub answers_from : List ℕ → List ℕ → List ℕ
answers_from begun [] = last_line begun
answers_from begun (b ∷ bs) = elim (eqb b 10) [
  | true ↦ verdict_line (verdict begun) ++ answers_from [] bs
  | false ↦ answers_from (begun ++ (b ∷ [])) bs
]

-- what is written for an input
abbrev pub answers : List ℕ → List ℕ
answers input = answers_from [] input
