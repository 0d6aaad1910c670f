-- The input as it comes, in blocks of any length. A reader of the promises does not need this page: they say what is written for the
-- blocks of an input. Between two blocks the bytes of a line that has begun are kept, or, once it has more than 600, only that it is
-- too long.
use Rattle.std.specs.Prelude.{Bool, true, false, cond, ◌||◌, List, [], ◌∷◌, ◌++◌, ℕ, ◌-◌, ◌/◌, length, take, ltb, eqb}
use Rattle.octets.specs.Scan.{bytes_before}
use Rattle.octets.specs.Write.{over}
use Rattle.match_lines_spec.specs.declared.Verdict.{Verdict}
use Rattle.match_lines_spec.specs.declared.Verdict.TheVariants.{IsBad}
use Rattle.match_lines_spec.specs.declared.Progress.{Progress}
use Rattle.std.specs.Prelude.{Option, Some, None}
use Rattle.match_lines_spec.specs.Lines.{longest_line, verdict_line, verdict, last_line}

-- what comes of a block: what is written, the bytes that are kept of a line that has begun, and whether that line is too long
pub record Fed : Type 0 where
  pub out : List ℕ
  pub kept : List ℕ
  pub long : Bool

-- the verdict on a line that may be the rest of one too long
abbrev pub verdict_if : Bool → List ℕ → Verdict
verdict_if true line = IsBad
verdict_if false line = verdict line

-- the end of a block: a line that has begun is kept, or dropped once it is too long
unfoldable pub kept_of : Bool → List ℕ → Fed
kept_of long begun = cond (long || ltb longest_line (length begun)) (record { out = []; kept = []; long = true })
    (record { out = []; kept = begun; long = false })

-- more is written before
abbrev pub after : List ℕ → Fed → Fed
after w f = record { out = w ++ f.out; kept = f.kept; long = f.long }

-- a block whose first line has begun with the bytes `begun`
unfoldable pub fed_from : Bool → List ℕ → List ℕ → Fed
fed_from long begun [] = kept_of long begun
fed_from long begun (b ∷ bs) = elim (eqb b 10) [
  | true ↦ after (verdict_line (verdict_if long begun)) (fed_from false [] bs)
  | false ↦ fed_from long (begun ++ (b ∷ [])) bs
]

-- a block: the bytes that were kept, and those that came
abbrev pub fed : Bool → List ℕ → Fed
fed long s = fed_from long [] s

-- the end of the input
abbrev pub ended : Bool → List ℕ → List ℕ
ended true kept = verdict_line IsBad
ended false kept = last_line kept

-- ---- what the code answers

-- how many bytes stand before the first newline, or all where there is none
abbrev pub line_length : List ℕ → ℕ
line_length s = bytes_before 10 s

-- how many bytes are kept at the end of a block whose last line begins at `from`, and whether that line is too long
unfoldable pub end_of : Bool → List ℕ → ℕ → ℕ → Progress
end_of long s from written =
    cond (long || ltb longest_line (length s - from)) (record { written = written; kept = 0; long = true })
    (record { written = written; kept = length s - from; long = false })

-- what a block comes to: an output of fewer than four bytes for each of the block is refused
unfoldable pub progress_of : Bool → List ℕ → ℕ → Option Progress
progress_of long s room =
    let f = fed long s in
    cond (ltb (room / 4) (length s)) None (Some (record { written = length f.out; kept = length f.kept; long = f.long }))

-- the output after a block: the answers are at its start, and the rest is as it was
unfoldable pub output_of : Bool → List ℕ → List ℕ → List ℕ
output_of long s out = cond (ltb (length out / 4) (length s)) out (over out 0 (fed long s).out)

-- the buffer after a block of its first n bytes
unfoldable pub buffer_of : Bool → List ℕ → ℕ → ℕ → List ℕ
buffer_of long d n room = cond (ltb (room / 4) (length (take n d))) d (over d 0 (fed long (take n d)).kept)

-- what the end of the input comes to
unfoldable pub end_progress : Bool → List ℕ → ℕ → Option Progress
end_progress long s room = cond (ltb room 4) None (Some (record { written = length (ended long s); kept = 0; long = false }))

-- the output after the end of the input
unfoldable pub end_output : Bool → List ℕ → List ℕ → List ℕ
end_output long s out = cond (ltb (length out) 4) out (over out 0 (ended long s))
