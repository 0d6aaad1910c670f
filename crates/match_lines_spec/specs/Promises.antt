-- What is promised of the matching tool's lines, and nothing else. Each statement `NameOfIt` is proved in proofs/Promises.antt as
-- `name_of_it`.
use Rattle.std.specs.Prelude.{◌≡◌, ◌↔◌, List, [], ◌∷◌, ◌++◌, Bool, true, false, ℕ, ◌-◌, ◌*◌, ◌≤◌, ◌<◌, length, take, drop}
use Rattle.resource_spec.specs.Characters.{codes}
use Rattle.resource_spec.specs.Pattern.{Path, IsPath, path_text, Pattern, IsPattern, pattern_text, admits}
use Rattle.std.specs.Prelude.{Some, None}
use Rattle.match_lines_spec.specs.Lines.{verdict_line, verdict, answers}
use Rattle.match_lines_spec.specs.Block.{fed, ended, progress_of, output_of, buffer_of, end_progress, end_output}

-- ---- a line

-- a line `pattern resource`: the text of a pattern, one space, and the text of a path; neither text has more than 256 bytes
pub record Asks (line : List ℕ) (p : Pattern) (x : Path) : Type 0 where
  pub pattern : IsPattern p
  pub path : IsPath x
  pub pattern_fits : length (pattern_text p) ≤ 256
  pub path_fits : length (path_text x) ≤ 256
  pub spelled : line ≡ pattern_text p ++ (codes " " ++ path_text x)

-- yes is written for a line exactly when it has a pattern and a path that the pattern matches
abbrev pub YesExactly : Type 0
YesExactly = (line : List ℕ)
    → (verdict_line (verdict line) ≡ codes "yes\n") ↔ ((p : Pattern) × (x : Path) × Asks line p x × (admits p x ≡ true))

-- no is written for a line exactly when it has a pattern and a path that the pattern does not match
abbrev pub NoExactly : Type 0
NoExactly = (line : List ℕ)
    → (verdict_line (verdict line) ≡ codes "no\n") ↔ ((p : Pattern) × (x : Path) × Asks line p x × (admits p x ≡ false))

-- bad is written for any other line
abbrev pub BadElse : Type 0
BadElse = (line : List ℕ) → (verdict_line (verdict line) ≡ codes "bad\n") ↔ ((p : Pattern) (x : Path) → Asks line p x → ⊥)

-- bad is written for a line of more than 600 bytes
abbrev pub LongBad : Type 0
LongBad = (line : List ℕ) → 600 < length line → verdict_line (verdict line) ≡ codes "bad\n"

-- ---- an input

-- no byte of a line is a newline
abbrev pub NoNewline : List ℕ → Type 0
NoNewline [] = Unit {0}
NoNewline (b ∷ bs) = (b ≡ 10 → ⊥) × NoNewline bs

-- one answer is written for each line, in the order of the lines
abbrev pub EachLine : Type 0
EachLine = (line rest : List ℕ) → NoNewline line → answers (line ++ (codes "\n" ++ rest)) ≡ verdict_line (verdict line) ++ answers rest

-- a last line without newline is answered
abbrev pub LastLine : Type 0
LastLine = (line : List ℕ) → NoNewline line → 0 < length line → answers line ≡ verdict_line (verdict line)

-- empty input writes nothing
abbrev pub EmptyInput : Type 0
EmptyInput = answers [] ≡ []

-- document 01's whole case
abbrev pub WholeCase : Type 0
WholeCase =
    answers
    (codes "terminal:00000000-0000-7000-8000-000000000001/a/* terminal:00000000-0000-7000-8000-000000000001/a/b\n"
    ++ (codes "terminal:00000000-0000-7000-8000-000000000001/a/** terminal:00000000-0000-7000-8000-000000000001/a\n"
    ++ codes "x y\n"))
    ≡ codes "yes\nno\nbad\n"

-- ---- an input in blocks

-- the bytes of all blocks
abbrev pub concat : List (List ℕ) → List ℕ
concat [] = []
concat (b ∷ bs) = b ++ concat bs

-- what is written for the blocks of an input, one after the other, and at its end
abbrev pub written_from : Bool → List ℕ → List (List ℕ) → List ℕ
written_from long kept [] = ended long kept
written_from long kept (b ∷ bs) = let f = fed long (kept ++ b) in f.out ++ written_from f.long f.kept bs

-- however the input is cut into blocks, what is written is the answers to its lines
abbrev pub BlocksAgree : Type 0
BlocksAgree = (blocks : List (List ℕ)) → written_from false [] blocks ≡ answers (concat blocks)

-- the bytes that are kept of a block are its last, and at most 600
abbrev pub KeptLast : Type 0
KeptLast = (long : Bool) (s : List ℕ) → (drop (length s - length (fed long s).kept) s ≡ (fed long s).kept)
    × (length (fed long s).kept ≤ 600)

-- a block's answers are at most four bytes for each of its bytes
abbrev pub OutFits : Type 0
OutFits = (long : Bool) (s : List ℕ) → length (fed long s).out ≤ 4 * length s

-- ---- an output and a buffer

-- where the output has four bytes for each byte of a block, the block's answers are at its start, and the rest of it is as it was
abbrev pub BlockWritten : Type 0
BlockWritten = (long : Bool) (s out : List ℕ) → 4 * length s ≤ length out
    → (progress_of long s (length out)
    ≡ Some (record { written = length (fed long s).out; kept = length (fed long s).kept; long = (fed long s).long }))
    × (output_of long s out ≡ (fed long s).out ++ drop (length (fed long s).out) out)

-- the bytes that are kept of a block, the first n of a buffer, are then at the buffer's start, and the rest of it is as it was
abbrev pub BlockKept : Type 0
BlockKept = (long : Bool) (d : List ℕ) (n room : ℕ) → 4 * length (take n d) ≤ room
    → buffer_of long d n room ≡ (fed long (take n d)).kept ++ drop (length (fed long (take n d)).kept) d

-- with a shorter output nothing is done
abbrev pub BlockRefused : Type 0
BlockRefused = (long : Bool) (d : List ℕ) (n : ℕ) (out : List ℕ) → length out < 4 * length (take n d)
    → (progress_of long (take n d) (length out) ≡ None) × (output_of long (take n d) out ≡ out) × (buffer_of long d n (length out) ≡ d)

-- at the end of the input, where the output has four bytes, the answer to a last line without newline is at its start, and the rest of
-- it is as it was
abbrev pub EndWritten : Type 0
EndWritten = (long : Bool) (s out : List ℕ) → 4 ≤ length out
    → (end_progress long s (length out) ≡ Some (record { written = length (ended long s); kept = 0; long = false }))
    × (end_output long s out ≡ ended long s ++ drop (length (ended long s)) out)

-- with a shorter output nothing is done
abbrev pub EndRefused : Type 0
EndRefused = (long : Bool) (s out : List ℕ) → length out < 4 → (end_progress long s (length out) ≡ None) × (end_output long s out ≡ out)
