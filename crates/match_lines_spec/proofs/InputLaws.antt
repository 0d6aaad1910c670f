-- Laws of an input's lines, and of what stands in the output and the buffer after a block. Assumes nothing.
use mathlib.Core.Path.{◌≡◌, refl, ◌∙◌}
use mathlib.Core.List.{List, [], ◌∷◌, ◌++◌, append-nil}
use Prim.Native.Nat.{ℕ, ◌/◌}
use native.Mathlib.Nat.{zero-add}
use native.Mathlib.Omega.{arith}
use lib.ListN.{length, take, drop}
use lib.Seq.{append_snoc}
use borrow.Author.Tests.{ne_eqb, lt-ltb, le-ltb}
use Rattle.octets.specs.Write.{over}
use Rattle.match_lines_spec.specs.Lines.{verdict_line, verdict, last_line, answers_from}
use Rattle.match_lines_spec.specs.Block.{progress_of, output_of, buffer_of, end_progress, end_output}
use Rattle.match_lines_spec.specs.Promises.{NoNewline, EachLine, LastLine, BlockWritten, BlockKept}
use Rattle.match_lines_spec.specs.Promises.{BlockRefused, EndWritten, EndRefused}
use Rattle.match_lines_spec.proofs.BlockLaws.{answers_newline, answers_byte, begun_end}

-- ---- the lines of an input

-- a line that has begun, its other bytes, a newline, and more
begun_line : (begun line rest : List ℕ) → NoNewline line → answers_from begun (line ++ (10 ∷ rest))
    ≡ verdict_line (verdict (begun ++ line)) ++ answers_from [] rest
begun_line begun [] rest h = answers_newline begun 10 rest refl ∙ rw append-nil
begun_line begun (b ∷ bs) rest h =
    answers_byte begun b (bs ++ (10 ∷ rest)) (ne_eqb b 10 h.0) ∙ begun_line (begun ++ (b ∷ [])) bs rest h.1
    ∙ rw (append_snoc begun b bs)

-- a line that has begun, and its other bytes at the end of the input
begun_last : (begun line : List ℕ) → NoNewline line → answers_from begun line ≡ last_line (begun ++ line)
unfolding answers_from
begun_last begun [] h = rw append-nil
begun_last begun (b ∷ bs) h = answers_byte begun b bs (ne_eqb b 10 h.0) ∙ begun_last (begun ++ (b ∷ [])) bs h.1
    ∙ rw (append_snoc begun b bs)

-- one answer for each line
pub each_answered : EachLine
each_answered line rest h = begun_line [] line rest h

-- the last line is answered
pub last_answered : LastLine
last_answered line h n = begun_last [] line h ∙ begun_end line n

-- ---- the output and the buffer after a block

-- bytes written from the start on
over_start : (d s : List ℕ) → over d 0 s ≡ s ++ drop (length s) d
unfolding over
over_start d s = rw zero-add

pub block_written : BlockWritten
unfolding progress_of output_of
block_written long s out h = rw (le-ltb (length out / 4) (length s) (omega arith)) (refl, over_start out _)

pub block_kept : BlockKept
unfolding buffer_of
block_kept long d n room h = rw (le-ltb (room / 4) (length (take n d)) (omega arith)) (over_start d _)

pub block_refused : BlockRefused
unfolding progress_of output_of buffer_of
block_refused long d n out h = rw (lt-ltb (length out / 4) (length (take n d)) (omega arith)) (refl, refl, refl)

pub end_written : EndWritten
unfolding end_progress end_output
end_written long s out h = rw (le-ltb (length out) 4 h) (refl, over_start out _)

pub end_refused : EndRefused
unfolding end_progress end_output
end_refused long s out h = rw (lt-ltb (length out) 4 h) (refl, refl)
