-- The promises of specs/Promises.antt, proved: each line names the law that it is. Assumes nothing.
use mathlib.Core.Path.{refl, ap}
use mathlib.Core.Bool.{true, false}
use mathlib.Core.List.{[]}
use Rattle.resource_spec.specs.Identifier.{is_hex, has_form, uuid_form, terminal_form, is_terminal}
use Rattle.octets.specs.Bytes.{same}
use Rattle.octets.specs.Scan.{bytes_before}
use Rattle.resource_spec.specs.Level.{is_name_char, all_name_chars, levels, levels_ok}
use Rattle.resource_spec.specs.Text.{is_resource, is_pattern, resource_ok, pattern_ok, levels_of, path_of, pattern_of, matching}
use Rattle.match_lines_spec.specs.Lines.{verdict_line, verdict_at, verdict, answers_from}
use Rattle.match_lines_spec.specs.Promises.{YesExactly, NoExactly, BadElse, LongBad, EachLine, LastLine, EmptyInput, WholeCase}
use Rattle.match_lines_spec.specs.Promises.{BlocksAgree, KeptLast, OutFits, BlockWritten, BlockKept, BlockRefused, EndWritten}
use Rattle.match_lines_spec.specs.Promises.{EndRefused}
use Rattle.match_lines_spec.proofs.BlockLaws.{blocks_answers, bad_long, kept_end, out_four}
use Rattle.match_lines_spec.proofs.VerdictLaws as verdicts
use Rattle.match_lines_spec.proofs.InputLaws as inputs

-- ---- a line

pub yes_exactly : YesExactly
yes_exactly = verdicts.word_exactly true

pub no_exactly : NoExactly
no_exactly = verdicts.word_exactly false

pub bad_else : BadElse
bad_else = verdicts.bad_exactly

pub long_bad : LongBad
long_bad line h = ap verdict_line (bad_long line h)

-- ---- an input

pub each_line : EachLine
each_line = inputs.each_answered

pub last_line_lem : LastLine
last_line_lem = inputs.last_answered

pub empty_input : EmptyInput
unfolding answers_from
empty_input = refl

pub whole_case : WholeCase
unfolding is_hex has_form uuid_form terminal_form is_terminal same is_name_char all_name_chars levels levels_ok is_resource is_pattern resource_ok
    pattern_ok levels_of path_of pattern_of matching bytes_before verdict_at verdict answers_from
whole_case = refl

-- ---- an input in blocks

pub blocks_agree : BlocksAgree
blocks_agree = blocks_answers

pub kept_last : KeptLast
kept_last = kept_end

pub out_fits : OutFits
out_fits long s = out_four long [] s

-- ---- an output and a buffer

pub block_written : BlockWritten
block_written = inputs.block_written

pub block_kept : BlockKept
block_kept = inputs.block_kept

pub block_refused : BlockRefused
block_refused = inputs.block_refused

pub end_written : EndWritten
end_written = inputs.end_written

pub end_refused : EndRefused
end_refused = inputs.end_refused
