-- The statements of specs/Laws.antt, each from its law. Assumes nothing.
use Rattle.match_lines_spec.specs.Laws.{FedEnds, KeptOut, WordLe, BegunEnd}
use Rattle.match_lines_spec.proofs.BlockLaws as block

pub fed_ends : FedEnds
fed_ends = block.fed_ends

pub kept_out : KeptOut
kept_out = block.kept_out

pub word_le : WordLe
word_le = block.word_le

pub begun_end : BegunEnd
begun_end = block.begun_end
