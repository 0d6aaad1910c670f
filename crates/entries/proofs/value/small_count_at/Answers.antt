-- `small_count_at` meets its contract.
use mathlib.Core.Path.{refl, ◌∙◌}
use Rattle.exact.proofs.ReadsLaws.{flag_yes, flag_no}
use Rattle.entries.proofs.ValueCode.{count_none, small_count}
use Rattle.entries.proofs.value.small_count_at.Goals as goal

pub returns-then-s-at : goal.returns-then-s-at
returns-then-s-at c = count_none _ _ _ _ _ c.if-s-at.true

pub returns-then-s-at-2 : goal.returns-then-s-at-2
returns-then-s-at-2 c =
    flag_yes _ _ refl c.if-s-at-2.true refl ∙ small_count _ _ _ _ _ c.requires c.if-s-at.false

pub returns : goal.returns
returns c =
    flag_no _ _ _ refl c.if-s-at-2.false ∙ small_count _ _ _ _ _ c.requires c.if-s-at.false
