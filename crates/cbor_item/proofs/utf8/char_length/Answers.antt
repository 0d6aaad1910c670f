-- `char_length` meets its contract: one law of `char_length` for each answer.
use mathlib.Core.Path.{sym}
use Rattle.cbor_item_spec.proofs.Laws.{lengths_by_first}
use Rattle.cbor_item.proofs.utf8.char_length.Goals as goal

pub returns-then-a-lt128 : goal.returns-then-a-lt128
returns-then-a-lt128 c = sym ((lengths_by_first _ _ _ _).below_80 c.if-a-lt128.true)

pub returns-then-a-lt194 : goal.returns-then-a-lt194
returns-then-a-lt194 c = sym ((lengths_by_first _ _ _ _).below_C2 c.if-a-lt128.false c.if-a-lt194.true)

pub returns-then-a-lt224 : goal.returns-then-a-lt224
returns-then-a-lt224 c =
    rw ((lengths_by_first _ _ _ _).below_E0 c.if-a-lt194.false c.if-a-lt224.true, ← c.tail.ensures)
    c.length_if.ensures

pub returns-then-a-lt240 : goal.returns-then-a-lt240
returns-then-a-lt240 c =
    rw (
      (lengths_by_first _ _ _ _).below_F0 c.if-a-lt224.false c.if-a-lt240.true,
      ← c.second3.ensures,
      ← c.tail-then-a-lt240.ensures,
    ) c.length_if-then-a-lt240.ensures

pub returns-then-a-lt245 : goal.returns-then-a-lt245
returns-then-a-lt245 c =
    rw (
      (lengths_by_first _ _ _ _).below_F5 c.if-a-lt240.false c.if-a-lt245.true,
      ← c.second4.ensures,
      ← c.tail-then-a-lt245.ensures,
      ← c.tail-then-a-lt245-2.ensures,
    ) c.length_if-then-a-lt245.ensures

pub returns : goal.returns
returns c = sym ((lengths_by_first _ _ _ _).above_F4 c.if-a-lt245.false)
