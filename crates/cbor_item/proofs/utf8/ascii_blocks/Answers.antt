-- `ascii_blocks` meets its contract. The invariant: i is reached over bytes below 128 only. The measure: what is left.
use mathlib.Core.Path.{sym, ◌∙◌}
use native.Mathlib.Omega.{arith}
use Rattle.cbor_item.proofs.AsciiCode.{to_start, to_next}
use Rattle.cbor_item.proofs.utf8.ascii_blocks.Goals as goal

pub loop-i-init : goal.loop-i-init
loop-i-init c = to_start c.args.s.now c.args.from c.requires

pub overflow_sub-s : goal.overflow_sub-s
overflow_sub-s c = c.loop-i.invariant.ends

pub ascii8-requires : goal.ascii8-requires
ascii8-requires c = omega arith

pub loop-i-smaller : goal.loop-i-smaller
loop-i-smaller c = omega arith

pub loop-i-preserved : goal.loop-i-preserved
loop-i-preserved c =
    let s = c.args.s.now in
    let l = c.loop-i in
    to_next s _ l.i 8 l.invariant (omega arith) (sym c.ascii8.ensures ∙ c.if-ascii8.true)

pub returns-else-ascii8 : goal.returns-else-ascii8
returns-else-ascii8 c = c.loop-i.invariant

pub returns : goal.returns
returns c = c.loop-i.invariant
