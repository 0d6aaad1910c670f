-- `is_utf8` meets its contract. The invariant: what is left from i on decides. The measure: what is left.
use mathlib.Core.Path.{◌≡◌, sym, ◌∙◌}
use Prim.Native.Nat.{◌+◌}
use native.Mathlib.Omega.{arith}
use lib.ListN.{drop_of_length-le}
use Rattle.cbor_item_spec.specs.Utf8.{char_at, chars_from}
use Rattle.cbor_item_spec.proofs.Laws.{char_fits, char_stops, char_steps}
use Rattle.cbor_item.proofs.AsciiCode.{utf8_run}
use Rattle.cbor_item.proofs.utf8.is_utf8.Goals as goal

pub ascii_end-i-requires : goal.ascii_end-i-requires
ascii_end-i-requires c = omega arith

pub loop-i-init : goal.loop-i-init
loop-i-init c = utf8_run c.args.s.now 0 c.ascii_end-i.result (omega arith) c.ascii_end-i.ensures

pub char_at-n-requires : goal.char_at-n-requires
char_at-n-requires c = omega arith

pub returns-then-n-eq0 : goal.returns-then-n-eq0
returns-then-n-eq0 c =
    let s = c.args.s.now in
    let l = c.loop-i in
    let more = c.loop-i-test.true in
    sym (l.invariant.1 ∙ char_stops s l.i more (sym c.char_at-n.ensures ∙ c.if-n-eq0.true))

pub overflow_add-i : goal.overflow_add-i
overflow_add-i c =
    let s = c.args.s.now in
    let l = c.loop-i in
    let more = c.loop-i-test.true in
    omega (arith, char_fits s l.i more)

pub ascii_end-i-requires-in-loop-i : goal.ascii_end-i-requires-in-loop-i
ascii_end-i-requires-in-loop-i c =
    let s = c.args.s.now in
    let l = c.loop-i in
    let more = c.loop-i-test.true in
    omega (arith, char_fits s l.i more)

pub loop-i-smaller : goal.loop-i-smaller
loop-i-smaller c = omega arith

pub loop-i-preserved : goal.loop-i-preserved
loop-i-preserved c =
    let s = c.args.s.now in
    let l = c.loop-i in
    let more = c.loop-i-test.true in
    let n = c.char_at-n.result in
    let found : char_at s l.i ≡ n = sym c.char_at-n.ensures in
    let run = utf8_run s (l.i + n) c.ascii_end-i-in-loop-i.result (omega (arith, char_fits s l.i more)) c.ascii_end-i-in-loop-i.ensures in
    (run.0, l.invariant.1 ∙ char_steps s l.i n more found c.if-n-eq0.false ∙ run.1)

pub returns : goal.returns
unfolding chars_from
returns c =
    let s = c.args.s.now in
    sym (c.loop-i.invariant.1 ∙ rw (drop_of_length-le s c.loop-i-test.false))
