-- `id_among` meets its contract.
use mathlib.Core.Path.{◌≡◌, sym, ap, ◌∙◌}
use Prim.Native.Nat.{◌+◌, ◌≤◌}
use native.Mathlib.Omega.{arith}
use lib.ListN.{length}
use Rattle.descriptor_spec.specs.Allowed.{id_size}
use Rattle.image_spec.specs.Check.{id_among}
use Rattle.image.proofs.RowsCode.{row_inside, among_none, among_next, among_hit}
use Rattle.image.proofs.rows.id_among.Goals as goal

pub slice_bounds-same_bytes-end : goal.slice_bounds-same_bytes-end
slice_bounds-same_bytes-end c =
    let p = c.requires in
    let inside : c.place-r.result + id_size ≤ length c.args.s.now
    = row_inside _ p.0 _ _ _ _ (omega arith) (c.place-r.ensures.in_image (c.requires.0, omega arith)) p.2 in
    omega arith

pub loop-i-preserved : goal.loop-i-preserved
loop-i-preserved c =
    c.loop-i.invariant ∙ among_next _ _ _ _ _ _ c.loop-i-test.true (c.place-r.ensures.in_image (c.requires.0, omega arith)) c.same_bytes.ensures c.if-same_bytes.false

pub returns-then-same_bytes : goal.returns-then-same_bytes
returns-then-same_bytes c =
    sym (c.loop-i.invariant
    ∙ among_hit _ _ _ _ _ _ c.loop-i-test.true (c.place-r.ensures.in_image (c.requires.0, omega arith)) c.same_bytes.ensures c.if-same_bytes.true)

pub returns : goal.returns
returns c =
    let l = c.loop-i in
    let e : l.i ≡ 0 = omega arith in
    sym (l.invariant ∙ ap (id_among _ _ _) e ∙ among_none _ _ _)
