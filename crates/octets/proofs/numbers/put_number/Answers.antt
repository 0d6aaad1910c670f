-- `put_number` meets its contract.
use mathlib.Core.Path.{sym, ap, ◌∙◌}
use mathlib.Core.List.{List}
use Prim.Native.Nat.{ℕ, ◌+◌, ◌-◌, ◌%◌}
use native.Mathlib.Omega.{arith}
use lib.ListN.{set}
use Rattle.octets.specs.Number.{big_endian}
use Rattle.octets.proofs.NumberLaws.{length_big_endian, low_none, remains_whole, low_more, remains_more, low_all}
use Rattle.octets.proofs.OverLaws.{put_fits}
use Rattle.octets.proofs.numbers.put_number.Goals as goal

pub loop-k-init : goal.loop-k-init
loop-k-init c = (low_none _ _ _ _, remains_whole _ _)

pub loop-k-preserved : goal.loop-k-preserved
loop-k-preserved c =
    let l = c.loop-k in
    let a = c.args in (
      ap (λ (x : List ℕ). set x (a.at + (l.k - 1)) (l.left % 256)) l.invariant.0
          ∙ low_more a.w a.n l.left a.d.now a.at l.k (omega arith) (omega arith) l.invariant.1,
      remains_more a.w a.n l.left l.k (omega arith) l.invariant.1,
    )

pub returns : goal.returns
returns c =
    let a = c.args in
    c.loop-k.invariant.0
    ∙ low_all _ _ _ _ _ (omega arith)
    ∙ sym (put_fits a.d.now a.at (big_endian a.w a.n) (omega (arith, length_big_endian a.w a.n)))
