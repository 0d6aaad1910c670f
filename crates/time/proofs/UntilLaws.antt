-- What the numbers that the machine computes say of a sum and of a margin (specs/Time.antt). Assumes nothing.
use mathlib.Core.Path.{◌≡◌, sym, ap, ◌∙◌}
use Prim.Native.Nat.{ℕ, ◌+◌, ◌-◌, ◌^◌, ◌≤◌, ◌<◌, min}
use native.Mathlib.Omega.{arith}
use lib.IntN.{ℤ, pos, ◌-ℤ◌}
use mir.Syntax.{w64}
use mir.Val.{to_z}
use mir.ValLaws.{to_z-of_z}
use Rattle.time.specs.declared.Milliseconds.{Milliseconds}
use Rattle.time.specs.declared.Margin.{Margin}
use Rattle.time.specs.Time.{most_held, most_margin, milliseconds, sum_held, margin_between}
use Rattle.time.proofs.Laws.{apart}

-- what has the number of the sum of milliseconds is that sum
pub held_sum : (t more r : Milliseconds) → r.0 ≡ min (t.0 + more.0) most_held → r ≡ sum_held t more
unfolding sum_held
held_sum t more r e = ap milliseconds e

-- the bits of a number below 2^63 are read back as that number
read_back : (n : ℕ) → n < 2 ^ 63 → to_z w64 n ≡ pos n
read_back n h = to_z-of_z w64 (pos n) (record { sfits = omega arith })

-- a margin of so many milliseconds
abbrev margin_of : ℤ → Margin
margin_of z = record { 0 = z }

module _ (t end : Milliseconds) {k : ℕ} where
  -- how long it is to an end that has not passed
  pub ahead_is : t.0 ≤ end.0 → k ≡ min (end.0 - t.0) most_margin → margin_of (to_z w64 k) ≡ margin_between t end
  unfolding margin_between
  ahead_is h e =
      let less_zero : pos k -ℤ pos 0 ≡ pos k = ap pos (omega arith) in
      ap margin_of
      (read_back k (omega arith) ∙ sym less_zero
      ∙ apart k 0 (min (end.0 - t.0) most_margin) (min (t.0 - end.0) most_margin) (omega arith))
