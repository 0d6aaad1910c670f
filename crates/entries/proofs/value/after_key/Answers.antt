-- `after_key` meets its contract.
use Prim.Native.Nat.{◌^◌}
use native.Mathlib.Omega.{arith}
use Rattle.octets.proofs.BytesLaws.{T_of}
use Rattle.entries_spec.proofs.ValueBounds.{key_end}
use Rattle.entries.proofs.value.after_key.Goals as goal

pub overflow_add-result : goal.overflow_add-result
overflow_add-result c =
    let a = c.args in
    omega (
      arith,
      key_end a.s.now a.at a.key.now (2 ^ 64) (T_of c.has_at.ensures c.if-has_at.true) (omega arith)
          (omega arith),
    )
