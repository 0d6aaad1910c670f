-- The bytes of a head, one by one (specs/Encoding.antt). Assumes nothing.
use mathlib.Core.Path.{◌≡◌}
use Prim.Native.Nat.{◌%◌, ◌^◌}
use native.Mathlib.Omega.{arith}
use lib.Pow.{shr-shr, shr_mod}
use borrow.Author.Tests.{lt-ltb, le-ltb}
use Rattle.octets.specs.Number.{big_endian}
use Rattle.cbor_item_spec.specs.Encoding.{head}
use Rattle.cbor_item_spec.specs.Promises.{HeadsShortest}

-- heads are shortest
pub shortest : HeadsShortest
unfolding head big_endian
shortest major n h = (
  λ a. rw (lt-ltb n 24 a),
  λ a b. let e : n % 256 ≡ n = omega arith in rw (le-ltb n 24 a, lt-ltb n (2 ^ 8) b, e),
  λ a b. rw (le-ltb n 24 (omega arith), le-ltb n (2 ^ 8) a, lt-ltb n (2 ^ 16) b, shr_mod 8 8 b),
  λ a b. rw (
    le-ltb n 24 (omega arith),
    le-ltb n (2 ^ 8) (omega arith),
    le-ltb n (2 ^ 16) a,
    lt-ltb n (2 ^ 32) b,
    shr-shr n 8 8,
    shr-shr n 16 8,
    shr_mod 8 24 b,
  ),
  λ a. rw (
    le-ltb n 24 (omega arith),
    le-ltb n (2 ^ 8) (omega arith),
    le-ltb n (2 ^ 16) (omega arith),
    le-ltb n (2 ^ 32) a,
    shr-shr n 8 8,
    shr-shr n 16 8,
    shr-shr n 24 8,
    shr-shr n 32 8,
    shr-shr n 40 8,
    shr-shr n 48 8,
    shr_mod 8 56 h,
  ),
)
