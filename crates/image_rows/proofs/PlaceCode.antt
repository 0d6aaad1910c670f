-- The size of the rows before a row. Assumes nothing.
use Rattle.std.proofs.Common.{ℕ, ◌*◌, ◌≤◌, ◌<◌, arith, mul-le-mul_right}

-- 65,535 rows of 1,024 bytes are below 2^32
pub small : (n i : ℕ) → n ≤ 1024 → i ≤ 65535 → n * i < 4294967288
small n i h k = omega (arith, mul-le-mul_right i h)
