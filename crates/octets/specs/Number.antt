-- Numbers that stand in bytes, in network byte order.
use Rattle.std.specs.Prelude.{cond, ◌&&◌, List, [], ◌∷◌, ◌++◌, ℕ, zero, suc, ◌+◌, ◌*◌, ◌/◌, ◌%◌, length, get_or, leb}

-- n in w bytes, in network byte order
unfoldable pub big_endian : ℕ → ℕ → List ℕ
big_endian zero n = []
big_endian (suc w) n = big_endian w (n / 256) ++ (n % 256 ∷ [])

-- the number in the w bytes of s from `from` on, in network byte order
unfoldable pub number_at : List ℕ → ℕ → ℕ → ℕ
number_at s from zero = 0
number_at s from (suc w) = number_at s from w * 256 + get_or s (from + w) 0

-- the number in the w bytes from the place on, in network byte order; 0 where they are not all there, and for more than 8
unfoldable pub number_in : List ℕ → ℕ → ℕ → ℕ
number_in s at w = cond (leb w 8 && leb (at + w) (length s)) (number_at s at w) 0
