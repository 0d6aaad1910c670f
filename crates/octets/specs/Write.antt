-- What a write leaves of lent bytes. A reader of the promises does not need this page.
use Rattle.std.specs.Prelude.{cond, ◌&&◌, List, ◌++◌, ℕ, ◌+◌, ◌-◌, length, take, drop, leb}
use Rattle.octets.specs.Bytes.{part}

-- d with s written over it from the place `at` on
unfoldable pub over : List ℕ → ℕ → List ℕ → List ℕ
over d at s = take at d ++ (s ++ drop (at + length s) d)

-- the same, where s fits; d where it does not
unfoldable pub put_at : List ℕ → ℕ → List ℕ → List ℕ
put_at d at s = cond (leb (at + length s) (length d)) (over d at s) d

-- d with the bytes from `from` up to `to` written over it `by` places higher
unfoldable pub moved : List ℕ → ℕ → ℕ → ℕ → List ℕ
moved d from to by = over d (from + by) (part d from (to - from))

-- the same, where there are such bytes and they fit; else d
unfoldable pub moved_up : List ℕ → ℕ → ℕ → ℕ → List ℕ
moved_up d from to by = cond (leb from to && leb (to + by) (length d)) (moved d from to by) d

-- d with the n bytes from `from` on written over it from `to` on
unfoldable pub lowered : List ℕ → ℕ → ℕ → ℕ → List ℕ
lowered d from to n = over d to (part d from n)

-- the same, where the bytes are there and `to` is not after `from`; else d
unfoldable pub moved_down : List ℕ → ℕ → ℕ → ℕ → List ℕ
moved_down d from to n = cond (leb to from && leb (from + n) (length d)) (lowered d from to n) d
