-- A reader of the promises does not need this page.
-- The run of bytes below 128 that the test for UTF-8 passes over at once.
use Rattle.std.specs.Prelude.{◌≡◌, Bool, true, false, ◌&&◌, List, [], ◌∷◌, ℕ, zero, suc, ◌+◌, ◌-◌, ◌≤◌, get_or, length, drop, ltb}

-- how many bytes below 128 stand at the beginning
unfoldable pub ascii_run : List ℕ → ℕ
ascii_run [] = 0
ascii_run (x ∷ xs) = elim (ltb x 0x80) [ true ↦ suc (ascii_run xs) | false ↦ 0 ]

-- the n bytes from i on are below 128
unfoldable pub ascii_at : List ℕ → ℕ → ℕ → Bool
ascii_at s i zero = true
ascii_at s i (suc n) = ascii_at s i n && ltb (get_or s (i + n) 0) 0x80

-- r is a place at or after `from` that is reached over bytes below 128 only
pub record AsciiTo (s : List ℕ) (from r : ℕ) : Type 0 where
  pub begins : from ≤ r
  pub ends : r ≤ length s
  pub passed : ascii_run (drop from s) ≡ (r - from) + ascii_run (drop r s)
