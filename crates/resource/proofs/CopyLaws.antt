-- A text that was copied to the beginning of an array. Assumes nothing.
use mathlib.Core.Path.{◌≡◌, ap, ◌∙◌}
use mathlib.Core.List.{List}
use Prim.Native.Nat.{ℕ, ◌+◌, ◌-◌, ◌≤◌}
use native.Mathlib.Omega.{arith}
use lib.ListN.{length, take, drop}
use Rattle.octets.specs.Bytes.{part, Has}
use Rattle.octets.specs.Write.{put_at}
use Rattle.octets.proofs.OverLaws.{put_fits, over_has}

-- the bytes of s from i on, up to n
abbrev pub up_to : List ℕ → ℕ → ℕ → List ℕ
up_to s i n = take (n - i) (drop i s)

-- a text that was copied to the beginning of an array with room for it stands there
pub copy_stands : (d s : List ℕ) {a : List ℕ} → length s ≤ length d → a ≡ put_at d 0 s → up_to a 0 (length s) ≡ s
unfolding part Has
copy_stands d s h e =
    let none : length s - 0 ≡ length s = omega arith in
    let fits : 0 + length s ≤ length d = omega arith in
    rw (e, none) (ap (λ (x : List ℕ). take (length s) x) (put_fits d 0 s fits) ∙ over_has d 0 s fits)
