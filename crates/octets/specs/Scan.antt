-- How far a byte stands from the beginning, and whether it stands anywhere. A reader of the promises does not need this page.
use Rattle.std.specs.Prelude.{Bool, true, false, not, ◌&&◌, List, [], ◌∷◌, ℕ, suc, eqb}

-- how many bytes stand before the first b, or all where there is none
unfoldable pub bytes_before : ℕ → List ℕ → ℕ
bytes_before b [] = 0
bytes_before b (x ∷ xs) = elim (eqb x b) [ true ↦ 0 | false ↦ suc (bytes_before b xs) ]

-- no byte is b
unfoldable pub without : ℕ → List ℕ → Bool
without b [] = true
without b (x ∷ xs) = not (eqb x b) && without b xs
