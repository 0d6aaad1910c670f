-- Characters as numbers, so that a definition can have the letters of document 01.
use Rattle.std.specs.Prelude.{Bool, false, ◌||◌, List, [] as []ᴸ, ◌∷◌ as ◌∷ᴸ◌, ℕ, eqb}
use Prim.Native.Char.{code}
use Prim.Native.String.{String, [], ◌∷◌}

-- the character codes of a text; of the letters, digits and signs used here they are its bytes
abbrev pub codes : String → List ℕ
codes [] = []ᴸ
codes (c ∷ s) = code c ∷ᴸ codes s

-- c is one of those
abbrev pub one_of : ℕ → List ℕ → Bool
one_of c []ᴸ = false
one_of c (x ∷ᴸ xs) = eqb c x || one_of c xs
