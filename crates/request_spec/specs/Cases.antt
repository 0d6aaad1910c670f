-- Which grant is picked, by example.
use Rattle.std.specs.Prelude.{◌≡◌, List, [], ◌∷◌, ◌++◌, ℕ}
use Rattle.std.proofs.Math.Option.{Option, none, some}
use Rattle.resource_spec.specs.Characters.{codes}
use Rattle.resource_spec.specs.Text.{path_of}
use Rattle.resource_spec.specs.Promises.{T}
use Rattle.entries_spec.specs.Model.{Pair}
use Rattle.descriptor_spec.specs.Model.{Grant}
use Rattle.request_spec.specs.Promises.{first_place, is_picked}

-- a grant of read on the pattern T and p, with constraints
abbrev pub read_on : Option (List Pair) → List ℕ → Grant
read_on constraints p = record { modes = 0 ∷ []; constraints = constraints; pattern = T ++ p }

-- a grant of write on it
abbrev pub write_on : List ℕ → Grant
write_on p = record { modes = 1 ∷ []; constraints = none; pattern = T ++ p }

-- grants of read without constraints, for each p
abbrev pub reads : List (List ℕ) → List Grant
reads [] = []
reads (p ∷ ps) = read_on none p ∷ reads ps

-- a constraint pair
abbrev pub morning : List Pair
morning = record { key = codes "time"; value = codes "morning" } ∷ []

-- the place of the grant that is picked to read T/a/b/c
abbrev pub place_picked : List Grant → ℕ
place_picked gs = first_place (is_picked gs 0 (path_of (T ++ codes "/a/b/c"))) gs

-- an exact grant is picked, whether a broad one stands before or after it; of grants that name as many levels the first; "*" and "**" name
-- none; and a more exact grant that has not the mode, or has a constraint pair, is passed over
abbrev pub PickedCases : Type 0
PickedCases =
    (place_picked (reads (codes "/**" ∷ codes "/a/b/c" ∷ [])) ≡ 1)
    × (place_picked (reads (codes "/a/b/c" ∷ codes "/**" ∷ [])) ≡ 0)
    × (place_picked (reads (codes "/a/**" ∷ codes "/a/*/c" ∷ codes "/a/b/*" ∷ [])) ≡ 1)
    × (place_picked (reads (codes "/*/*/*" ∷ codes "/**" ∷ codes "/a/**" ∷ [])) ≡ 2)
    × (place_picked (write_on (codes "/a/b/c") ∷ reads (codes "/a/**" ∷ [])) ≡ 1)
    × (place_picked (read_on (some morning) (codes "/a/b/c") ∷ reads (codes "/a/**" ∷ [])) ≡ 1)
