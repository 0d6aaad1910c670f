-- Worked examples, computed. Assumes nothing.
use mathlib.Core.Path.{◌≡◌, refl}
use mathlib.Core.Bool.{true, false}
use mathlib.Core.List.{List, [], ◌∷◌, ◌++◌}
use Prim.Native.Nat.{ℕ}
use lib.ListN.{replicate}
use Rattle.octets.specs.Bytes.{part, same}
use Rattle.octets.specs.Number.{big_endian, number_at}
use Rattle.revocation_spec.specs.declared.Revocation.{Revocation}
use Rattle.revocation_spec.specs.Revocation.{revokes, is_revoked, revocation_at, revocations_from, revocations_of, revocation_bytes}
use Rattle.revocation_spec.specs.Revocation.{list_bytes}

-- an id that ends with n
abbrev id_of : ℕ → List ℕ
id_of n = replicate 15 7 ++ (n ∷ [])

-- a row of it
abbrev row_of : ℕ → ℕ → Revocation
row_of n moment = record { id = id_of n; moment = moment }

-- two ids, of which the first recurs with an earlier moment
abbrev list : List ℕ
list = list_bytes (row_of 1 70000 ∷ row_of 2 300 ∷ row_of 1 1000 ∷ [])

-- one second before the earlier moment, at it, and after it; the other id likewise; an id without a row; a row that is cut off; no rows
moments : (is_revoked (revocations_of list) (id_of 1) 999 ≡ false)
    × (is_revoked (revocations_of list) (id_of 1) 1000 ≡ true)
    × (is_revoked (revocations_of list) (id_of 1) 1001 ≡ true)
    × (is_revoked (revocations_of list) (id_of 2) 299 ≡ false)
    × (is_revoked (revocations_of list) (id_of 2) 300 ≡ true)
    × (is_revoked (revocations_of list) (id_of 3) 80000 ≡ false)
    × (is_revoked (revocations_of (part list 0 71)) (id_of 1) 1000 ≡ false)
    × (is_revoked (revocations_of []) (id_of 1) 1000 ≡ false)
unfolding part same number_at big_endian revokes is_revoked revocation_at revocations_from revocations_of revocation_bytes list_bytes
moments = (refl, refl, refl, refl, refl, refl, refl, refl)

-- the id, then the moment, big-endian
bytes : list_bytes (row_of 1 70000 ∷ []) ≡ replicate 15 7 ++ (1 ∷ 0 ∷ 0 ∷ 0 ∷ 0 ∷ 0 ∷ 1 ∷ 17 ∷ 112 ∷ [])
unfolding big_endian revocation_bytes list_bytes
bytes = refl
