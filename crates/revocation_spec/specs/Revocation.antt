-- The revocation list: rows of an id and a moment, when they revoke an id, and how they stand in bytes. Document 02, §2. A row is the
-- declared struct, so that a list of bytes and a slice of structs have one definition.
use Rattle.std.specs.Prelude.{Bool, false, ◌&&◌, ◌||◌, List, [], ◌∷◌, ◌++◌, ℕ, zero, suc, ◌+◌, ◌*◌, ◌/◌, length, leb}
use Rattle.octets.specs.Bytes.{part, same}
use Rattle.octets.specs.Number.{big_endian, number_at}
use Rattle.descriptor_spec.specs.Allowed.{id_size}
use Rattle.revocation_spec.specs.declared.Revocation.{Revocation}

-- ---- when an id is revoked

-- a row revokes an id: it has the id, and its moment is not after now
unfoldable pub revokes : Revocation → List ℕ → ℕ → Bool
revokes r id clock = same r.id id && leb r.moment clock

-- some row revokes the id
unfoldable pub is_revoked : List Revocation → List ℕ → ℕ → Bool
is_revoked [] id clock = false
is_revoked (r ∷ rs) id clock = revokes r id clock || is_revoked rs id clock

-- ---- rows in bytes

-- the bytes of a row: 16 of the id, then 8 of the moment
abbrev pub revocation_size : ℕ
revocation_size = 24

-- the bytes of the moment
abbrev pub moment_width : ℕ
moment_width = 8

-- the row that stands at a place: the id, then the moment, big-endian
unfoldable pub revocation_at : List ℕ → ℕ → Revocation
revocation_at s at = record { id = part s at id_size; moment = number_at s (at + id_size) moment_width }

-- the n rows from row i on
unfoldable pub revocations_from : List ℕ → ℕ → ℕ → List Revocation
revocations_from s i zero = []
revocations_from s i (suc n) = revocation_at s (revocation_size * i) ∷ revocations_from s (i + 1) n

-- the rows of a list of bytes: the whole ones
unfoldable pub revocations_of : List ℕ → List Revocation
revocations_of s = revocations_from s 0 (length s / revocation_size)

-- the bytes of a row
unfoldable pub revocation_bytes : Revocation → List ℕ
revocation_bytes r = r.id ++ big_endian moment_width r.moment

-- the bytes of rows, one after the other
unfoldable pub list_bytes : List Revocation → List ℕ
list_bytes [] = []
list_bytes (r ∷ rs) = revocation_bytes r ++ list_bytes rs
