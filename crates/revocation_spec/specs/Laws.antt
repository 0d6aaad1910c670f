-- What the functions stand on beyond the promises: the tests of one row, and the rows of a list looked at one after the other. A reader of
-- the promises does not need this page.
use Rattle.std.specs.Prelude.{◌≡◌, true, false, List, ℕ, ◌+◌, ◌/◌, ◌≤◌, ◌<◌, length, drop, get_or, leb}
use Rattle.std.specs.List.{list_any}
use Rattle.std.specs.Simd.{first_chunks}
use Rattle.octets.specs.Bytes.{same}
use Rattle.revocation_spec.specs.declared.Revocation.{Revocation}
use Rattle.revocation_spec.specs.Revocation.{revocation_size, revokes, is_revoked, revocation_at, revocations_of}

-- a row of another id does not revoke; of a row of the id the moment tells
abbrev pub RowTested : Type 0
RowTested = (r : Revocation) (id : List ℕ) (clock : ℕ)
    → (same r.id id ≡ false → revokes r id clock ≡ false) × (same r.id id ≡ true → revokes r id clock ≡ leb r.moment clock)

-- where row i revokes the id the rows from it on do; where it does not, those after it tell
abbrev pub RowsInTurn : Type 0
RowsInTurn = (rows : List Revocation) (id : List ℕ) (clock i : ℕ) (none : Revocation) → i < length rows
    → (revokes (get_or rows i none) id clock ≡ true → is_revoked (drop i rows) id clock ≡ true)
    × (revokes (get_or rows i none) id clock ≡ false → is_revoked (drop i rows) id clock ≡ is_revoked (drop (i + 1) rows) id clock)

-- past the last row no row revokes
abbrev pub RowsEnd : Type 0
RowsEnd = (rows : List Revocation) (id : List ℕ) (clock i : ℕ) → length rows ≤ i → is_revoked (drop i rows) id clock ≡ false

-- the rows revoke the id where one of them does, by the library's word
abbrev pub RevokedAny : Type 0
RevokedAny = (rows : List Revocation) (id : List ℕ) (clock : ℕ) → is_revoked rows id clock ≡ list_any (λ r. revokes r id clock) rows

-- and the rows of bytes do where one of the chunks of 24 bytes is the bytes of such a row
abbrev pub BytesRevokedAny : Type 0
BytesRevokedAny = (s id : List ℕ) (clock : ℕ) → is_revoked (revocations_of s) id clock
    ≡ list_any (λ row. revokes (revocation_at row 0) id clock) (first_chunks revocation_size (length s / revocation_size) s)
