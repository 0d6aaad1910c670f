-- What is promised of the revocation list, and nothing else. Each statement `NameOfIt` is proved in proofs/Promises.antt as `name_of_it`.
use Rattle.std.specs.Prelude.{◌≡◌, ◌↔◌, ◌⊎◌, true, ◌&&◌, ◌||◌, List, [], ◌∷◌, ◌++◌, ℕ, ◌+◌, ◌*◌, ◌/◌, ◌%◌, ◌^◌, ◌≤◌, ◌<◌, length, get_or, leb}
use Rattle.octets.specs.Bytes.{AreBytes, part, same}
use Rattle.octets.specs.Number.{number_at}
use Rattle.revocation_spec.specs.declared.Revocation.{Revocation}
use Rattle.revocation_spec.specs.Revocation.{is_revoked, revocations_of, list_bytes}

-- ---- when an id is revoked

-- r is one of the rows
abbrev pub IsRow : Revocation → List Revocation → Type 0
IsRow r [] = ⊥
IsRow r (x ∷ xs) = (x ≡ r) ⊎ IsRow r xs

-- an id is revoked exactly when there is a row that has the id, and whose moment is not after now
abbrev pub RevokedExactly : Type 0
RevokedExactly = (rows : List Revocation) (id : List ℕ) (clock : ℕ) → (is_revoked rows id clock ≡ true)
    ↔ ((r : Revocation) × IsRow r rows × (r.id ≡ id) × (r.moment ≤ clock))

-- more rows revoke what fewer do, in whatever order and however often they stand
abbrev pub MoreRevoke : Type 0
MoreRevoke = (rows more : List Revocation) (id : List ℕ) (clock : ℕ) → ((r : Revocation) → IsRow r rows → IsRow r more)
    → is_revoked rows id clock ≡ true → is_revoked more id clock ≡ true

-- what is revoked is revoked at each later clock
abbrev pub LaterRevoked : Type 0
LaterRevoked = (rows : List Revocation) (id : List ℕ) (clock later : ℕ) → clock ≤ later
    → is_revoked rows id clock ≡ true → is_revoked rows id later ≡ true

-- ---- rows in bytes

-- a list of bytes has a row for each 24 of them, in their order: 16 bytes are its id, and the 8 after them its moment, big-endian
abbrev pub RowsOfBytes : Type 0
RowsOfBytes = (s : List ℕ) → (length (revocations_of s) ≡ length s / 24)
    × ((i : ℕ) (none : Revocation) → i < length s / 24
    → get_or (revocations_of s) i none ≡ record { id = part s (24 * i) 16; moment = number_at s (24 * i + 16) 8 })

-- so an id is revoked by bytes exactly when one of their rows begins with it, and ends with a moment that is not after now
abbrev pub BytesExactly : Type 0
BytesExactly = (s id : List ℕ) (clock : ℕ) → (is_revoked (revocations_of s) id clock ≡ true)
    ↔ ((i : ℕ) × (24 * (i + 1) ≤ length s) × (part s (24 * i) 16 ≡ id) × (number_at s (24 * i + 16) 8 ≤ clock))

-- the rows of two lists of bytes, one after the other, are those of the first, of which each byte is in a row, and then those of the second
abbrev pub RowsJoined : Type 0
RowsJoined = (s t : List ℕ) → length s % 24 ≡ 0 → revocations_of (s ++ t) ≡ revocations_of s ++ revocations_of t

-- so with a row more, wherever it stands among the rows of the bytes, an id is revoked exactly when it is without it, or when the row has
-- the id and a moment that is not after now
abbrev pub RowMore : Type 0
RowMore = (before row after id : List ℕ) (clock : ℕ) → length before % 24 ≡ 0 → length row ≡ 24
    → is_revoked (revocations_of (before ++ (row ++ after))) id clock
    ≡ (is_revoked (revocations_of (before ++ after)) id clock || (same (part row 0 16) id && leb (number_at row 16 8) clock))

-- rows that stand in memory: an id has 16 bytes, and a moment is below 2^64
abbrev pub AllFit : List Revocation → Type 0
AllFit [] = Unit {0}
AllFit (r ∷ rs) = (length r.id ≡ 16) × (r.moment < 2 ^ 64) × AllFit rs

-- the bytes of rows are read as those rows, and bytes that are whole rows are the bytes of the rows that are read
abbrev pub BytesAndBack : Type 0
BytesAndBack = ((rows : List Revocation) → AllFit rows → revocations_of (list_bytes rows) ≡ rows)
    × ((s : List ℕ) → AreBytes s → length s % 24 ≡ 0 → list_bytes (revocations_of s) ≡ s)

-- so the two forms of a list, rows and their bytes, revoke alike
abbrev pub FormsAgree : Type 0
FormsAgree = (rows : List Revocation) (id : List ℕ) (clock : ℕ) → AllFit rows
    → is_revoked (revocations_of (list_bytes rows)) id clock ≡ is_revoked rows id clock
