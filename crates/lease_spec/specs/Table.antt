-- The lease table: its rows, their bytes, and the lease that it has under an id. Document 02, §4.
use Rattle.std.specs.Prelude.{Bool, true, false, not, cond, Option, None, Some, Result, Ok, Err, ◌&&◌, ◌||◌, List, [], ◌∷◌, ◌++◌, ℕ, zero, suc, ◌+◌, ◌*◌, ◌/◌, ◌%◌, length, leb, eqb}
use Rattle.octets.specs.Bytes.{part, same}
use Rattle.octets.specs.Number.{big_endian, number_at}
use Rattle.time.specs.Time.{seconds, milliseconds}
use Rattle.descriptor_spec.specs.Allowed.{id_size}
use Rattle.lease_spec.specs.declared.Lease.{Lease}
use Rattle.lease_spec.specs.declared.Malformed.{Malformed}
use Rattle.lease_spec.specs.Lease.{lease_ok}

-- ---- rows

-- a row: a descriptor's id, and its lease
pub record Row : Type 0 where
  pub id : List ℕ
  pub lease : Lease

-- one of the rows has the id
unfoldable pub has_id : List Row → List ℕ → Bool
has_id [] id = false
has_id (r ∷ rs) id = same r.id id || has_id rs id

-- no two rows have one id
unfoldable pub ids_differ : List Row → Bool
ids_differ [] = true
ids_differ (r ∷ rs) = not (has_id rs r.id) && ids_differ rs

-- the lease of the row that has the id
unfoldable pub lease_under : List Row → List ℕ → Option Lease
lease_under [] id = None
lease_under (r ∷ rs) id = cond (same r.id id) (Some r.lease) (lease_under rs id)

-- ---- the bytes of a row

-- a row has 64 bytes: id (16), flag (1), zero (7), then L, T, G, D and E (8 each)
abbrev pub lease_size : ℕ
lease_size = 64

-- the flag's place and width
abbrev pub flag_place : ℕ
flag_place = 16

abbrev pub flag_width : ℕ
flag_width = 1

-- the zero bytes' place and width
abbrev pub zero_place : ℕ
zero_place = 17

abbrev pub zero_width : ℕ
zero_width = 7

-- the places of L, T, G, D and E, and their width
abbrev pub last_sync_place : ℕ
last_sync_place = 24

abbrev pub ttl_place : ℕ
ttl_place = 32

abbrev pub grace_place : ℕ
grace_place = 40

abbrev pub skew_place : ℕ
skew_place = 48

abbrev pub tolerance_place : ℕ
tolerance_place = 56

abbrev pub number_width : ℕ
number_width = 8

-- the flag: 1 where the lease is revoked, else 0
abbrev pub flag_of : Bool → ℕ
flag_of true = 1
flag_of false = 0

-- the bytes of a row
unfoldable pub row_bytes : Row → List ℕ
row_bytes r =
    r.id
    ++ (big_endian flag_width (flag_of r.lease.revoked)
    ++ (big_endian zero_width 0
    ++ (big_endian number_width r.lease.last_sync.0
    ++ (big_endian number_width r.lease.ttl.0
    ++ (big_endian number_width r.lease.grace.0
    ++ (big_endian number_width r.lease.skew.0 ++ big_endian number_width r.lease.tolerance.0))))))

-- the bytes of rows, one after the other
unfoldable pub table_bytes : List Row → List ℕ
table_bytes [] = []
table_bytes (r ∷ rs) = row_bytes r ++ table_bytes rs

-- ---- reading

-- the lease whose row begins at a place
unfoldable pub lease_at : List ℕ → ℕ → Lease
lease_at s at = record {
  revoked = eqb (number_at s (at + flag_place) flag_width) 1;
  last_sync = milliseconds (number_at s (at + last_sync_place) number_width);
  ttl = seconds (number_at s (at + ttl_place) number_width);
  grace = seconds (number_at s (at + grace_place) number_width);
  skew = milliseconds (number_at s (at + skew_place) number_width);
  tolerance = milliseconds (number_at s (at + tolerance_place) number_width);
}

-- a row may stand there: the flag is 0 or 1, the seven bytes after it are zero, and the numbers are within the limits
unfoldable pub row_ok : List ℕ → ℕ → Bool
row_ok s at =
    leb (number_at s (at + flag_place) flag_width) 1
    && (eqb (number_at s (at + zero_place) zero_width) 0 && lease_ok (lease_at s at))

-- what is read at a place; no row where the bytes end before it does
unfoldable pub lease_read : List ℕ → ℕ → Option Lease
lease_read s at = cond (leb (at + lease_size) (length s) && row_ok s at) (Some (lease_at s at)) None

-- the row at a place
unfoldable pub row_at : List ℕ → ℕ → Row
row_at s at = record { id = part s at id_size; lease = lease_at s at }

-- the n rows from row i on
unfoldable pub rows_from : List ℕ → ℕ → ℕ → List Row
rows_from s i zero = []
rows_from s i (suc n) = row_at s (lease_size * i) ∷ rows_from s (i + 1) n

-- the rows of bytes: the whole ones
unfoldable pub rows_of : List ℕ → List Row
rows_of s = rows_from s 0 (length s / lease_size)

-- each of the n rows from row i on may stand where it does
unfoldable pub rows_ok : List ℕ → ℕ → ℕ → Bool
rows_ok s i zero = true
rows_ok s i (suc n) = row_ok s (lease_size * i) && rows_ok s (i + 1) n

-- bytes are a lease table: whole rows, each well formed, of which no two have one id
unfoldable pub table_ok : List ℕ → Bool
table_ok s = eqb (length s % lease_size) 0 && (rows_ok s 0 (length s / lease_size) && ids_differ (rows_of s))

-- the error of bytes that are no lease table
abbrev pub malformed : Malformed
malformed = record {}

-- what bytes have under an id
unfoldable pub find_in : List ℕ → List ℕ → Result (Option Lease) Malformed
find_in s id = cond (table_ok s) (Ok (lease_under (rows_of s) id)) (Err malformed)
