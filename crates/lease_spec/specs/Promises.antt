-- What is promised of leases, and nothing else. Each statement `NameOfIt` is proved in proofs/Promises.antt as `name_of_it`. L is the last
-- sync, T the ttl, G the grace, D the skew, E the tolerance, and N the clock in milliseconds.
use Rattle.std.specs.Prelude.{◌≡◌, ◌↔◌, ◌⊎◌, true, false, Option, None, Some, Ok, Err, List, [], ◌∷◌, ◌++◌, ℕ, ◌+◌, ◌*◌, ◌^◌, ◌≤◌, ◌<◌, length, replicate, pos, negsuc, ◌+ℤ◌, ◌-ℤ◌, ◌≤ℤ◌, ◌<ℤ◌}
use Rattle.octets.specs.Bytes.{AreBytes}
use Rattle.octets.specs.Number.{big_endian}
use Rattle.time.specs.declared.Margin.{Margin}
use Rattle.lease_spec.specs.declared.Lease.{Lease}
use Rattle.lease_spec.specs.declared.LeaseState.{LeaseState}
use Rattle.lease_spec.specs.declared.LeaseState.TheVariants as states
use Rattle.lease_spec.specs.Lease.{margin_of, state_of}
use Rattle.lease_spec.specs.Table.{Row, lease_under, row_bytes, table_bytes, lease_read, rows_of, table_ok, malformed, find_in}

-- ---- the state of a lease

-- a lease within the limits: L at most 2^53, T and G below 2^32, D and E at most one day
pub record Within (l : Lease) : Type 0 where
  pub sync : l.last_sync.0 ≤ 2 ^ 53
  pub ttl : l.ttl.0 < 2 ^ 32
  pub grace : l.grace.0 < 2 ^ 32
  pub skew : l.skew.0 ≤ 86400000
  pub tolerance : l.tolerance.0 ≤ 86400000

-- the last active millisecond (`last_active` of the definitions), written out: L + T + E, where T is scaled by 1,000
abbrev pub active_end : Lease → ℕ
active_end l = l.last_sync.0 + l.ttl.0 * 1000 + l.tolerance.0

-- the last stale millisecond (`last_stale`): L + T + G + E, where T and G are scaled by 1,000
abbrev pub stale_end : Lease → ℕ
stale_end l = l.last_sync.0 + l.ttl.0 * 1000 + l.grace.0 * 1000 + l.tolerance.0

-- the state, each exactly: revoked where the flag says so; else future where N < L − D; active up to L + T + E; stale up to
-- L + T + G + E; and expired after that
pub record States (l : Lease) (n : ℕ) : Type 0 where
  pub revoked : (state_of l n ≡ Some states.Revoked) ↔ (l.revoked ≡ true)
  pub future : (state_of l n ≡ Some states.Future) ↔ ((l.revoked ≡ false) × (pos n <ℤ (pos l.last_sync.0 -ℤ pos l.skew.0)))
  pub active : (m : Margin) → (state_of l n ≡ Some (states.Active m))
      ↔ ((l.revoked ≡ false) × ((pos l.last_sync.0 -ℤ pos l.skew.0) ≤ℤ pos n) × (n ≤ active_end l) × (margin_of l n ≡ m))
  pub stale : (m : Margin) → (state_of l n ≡ Some (states.Stale m))
      ↔ ((l.revoked ≡ false) × (active_end l < n) × (n ≤ stale_end l) × (margin_of l n ≡ m))
  pub expired : (state_of l n ≡ Some states.Expired) ↔ ((l.revoked ≡ false) × (stale_end l < n))

-- they are the states of each lease within the limits, at each clock up to 2^53
abbrev pub StateExactly : Type 0
StateExactly = (l : Lease) (n : ℕ) → Within l → n ≤ 2 ^ 53 → States l n

-- a lease or a clock outside the limits has none of them
abbrev pub OutsideExactly : Type 0
OutsideExactly = (l : Lease) (n : ℕ) → (state_of l n ≡ None) ↔ (Within l × (n ≤ 2 ^ 53) → ⊥)

-- ---- the margin

-- the margin is L + T + E − N, exactly
abbrev pub MarginExact : Type 0
MarginExact = (l : Lease) (n : ℕ) → ((margin_of l n).0 ≡ pos (active_end l) -ℤ pos n) × ((margin_of l n).0 +ℤ pos n ≡ pos (active_end l))

-- it is zero exactly at the last active millisecond, not below zero exactly up to it, and below zero exactly after it
abbrev pub MarginSign : Type 0
MarginSign = (l : Lease) (n : ℕ) → (((margin_of l n).0 ≡ pos 0) ↔ (n ≡ active_end l)) × ((pos 0 ≤ℤ (margin_of l n).0) ↔ (n ≤ active_end l))
    × (((margin_of l n).0 <ℤ pos 0) ↔ (active_end l < n))

-- within the limits it is at least −2^53 and below 2^54, so 64 signed bits hold it
abbrev pub MarginFits : Type 0
MarginFits = (l : Lease) (n : ℕ) → Within l → n ≤ 2 ^ 53
    → (negsuc 9007199254740991 ≤ℤ (margin_of l n).0) × ((margin_of l n).0 <ℤ pos (2 ^ 54))

-- ---- stale and expired leases

-- a lease that is stale or expired
abbrev pub StaleOrExpired : Option LeaseState → Type 0
StaleOrExpired (Some (states.Stale m)) = Unit {0}
StaleOrExpired (Some states.Expired) = Unit {0}
StaleOrExpired (Some states.Revoked) = ⊥
StaleOrExpired (Some states.Future) = ⊥
StaleOrExpired (Some (states.Active m)) = ⊥
StaleOrExpired None = ⊥

-- the same lease with another last sync
abbrev pub with_sync : Lease → ℕ → Lease
with_sync l sync = record {
  revoked = l.revoked;
  last_sync = record { 0 = sync };
  ttl = l.ttl;
  grace = l.grace;
  skew = l.skew;
  tolerance = l.tolerance;
}

-- the same row with another last sync
abbrev pub row_with_sync : Row → ℕ → Row
row_with_sync r sync = record { id = r.id; lease = with_sync r.lease sync }

-- with an older sync it stays stale or expired; so it is never active
abbrev pub OlderSync : Type 0
OlderSync = (l : Lease) (n older : ℕ) → older ≤ l.last_sync.0 → StaleOrExpired (state_of l n)
    → StaleOrExpired (state_of (with_sync l older) n)

-- and so it does at each later clock, up to 2^53
abbrev pub LaterClock : Type 0
LaterClock = (l : Lease) (n later : ℕ) → n ≤ later → later ≤ 2 ^ 53 → StaleOrExpired (state_of l n) → StaleOrExpired (state_of l later)

-- ---- the lease table

-- a row that may stand in a table: its id has 16 bytes, and its lease is within the limits
pub record Allowed (r : Row) : Type 0 where
  pub size : length r.id ≡ 16
  pub bytes : AreBytes r.id
  pub within : Within r.lease

-- r is one of the rows
abbrev pub IsRow : Row → List Row → Type 0
IsRow r [] = ⊥
IsRow r (x ∷ xs) = (x ≡ r) ⊎ IsRow r xs

-- the rows are allowed, and no two have one id
abbrev pub AreRows : List Row → Type 0
AreRows [] = Unit {0}
AreRows (r ∷ rs) = Allowed r × ((x : Row) → IsRow x rs → x.id ≡ r.id → ⊥) × AreRows rs

-- 64 bytes at a place are read as a lease exactly when they are those of an allowed row with that lease
abbrev pub RowExactly : Type 0
RowExactly = (before s after : List ℕ) (l : Lease) → AreBytes s → length s ≡ 64
    → (lease_read (before ++ (s ++ after)) (length before) ≡ Some l) ↔ ((r : Row) × Allowed r × (r.lease ≡ l) × (s ≡ row_bytes r))

-- and where fewer than 64 bytes are left no row is read
abbrev pub RowShort : Type 0
RowShort = (s : List ℕ) (at : ℕ) → length s < at + 64 → lease_read s at ≡ None

-- the five numbers of a lease, in 8 bytes each, big-endian: L, T, G, D and E
abbrev pub numbers_of : Lease → List ℕ
numbers_of l =
    big_endian 8 l.last_sync.0
    ++ (big_endian 8 l.ttl.0 ++ (big_endian 8 l.grace.0 ++ (big_endian 8 l.skew.0 ++ big_endian 8 l.tolerance.0)))

-- the bytes of a row: its id, 1 where the lease is revoked and 0 where it is not, seven bytes 0, and the five numbers
abbrev pub RowLaidOut : Type 0
RowLaidOut = (r : Row)
    → (r.lease.revoked ≡ true → row_bytes r ≡ r.id ++ (1 ∷ (replicate 7 0 ++ numbers_of r.lease)))
    × (r.lease.revoked ≡ false → row_bytes r ≡ r.id ++ (0 ∷ (replicate 7 0 ++ numbers_of r.lease)))

-- the bytes of rows are those of each row, one after the other, and nothing else
abbrev pub TableLaidOut : Type 0
TableLaidOut = (table_bytes [] ≡ []) × ((r : Row) (rs : List Row) → table_bytes (r ∷ rs) ≡ row_bytes r ++ table_bytes rs)

-- bytes are a lease table exactly when they are those of such rows
abbrev pub TableExactly : Type 0
TableExactly = (s : List ℕ) → AreBytes s → (table_ok s ≡ true) ↔ ((rs : List Row) × AreRows rs × (s ≡ table_bytes rs))

-- the bytes of such rows are read as those rows; so they are the bytes of no others
abbrev pub RowsBack : Type 0
RowsBack = (rs : List Row) → AreRows rs → rows_of (table_bytes rs) ≡ rs

-- rows have a lease under an id exactly when one of them has both, and none exactly when no row has the id
abbrev pub UnderExactly : Type 0
UnderExactly = (rs : List Row) (id : List ℕ) → AreRows rs
    → ((l : Lease) → (lease_under rs id ≡ Some l) ↔ ((r : Row) × IsRow r rs × (r.id ≡ id) × (r.lease ≡ l)))
    × ((lease_under rs id ≡ None) ↔ ((r : Row) → IsRow r rs → r.id ≡ id → ⊥))

-- so a lease is found in their bytes under an id exactly when a row has both
abbrev pub FoundExactly : Type 0
FoundExactly = (rs : List Row) (id : List ℕ) (l : Lease) → AreRows rs
    → (find_in (table_bytes rs) id ≡ Ok (Some l)) ↔ ((r : Row) × IsRow r rs × (r.id ≡ id) × (r.lease ≡ l))

-- and none exactly when no row has the id
abbrev pub MissingExactly : Type 0
MissingExactly = (rs : List Row) (id : List ℕ) → AreRows rs
    → (find_in (table_bytes rs) id ≡ Ok None) ↔ ((r : Row) → IsRow r rs → r.id ≡ id → ⊥)

-- bytes that are no lease table are malformed, and no others
abbrev pub MalformedExactly : Type 0
MalformedExactly = (s id : List ℕ) → (find_in s id ≡ Err malformed) ↔ (table_ok s ≡ false)
