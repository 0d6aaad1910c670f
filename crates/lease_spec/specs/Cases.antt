-- Source 001's published test vectors, "Test Vectors", and both sides of each line, by computation. The ttl is 86,400 s, the grace 300 s,
-- the skew and the tolerance 5,000 ms. TV-05 has no lease row; a request without a row is promised in `request_spec`.
use Rattle.std.specs.Prelude.{◌≡◌, None, Some, Bool, true, false, ℕ, ℤ, pos, negsuc}
use Rattle.time.specs.declared.Margin.{Margin}
use Rattle.time.specs.Time.{seconds, milliseconds}
use Rattle.lease_spec.specs.declared.Lease.{Lease}
use Rattle.lease_spec.specs.declared.LeaseState.TheVariants.{Revoked, Future, Active, Stale, Expired}
use Rattle.lease_spec.specs.Lease.{state_of}

-- a lease of the vectors, with its flag and its last sync
abbrev pub lease_of : Bool → ℕ → Lease
lease_of revoked sync = record {
  revoked = revoked;
  last_sync = milliseconds sync;
  ttl = seconds 86400;
  grace = seconds 300;
  skew = milliseconds 5000;
  tolerance = milliseconds 5000;
}

-- a margin
abbrev pub margin : ℤ → Margin
margin z = record { 0 = z }

-- 2024-01-15T10:00:00Z, in milliseconds
abbrev pub synced : ℕ
synced = 1705312800000

-- TV-01: five hours after the sync it is active; TV-02: after 24 hours and 2 minutes stale; TV-03: after 24 hours and 10 minutes
-- expired; TV-04: with a sync of 2030-01-15T10:00:00Z it is future on 2024-01-15T15:00:00Z
abbrev pub PublishedVectors : Type 0
PublishedVectors =
    (state_of (lease_of false synced) 1705330800000 ≡ Some (Active (margin (pos 68405000))))
    × (state_of (lease_of false synced) 1705399320000 ≡ Some (Stale (margin (negsuc 114999))))
    × (state_of (lease_of false synced) 1705399800000 ≡ Some Expired)
    × (state_of (lease_of false 1894701600000) 1705330800000 ≡ Some Future)

-- both sides of L − D, of the last active and of the last stale millisecond; the flag comes first; and the limit of the clock
abbrev pub BothSides : Type 0
BothSides =
    (state_of (lease_of false synced) 1705312794999 ≡ Some Future)
    × (state_of (lease_of false synced) 1705312795000 ≡ Some (Active (margin (pos 86410000))))
    × (state_of (lease_of false synced) 1705399205000 ≡ Some (Active (margin (pos 0))))
    × (state_of (lease_of false synced) 1705399205001 ≡ Some (Stale (margin (negsuc 0))))
    × (state_of (lease_of false synced) 1705399505000 ≡ Some (Stale (margin (negsuc 299999))))
    × (state_of (lease_of false synced) 1705399505001 ≡ Some Expired)
    × (state_of (lease_of true synced) 1705312794999 ≡ Some Revoked)
    × (state_of (lease_of true synced) 1705399505001 ≡ Some Revoked)
    × (state_of (lease_of false 4999) 0 ≡ Some (Active (margin (pos 86409999))))
    × (state_of (lease_of false 9007199254740992) 9007199254740992 ≡ Some (Active (margin (pos 86405000))))
    × (state_of (lease_of false 9007199254740993) 9007199254740992 ≡ None)
    × (state_of (lease_of false 9007199254740992) 9007199254740993 ≡ None)
