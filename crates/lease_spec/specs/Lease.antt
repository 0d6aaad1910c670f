-- A lease, its limits, its state at a clock, and its margin. Document 02, §4, after source 001, "State Definitions". L is the last sync,
-- T the ttl, G the grace, D the skew, E the tolerance, and N the clock in milliseconds.
use Rattle.std.specs.Prelude.{Bool, cond, Option, None, Some, ◌&&◌, ℕ, ◌+◌, ◌*◌, pos, ◌-ℤ◌, leb, ltb}
use Rattle.time.specs.declared.Margin.{Margin}
use Rattle.time.specs.Time.{per_second}
use Rattle.lease_spec.specs.declared.Lease.{Lease}
use Rattle.lease_spec.specs.declared.LeaseState.{LeaseState}
use Rattle.lease_spec.specs.declared.LeaseState.TheVariants as states

-- ---- the limits

-- L and N are at most 2^53
abbrev pub latest : ℕ
latest = 9007199254740992

-- T and G are below 2^32
abbrev pub length_end : ℕ
length_end = 4294967296

-- D and E are at most one day
abbrev pub longest_skew : ℕ
longest_skew = 86400000

-- the numbers of a lease are within the limits
unfoldable pub lease_ok : Lease → Bool
lease_ok l =
    leb l.last_sync.0 latest
    && (ltb l.ttl.0 length_end
    && (ltb l.grace.0 length_end && (leb l.skew.0 longest_skew && leb l.tolerance.0 longest_skew)))

-- the clock is within its limit
unfoldable pub clock_ok : ℕ → Bool
clock_ok n = leb n latest

-- ---- the moments at which the state changes

-- the last active millisecond: L + T + E
unfoldable pub last_active : Lease → ℕ
last_active l = l.last_sync.0 + l.ttl.0 * per_second + l.tolerance.0

-- the last stale millisecond: L + T + G + E
unfoldable pub last_stale : Lease → ℕ
last_stale l = l.last_sync.0 + l.ttl.0 * per_second + l.grace.0 * per_second + l.tolerance.0

-- the last sync lies too far after the clock: N < L − D
unfoldable pub is_future : Lease → ℕ → Bool
is_future l n = ltb (n + l.skew.0) l.last_sync.0

-- ---- the state

-- the margin: L + T + E − N
unfoldable pub margin_of : Lease → ℕ → Margin
margin_of l n = record { 0 = pos (last_active l) -ℤ pos n }

-- the state of a lease within the limits, at a clock within its limit: the first of these that applies
unfoldable pub state_within : Lease → ℕ → LeaseState
state_within l n =
    cond l.revoked states.Revoked
    (cond (is_future l n) states.Future
    (cond (leb n (last_active l)) (states.Active (margin_of l n))
    (cond (leb n (last_stale l)) (states.Stale (margin_of l n)) states.Expired)))

-- the state of any lease at any clock; outside the limits there is none
unfoldable pub state_of : Lease → ℕ → Option LeaseState
state_of l n = cond (lease_ok l && clock_ok n) (Some (state_within l n)) None
