-- A request's arguments, and which are well formed. Document 01, "A request, in this order", as document 02 §2 and §4 amend it.
use Rattle.std.specs.Prelude.{Bool, ◌&&◌, Option, List, ℕ, ◌%◌, length, leb, eqb}
use Rattle.resource_spec.specs.Identifier.{is_fay, is_terminal}
use Rattle.resource_spec.specs.Text.{resource_ok}
use Rattle.time.specs.declared.Seconds.{Seconds}
use Rattle.time.specs.declared.Milliseconds.{Milliseconds}
use Rattle.time.specs.Time.{whole_seconds}
use Rattle.steps.specs.declared.Window.{Window}
use Rattle.steps.specs.Key.{is_verdict}
use Rattle.descriptor_spec.specs.Allowed.{id_size}
use Rattle.descriptor_spec.specs.Modes.{highest_mode}
use Rattle.revocation_spec.specs.Revocation.{is_revoked, revocation_size, revocations_of}
use Rattle.lease_spec.specs.declared.Lease.{Lease}
use Rattle.lease_spec.specs.Lease.{clock_ok}
use Rattle.lease_spec.specs.Table.{lease_under, rows_of, table_ok}

-- the arguments of a request but for the image: the descriptor's id, the fay, the terminal and the resource that ask; the mode; the
-- clock, in milliseconds, and the host's session length, in seconds; the bytes of the revocation list and of the lease table; the host's
-- verdict on the signature, and the key's window
pub record Request : Type 0 where
  pub id : List ℕ
  pub fay : List ℕ
  pub terminal : List ℕ
  pub resource : List ℕ
  pub mode : ℕ
  pub clock : Milliseconds
  pub session : Seconds
  pub revoked : List ℕ
  pub leases : List ℕ
  pub verdict : ℕ
  pub window : Window

-- the same, from the arguments in the order of the call
abbrev pub request_of :
    List ℕ → List ℕ → List ℕ → List ℕ → ℕ → Milliseconds → Seconds → List ℕ → List ℕ → ℕ → Window → Request
request_of id fay terminal resource mode clock session revoked leases verdict window =
    record {
      id = id;
      fay = fay;
      terminal = terminal;
      resource = resource;
      mode = mode;
      clock = clock;
      session = session;
      revoked = revoked;
      leases = leases;
      verdict = verdict;
      window = window;
    }

-- the clock in whole seconds, rounded down
abbrev pub seconds_of : Request → ℕ
seconds_of q = (whole_seconds q.clock).0

-- the arguments but for the clock and the lease table are well formed: the verdict, the mode, the id's size, the fay, terminal and
-- resource ids, and the revocation list's size
unfoldable pub arguments_ok : Request → Bool
arguments_ok q =
    is_verdict q.verdict
    && (leb q.mode highest_mode
    && (eqb (length q.id) id_size
    && (is_fay q.fay && (is_terminal q.terminal && (resource_ok q.resource && eqb (length q.revoked % revocation_size) 0)))))

-- the arguments are well formed: those, the clock is within its limit, and the bytes of the lease table are one
unfoldable pub well_formed : Request → Bool
well_formed q = arguments_ok q && (clock_ok q.clock.0 && table_ok q.leases)

-- a row of the revocation list revokes the id now
abbrev pub revoked_now : Request → Bool
revoked_now q = is_revoked (revocations_of q.revoked) q.id (seconds_of q)

-- the lease that the lease table has under the id
abbrev pub lease_for : Request → Option Lease
lease_for q = lease_under (rows_of q.leases) q.id
