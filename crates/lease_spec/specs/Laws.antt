-- What the crates above stand on beyond the promises. A reader of the promises does not need this page.
use Rattle.std.specs.Prelude.{◌≡◌, true, Option, None, Some, Result, Ok, Err, List, ◌∷◌, ◌++◌, ℕ, ◌≤◌}
use Rattle.lease_spec.specs.declared.Lease.{Lease}
use Rattle.lease_spec.specs.declared.Malformed.{Malformed}
use Rattle.lease_spec.specs.Lease.{lease_ok}
use Rattle.lease_spec.specs.Table.{Row, table_bytes, table_ok, find_in}
use Rattle.lease_spec.specs.Promises.{Within, row_with_sync, AreRows}

-- the lease of what was found
abbrev pub lease_in : Result (Option Lease) Malformed → Option Lease
lease_in (Ok o) = o
lease_in (Err e) = None

-- the bytes of allowed rows with different ids are a lease table
abbrev pub BytesTable : Type 0
BytesTable = (rs : List Row) → AreRows rs → table_ok (table_bytes rs) ≡ true

-- rows stay such rows where one gets an older sync
abbrev pub OlderRows : Type 0
OlderRows = (before after : List Row) (r : Row) (older : ℕ) → AreRows (before ++ (r ∷ after)) → older ≤ r.lease.last_sync.0
    → AreRows (before ++ (row_with_sync r older ∷ after))

-- a lease whose numbers pass the tests is within the limits
abbrev pub TestsWithin : Type 0
TestsWithin = (l : Lease) → lease_ok l ≡ true → Within l

-- a lease that is found passes them
abbrev pub FoundWithin : Type 0
FoundWithin = (s id : List ℕ) (l : Lease) → find_in s id ≡ Ok (Some l) → lease_ok l ≡ true
