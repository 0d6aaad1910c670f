-- The laws of specs/Laws.antt, proved. Assumes nothing.
use mathlib.Core.Path.{◌≡◌, refl, ap, ◌∙◌, subst}
use mathlib.Core.Logic.{inl, inr}
use mathlib.Core.Bool.{Bool, true, false, cond, ◌&&◌}
use mathlib.Core.List.{List, [], ◌∷◌, ◌++◌}
use Prim.Native.Nat.{ℕ, zero, suc, ◌+◌, ◌*◌, ◌/◌, ◌%◌, ◌≤◌}
use native.Mathlib.Omega.{arith}
use lib.ListN.{length}
use lib.Dec.{leb, eqb}
use Rattle.std.proofs.Common.{Some, Ok, Err}
use Rattle.std.proofs.lemmas.Option.{same_Some, none-some}
use Rattle.octets.specs.Bytes.{same}
use Rattle.octets.specs.Number.{number_at}
use Rattle.octets.proofs.Tests.{and_left, and_right}
use Rattle.lease_spec.specs.declared.Lease.{Lease}
use Rattle.lease_spec.specs.Lease.{lease_ok}
use Rattle.lease_spec.specs.Table.{Row, lease_size, flag_place, flag_width, zero_place, zero_width, lease_at, row_ok, row_at, rows_from}
use Rattle.lease_spec.specs.Table.{rows_of, lease_under, rows_ok, ids_differ, table_ok, malformed, find_in}
use Rattle.lease_spec.specs.Promises.{row_with_sync, Allowed, IsRow}
use Rattle.lease_spec.specs.Laws.{lease_in, BytesTable, OlderRows, TestsWithin, FoundWithin}
use Rattle.lease_spec.proofs.StateLaws.{ok_within}
use Rattle.lease_spec.proofs.TableLaws.{table_ok_lem}

-- `BytesTable`
pub bytes_table : BytesTable
bytes_table = table_ok_lem

-- ---- a row with an older sync

-- a row with an older last sync is allowed where the row is
older_allowed : (r : Row) (older : ℕ) → Allowed r → older ≤ r.lease.last_sync.0 → Allowed (row_with_sync r older)
older_allowed r older a h =
    let w = a.within in
    record {
      size = a.size;
      bytes = a.bytes;
      within = record { sync = omega (arith, w.sync); ttl = w.ttl; grace = w.grace; skew = w.skew; tolerance = w.tolerance };
    }

-- a row among those with the older one has the id of one among the others
older_in : (before after : List Row) (r : Row) (older : ℕ) (x : Row) → IsRow x (before ++ (row_with_sync r older ∷ after))
    → (y : Row) × IsRow y (before ++ (r ∷ after)) × (y.id ≡ x.id)
older_in [] after r older x (inl e) = (r, inl refl, ap (λ (y : Row). y.id) e)
older_in [] after r older x (inr i) = (x, inr i, refl)
older_in (b ∷ before) after r older x (inl e) = (b, inl refl, ap (λ (y : Row). y.id) e)
older_in (b ∷ before) after r older x (inr i) = let w = older_in before after r older x i in (w.0, inr w.1, w.2)

-- `OlderRows`
pub older_rows : OlderRows
older_rows [] after r older a h = (older_allowed r older a.0 h, a.1, a.2)
older_rows (b ∷ before) after r older a h = (
  a.0,
  λ x i e. let w = older_in before after r older x i in a.1 w.0 w.1 (w.2 ∙ e),
  older_rows before after r older a.2 h,
)

-- ---- a lease that is found

-- `TestsWithin`
pub tests_within : TestsWithin
tests_within = ok_within

-- the lease of a row that may stand at a place is within the limits
row_within : (s : List ℕ) (at : ℕ) → row_ok s at ≡ true → lease_ok (lease_at s at) ≡ true
unfolding row_ok
row_within s at e =
    let zeros = eqb (number_at s (at + zero_place) zero_width) 0 in
    and_right zeros (lease_ok (lease_at s at)) (and_right (leb (number_at s (at + flag_place) flag_width) 1) (zeros && lease_ok (lease_at s at)) e)

-- a lease that is found among rows that may stand is within the limits
under_within : (s : List ℕ) (i n : ℕ) (id : List ℕ) (l : Lease) → rows_ok s i n ≡ true → lease_under (rows_from s i n) id ≡ Some l
    → lease_ok l ≡ true
unfolding rows_ok rows_from lease_under row_at
under_within s i zero id l e f = absurd (none-some l f)
under_within s i (suc n) id l e f =
    go (same (row_at s (lease_size * i)).id id)
    (under_within s (i + 1) n id l (and_right (row_ok s (lease_size * i)) (rows_ok s (i + 1) n) e)) f
  where
    go : (b : Bool) → (lease_under (rows_from s (i + 1) n) id ≡ Some l → lease_ok l ≡ true)
        → cond b (Some (lease_at s (lease_size * i))) (lease_under (rows_from s (i + 1) n) id) ≡ Some l → lease_ok l ≡ true
    go true k g =
        subst (λ (x : Lease). lease_ok x ≡ true) (same_Some (lease_at s (lease_size * i)) l g)
        (row_within s (lease_size * i) (and_left (row_ok s (lease_size * i)) (rows_ok s (i + 1) n) e))
    go false k g = k g

-- `FoundWithin`
pub found_within : FoundWithin
unfolding find_in table_ok rows_of
found_within s id l e = go (table_ok s) refl e
  where
    go : (t : Bool) → table_ok s ≡ t → cond t (Ok (lease_under (rows_of s) id)) (Err malformed) ≡ Ok (Some l) → lease_ok l ≡ true
    go true k f =
        let n = length s / lease_size in
        let both = and_right (eqb (length s % lease_size) 0) (rows_ok s 0 n && ids_differ (rows_of s)) k in
        let ok = and_left (rows_ok s 0 n) (ids_differ (rows_of s)) both in
        under_within s 0 n id l ok (ap lease_in f)
    go false k f = absurd (none-some l (ap lease_in f))
