-- The lease table: the bytes of rows, the rows of bytes, and the lease under an id (specs/Table.antt). Assumes nothing.
use mathlib.Core.Path.{◌≡◌, refl, sym, ap, ap₂, ◌∙◌, subst}
use mathlib.Core.Logic.{inl, inr, ⊎_elim}
use mathlib.Core.Bool.{Bool, true, false, not, cond, ◌&&◌, false≢true, true≢false}
use mathlib.Core.List.{List, [], ◌∷◌, ◌++◌}
use Prim.Native.Nat.{ℕ, zero, suc, ◌+◌, ◌*◌, ◌/◌, ◌%◌, ◌≤◌}
use native.Mathlib.Omega.{arith}
use lib.ListN.{length, take, drop, length-append}
use lib.Seq.{take-add, take_at, take_all, drop_at, drop-drop}
use lib.Dec.{eqb}
use borrow.Author.Tests.{eqb-true, not-true}
use Rattle.std.proofs.Common.{Option, None, Some, Result, Ok, Err, is_ok}
use Rattle.octets.specs.Bytes.{AreBytes, part, same}
use Rattle.octets.proofs.SameLaws.{same_equal, equal_same, not_same}
use Rattle.octets.proofs.Tests.{by_cond, and_left, and_right, and_both, or_no_left, or_no_right}
use Rattle.lease_spec.specs.declared.Lease.{Lease}
use Rattle.lease_spec.specs.declared.Malformed.{Malformed}
use Rattle.lease_spec.specs.Table.{Row, has_id, ids_differ, lease_under, lease_size, row_bytes, table_bytes, row_ok, row_at, rows_from}
use Rattle.lease_spec.specs.Table.{rows_of, rows_ok, table_ok, malformed, find_in}
use Rattle.lease_spec.specs.Promises.{IsRow, AreRows, TableLaidOut, TableExactly, RowsBack, UnderExactly, FoundExactly}
use Rattle.lease_spec.specs.Promises.{MissingExactly, MalformedExactly}
use Rattle.lease_spec.proofs.RowLaws.{row_length_lem, row_there, there_row}

-- ---- ids

-- where the test finds no row with the id there is none
none_has_lem : (rs : List Row) (id : List ℕ) → has_id rs id ≡ false → (r : Row) → IsRow r rs → r.id ≡ id → ⊥
unfolding has_id
none_has_lem [] id e r i k = i
none_has_lem (x ∷ xs) id e r (inl i) k =
    let found : same x.id id ≡ true = equal_same x.id id (ap (λ (y : Row). y.id) i ∙ k) in
    false≢true (sym (or_no_left (same x.id id) (has_id xs id) e) ∙ found)
none_has_lem (x ∷ xs) id e r (inr i) k = none_has_lem xs id (or_no_right (same x.id id) (has_id xs id) e) r i k

-- and where there is none it finds none
has_none : (rs : List Row) (id : List ℕ) → ((r : Row) → IsRow r rs → r.id ≡ id → ⊥) → has_id rs id ≡ false
unfolding has_id
has_none [] id h = refl
has_none (x ∷ xs) id h = rw (not_same x.id id (h x (inl refl)), has_none xs id (λ r i. h r (inr i)))

-- rows of which no two have one id pass the test
ids_differ_lem : (rs : List Row) → AreRows rs → ids_differ rs ≡ true
unfolding ids_differ
ids_differ_lem [] a = refl
ids_differ_lem (r ∷ rs) a = and_both (not (has_id rs r.id)) (ids_differ rs) (ap not (has_none rs r.id a.1)) (ids_differ_lem rs a.2)

-- ---- the bytes of rows

-- there are 64 for each row
table_length : (rs : List Row) → AreRows rs → length (table_bytes rs) ≡ lease_size * length rs
unfolding table_bytes
table_length [] a = refl
table_length (r ∷ rs) a =
    omega (arith, length-append (row_bytes r) (table_bytes rs), row_length_lem r a.0.size, table_length rs a.2)

-- where the bytes of rows stand from row i on, those rows may stand there, and are read
rows_there : (s : List ℕ) (i : ℕ) (rs : List Row) → AreRows rs → drop (lease_size * i) s ≡ table_bytes rs
    → (rows_ok s i (length rs) ≡ true) × (rows_from s i (length rs) ≡ rs)
unfolding rows_ok rows_from table_bytes part
rows_there s i [] a e = (refl, refl)
rows_there s i (r ∷ rs) a e =
    let at = lease_size * i in
    let size = row_length_lem r a.0.size in
    let next : lease_size * (i + 1) ≡ at + lease_size = omega arith in
    let row = row_there s at r a.0 (ap (take lease_size) e ∙ take_at (row_bytes r) (table_bytes rs) lease_size size) in
    let rest : drop (lease_size * (i + 1)) s ≡ table_bytes rs
    = ap (λ (k : ℕ). drop k s) next ∙ sym (drop-drop lease_size at s) ∙ ap (drop lease_size) e
    ∙ drop_at (row_bytes r) (table_bytes rs) lease_size size in
    let more = rows_there s (i + 1) rs a.2 rest in (
      and_both (row_ok s at) (rows_ok s (i + 1) (length rs)) row.0 more.0,
      ap₂ (λ (x : Row) (xs : List Row). x ∷ xs) row.1 more.1,
    )

-- the bytes of rows have so many rows
table_count : (rs : List Row) → AreRows rs → length (table_bytes rs) / lease_size ≡ length rs
table_count rs a = omega (arith, table_length rs a)

-- `TableLaidOut`
pub table_laid_out : TableLaidOut
unfolding table_bytes
table_laid_out = (refl, λ r rs. refl)

-- `RowsBack`
pub rows_back : RowsBack
unfolding rows_of
rows_back rs a = ap (rows_from (table_bytes rs) 0) (table_count rs a) ∙ (rows_there (table_bytes rs) 0 rs a refl).1

-- the bytes of rows are a lease table
pub table_ok_lem : (rs : List Row) → AreRows rs → table_ok (table_bytes rs) ≡ true
unfolding table_ok
table_ok_lem rs a =
    let s = table_bytes rs in
    let whole : length s % lease_size ≡ 0 = omega (arith, table_length rs a) in
    rw (whole, table_count rs a, (rows_there s 0 rs a refl).0, rows_back rs a, ids_differ_lem rs a)

-- ---- the rows of bytes

-- a part and the part after it
part_add : (s : List ℕ) (at n m : ℕ) → part s at (n + m) ≡ part s at n ++ part s (at + n) m
unfolding part
part_add s at n m = take-add n m (drop at s) ∙ ap (λ (x : List ℕ). take n (drop at s) ++ take m x) (drop-drop n at s)

-- n rows from row i on, each of which may stand, are allowed, and are written as the bytes that they stand in
rows_read : (s : List ℕ) (i n : ℕ) → AreBytes s → lease_size * (i + n) ≤ length s → rows_ok s i n ≡ true → ids_differ (rows_from s i n) ≡ true
    → AreRows (rows_from s i n) × (part s (lease_size * i) (lease_size * n) ≡ table_bytes (rows_from s i n))
unfolding rows_ok rows_from table_bytes ids_differ part
rows_read s i zero b h e d = (tt, refl)
rows_read s i (suc n) b h e d =
    let at = lease_size * i in
    let rest = rows_from s (i + 1) n in
    let size : lease_size * suc n ≡ lease_size + lease_size * n = omega arith in
    let next : at + lease_size ≡ lease_size * (i + 1) = omega arith in
    let row = there_row s at b (omega arith) (and_left (row_ok s at) (rows_ok s (i + 1) n) e) in
    let id = (row_at s at).id in
    let more = rows_read s (i + 1) n b (omega arith) (and_right (row_ok s at) (rows_ok s (i + 1) n) e)
    (and_right (not (has_id rest id)) (ids_differ rest) d) in (
      (row.0, none_has_lem rest id (not-true (has_id rest id) (and_left (not (has_id rest id)) (ids_differ rest) d)), more.0),
      ap (part s at) size ∙ part_add s at lease_size (lease_size * n)
          ∙ ap₂ (λ (x y : List ℕ). x ++ y) row.1 (ap (λ (k : ℕ). part s k (lease_size * n)) next ∙ more.1),
    )

-- `TableExactly`
pub table_exactly : TableExactly
unfolding table_ok rows_of part
table_exactly s b = (
  λ e.
      let n = length s / lease_size in
      let whole = eqb (length s % lease_size) 0 in
      let full : length s % lease_size ≡ 0 = eqb-true (length s % lease_size) 0 (and_left whole _ e) in
      let f = and_right whole (rows_ok s 0 n && ids_differ (rows_from s 0 n)) e in
      let p = rows_read s 0 n b (omega arith) (and_left (rows_ok s 0 n) _ f) (and_right (rows_ok s 0 n) _ f) in
      (rows_from s 0 n, p.0, sym (take_all (lease_size * n) s (omega arith)) ∙ p.1),
  λ p. ap table_ok p.2 ∙ table_ok_lem p.0 p.1,
)

-- ---- the lease under an id

-- what is so where x is found under the id
abbrev Finds : List Row → List ℕ → Option Lease → Type 0
Finds rs id (Some l) = (r : Row) × IsRow r rs × (r.id ≡ id) × (r.lease ≡ l)
Finds rs id None = (r : Row) → IsRow r rs → r.id ≡ id → ⊥

-- it is so of what is found among the rows
finds : (rs : List Row) (id : List ℕ) → Finds rs id (lease_under rs id)
unfolding lease_under
finds [] id = λ r i k. i
finds (x ∷ xs) id = by_cond (Finds (x ∷ xs) id) (same x.id id)
    (λ e. (x, inl refl, same_equal x.id id e, refl)) (λ e. go e (lease_under xs id) (finds xs id))
  where
    go : same x.id id ≡ false → (o : Option Lease) → Finds xs id o → Finds (x ∷ xs) id o
    go e (Some l) p = (p.0, inr p.1, p.2, p.3)
    go e None h = λ r i k.
        ⊎_elim (λ here. false≢true (sym e ∙ equal_same x.id id (ap (λ (y : Row). y.id) here ∙ k))) (λ there. h r there k) i

-- the lease of a row is found under its id
is_found : (rs : List Row) (r : Row) → AreRows rs → IsRow r rs → lease_under rs r.id ≡ Some r.lease
unfolding lease_under
is_found [] r a i = absurd i
is_found (x ∷ xs) r a (inl i) =
    let here : same x.id r.id ≡ true = equal_same x.id r.id (ap (λ (y : Row). y.id) i) in
    ap (λ (t : Bool). cond t (Some x.lease) (lease_under xs r.id)) here ∙ ap (λ (y : Row). Some y.lease) i
is_found (x ∷ xs) r a (inr i) =
    let other : same x.id r.id ≡ false = not_same x.id r.id (λ k. a.1 r i (sym k)) in
    ap (λ (t : Bool). cond t (Some x.lease) (lease_under xs r.id)) other ∙ is_found xs r a.2 i

-- where no row has the id none is found
is_missing : (rs : List Row) (id : List ℕ) → ((r : Row) → IsRow r rs → r.id ≡ id → ⊥) → lease_under rs id ≡ None
unfolding lease_under
is_missing [] id h = refl
is_missing (x ∷ xs) id h = rw (not_same x.id id (h x (inl refl))) (is_missing xs id (λ r i. h r (inr i)))

-- `UnderExactly`
pub under_exactly : UnderExactly
under_exactly rs id a = (
  λ l. (
    λ e. subst (Finds rs id) e (finds rs id),
    λ p. ap (lease_under rs) (sym p.2) ∙ is_found rs p.0 a p.1 ∙ ap Some p.3,
  ),
  (λ e. subst (Finds rs id) e (finds rs id), is_missing rs id),
)

-- the bytes of rows have under an id what the rows have
find_rows : (rs : List Row) (id : List ℕ) → AreRows rs → find_in (table_bytes rs) id ≡ Ok (lease_under rs id)
unfolding find_in
find_rows rs id a = rw (table_ok_lem rs a, rows_back rs a)

-- so the rows have what is found in their bytes
under_found : (rs : List Row) (id : List ℕ) (o : Option Lease) → AreRows rs → find_in (table_bytes rs) id ≡ Ok o → lease_under rs id ≡ o
under_found rs id o a e = let f : ◌≡◌ {A = Result (Option Lease) Malformed} (Ok (lease_under rs id)) (Ok o) = sym (find_rows rs id a) ∙ e in cc

-- `FoundExactly`
pub found_exactly : FoundExactly
found_exactly rs id l a =
    let p = (under_exactly rs id a).0 l in
    (λ e. p.0 (under_found rs id (Some l) a e), λ r. find_rows rs id a ∙ ap Ok (p.1 r))

-- `MissingExactly`
pub missing_exactly : MissingExactly
missing_exactly rs id a =
    let p = (under_exactly rs id a).1 in
    (λ e. p.0 (under_found rs id None a e), λ h. find_rows rs id a ∙ ap Ok (p.1 h))

-- `MalformedExactly`
pub malformed_exactly : MalformedExactly
unfolding find_in
malformed_exactly s id = (go (table_ok s), λ e. rw e)
  where
    go : (t : Bool) → cond t (Ok (lease_under (rows_of s) id)) (Err malformed) ≡ Err malformed → t ≡ false
    go true e = absurd (true≢false (ap is_ok e))
    go false e = refl
