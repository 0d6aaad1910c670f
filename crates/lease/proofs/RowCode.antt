-- Laws of the rows of a lease table from one of them on (specs/Table.antt of `lease_spec`), in the code's own form. Assumes nothing.
use Rattle.std.proofs.Common.{◌≡◌, ℕ, zero, suc, ◌+◌, ◌-◌, ◌*◌, ◌≤◌, ◌<◌, Bool, true, false, cond, ◌&&◌, ◌||◌, None, Some, List, [], ◌∷◌, length, take, drop, refl, sym, ap, ap₂, ◌∙◌, arith}
use borrow.Author.Tests.{le-leb}
use Rattle.std.proofs.lemmas.Option.{none-some}
use Rattle.octets.specs.Bytes.{same}
use Rattle.octets.proofs.Tests.{and_false}
use Rattle.octets.proofs.PartLaws.{lent_part}
use Rattle.descriptor_spec.specs.Allowed.{id_size}
use Rattle.lease_spec.specs.declared.Lease.{Lease}
use Rattle.lease_spec.specs.Table.{lease_size, Row, has_id, lease_under, lease_at, row_ok, lease_read, row_at, rows_from, rows_ok}

-- ---- the rows

-- the rows from row i on are row i and those after it
pub rows_first : (s : List ℕ) (i n : ℕ) → i < n → rows_from s i (n - i) ≡ row_at s (lease_size * i) ∷ rows_from s (i + 1) (n - (i + 1))
unfolding rows_from
rows_first s i n h = let e : n - i ≡ suc (n - (i + 1)) = omega arith in ap (rows_from s i) e

-- the rows from row i - 1 on are row i - 1 and those from row i on
pub rows_turn : (s : List ℕ) (i n : ℕ) → 0 < i → i ≤ n
    → rows_from s (i - 1) (n - (i - 1)) ≡ row_at s (lease_size * (i - 1)) ∷ rows_from s i (n - i)
rows_turn s i n pos h =
    let e : i - 1 + 1 ≡ i = omega arith in
    rows_first s (i - 1) n (omega arith) ∙ ap (λ (k : ℕ). row_at s (lease_size * (i - 1)) ∷ rows_from s k (n - k)) e

-- no row is left after the last
pub rows_none : (s : List ℕ) (i n : ℕ) → n ≤ i → rows_from s i (n - i) ≡ []
unfolding rows_from
rows_none s i n h = let e : n - i ≡ 0 = omega arith in ap (rows_from s i) e

-- the rows from row 0 on are all n rows
pub rows_all : (s : List ℕ) (i n : ℕ) → i ≡ 0 → rows_from s i (n - i) ≡ rows_from s 0 n
rows_all s i n h = let e : n - i ≡ n = omega arith in ap₂ (rows_from s) h e

-- the part of the table that is lent for the id of the row at a place is that id
lent_id : (s id : List ℕ) (at : ℕ) → same (row_at s at).id id ≡ same (take (at + id_size - at) (drop at s)) id
unfolding row_at
lent_id s id at = ap (λ (x : List ℕ). same x id) (sym (lent_part s at id_size))

-- ---- an id among the rows

-- one of the rows from row i on has the id where row i has it, or one after it
pub id_turn : (s id : List ℕ) (i n : ℕ) → i < n → has_id (rows_from s i (n - i)) id
    ≡ (same (take (lease_size * i + id_size - lease_size * i) (drop (lease_size * i) s)) id || has_id (rows_from s (i + 1) (n - (i + 1))) id)
unfolding has_id
id_turn s id i n h =
    ap (λ (rs : List Row). has_id rs id) (rows_first s i n h)
    ∙ ap (λ (t : Bool). t || has_id (rows_from s (i + 1) (n - (i + 1))) id) (lent_id s id (lease_size * i))

-- no row has it where none is left
pub id_none : (s id : List ℕ) (i n : ℕ) → n ≤ i → has_id (rows_from s i (n - i)) id ≡ false
unfolding has_id
id_none s id i n h = ap (λ (rs : List Row). has_id rs id) (rows_none s i n h)

-- ---- the lease under an id

-- the rows from the first or the last on
pub ok_all : (s : List ℕ) (i n : ℕ) → i ≡ 0 → rows_ok s i (n - i) ≡ rows_ok s 0 n
ok_all s i n h = let e : n - i ≡ n = omega arith in ap₂ (rows_ok s) h e

pub ok_none : (s : List ℕ) (n : ℕ) → rows_ok s n (n - n) ≡ true
unfolding rows_ok
ok_none s n = let e : n - n ≡ 0 = omega arith in ap (rows_ok s n) e

pub under_none : (s id : List ℕ) (n : ℕ) → lease_under (rows_from s n (n - n)) id ≡ None
unfolding lease_under
under_none s id n = ap (λ (rs : List Row). lease_under rs id) (rows_none s n n (omega arith))

-- the rows from row i on may stand where row i may and those after it may
ok_first : (s : List ℕ) (i n : ℕ) → i < n → rows_ok s i (n - i) ≡ (row_ok s (lease_size * i) && rows_ok s (i + 1) (n - (i + 1)))
unfolding rows_ok
ok_first s i n h = let e : n - i ≡ suc (n - (i + 1)) = omega arith in ap (rows_ok s i) e

-- the rows from row i - 1 on may stand where row i - 1 may and those from row i on may
pub ok_turn : (s : List ℕ) (i n : ℕ) → 0 < i → i ≤ n
    → rows_ok s (i - 1) (n - (i - 1)) ≡ (row_ok s (lease_size * (i - 1)) && rows_ok s i (n - i))
ok_turn s i n pos h =
    let e : i - 1 + 1 ≡ i = omega arith in
    ok_first s (i - 1) n (omega arith) ∙ ap (λ (k : ℕ). row_ok s (lease_size * (i - 1)) && rows_ok s k (n - k)) e

-- where one of the rows from row i on may not stand, one of all rows may not
pub ok_back : (s : List ℕ) (i n : ℕ) → i ≤ n → rows_ok s i (n - i) ≡ false → rows_ok s 0 n ≡ false
ok_back s zero n h e = sym (ok_all s 0 n refl) ∙ e
ok_back s (suc i) n h e =
    let next : i + 1 ≡ suc i = omega arith in
    let rest : rows_ok s (i + 1) (n - (i + 1)) ≡ false = ap (λ (k : ℕ). rows_ok s k (n - k)) next ∙ e in
    ok_back s i n (omega arith)
    (ok_first s i n (omega arith) ∙ ap (λ (t : Bool). row_ok s (lease_size * i) && t) rest ∙ and_false (row_ok s (lease_size * i)))

-- what is read where 64 bytes are there
pub read_inside : (s : List ℕ) (at : ℕ) → at + lease_size ≤ length s
    → lease_read s at ≡ cond (row_ok s at) (Some (lease_at s at)) None
unfolding lease_read
read_inside s at h = rw (le-leb (at + lease_size) (length s) h)

-- where no lease is read at row i - 1, one of all rows may not stand
pub none_bad : (s : List ℕ) (i n : ℕ) → 0 < i → i ≤ n → lease_size * n ≤ length s → lease_read s (lease_size * (i - 1)) ≡ None
    → rows_ok s 0 n ≡ false
none_bad s i n pos h room e =
    let at = lease_size * (i - 1) in
    let bad : row_ok s at ≡ false = go (row_ok s at) (lease_at s at) (sym (read_inside s at (omega arith)) ∙ e) in
    ok_back s (i - 1) n (omega arith) (ok_turn s i n pos h ∙ rw bad)
  where
    go : (t : Bool) (l : Lease) → cond t (Some l) None ≡ None → t ≡ false
    go true l f = absurd (none-some l (sym f))
    go false l f = refl

-- the lease under the id is that of row i - 1 where this has the id, else the one under it in the rows after it
pub under_turn : (s id : List ℕ) (i n : ℕ) → 0 < i → i ≤ n → lease_under (rows_from s (i - 1) (n - (i - 1))) id
    ≡ cond (same (take (lease_size * (i - 1) + id_size - lease_size * (i - 1)) (drop (lease_size * (i - 1)) s)) id)
    (Some (lease_at s (lease_size * (i - 1)))) (lease_under (rows_from s i (n - i)) id)
unfolding lease_under row_at
under_turn s id i n pos h =
    ap (λ (rs : List Row). lease_under rs id) (rows_turn s i n pos h)
    ∙ ap (λ (t : Bool). cond t (Some (lease_at s (lease_size * (i - 1)))) (lease_under (rows_from s i (n - i)) id))
    (lent_id s id (lease_size * (i - 1)))

-- what a search goes by
pub ruleset search_laws = (ok_none, under_none, ok_turn, under_turn, read_inside, ok_all, rows_all)
