-- The rows of a list of bytes, and the bytes of rows (specs/Revocation.antt). Assumes nothing.
use mathlib.Core.Path.{◌≡◌, refl, sym, ap, ap₂, ◌∙◌}
use mathlib.Core.Logic.{inl, inr}
use mathlib.Core.Bool.{Bool, true, false, ◌&&◌, ◌||◌}
use mathlib.Core.List.{List, [], ◌∷◌, ◌++◌, append_assoc}
use Prim.Native.Nat.{ℕ, zero, suc, ◌+◌, ◌*◌, ◌/◌, ◌%◌, ◌^◌, ◌≤◌, ◌<◌}
use native.Mathlib.Nat.{add-zero, zero-add, add_assoc}
use native.Mathlib.Omega.{arith}
use lib.ListN.{length, take, drop, get_or, length-append}
use lib.Seq.{take-add, take_at, take_all, drop_at, drop-drop, get_or-drop}
use lib.Dec.{leb}
use Rattle.octets.specs.Bytes.{AreBytes, part, same}
use Rattle.octets.specs.Number.{big_endian, number_at}
use Rattle.octets.proofs.NumberLaws.{length_big_endian, number_bytes, bytes_number, number_keeps}
use Rattle.octets.proofs.PartLaws.{part_part}
use Rattle.octets.proofs.Tests.{or_assoc, or_true, or_false}
use Rattle.descriptor_spec.specs.Allowed.{id_size}
use Rattle.revocation_spec.specs.declared.Revocation.{Revocation}
use Rattle.revocation_spec.specs.Revocation.{revokes, is_revoked, revocation_size, moment_width, revocation_at, revocations_from}
use Rattle.revocation_spec.specs.Revocation.{revocations_of, revocation_bytes, list_bytes}
use Rattle.revocation_spec.specs.Promises.{IsRow, RowsOfBytes, BytesExactly, RowsJoined, RowMore, AllFit, BytesAndBack}
use Rattle.revocation_spec.specs.Promises.{FormsAgree}
use Rattle.revocation_spec.proofs.RowLaws.{revoked_exactly}

-- ---- the rows of a list of bytes

-- as many as are asked for
length_from : (s : List ℕ) (i n : ℕ) → length (revocations_from s i n) ≡ n
unfolding revocations_from
length_from s i zero = refl
length_from s i (suc n) = ap suc (length_from s (i + 1) n)

-- row j after row i
row_from : (s : List ℕ) (i n j : ℕ) (none : Revocation) → j < n
    → get_or (revocations_from s i n) j none ≡ revocation_at s (revocation_size * (i + j))
unfolding revocations_from
row_from s i zero j none h = absurd (omega arith)
row_from s i (suc n) zero none h =
    let e : revocation_size * i ≡ revocation_size * (i + 0) = omega arith in
    ap (revocation_at s) e
row_from s i (suc n) (suc j) none h =
    let e : revocation_size * ((i + 1) + j) ≡ revocation_size * (i + suc j) = omega arith in
    row_from s (i + 1) n j none (omega arith) ∙ ap (revocation_at s) e

-- `RowsOfBytes`
pub rows_of_bytes : RowsOfBytes
unfolding revocations_of revocation_at
rows_of_bytes s = (
  length_from s 0 (length s / revocation_size),
  λ i none h.
      let e : revocation_size * (0 + i) ≡ revocation_size * i = omega arith in
      row_from s 0 (length s / revocation_size) i none h ∙ ap (revocation_at s) e,
)

-- a row at a place of a list is one of its rows
place_row : (rows : List Revocation) (i : ℕ) (none : Revocation) → i < length rows → IsRow (get_or rows i none) rows
place_row [] i none h = absurd (omega arith)
place_row (x ∷ xs) zero none h = inl refl
place_row (x ∷ xs) (suc i) none h = inr (place_row xs i none (omega arith))

-- and one of its rows is at a place
row_place_lem : (rows : List Revocation) (r : Revocation) → IsRow r rows → (i : ℕ) × (i < length rows) × (get_or rows i r ≡ r)
row_place_lem [] r i = absurd i
row_place_lem (x ∷ xs) r (inl e) = (0, omega arith, e)
row_place_lem (x ∷ xs) r (inr i) = let p = row_place_lem xs r i in (suc p.0, omega (arith, p.1), p.2)

-- `BytesExactly`
pub bytes_exactly : BytesExactly
bytes_exactly s id clock = (
  λ e.
      let p = (revoked_exactly (revocations_of s) id clock).0 e in
      let w = row_place_lem (revocations_of s) p.0 p.1 in
      let h : w.0 < length s / 24 = omega (arith, w.1, (rows_of_bytes s).0) in
      let k = sym ((rows_of_bytes s).1 w.0 p.0 h) ∙ w.2 in
      (w.0, omega (arith, h), ap (λ (r : Revocation). r.id) k ∙ p.2, omega (arith, p.3, ap (λ (r : Revocation). r.moment) k)),
  λ w.
      let none : Revocation = record { id = id; moment = clock } in
      let h : w.0 < length s / 24 = omega (arith, w.1) in
      let k = (rows_of_bytes s).1 w.0 none h in
      (revoked_exactly (revocations_of s) id clock).1 (
        get_or (revocations_of s) w.0 none,
        place_row (revocations_of s) w.0 none (omega (arith, h, (rows_of_bytes s).0)),
        ap (λ (r : Revocation). r.id) k ∙ w.2,
        omega (arith, w.3, ap (λ (r : Revocation). r.moment) k),
      ),
)

-- ---- two lists of bytes, one after the other

-- a number that stands after p bytes
number_later : (s : List ℕ) (p from w : ℕ) → number_at s (p + from) w ≡ number_at (drop p s) from w
unfolding number_at
number_later s p from zero = refl
number_later s p from (suc w) = rw (number_later s p from w, get_or-drop, add_assoc p from w)

-- a row that stands after p bytes
row_later : (s : List ℕ) (p at : ℕ) → revocation_at s (p + at) ≡ revocation_at (drop p s) at
unfolding revocation_at part
row_later s p at = ap₂ (λ (a : List ℕ) (m : ℕ). record { id = a; moment = m })
    (ap (take id_size) (sym (drop-drop at p s)))
    (ap (λ (k : ℕ). number_at s k moment_width) (add_assoc p at id_size) ∙ number_later s p (at + id_size) moment_width)

-- a part of the first of two lists
part_front : (s t : List ℕ) (at n : ℕ) → at + n ≤ length s → part (s ++ t) at n ≡ part s at n
unfolding part
part_front s t at n h =
    let e : part (s ++ t) 0 (length s) ≡ s = take_at s t (length s) refl in
    let k : at ≡ 0 + at = omega arith in
    ap (λ (p : ℕ). part (s ++ t) p n) k ∙ sym (part_part (s ++ t) 0 (length s) at n h) ∙ ap (λ (x : List ℕ). part x at n) e

-- a row of the first of two lists
row_front : (s t : List ℕ) (at : ℕ) → at + revocation_size ≤ length s → revocation_at (s ++ t) at ≡ revocation_at s at
unfolding revocation_at
row_front s t at h = ap₂ (λ (a : List ℕ) (m : ℕ). record { id = a; moment = m })
    (part_front s t at id_size (omega arith))
    (number_keeps (s ++ t) s (at + id_size) moment_width (part_front s t (at + id_size) moment_width (omega arith)))

-- rows of the first of two lists
rows_front : (s t : List ℕ) (i n : ℕ) → revocation_size * (i + n) ≤ length s → revocations_from (s ++ t) i n ≡ revocations_from s i n
unfolding revocations_from
rows_front s t i zero h = refl
rows_front s t i (suc n) h = ap₂ (λ (r : Revocation) (rs : List Revocation). r ∷ rs)
    (row_front s t (revocation_size * i) (omega arith)) (rows_front s t (i + 1) n (omega arith))

-- rows of the second, where the first has k
rows_back : (s t : List ℕ) (k i n : ℕ) → length s ≡ revocation_size * k → revocations_from (s ++ t) (k + i) n ≡ revocations_from t i n
unfolding revocations_from
rows_back s t k i zero h = refl
rows_back s t k i (suc n) h =
    let at : revocation_size * (k + i) ≡ length s + revocation_size * i = omega arith in
    let more : (k + i) + 1 ≡ k + (i + 1) = omega arith in
    ap₂ (λ (r : Revocation) (rs : List Revocation). r ∷ rs)
    (ap (revocation_at (s ++ t)) at ∙ row_later (s ++ t) (length s) (revocation_size * i)
    ∙ ap (λ (x : List ℕ). revocation_at x (revocation_size * i)) (drop_at s t (length s) refl))
    (ap (λ (j : ℕ). revocations_from (s ++ t) j n) more ∙ rows_back s t k (i + 1) n h)

-- n rows and m more
rows_add : (s : List ℕ) (i n m : ℕ) → revocations_from s i (n + m) ≡ revocations_from s i n ++ revocations_from s (i + n) m
unfolding revocations_from
rows_add s i zero m = rw (zero-add m, add-zero i)
rows_add s i (suc n) m =
    let more : (i + 1) + n ≡ i + suc n = omega arith in
    let all : suc n + m ≡ suc (n + m) = omega arith in
    ap (revocations_from s i) all
    ∙ ap (λ (rs : List Revocation). revocation_at s (revocation_size * i) ∷ rs)
    (rows_add s (i + 1) n m ∙ ap (λ (j : ℕ). revocations_from s (i + 1) n ++ revocations_from s j m) more)

-- `RowsJoined`
pub rows_joined : RowsJoined
unfolding revocations_of
rows_joined s t h =
    let k = length s / revocation_size in
    let m = length t / revocation_size in
    let whole : length s ≡ revocation_size * k = omega arith in
    let count : length (s ++ t) / revocation_size ≡ k + m = simp length-append (omega arith) in
    let begin : 0 + k ≡ k + 0 = omega arith in
    ap (revocations_from (s ++ t) 0) count
    ∙ rows_add (s ++ t) 0 k m
    ∙ ap₂ (λ (xs ys : List Revocation). xs ++ ys) (rows_front s t 0 k (omega arith))
    (ap (λ (j : ℕ). revocations_from (s ++ t) j m) begin ∙ rows_back s t k 0 m whole)

-- two lists revoke what either revokes
revoked_joined : (xs ys : List Revocation) (id : List ℕ) (clock : ℕ)
    → is_revoked (xs ++ ys) id clock ≡ (is_revoked xs id clock || is_revoked ys id clock)
unfolding is_revoked
revoked_joined [] ys id clock = refl
revoked_joined (x ∷ xs) ys id clock =
    ap (λ (b : Bool). revokes x id clock || b) (revoked_joined xs ys id clock)
    ∙ or_assoc (revokes x id clock) (is_revoked xs id clock) (is_revoked ys id clock)

-- 24 bytes revoke what their row revokes
one_revoked : (row id : List ℕ) (clock : ℕ) → length row ≡ 24
    → is_revoked (revocations_of row) id clock ≡ (same (part row 0 16) id && leb (number_at row 16 8) clock)
unfolding is_revoked revokes revocations_of revocations_from revocation_at
one_revoked row id clock h =
    let one : length row / 24 ≡ 1 = omega arith in
    ap (λ (n : ℕ). is_revoked (revocations_from row 0 n) id clock) one ∙ or_false (same (part row 0 16) id && leb (number_at row 16 8) clock)

-- the test in the middle of three may stand last
or_last : (a b c : Bool) → (a || (b || c)) ≡ ((a || c) || b)
or_last true b c = refl
or_last false true c = sym (or_true c)
or_last false false true = refl
or_last false false false = refl

-- the bytes s, each of which is in a row, and then the bytes t revoke what either revoke
bytes_joined : (s t id : List ℕ) (clock : ℕ) → length s % 24 ≡ 0
    → is_revoked (revocations_of (s ++ t)) id clock ≡ (is_revoked (revocations_of s) id clock || is_revoked (revocations_of t) id clock)
bytes_joined s t id clock h =
    ap (λ (x : List Revocation). is_revoked x id clock) (rows_joined s t h) ∙ revoked_joined (revocations_of s) (revocations_of t) id clock

-- `RowMore`
pub row_more : RowMore
row_more before row after id clock h l =
    let whole : length row % 24 ≡ 0 = omega arith in
    let x = is_revoked (revocations_of before) id clock in
    let y = same (part row 0 16) id && leb (number_at row 16 8) clock in
    let z = is_revoked (revocations_of after) id clock in
    bytes_joined before (row ++ after) id clock h
    ∙ ap (λ (b : Bool). x || b) (bytes_joined row after id clock whole ∙ ap (λ (b : Bool). b || z) (one_revoked row id clock l))
    ∙ or_last x y z
    ∙ ap (λ (b : Bool). b || y) (sym (bytes_joined before after id clock h))

-- ---- the bytes of rows

-- a row has 24 bytes
row_length_lem : (r : Revocation) → length r.id ≡ 16 → length (revocation_bytes r) ≡ 24
unfolding revocation_bytes
row_length_lem r h = simp (length-append, h, length_big_endian) (omega arith)

-- and they are read as the row
row_back : (r : Revocation) → length r.id ≡ 16 → r.moment < 2 ^ 64 → revocations_of (revocation_bytes r) ≡ r ∷ []
unfolding revocations_of revocations_from revocation_at revocation_bytes part
row_back r h k =
    let whole = row_length_lem r h in
    let one : length (revocation_bytes r) / 24 ≡ 1 = omega (arith, whole) in
    let moment : drop 16 (r.id ++ big_endian 8 r.moment) ≡ big_endian 8 r.moment = drop_at r.id (big_endian 8 r.moment) 16 h in
    let number : take 8 (drop 16 (r.id ++ big_endian 8 r.moment)) ≡ big_endian 8 r.moment
    = ap (take 8) moment ∙ take_all 8 (big_endian 8 r.moment) (omega (arith, length_big_endian 8 r.moment)) in
    ap (revocations_from (revocation_bytes r) 0) one
    ∙ ap₂ (λ (a : List ℕ) (m : ℕ). record { id = a; moment = m } ∷ []) (take_at r.id (big_endian 8 r.moment) 16 h)
    (bytes_number (r.id ++ big_endian 8 r.moment) 16 8 r.moment k (omega (arith, whole)) number)

-- no bytes have no row
none_read : revocations_of [] ≡ []
unfolding revocations_of revocations_from
none_read = refl

-- the bytes of rows are read as the rows
rows_read : (rows : List Revocation) → AllFit rows → revocations_of (list_bytes rows) ≡ rows
unfolding list_bytes
rows_read [] f = none_read
rows_read (r ∷ rs) f =
    let whole : length (revocation_bytes r) % 24 ≡ 0 = omega (arith, row_length_lem r f.0) in
    rows_joined (revocation_bytes r) (list_bytes rs) whole
    ∙ ap₂ (λ (xs ys : List Revocation). xs ++ ys) (row_back r f.0 f.1) (rows_read rs f.2)

-- the bytes of n rows from row i on are the part that they stand in
rows_written : (s : List ℕ) (i n : ℕ) → AreBytes s → revocation_size * (i + n) ≤ length s
    → list_bytes (revocations_from s i n) ≡ take (revocation_size * n) (drop (revocation_size * i) s)
unfolding list_bytes revocations_from revocation_bytes revocation_at part
rows_written s i zero b h = refl
rows_written s i (suc n) b h =
    let at = revocation_size * i in
    let size : revocation_size * suc n ≡ 16 + (8 + revocation_size * n) = omega arith in
    let next : revocation_size * (i + 1) ≡ (at + 16) + 8 = omega arith in
    let moment : big_endian 8 (number_at s (at + 16) 8) ≡ take 8 (drop (at + 16) s) = sym (number_bytes s (at + 16) 8 b (omega arith)) in
    let rest : list_bytes (revocations_from s (i + 1) n) ≡ take (revocation_size * n) (drop 8 (drop (at + 16) s))
    = rows_written s (i + 1) n b (omega arith)
    ∙ ap (λ (k : ℕ). take (revocation_size * n) (drop k s)) next
    ∙ ap (take (revocation_size * n)) (sym (drop-drop 8 (at + 16) s)) in
    append_assoc (take 16 (drop at s)) (big_endian 8 (number_at s (at + 16) 8)) (list_bytes (revocations_from s (i + 1) n))
    ∙ ap (λ (x : List ℕ). take 16 (drop at s) ++ x)
    (ap₂ (λ (x y : List ℕ). x ++ y) moment rest
    ∙ sym (take-add 8 (revocation_size * n) (drop (at + 16) s))
    ∙ ap (take (8 + revocation_size * n)) (sym (drop-drop 16 at s)))
    ∙ sym (take-add 16 (8 + revocation_size * n) (drop at s))
    ∙ ap (λ (k : ℕ). take k (drop at s)) (sym size)

-- bytes that are whole rows are the bytes of the rows that are read
all_written : (s : List ℕ) → AreBytes s → length s % 24 ≡ 0 → list_bytes (revocations_of s) ≡ s
unfolding revocations_of
all_written s b h =
    let n = length s / revocation_size in
    rows_written s 0 n b (omega arith) ∙ take_all (revocation_size * n) s (omega arith)

-- `BytesAndBack`
pub bytes_and_back : BytesAndBack
bytes_and_back = (rows_read, all_written)

-- `FormsAgree`
pub forms_agree : FormsAgree
forms_agree rows id clock f = ap (λ (x : List Revocation). is_revoked x id clock) (rows_read rows f)
