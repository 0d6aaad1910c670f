-- The laws of specs/Laws.antt, proved. Assumes nothing.
use mathlib.Core.Path.{◌≡◌, refl, sym, ap, ap₂, ◌∙◌}
use mathlib.Core.Bool.{Bool, ◌||◌}
use mathlib.Core.List.{List, [], ◌∷◌}
use Prim.Native.Nat.{ℕ, zero, suc, ◌+◌, ◌*◌, ◌/◌, ◌<◌}
use native.Mathlib.Nat.{add-zero}
use native.Mathlib.Numerals.{add-one}
use native.Mathlib.Omega.{arith}
use lib.ListN.{length, drop, get_or, drop_of_length-le}
use lib.Seq.{drop-cons, drop-drop}
use Rattle.std.specs.List.{list_any}
use Rattle.std.specs.Simd.{first_chunks}
use Rattle.octets.specs.Bytes.{part}
use Rattle.octets.proofs.PartLaws.{part_part}
use Rattle.octets.proofs.NumberLaws.{number_part}
use Rattle.descriptor_spec.specs.Allowed.{id_size}
use Rattle.revocation_spec.specs.declared.Revocation.{Revocation}
use Rattle.revocation_spec.specs.Revocation.{revocation_size, moment_width, revokes, is_revoked, revocation_at, revocations_from, revocations_of}
use Rattle.revocation_spec.specs.Laws.{RowTested, RowsInTurn, RowsEnd, RevokedAny, BytesRevokedAny}

-- `RowTested`
pub row_tested : RowTested
unfolding revokes
row_tested r id clock = (λ e. rw e, λ e. rw e)

-- row i, and then the rows after it
row_first : (rows : List Revocation) (id : List ℕ) (clock i : ℕ) (none : Revocation) → i < length rows
    → is_revoked (drop i rows) id clock ≡ (revokes (get_or rows i none) id clock || is_revoked (drop (i + 1) rows) id clock)
unfolding is_revoked
row_first rows id clock i none h =
    let d : drop i rows ≡ get_or rows i none ∷ drop (i + 1) rows = rw (add-one i) (drop-cons rows i none h) in
    ap (λ (l : List Revocation). is_revoked l id clock) d

-- `RowsInTurn`
pub rows_in_turn : RowsInTurn
rows_in_turn rows id clock i none h = (λ e. row_first rows id clock i none h ∙ rw e, λ e. row_first rows id clock i none h ∙ rw e)

-- `RowsEnd`
pub rows_end : RowsEnd
unfolding is_revoked
rows_end rows id clock i h = ap (λ (l : List Revocation). is_revoked l id clock) (drop_of_length-le rows h)

-- `RevokedAny`
pub revoked_any : RevokedAny
unfolding is_revoked
revoked_any [] id clock = refl
revoked_any (r ∷ rs) id clock = ap (λ t. revokes r id clock || t) (revoked_any rs id clock)

-- a row depends on its 24 bytes alone
pub chunk_row : (s : List ℕ) (at : ℕ) → revocation_at (part s at revocation_size) 0 ≡ revocation_at s at
unfolding revocation_at
chunk_row s at = ap₂ (λ (i : List ℕ) (m : ℕ). record { id = i; moment = m })
    (part_part s at revocation_size 0 id_size (omega arith) ∙ ap (λ (k : ℕ). part s k id_size) (add-zero at))
    (number_part s at revocation_size id_size moment_width (omega arith))

-- the n rows from row i on, and the n chunks from there on
chunks_any : (s id : List ℕ) (clock i n : ℕ) → is_revoked (revocations_from s i n) id clock
    ≡ list_any (λ row. revokes (revocation_at row 0) id clock) (first_chunks revocation_size n (drop (revocation_size * i) s))
unfolding is_revoked revocations_from part
chunks_any s id clock i zero = refl
chunks_any s id clock i (suc n) =
    let at = revocation_size * i in
    let next : at + revocation_size ≡ revocation_size * (i + 1) = omega arith in
    let rest : drop (revocation_size * (i + 1)) s ≡ drop revocation_size (drop at s) =
    ap (λ (k : ℕ). drop k s) (sym next) ∙ sym (drop-drop revocation_size at s) in
    ap₂ (λ (t u : Bool). t || u) (ap (λ (r : Revocation). revokes r id clock) (sym (chunk_row s at)))
    (chunks_any s id clock (i + 1) n
    ∙ ap (λ (d : List ℕ). list_any (λ row. revokes (revocation_at row 0) id clock) (first_chunks revocation_size n d)) rest)

-- `BytesRevokedAny`
pub bytes_revoked_any : BytesRevokedAny
unfolding revocations_of
bytes_revoked_any s id clock = chunks_any s id clock 0 (length s / revocation_size)
