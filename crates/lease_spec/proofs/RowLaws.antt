-- A row of 64 bytes: what it is read as, and its bytes (specs/Table.antt). Assumes nothing.
use mathlib.Core.Path.{◌≡◌, refl, sym, ap, ap₂, ◌∙◌, subst}
use mathlib.Core.Bool.{Bool, true, false, cond, ◌&&◌}
use mathlib.Core.List.{List, ◌++◌}
use Prim.Native.Nat.{ℕ, zero, suc, ◌+◌, ◌*◌, ◌≤◌, ◌<◌}
use native.Mathlib.Nat.{add-zero, add_assoc}
use native.Mathlib.Omega.{arith}
use lib.ListN.{length, take, drop, get_or, length-append}
use lib.Seq.{take_at, drop_at, get_or-take, get_or-drop}
use lib.Dec.{leb, eqb}
use borrow.Author.Tests.{leb-true, eqb-true, le-leb, lt-leb}
use Rattle.std.proofs.Common.{None, Some}
use Rattle.std.proofs.lemmas.Option.{cond_some}
use Rattle.octets.specs.Bytes.{AreBytes, part, Has}
use Rattle.octets.specs.Number.{big_endian, number_at}
use Rattle.octets.proofs.BytesLaws.{all_has, has_all, has_left, has_after, has_both, has_part, part_has}
use Rattle.octets.proofs.NumberLaws.{length_big_endian, number_of_has, has_of_number}
use Rattle.octets.proofs.PartLaws.{part_part, part_bytes}
use Rattle.octets.proofs.Tests.{and_left, and_right}
use Rattle.descriptor_spec.specs.Allowed.{id_size}
use Rattle.lease_spec.specs.declared.Lease.{Lease}
use Rattle.lease_spec.specs.Lease.{lease_ok}
use Rattle.lease_spec.specs.Table.{Row, lease_size, flag_place, flag_width, zero_place, zero_width, last_sync_place, ttl_place, grace_place}
use Rattle.lease_spec.specs.Table.{skew_place, tolerance_place, number_width, flag_of, row_bytes, lease_at, row_ok, lease_read, row_at}
use Rattle.lease_spec.specs.Promises.{Within, Allowed, RowExactly, RowShort, numbers_of, RowLaidOut}
use Rattle.lease_spec.proofs.StateLaws.{ok_within, within_ok}

-- ---- a row depends on its 64 bytes alone

module _ (s : List ℕ) (at : ℕ) where
  -- a number that stands in the row
  number_part : (k w : ℕ) → k + w ≤ lease_size → number_at s (at + k) w ≡ number_at (part s at lease_size) k w
  unfolding number_at part
  number_part k zero h = refl
  number_part k (suc w) h =
      let byte : get_or s (at + k + w) 0 ≡ get_or (take lease_size (drop at s)) (k + w) 0
      = ap (λ (i : ℕ). get_or s i 0) (add_assoc at k w)
      ∙ sym (get_or-drop at s (k + w) 0)
      ∙ sym (get_or-take lease_size (drop at s) (k + w) 0 (omega arith)) in
      ap₂ (λ (x y : ℕ). x * 256 + y) (number_part k w (omega arith)) byte

  -- its lease
  lease_part : lease_at s at ≡ lease_at (part s at lease_size) 0
  unfolding lease_at
  lease_part = rw (
    number_part flag_place flag_width (omega arith),
    number_part last_sync_place number_width (omega arith),
    number_part ttl_place number_width (omega arith),
    number_part grace_place number_width (omega arith),
    number_part skew_place number_width (omega arith),
    number_part tolerance_place number_width (omega arith),
  )

  -- whether it may stand there
  ok_part : row_ok s at ≡ row_ok (part s at lease_size) 0
  unfolding row_ok
  ok_part = rw (
    number_part flag_place flag_width (omega arith),
    number_part zero_place zero_width (omega arith),
    lease_part,
  )

  -- the row itself
  row_part : row_at s at ≡ row_at (part s at lease_size) 0
  unfolding row_at
  row_part = ap₂ (λ (a : List ℕ) (l : Lease). record { id = a; lease = l })
      (sym (part_part s at lease_size 0 id_size (omega arith) ∙ ap (λ (k : ℕ). part s k id_size) (add-zero at))) lease_part

-- ---- the fields of a row

-- a row has 64 bytes
pub row_length_lem : (r : Row) → length r.id ≡ 16 → length (row_bytes r) ≡ lease_size
unfolding row_bytes
row_length_lem r h = simp (length-append, h, length_big_endian)

-- the fields of a row stand where they belong
record Fields (s : List ℕ) (r : Row) : Type 0 where
  pub id : Has s 0 r.id
  pub flag : Has s flag_place (big_endian flag_width (flag_of r.lease.revoked))
  pub zeros : Has s zero_place (big_endian zero_width 0)
  pub sync : Has s last_sync_place (big_endian number_width r.lease.last_sync.0)
  pub ttl : Has s ttl_place (big_endian number_width r.lease.ttl.0)
  pub grace : Has s grace_place (big_endian number_width r.lease.grace.0)
  pub skew : Has s skew_place (big_endian number_width r.lease.skew.0)
  pub tolerance : Has s tolerance_place (big_endian number_width r.lease.tolerance.0)

module _ (s : List ℕ) (r : Row) (size : length r.id ≡ 16) where
  -- they do so where the row stands at the beginning
  has_fields : Has s 0 (row_bytes r) → Fields s r
  unfolding row_bytes
  has_fields h =
      let flag = big_endian flag_width (flag_of r.lease.revoked) in
      let zeros = big_endian zero_width 0 in
      let sync = big_endian number_width r.lease.last_sync.0 in
      let ttl = big_endian number_width r.lease.ttl.0 in
      let grace = big_endian number_width r.lease.grace.0 in
      let skew = big_endian number_width r.lease.skew.0 in
      let tolerance = big_endian number_width r.lease.tolerance.0 in
      let w : (n : ℕ) → length (big_endian number_width n) ≡ number_width = length_big_endian number_width in
      let h₁ = has_after s 0 16 flag_place r.id _ size refl h in
      let h₂ = has_after s flag_place flag_width zero_place flag _ (length_big_endian flag_width _) refl h₁ in
      let h₃ = has_after s zero_place zero_width last_sync_place zeros _ (length_big_endian zero_width 0) refl h₂ in
      let h₄ = has_after s last_sync_place number_width ttl_place sync _ (w _) refl h₃ in
      let h₅ = has_after s ttl_place number_width grace_place ttl _ (w _) refl h₄ in
      let h₆ = has_after s grace_place number_width skew_place grace _ (w _) refl h₅ in
      record {
        id = has_left s 0 r.id _ h;
        flag = has_left s flag_place flag _ h₁;
        zeros = has_left s zero_place zeros _ h₂;
        sync = has_left s last_sync_place sync _ h₃;
        ttl = has_left s ttl_place ttl _ h₄;
        grace = has_left s grace_place grace _ h₅;
        skew = has_left s skew_place skew _ h₆;
        tolerance = has_after s skew_place number_width tolerance_place skew tolerance (w _) refl h₆;
      }

  -- and the row stands there where they do
  fields_has : Fields s r → Has s 0 (row_bytes r)
  unfolding row_bytes
  fields_has f =
      let w : (n : ℕ) → length (big_endian number_width n) ≡ number_width = length_big_endian number_width in
      has_both s 0 16 flag_place r.id _ size refl f.id (
      has_both s flag_place flag_width zero_place _ _ (length_big_endian flag_width _) refl f.flag (
      has_both s zero_place zero_width last_sync_place _ _ (length_big_endian zero_width 0) refl f.zeros (
      has_both s last_sync_place number_width ttl_place _ _ (w _) refl f.sync (
      has_both s ttl_place number_width grace_place _ _ (w _) refl f.ttl (
      has_both s grace_place number_width skew_place _ _ (w _) refl f.grace (
      has_both s skew_place number_width tolerance_place _ _ (w _) refl f.skew f.tolerance))))))

-- ---- 64 bytes and the row that they are read as

-- a flag is read as what it was written for
flag_back : (b : Bool) → eqb (flag_of b) 1 ≡ b
flag_back true = refl
flag_back false = refl

-- a flag fits one byte
flag_small : (b : Bool) → flag_of b < 256
flag_small true = omega arith
flag_small false = omega arith

-- a number that is 0 or 1 is the flag that it is read as
flag_forth : (n : ℕ) → n ≤ 1 → flag_of (eqb n 1) ≡ n
flag_forth zero h = refl
flag_forth (suc zero) h = refl
flag_forth (suc (suc n)) h = absurd (omega arith)

-- a flag, seven zero bytes and a lease within the limits may stand
ok_back : (s : List ℕ) (b : Bool) → number_at s flag_place flag_width ≡ flag_of b → number_at s zero_place zero_width ≡ 0
    → lease_ok (lease_at s 0) ≡ true → row_ok s 0 ≡ true
unfolding row_ok
ok_back s true flag zeros ok = rw (flag, zeros, ok)
ok_back s false flag zeros ok = rw (flag, zeros, ok)

-- and where a row may stand there are such
ok_says : (s : List ℕ) → row_ok s 0 ≡ true
    → (number_at s flag_place flag_width ≤ 1) × (number_at s zero_place zero_width ≡ 0) × Within (lease_at s 0)
unfolding row_ok
ok_says s e =
    let flag = number_at s flag_place flag_width in
    let zeros = number_at s zero_place zero_width in
    let f = and_right (leb flag 1) (eqb zeros 0 && lease_ok (lease_at s 0)) e in (
      leb-true flag 1 (and_left (leb flag 1) _ e),
      eqb-true zeros 0 (and_left (eqb zeros 0) _ f),
      ok_within (lease_at s 0) (and_right (eqb zeros 0) _ f),
    )

-- the bytes of an allowed row may stand, and are read as the row
row_back : (s : List ℕ) (r : Row) → Allowed r → s ≡ row_bytes r → (row_ok s 0 ≡ true) × (row_at s 0 ≡ r)
unfolding row_at lease_at
row_back s r a e =
    let l = r.lease in
    let w = a.within in
    let size : length s ≡ lease_size = ap length e ∙ row_length_lem r a.size in
    let f = has_fields s r a.size (subst (Has s 0) e (all_has s)) in
    let id : part s 0 id_size ≡ r.id = ap (part s 0) (sym a.size) ∙ has_part s 0 r.id f.id in
    let flag = number_of_has s flag_place flag_width (flag_of l.revoked) (flag_small l.revoked) (omega arith) f.flag in
    let zeros = number_of_has s zero_place zero_width 0 (omega arith) (omega arith) f.zeros in
    let sync = number_of_has s last_sync_place number_width _ (omega (arith, w.sync)) (omega arith) f.sync in
    let ttl = number_of_has s ttl_place number_width _ (omega (arith, w.ttl)) (omega arith) f.ttl in
    let grace = number_of_has s grace_place number_width _ (omega (arith, w.grace)) (omega arith) f.grace in
    let skew = number_of_has s skew_place number_width _ (omega (arith, w.skew)) (omega arith) f.skew in
    let tolerance = number_of_has s tolerance_place number_width _ (omega (arith, w.tolerance)) (omega arith) f.tolerance in
    let lease : lease_at s 0 ≡ l = rw (flag, sync, ttl, grace, skew, tolerance, flag_back l.revoked) in (
      ok_back s l.revoked flag zeros (ap lease_ok lease ∙ within_ok l w),
      ap₂ (λ (i : List ℕ) (m : Lease). record { id = i; lease = m }) id lease,
    )

-- and 64 bytes that may stand are those of the row that they are read as, which is allowed
row_stands : (s : List ℕ) → AreBytes s → length s ≡ lease_size → row_ok s 0 ≡ true → Allowed (row_at s 0) × (s ≡ row_bytes (row_at s 0))
unfolding row_at lease_at
row_stands s b size e =
    let r = row_at s 0 in
    let ok = ok_says s e in
    let id = part_has s 0 id_size (omega arith) in
    let f : Fields s r = record {
      id = id.0;
      flag = rw (flag_forth (number_at s flag_place flag_width) ok.0) (has_of_number s flag_place flag_width b (omega arith));
      zeros = rw ok.1 at (has_of_number s zero_place zero_width b (omega arith));
      sync = has_of_number s last_sync_place number_width b (omega arith);
      ttl = has_of_number s ttl_place number_width b (omega arith);
      grace = has_of_number s grace_place number_width b (omega arith);
      skew = has_of_number s skew_place number_width b (omega arith);
      tolerance = has_of_number s tolerance_place number_width b (omega arith);
    } in (
      record { size = id.1; bytes = part_bytes s 0 id_size b; within = ok.2 },
      has_all s (row_bytes r) (fields_has s r id.1 f) (row_length_lem r id.1 ∙ sym size),
    )

-- ---- a row at a place

-- some bytes in the middle of others
part_middle : (before s after : List ℕ) → part (before ++ (s ++ after)) (length before) (length s) ≡ s
unfolding part
part_middle before s after = ap (take (length s)) (drop_at before (s ++ after) (length before) refl) ∙ take_at s after (length s) refl

-- what is read where 64 bytes stand is what they say
read_middle : (before s after : List ℕ) → length s ≡ lease_size
    → lease_read (before ++ (s ++ after)) (length before) ≡ cond (row_ok s 0) (Some (row_at s 0).lease) None
unfolding lease_read row_at
read_middle before s after h =
    let d = before ++ (s ++ after) in
    let at = length before in
    let fits : at + lease_size ≤ length d = omega (arith, length-append before (s ++ after), length-append s after) in
    let here : part d at lease_size ≡ s = ap (part d at) (sym h) ∙ part_middle before s after in
    let ok : row_ok d at ≡ row_ok s 0 = ok_part d at ∙ ap (λ (x : List ℕ). row_ok x 0) here in
    let lease : lease_at d at ≡ lease_at s 0 = lease_part d at ∙ ap (λ (x : List ℕ). lease_at x 0) here in
    rw (le-leb (at + lease_size) (length d) fits, ok, lease)

-- `RowExactly`
pub row_exactly : RowExactly
row_exactly before s after l b h = (
  λ e.
      let p = cond_some (row_ok s 0) (row_at s 0).lease l (sym (read_middle before s after h) ∙ e) in
      let q = row_stands s b h p.0 in
      (row_at s 0, q.0, p.1, q.1),
  λ p.
      let q = row_back s p.0 p.1 p.3 in
      read_middle before s after h ∙ ap (λ (t : Bool). cond t (Some (row_at s 0).lease) None) q.0
      ∙ ap (λ (r : Row). Some r.lease) q.1 ∙ ap Some p.2,
)

-- `RowShort`
pub row_short : RowShort
unfolding lease_read
row_short s at h = rw (lt-leb (at + lease_size) (length s) h)

-- where the bytes of an allowed row stand a row may, and it is read as that
pub row_there : (s : List ℕ) (at : ℕ) (r : Row) → Allowed r → part s at lease_size ≡ row_bytes r → (row_ok s at ≡ true) × (row_at s at ≡ r)
row_there s at r a e =
    let p = row_back (part s at lease_size) r a e in
    (ok_part s at ∙ p.0, row_part s at ∙ p.1)

-- and where a row may stand the bytes are those of the row that is read, which is allowed
pub there_row : (s : List ℕ) (at : ℕ) → AreBytes s → at + lease_size ≤ length s → row_ok s at ≡ true
    → Allowed (row_at s at) × (part s at lease_size ≡ row_bytes (row_at s at))
there_row s at b h e =
    let row = part s at lease_size in
    rw (row_part s at) (row_stands row (part_bytes s at lease_size b) (part_has s at lease_size h).1 (sym (ok_part s at) ∙ e))

-- the bytes of a row, with its flag written out
laid_out : (r : Row) (b : Bool) → r.lease.revoked ≡ b
    → row_bytes r ≡ r.id ++ (big_endian flag_width (flag_of b) ++ (big_endian zero_width 0 ++ numbers_of r.lease))
unfolding row_bytes
laid_out r b e = ap (λ (t : Bool). r.id ++ (big_endian flag_width (flag_of t) ++ (big_endian zero_width 0 ++ numbers_of r.lease))) e

-- `RowLaidOut`
pub row_laid_out : RowLaidOut
unfolding big_endian
row_laid_out r = (laid_out r true, laid_out r false)
