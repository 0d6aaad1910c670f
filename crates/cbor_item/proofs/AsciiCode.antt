-- Laws of the run of bytes below 128 (specs/Code.antt), in the code's own form. Assumes nothing.
use mathlib.Core.Path.{◌≡◌, refl, ◌∙◌}
use mathlib.Core.List.{List, [], ◌∷◌}
use mathlib.Core.Bool.{Bool, true, false}
use Prim.Native.Nat.{ℕ, zero, suc, ◌+◌, ◌≤◌, ◌<◌}
use native.Mathlib.Nat.{add-zero}
use native.Mathlib.Numerals.{add-one}
use native.Mathlib.Omega.{arith}
use lib.ListN.{length, get_or, drop, drop_of_length-le, length-drop}
use lib.Seq.{drop-cons, drop-drop}
use lib.Dec.{ltb}
use borrow.Author.Tests.{ltb-true, lt-ltb, le-ltb}
use Rattle.octets.proofs.Tests.{and_left, and_right}
use Rattle.cbor_item_spec.specs.Utf8.{is_utf8}
use Rattle.cbor_item_spec.proofs.Laws.{low_first}
use Rattle.cbor_item.specs.Code.{ascii_run, ascii_at, AsciiTo}

-- a byte below 128 at i: the run goes on
pub run_more : (t : List ℕ) (i : ℕ) → i < length t → get_or t i 0 < 0x80 → ascii_run (drop i t) ≡ suc (ascii_run (drop (i + 1) t))
unfolding ascii_run
run_more t i h b = rw (add-one, drop-cons t i 0, lt-ltb _ _ b, ascii_run)

-- a byte that is not below 128 at i: the run ends
pub run_stop : (t : List ℕ) (i : ℕ) → i < length t → 0x80 ≤ get_or t i 0 → ascii_run (drop i t) ≡ 0
unfolding ascii_run
run_stop t i h b = rw (drop-cons t i 0, le-ltb _ _ b, ascii_run)

-- at the end the run ends
pub run_end : (t : List ℕ) (i : ℕ) → length t ≤ i → ascii_run (drop i t) ≡ 0
unfolding ascii_run
run_end t i h = rw (drop_of_length-le t h)

-- n bytes below 128 are passed at once
run_bytes : (t : List ℕ) (i n : ℕ) → i + n ≤ length t → ascii_at t i n ≡ true → ascii_run (drop i t) ≡ n + ascii_run (drop (i + n) t)
unfolding ascii_at
run_bytes t i zero h e = rw add-zero (omega arith)
run_bytes t i (suc n) h e =
    let low = ascii_at t i n in
    let last = ltb (get_or t (i + n) 0) 0x80 in
    let rest = run_bytes t i n (omega arith) (and_left low last e) in
    let more = run_more t (i + n) (omega arith) (ltb-true _ _ (and_right low last e)) in
    let sum : i + suc n ≡ i + n + 1 = omega arith in
    rw sum (omega (arith, rest, more))

-- no byte is passed yet
pub to_start : (t : List ℕ) (i : ℕ) → i ≤ length t → AsciiTo t i i
to_start t i h = omega arith

-- n more bytes below 128 are passed
pub to_next : (t : List ℕ) (from i n : ℕ) → AsciiTo t from i → i + n ≤ length t → ascii_at t i n ≡ true → AsciiTo t from (i + n)
to_next t from i n a h e = omega (arith, run_bytes t i n h e)

-- a run ends within the list
run_fits : (t : List ℕ) → ascii_run t ≤ length t
unfolding ascii_run
run_fits [] = omega arith
run_fits (x ∷ xs) = go (ltb x 0x80) refl (run_fits xs)
  where
    go : (b : Bool) → ltb x 0x80 ≡ b → ascii_run xs ≤ length xs → ascii_run (x ∷ xs) ≤ suc (length xs)
    go true e h = rw (e, ascii_run) (omega arith)
    go false e h = rw (e, ascii_run) (omega arith)

-- a run is passed over
run_utf8 : (t : List ℕ) → is_utf8 t ≡ is_utf8 (drop (ascii_run t) t)
unfolding ascii_run
run_utf8 [] = refl
run_utf8 (x ∷ xs) = go (ltb x 0x80) refl (run_utf8 xs)
  where
    go : (b : Bool) → ltb x 0x80 ≡ b → is_utf8 xs ≡ is_utf8 (drop (ascii_run xs) xs)
        → is_utf8 (x ∷ xs) ≡ is_utf8 (drop (ascii_run (x ∷ xs)) (x ∷ xs))
    go true e h = rw (e, ascii_run) (low_first x xs (ltb-true _ _ e) ∙ h)
    go false e h = rw (e, ascii_run)

-- the run from i to r is passed over, within the list
pub utf8_run : (t : List ℕ) (i r : ℕ) → i ≤ length t → r ≡ i + ascii_run (drop i t)
    → (r ≤ length t) × (is_utf8 (drop i t) ≡ is_utf8 (drop r t))
utf8_run t i r h e = (omega (arith, run_fits (drop i t), length-drop i t), run_utf8 (drop i t) ∙ rw (drop-drop, ← e))
