-- The reader of modes is exact, and its mask is theirs (specs/Reader.antt). Assumes nothing.
use mathlib.Core.Path.{◌≡◌, refl, sym, ap, ◌∙◌}
use mathlib.Core.Bool.{Bool, true, false, not, ◌&&◌, ◌||◌, or-false, beq}
use mathlib.Core.List.{List, [], ◌∷◌, ◌++◌, append_assoc}
use Prim.Native.Nat.{ℕ, zero, suc, ◌+◌, ◌^◌, ◌<◌}
use native.Mathlib.Omega.{arith}
use native.Mathlib.Decide.{dec_le}
use lib.ListN.{length}
use lib.Dec.{T, eqb, ltb, lit<, ltb→lt}
use mir.Facts.{and_yes}
use Rattle.octets.specs.Bytes.{AreBytes, clash}
use Rattle.exact.specs.Reads.{Reads, enc_all, AllFrom, view_all}
use Rattle.cbor_item_spec.specs.Encoding.{head}
use Rattle.exact.proofs.ReadsLaws.{recast, seq, keyed, refine}
use Rattle.exact.proofs.CountedLaws.{counted}
use Rattle.entries_spec.specs.Keys.{k_modes, m_read, m_write, m_execute, m_configure}
use Rattle.descriptor_spec.specs.Model.{mode_names, enc_mode, enc_modes}
use Rattle.descriptor_spec.specs.Allowed.{is_in, ModeOk, seen_with, ModesOk}
use Rattle.descriptor_spec.specs.Reader.{has_mode, mode_at, modes_at}
use Rattle.descriptor_spec.specs.View.{mask_from, mask_of}
use Rattle.octets.proofs.TruthLaws.{T_false}
use Rattle.entries_spec.proofs.ValueLaws.{Apart, count_exact, one_exact}

-- no two names of modes can stand at one place
pub modes_apart : Apart mode_names
unfolding mode_names m_read m_write m_execute m_configure clash
modes_apart = ((tt, (tt, (tt, tt))), ((tt, (tt, tt)), ((tt, tt), (tt, tt))))

-- ---- tables of tests

-- every number below n passes the test
unfoldable pub all_below : ℕ → (ℕ → Bool) → Bool
all_below zero p = true
all_below (suc n) p = p n && all_below n p

-- where every number below n passes the test, each of them does
pub all_below_lem : (n : ℕ) (p : ℕ → Bool) → T (all_below n p) → (i : ℕ) → i < n → T (p i)
unfolding all_below
all_below_lem zero p t i h = absurd (omega arith)
all_below_lem (suc n) p t i h =
    let a = and_yes (p n) (all_below n p) t in
    elim (dec_le n i) [ yes l ↦ (let e : i ≡ n = omega arith in rw e a.0) | no l ↦ all_below_lem n p a.1 i (omega arith) ]

-- two tests that agree are equal
pub beq_eq : (a b : Bool) → T (beq a b) → a ≡ b
beq_eq true true t = refl
beq_eq true false t = absurd t
beq_eq false true t = absurd t
beq_eq false false t = refl

-- the second of two tests holds where the first does not
or_right : (a b : Bool) → a ≡ false → T (a || b) → T b
or_right a b e t = rw e at t

-- ---- one mode more in a mask

-- a mode that the mask lacks can be added, and then the mask has that mode and those that it had
unfoldable add_bit : ℕ → ℕ → ℕ → Bool
add_bit mask m k = has_mode mask m || (ltb (mask + 2 ^ m) 16 && beq (has_mode (mask + 2 ^ m) k) (eqb k m || has_mode mask k))

-- this holds for every mask below 16 and every mode
add_bits : T (all_below 16 (λ mask. all_below 4 (λ m. all_below 4 (λ k. add_bit mask m k))))
unfolding all_below add_bit has_mode
add_bits = tt

-- so it holds for a given mask and mode
add_bit_lem : (mask m k : ℕ) → mask < 16 → m < 4 → k < 4 → T (add_bit mask m k)
add_bit_lem mask m k a b c =
    all_below_lem 4 (λ k. add_bit mask m k)
    (all_below_lem 4 (λ m. all_below 4 (λ k. add_bit mask m k))
    (all_below_lem 16 (λ mask. all_below 4 (λ m. all_below 4 (λ k. add_bit mask m k))) add_bits mask a) m b) k c

-- the mask has exactly the modes seen
pub record Marks (mask : ℕ) (seen : List ℕ) : Type 0 where
  pub small : mask < 16
  pub bits : (k : ℕ) → k < 4 → has_mode mask k ≡ is_in k seen

-- the mask 0 has no mode
pub no_marks : Marks 0 []
unfolding is_in has_mode all_below
no_marks = record { small = lit< tt; bits = λ k h. beq_eq (has_mode 0 k) false (all_below_lem 4 (λ k. beq (has_mode 0 k) false) tt k h) }

-- adding a new mode's bit to the mask gives the mask of the modes seen with it
pub add_mark : (mask : ℕ) (seen : List ℕ) (m : ℕ) → Marks mask seen → ModeOk seen m → Marks (mask + 2 ^ m) (m ∷ seen)
unfolding is_in add_bit
add_mark mask seen m i o =
    let both : (k : ℕ) → k < 4 → T (ltb (mask + 2 ^ m) 16) × T (beq (has_mode (mask + 2 ^ m) k) (eqb k m || has_mode mask k)) = λ k h.
    and_yes (ltb (mask + 2 ^ m) 16) (beq (has_mode (mask + 2 ^ m) k) (eqb k m || has_mode mask k))
    (or_right (has_mode mask m) _ (i.bits m o.known ∙ o.new) (add_bit_lem mask m k i.small o.known h)) in
    record {
      small = ltb→lt (mask + 2 ^ m) 16 (both m o.known).0;
      bits = λ k h. beq_eq _ _ (both k h).1 ∙ ap (λ (b : Bool). eqb k m || b) (i.bits k h);
    }

-- one test more in a row of tests
or_turn : (a b c : Bool) → ((a || b) || c) ≡ (b || (a || c))
or_turn true true c = refl
or_turn true false c = refl
or_turn false b c = refl

-- a mask that has exactly the modes seen has after further modes exactly those and these, and is below 16
mask_has : (mask : ℕ) (seen ms : List ℕ) → Marks mask seen → AllFrom ModeOk seen_with seen ms
    → (mask_from mask ms < 16) × ((k : ℕ) → k < 4 → has_mode (mask_from mask ms) k ≡ (is_in k seen || is_in k ms))
unfolding mask_from is_in
mask_has mask seen [] i a = (i.small, λ k h. i.bits k h ∙ sym (or-false (is_in k seen)))
mask_has mask seen (m ∷ ms) i a =
    let r = mask_has (mask + 2 ^ m) (m ∷ seen) ms (add_mark mask seen m i a.0) a.1 in
    (r.0, λ k h. r.1 k h ∙ or_turn (eqb k m) (is_in k seen) (is_in k ms))

-- the mask of allowed modes is below 16 and has exactly those
pub mask_exact : (ms : List ℕ) → ModesOk ms → (mask_of ms < 16) × ((k : ℕ) → k < 4 → has_mode (mask_of ms) k ≡ is_in k ms)
unfolding is_in
mask_exact ms o = mask_has 0 [] ms no_marks o.each

-- ---- the readers

-- the reader of one mode more is exact
mode_exact : (s : List ℕ) → AreBytes s → (mask : ℕ) (seen : List ℕ) (at : ℕ) → Marks mask seen
    → Reads s at (ModeOk seen) enc_mode (λ (m : ℕ). mask + 2 ^ m) (mode_at s mask at)
unfolding mode_at enc_mode mode_names
mode_exact s bs mask seen at i =
    recast
    (refine (one_exact s bs at mode_names modes_apart) (λ m. is_in m seen ≡ false) (λ m. mask + 2 ^ m) (λ m n. not (has_mode mask m))
    (λ m n. mask + 2 ^ m)
    (λ m p h. (rw (i.bits m p) (T_false (is_in m seen)), refl)))
    (ModeOk seen) enc_mode (λ m. mask + 2 ^ m) (λ m. m)
    (λ m p h. (record { known = p.0; new = p.1 }, refl, refl))
    (λ m q h. (m, (q.known, q.new), refl, refl))

-- what is seen of modes is their mask
mask_seen : (mask at : ℕ) (ms : List ℕ) → view_all enc_mode (λ (a m at : ℕ). a + 2 ^ m) mask at ms ≡ mask_from mask ms
unfolding mask_from
mask_seen mask at [] = refl
mask_seen mask at (m ∷ ms) = mask_seen (mask + 2 ^ m) (at + length (enc_mode m)) ms

-- the encoding of modes after their key
abbrev pub enc_keyed : List ℕ → List ℕ
enc_keyed ms = k_modes ++ enc_modes ms

-- the reader of modes is exact
pub modes_exact : (s : List ℕ) → AreBytes s → (at : ℕ) → Reads s at ModesOk enc_keyed mask_of (modes_at s at)
unfolding modes_at enc_modes
modes_exact s bs at =
    recast
    (seq _ (keyed k_modes (count_exact s bs _ 4 1 4 (lit< tt) (lit< tt)))
    (λ c p h.
    counted s enc_mode ModeOk seen_with Marks (λ mask m at. mask + 2 ^ m) (mode_at s) (mode_exact s bs)
    (λ mask seen at m i q h. add_mark mask seen m i q) c 0 [] (at + length (k_modes ++ head 4 c)) no_marks))
    ModesOk enc_keyed mask_of (λ v. v.1)
    (λ v p h. (
      record { least = omega arith; most = omega arith; each = p.1.1 },
      ap (λ (n : ℕ). k_modes ++ (head 4 n ++ enc_all enc_mode v.1)) p.1.0
          ∙ sym (append_assoc k_modes (head 4 v.0) (enc_all enc_mode v.1)),
      sym (mask_seen 0 _ v.1),
    ))
    (λ ms q h. (
      (length ms, ms),
      ((q.least, q.most), (refl, q.each)),
      append_assoc k_modes (head 4 (length ms))
          (enc_all enc_mode ms),
      refl,
    ))
