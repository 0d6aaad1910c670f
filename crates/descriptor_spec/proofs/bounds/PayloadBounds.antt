-- Where the pieces of a payload that is read lie (specs/Laws.antt). Assumes nothing.
use mathlib.Core.Path.{◌≡◌, subst}
use mathlib.Core.Bool.{true, ◌&&◌}
use mathlib.Core.List.{List}
use mathlib.Core.Option.{Option, none, some}
use Prim.Native.Nat.{ℕ, ◌+◌, ◌≤◌, ◌<◌}
use native.Mathlib.Omega.{arith}
use lib.ListN.{length}
use lib.Dec.{T, ltb, leb, eqb, ltb→lt}
use mir.Facts.{and_yes}
use borrow.Author.Tests.{leb-true}
use Rattle.octets.specs.Bytes.{part, same}
use Rattle.octets.proofs.Tests.{by_cond, and_left}
use Rattle.exact.specs.Reads.{Got, got, refused}
use Rattle.exact.specs.Holds.{Holds}
use Rattle.exact.proofs.HoldsLaws.{holds_map, holds_bind, holds_then, holds_guard}
use Rattle.resource_spec.specs.Identifier.{fay_size, terminal_size}
use Rattle.resource_spec.proofs.Laws.{terminal_length, fay_length}
use Rattle.entries_spec.specs.declared.Kind.TheVariants.{Text, Bytes, Terminal, Fay}
use Rattle.entries_spec.specs.Keys.{k_metadata, k_issued_at, k_issuer_id, k_not_after, k_grantor_id, k_not_before, k_terminal_id, k_descriptor_id}
use Rattle.entries_spec.specs.Keys.{k_subject_fay_id}
use Rattle.entries_spec.specs.Kinds.{is_kind}
use Rattle.entries_spec.specs.Value.{placed, time_at, keyed_at, flag}
use Rattle.entries_spec.proofs.ValueBounds.{CountTo, count_bounds, keyed_count_bounds, StringTo, keyed_kind_bounds, opt_kind_on}
use Rattle.entries_spec.proofs.ValueBounds.{opt_pairs_on}
use Rattle.descriptor_spec.specs.Allowed.{id_size, longest}
use Rattle.descriptor_spec.specs.Reader.{issue_at, grantor_at, ids_at, PayloadSeen, payload_fits, payload_at, Seen, before_payload}
use Rattle.descriptor_spec.specs.Reader.{descriptor_at, whole, formed_in}
use Rattle.descriptor_spec.specs.Laws as laws
use Rattle.descriptor_spec.specs.Laws.{GrantsIn, IdsIn, PayloadIn}
use Rattle.descriptor_spec.proofs.bounds.GrantBounds.{grants_bounds}

-- ---- the pieces

-- a time after its key ends not before the key's place
time_on : (s : List ℕ) (at : ℕ) (k : List ℕ) → Holds (λ t n. at ≤ n) (keyed_at s at k (time_at s))
time_on s at k =
    holds_map (CountTo (at + length k) 0 18446744073709551615) (λ t n. at ≤ n) (keyed_at s at k (time_at s))
    (keyed_count_bounds s at k 0 0 18446744073709551615)
    (λ t n i. omega (arith, i.2))

-- the first piece ends not before its place
issue_on : (s : List ℕ) (at : ℕ) → Holds (λ i n. at ≤ n) (issue_at s at)
unfolding issue_at
issue_on s at =
    holds_bind (λ v n. (at ≤ n) × ((placed v).size ≤ 16)) (λ i n. at ≤ n) _ _ (opt_pairs_on s at k_metadata 16)
    (λ v n i.
    holds_bind (λ t m. n ≤ m) (λ i n. at ≤ n) _ _ (time_on s n k_issued_at)
    (λ t m j.
    holds_bind (StringTo s (m + length k_issuer_id) 0) (λ i n. at ≤ n) _ _
    (keyed_kind_bounds (Text 1 128) 0 (λ c e. omega arith) s m k_issuer_id)
    (λ c k l.
    holds_bind (λ t p. k ≤ p) (λ i n. at ≤ n) _ _ (time_on s k k_not_after)
    (λ u p q. omega (arith, i.0, j, l.0.after, l.0.ends, q)))))

-- nor does the second
grantor_on : (s : List ℕ) (at : ℕ) → Holds (λ g n. at ≤ n) (grantor_at s at)
unfolding grantor_at
grantor_on s at =
    holds_bind (λ v n. at ≤ n) (λ g n. at ≤ n) _ _ (opt_kind_on s at k_grantor_id (Text 1 128))
    (λ v n i. holds_bind (λ t m. n ≤ m) (λ g n. at ≤ n) _ _ (time_on s n k_not_before) (λ t m j. omega (arith, i, j)))

-- the lengths of the three
terminal_long : (c : List ℕ) → is_kind Terminal c ≡ true → terminal_size ≤ length c
unfolding is_kind
terminal_long c e = omega (arith, terminal_length c e)

id_long : (c : List ℕ) → is_kind (Bytes id_size id_size) c ≡ true → id_size ≤ length c
unfolding is_kind
id_long c e = leb-true id_size (length c) (and_left (leb id_size (length c)) (leb (length c) id_size) e)

fay_long : (c : List ℕ) → is_kind Fay c ≡ true → fay_size ≤ length c
unfolding is_kind
fay_long c e = omega (arith, fay_length c e)

-- the ids lie within s
pub ids_bounds : laws.IdsBounds
unfolding ids_at
ids_bounds s at =
    holds_bind (StringTo s (at + length k_terminal_id) terminal_size) (IdsIn s at) _ _
    (keyed_kind_bounds Terminal terminal_size terminal_long s at k_terminal_id)
    (λ c n i.
    holds_bind (StringTo s (n + length k_descriptor_id) id_size) (IdsIn s at) _ _
    (keyed_kind_bounds (Bytes id_size id_size) id_size id_long s n k_descriptor_id)
    (λ d m j.
    holds_bind (StringTo s (m + length k_subject_fay_id) fay_size) (IdsIn s at) _ _ (keyed_kind_bounds Fay fay_size fay_long s m k_subject_fay_id)
    (λ f k l. record {
      after = omega (arith, i.0.after, i.0.ends, j.0.after, j.0.ends, l.0.after, l.0.ends);
      terminal = omega (arith, i.0.ends, i.0.fits, i.1);
      id = omega (arith, j.0.ends, j.0.fits, j.1);
      fay = omega (arith, l.0.ends, l.0.fits, l.1);
    })))

-- ---- the payload

-- a payload that fits begins before it ends
fits_lasts : (s : List ℕ) (p : PayloadSeen) → T (payload_fits s p) → p.not_before < p.not_after
unfolding payload_fits
fits_lasts s p t =
    let a = eqb p.keys (8 + (flag p.metadata + flag p.grantor)) in
    let b = same (part s p.grants.first terminal_size) (part s p.terminal terminal_size) in
    let c = leb p.issued_at p.not_before in
    let d = ltb p.not_before p.not_after in
    ltb→lt p.not_before p.not_after (and_yes c d (and_yes b (c && d) (and_yes a (b && (c && d)) t).1).1).1

-- so it is for each that is answered, and it ends not before its place
pub payload_bounds : laws.PayloadBounds
unfolding payload_at
payload_bounds s at =
    let P : PayloadSeen → ℕ → Type 0 = λ p n. (at ≤ n) × PayloadIn s p in
    holds_bind (CountTo at 8 10) P _ _ (count_bounds s at 5 8 10)
    (λ c n i.
    holds_bind (GrantsIn s n) P _ _ (grants_bounds s n)
    (λ gs n₁ j.
    holds_bind (λ x m. n₁ ≤ m) P _ _ (issue_on s n₁)
    (λ x n₂ k.
    holds_bind (λ y m. n₂ ≤ m) P _ _ (grantor_on s n₂)
    (λ y n₃ l.
    holds_bind (IdsIn s n₃) P _ _ (ids_bounds s n₃)
    (λ ids n₄ m. holds_guard P _ _
    (λ t. (
      omega (arith, i.2, j.after, k, l, m.after),
      record { lasts = fits_lasts s _ t; small = j.small; terminal = m.terminal; id = m.id; fay = m.fay },
    )))))))

-- and for that of each descriptor that is answered
pub descriptor_bounds : laws.DescriptorBounds
unfolding descriptor_at
descriptor_bounds s at =
    let P : Seen → ℕ → Type 0 = λ v n. PayloadIn s v.payload in
    let b = at + length before_payload in
    holds_bind (λ p n. (b ≤ n) × PayloadIn s p) P _ _ (holds_guard (λ p n. (b ≤ n) × PayloadIn s p) _ _ (λ t. payload_bounds s b))
    (λ p n i. holds_then P _ _ (λ g m. i.1))

-- what is known of a descriptor that is seen
abbrev FormIn : List ℕ → Option Seen → Type 0
FormIn s (some v) = (length s ≤ longest) × PayloadIn s v.payload
FormIn s none = Unit {0}

whole_in : (s : List ℕ) (o : Got Seen) → length s ≤ longest → Holds (λ v n. PayloadIn s v.payload) o → FormIn s (whole (length s) o)
whole_in s refused l h = tt
whole_in s (got v n) l h = by_cond (FormIn s) (eqb n (length s)) (λ e. (l, h)) (λ e. tt)

form_in : (s : List ℕ) → FormIn s (formed_in s)
unfolding formed_in
form_in s = by_cond (FormIn s) (leb (length s) longest)
    (λ e. whole_in s (descriptor_at s 0) (leb-true (length s) longest e) (descriptor_bounds s 0)) (λ e. tt)

-- and for that of each descriptor that is seen before the period is looked at
pub formed_bounds : laws.FormedBounds
formed_bounds s v e = subst (FormIn s) e (form_in s)
