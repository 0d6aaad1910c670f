-- What the readers of single values and of pairs answer lies in the bytes and is small. Assumes nothing.
use mathlib.Core.Path.{◌≡◌}
use mathlib.Core.Bool.{Bool, true, false, ◌&&◌}
use mathlib.Core.List.{List, [], ◌∷◌}
use Prim.Native.Nat.{ℕ, ◌+◌, ◌≤◌, ◌<◌}
use native.Mathlib.Omega.{arith}
use lib.ListN.{length}
use lib.Dec.{T, leb, eqb, leb→le}
use mir.Facts.{and_yes}
use Rattle.octets.specs.Bytes.{has_at}
use Rattle.octets.specs.Span.{Span, span_of}
use Rattle.octets.proofs.BytesLaws.{has_fits, has_at_yes, part_has}
use Rattle.octets.proofs.TruthLaws.{T_true}
use Rattle.exact.specs.Reads.{Got, got}
use Rattle.exact.specs.Holds.{Holds}
use Rattle.exact.proofs.HoldsLaws.{held, holds_map, holds_bind, holds_guard, holds_many}
use Rattle.cbor_item_spec.specs.Laws.{HeadTo, SpanTo}
use Rattle.cbor_item_spec.proofs.Laws.{heads_end, spans_end}
use Rattle.entries_spec.specs.declared.Kind.{Kind}
use Rattle.entries_spec.specs.declared.Kind.TheVariants.{Text}
use Rattle.entries_spec.specs.Kinds.{major_of, is_kind}
use Rattle.entries_spec.specs.Value.{placed, Optional, count_at, string_at, kind_at, keyed_at, absent, or_absent, opt_kind_at}
use Rattle.entries_spec.specs.Reader.{pair_at, pairs_at, opt_pairs_at}

-- ---- keys

-- a key that stands at a place lies within s
pub key_fits : (s : List ℕ) (at : ℕ) (k : List ℕ) → 0 < length k → T (has_at s at k) → at + length k ≤ length s
key_fits s at k h t = has_fits s at k h (has_at_yes s at k t)

-- the place after a key that stands at a place is below any bound of that place and of the length
pub key_end : (s : List ℕ) (at : ℕ) (k : List ℕ) (top : ℕ) → T (has_at s at k) → at < top → length s < top → at + length k < top
key_end s at [] top t a l = omega arith
key_end s at (x ∷ k) top t a l = omega (arith, key_fits s at (x ∷ k) (omega arith) t)

-- ---- single values

-- a number between its limits, and a place not before `at`
abbrev pub CountTo : ℕ → ℕ → ℕ → ℕ → ℕ → Type 0
CountTo at lo hi v n = (lo ≤ v) × (v ≤ hi) × (at ≤ n)

-- a number that was read is between its limits
pub count_bounds : (s : List ℕ) (at major lo hi : ℕ) → Holds (CountTo at lo hi) (count_at s at major lo hi)
unfolding count_at
count_bounds s at major lo hi =
    holds_bind (HeadTo s at) (CountTo at lo hi) _ _ (heads_end s at)
    (λ h n i. holds_guard (CountTo at lo hi) _ _
    (λ t.
    let a = and_yes (eqb h.major major) (leb lo h.number && leb h.number hi) t in
    let b = and_yes (leb lo h.number) (leb h.number hi) a.1 in
    (leb→le _ _ b.0, leb→le _ _ b.1, omega (arith, i.after))))

-- so is one after its key
pub keyed_count_bounds : (s : List ℕ) (at : ℕ) (k : List ℕ) (major lo hi : ℕ)
    → Holds (CountTo (at + length k) lo hi) (keyed_at s at k (λ n. count_at s n major lo hi))
keyed_count_bounds s at k major lo hi = holds_guard (CountTo (at + length k) lo hi) _ _ (λ t. count_bounds s (at + length k) major lo hi)

-- the same of an answer
pub count_room : {v n : ℕ} (s : List ℕ) (at : ℕ) (k : List ℕ) (major lo hi : ℕ)
    → got v n ≡ keyed_at s at k (λ n. count_at s n major lo hi) → (lo ≤ v) × (v ≤ hi)
count_room s at k major lo hi e = let b = held (CountTo (at + length k) lo hi) (keyed_count_bounds s at k major lo hi) e in (b.0, b.1)

-- a string of at least so many bytes
abbrev pub StringTo : List ℕ → ℕ → ℕ → Span → ℕ → Type 0
StringTo s at least c n = SpanTo s at c n × (least ≤ c.len)

-- a string lies within s, and has as many bytes as those of its kind have at least
pub kind_bounds : (kind : Kind) (least : ℕ) → ((c : List ℕ) → is_kind kind c ≡ true → least ≤ length c)
    → (s : List ℕ) (at : ℕ) → Holds (StringTo s at least) (kind_at kind s at)
unfolding kind_at string_at
kind_bounds kind least long s at =
    holds_bind (SpanTo s at) (StringTo s at least) _ _ (spans_end s at (major_of kind))
    (λ c n i. holds_guard (StringTo s at least) _ _
    (λ t.
    let e = (part_has s c.start c.len (omega (arith, i.ends, i.fits))).1 in
    (i, omega (arith, e, long _ ((T_true _).0 t)))))

-- so does one after its key
pub keyed_kind_bounds : (kind : Kind) (least : ℕ) → ((c : List ℕ) → is_kind kind c ≡ true → least ≤ length c)
    → (s : List ℕ) (at : ℕ) (k : List ℕ) → Holds (StringTo s (at + length k) least) (keyed_at s at k (kind_at kind s))
keyed_kind_bounds kind least long s at k =
    holds_guard (StringTo s (at + length k) least) _ _ (λ t. kind_bounds kind least long s (at + length k))

-- a string lies within s
pub string_bounds : (kind : Kind) (s : List ℕ) (at : ℕ) → Holds (SpanTo s at) (kind_at kind s at)
string_bounds kind s at =
    holds_map (StringTo s at 0) (SpanTo s at) (kind_at kind s at) (kind_bounds kind 0 (λ c e. omega arith) s at) (λ c n i. i.0)

-- a string that was read lies in s, and after its place
pub string_room : {c : Span} {n : ℕ} (kind : Kind) (s : List ℕ) (at : ℕ) → got c n ≡ kind_at kind s at → SpanTo s at c n
string_room kind s at e = held (SpanTo s at) (string_bounds kind s at) e

-- a string after its key ends within s
pub string_ends : {c : Span} {n : ℕ} (kind : Kind) (s : List ℕ) (at : ℕ) (k : List ℕ) → got c n ≡ keyed_at s at k (kind_at kind s)
    → n ≤ length s
string_ends kind s at k e =
    (held (StringTo s (at + length k) 0) (keyed_kind_bounds kind 0 (λ c f. omega arith) s at k) e).0.fits

-- ---- pairs

-- the encoding of a pair's key lies in s, and a pair at or after b ends at or after b
pair_bounds : (s : List ℕ) (last : Span) (b at : ℕ) → b ≤ at → Holds (λ c n. (c.start + c.len ≤ length s) × (b ≤ n)) (pair_at s last at)
unfolding pair_at
pair_bounds s last b at h =
    let P : Span → ℕ → Type 0 = λ c n. (c.start + c.len ≤ length s) × (b ≤ n) in
    holds_bind (SpanTo s at) P _ _ (string_bounds (Text 1 64) s at)
    (λ k n i. holds_guard P _ _
    (λ t. holds_bind (SpanTo s n) P _ _ (string_bounds (Text 0 256) s n)
    (λ v m j. (omega (arith, i.after, i.ends, i.fits), omega (arith, i.after, i.ends, j.after, j.ends)))))

-- so it is for the key of a pair that was read
pub pair_room : {c : Span} {n : ℕ} (s : List ℕ) (last : Span) (at : ℕ) → got c n ≡ pair_at s last at → c.start + c.len ≤ length s
pair_room s last at e = (held (λ c n. (c.start + c.len ≤ length s) × (0 ≤ n)) (pair_bounds s last 0 at (omega arith)) e).0

-- pairs are at most as many as allowed
pub pairs_bounds : (s : List ℕ) (most at : ℕ) → Holds (λ c n. (c ≤ most) × (at ≤ n)) (pairs_at s most at)
unfolding pairs_at
pairs_bounds s most at =
    holds_bind (CountTo at 0 most) (λ c n. (c ≤ most) × (at ≤ n)) _ _ (count_bounds s at 5 0 most)
    (λ c n i.
    holds_bind (λ last m. at ≤ m) (λ c n. (c ≤ most) × (at ≤ n)) _ _
    (holds_many (λ last m. at ≤ m) (pair_at s)
    (λ last m j. holds_map (λ c n. (c.start + c.len ≤ length s) × (at ≤ n)) (λ c n. at ≤ n) (pair_at s last m) (pair_bounds s last at m j)
    (λ c n p. p.1))
    c (span_of 0 0) n i.2)
    (λ last m j. (i.1, j)))

-- ---- optional values

-- what holds of an optional value
holds_or : (P : Optional → ℕ → Type 0) (b : Bool) (o : Got Optional) (at : ℕ) → P absent at → Holds P o → Holds P (or_absent b o at)
unfolding or_absent
holds_or P true o at z h = h
holds_or P false o at z h = z

-- an optional string ends not before the place of its key
pub opt_kind_on : (s : List ℕ) (at : ℕ) (k : List ℕ) (kind : Kind) → Holds (λ v n. at ≤ n) (opt_kind_at s at k kind)
unfolding opt_kind_at
opt_kind_on s at k kind =
    holds_or (λ v n. at ≤ n) _ _ at (omega arith)
    (holds_bind (SpanTo s (at + length k)) (λ v n. at ≤ n) _ _ (string_bounds kind s (at + length k))
    (λ c n i. omega (arith, i.after, i.ends)))

-- nor does an optional map of pairs, and its pairs are at most as many as allowed
pub opt_pairs_on : (s : List ℕ) (at : ℕ) (k : List ℕ) (most : ℕ) → Holds (λ v n. (at ≤ n) × ((placed v).size ≤ most)) (opt_pairs_at s at k most)
unfolding opt_pairs_at
opt_pairs_on s at k most =
    holds_or (λ v n. (at ≤ n) × ((placed v).size ≤ most)) _ _ at (omega arith, omega arith)
    (holds_bind (λ c n. (c ≤ most) × (at + length k ≤ n)) (λ v n. (at ≤ n) × ((placed v).size ≤ most)) _ _ (pairs_bounds s most (at + length k))
    (λ c n i. (omega (arith, i.1), i.0)))
