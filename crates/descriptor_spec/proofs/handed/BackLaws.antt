-- What reading hands back of an allowed descriptor, number by number, and the part of its payload. Assumes nothing.
use Rattle.entries_spec.specs.Value.{placed}
use mathlib.Core.Path.{◌≡◌, refl, sym, ap, subst}
use mathlib.Core.List.{List, [], ◌∷◌, ◌++◌}
use mathlib.Core.Option.{Option, none, some}
use Prim.Native.Nat.{ℕ, ◌+◌, ◌≤◌}
use native.Mathlib.Nat.{add-zero}
use native.Mathlib.Omega.{arith}
use lib.ListN.{length, length-append}
use lib.Bits.{bit_or}
use Rattle.octets.specs.Bytes.{AreBytes, Has}
use Rattle.octets.specs.Span.{span_of}
use Rattle.octets.proofs.BytesLaws.{has_length}
use Rattle.octets.proofs.SpanLaws.{inside_fits}
use Rattle.descriptor_spec.specs.declared.DescriptorNumbers.{DescriptorNumbers}
use Rattle.entries_spec.specs.Keys.{k_metadata}
use Rattle.entries_spec.specs.Model.{Pair, pair_count}
use Rattle.descriptor_spec.specs.Model.{Grant, Descriptor, encode_payload, encode}
use Rattle.descriptor_spec.specs.Allowed.{Allowed}
use Rattle.descriptor_spec.specs.Reader.{Answer, read, structure, validity, read_of, before_payload, before_key_id}
use Rattle.entries_spec.specs.View.{opt_pairs_view}
use Rattle.descriptor_spec.specs.View.{mask_of, sum_from, grants_view, descriptor_view}
use Rattle.descriptor_spec.specs.Code.{reading_of}
use Rattle.descriptor_spec.specs.Numbers.{numbers_of, payload_span}
use Rattle.descriptor_spec.specs.Promises.{pairs_in, constraint_pairs, DescriptorHanded, HandsBack, PayloadHanded, handed}
use Rattle.descriptor_spec.specs.Laws.{SeenHanded}
use Rattle.descriptor_spec.proofs.grants.MaskLaws.{grants_union}
use Rattle.entries_spec.proofs.SignatureLaws.{enc_from_key}
use Rattle.descriptor_spec.proofs.whole.DescriptorLaws.{halves_encode}
use Rattle.descriptor_spec.proofs.whole.AnswerLaws.{reads_exactly}
use Rattle.descriptor_spec.proofs.places.SeenLaws.{payload_here}
use Rattle.descriptor_spec.proofs.places.PlaceLaws.{terminal_part, id_part, fay_part}
use Rattle.descriptor_spec.proofs.handed.PartLaws.{lies, pairs_count, metadata_stands, issuer_lies, grantor_lies, key_lies}
use Rattle.descriptor_spec.proofs.handed.PartLaws.{value_lies}
use Rattle.descriptor_spec.proofs.handed.NumberLaws.{answered_exactly}

-- ---- counts

-- the grants
count_of : (at : ℕ) (gs : List Grant) → (grants_view at gs).count ≡ length gs
count_of at [] = refl
count_of at (g ∷ gs) = refl

-- the pairs of metadata
metadata_count : (at : ℕ) (key : List ℕ) (m : Option (List Pair)) → (placed (opt_pairs_view at key m)).size ≡ pairs_in m
metadata_count at key none = refl
metadata_count at key (some ps) = refl

-- the constraint pairs that are summed after k others
sum_count : (m k : ℕ) (gs : List Grant) → (sum_from (record { mask = m; pairs = k }) gs).pairs ≡ k + constraint_pairs gs
sum_count m k [] = sym (add-zero k)
sum_count m k (g ∷ gs) =
    omega (arith, sum_count (bit_or m (mask_of g.modes)) (k + pair_count g.constraints) gs, pairs_count g.constraints)

-- are those of all grants
constraints_count : (at : ℕ) (gs : List Grant) → (grants_view at gs).sum.pairs ≡ constraint_pairs gs
constraints_count at [] = refl
constraints_count at (g ∷ gs) = omega (arith, sum_count (mask_of g.modes) (pair_count g.constraints) gs, pairs_count g.constraints)

-- ---- an allowed descriptor

-- the numbers of what is seen of a descriptor
abbrev seen_numbers : Descriptor → DescriptorNumbers
seen_numbers d = numbers_of (reading_of (read (descriptor_view 0 d)))

-- are the descriptor's
pub seen_handed : SeenHanded
seen_handed d q =
    record {
      answer = refl;
      payload = lies (encode d) _ (encode_payload d.payload) (payload_here d);
      issued = refl;
      since = refl;
      until = refl;
      id = id_part d q;
      issuer = issuer_lies d;
      grantor = grantor_lies d;
      fay = fay_part d q;
      terminal = terminal_part d q;
      grants = count_of _ d.payload.grants;
      metadata = metadata_stands d;
      pairs = metadata_count _ k_metadata d.payload.metadata;
      constraints = constraints_count _ d.payload.grants;
      mask = grants_union _ d.payload.grants q.payload.grants;
      key = key_lies d;
      algorithm = refl;
      value = value_lies d;
    }

-- the bytes of an allowed descriptor are answered with what is seen of it
answer_seen : (s : List ℕ) → AreBytes s → (d : Descriptor) → Allowed d → s ≡ encode d → read_of s ≡ read (descriptor_view 0 d)
answer_seen s bs d a e = (reads_exactly s bs (descriptor_view 0 d)).1 (d, a, e, refl)

pub hands_back : HandsBack
hands_back s bs d a e =
    subst (λ (n : DescriptorNumbers). DescriptorHanded s d n) (ap (λ (r : Answer). numbers_of (reading_of r)) (sym (answer_seen s bs d a e)))
    (subst (λ (u : List ℕ). DescriptorHanded u d (seen_numbers d)) (sym e) (seen_handed d a.formed))

-- ---- the part of the payload

-- the payload lies inside the bytes
payload_inside : (s : List ℕ) (d : Descriptor) → s ≡ encode d
    → payload_span s (reading_of (read (descriptor_view 0 d))) ≡ span_of (seen_numbers d).payload_at (seen_numbers d).payload_len
payload_inside s d e =
    let b : List ℕ = encode_payload d.payload in
    let h : Has s (0 + length before_payload) b = subst (λ (u : List ℕ). Has u (0 + length before_payload) b) (sym e) (payload_here d) in
    let l : length (encode d) ≡ length s = ap length (sym e) in
    let all : length ((before_payload ++ b) ++ (before_key_id ++ enc_from_key d.signature))
    ≡ length (encode d) = ap length (halves_encode d) in
    let starts : 0 + length before_payload ≤ length s
    = omega (arith, l, all, length-append (before_payload ++ b) (before_key_id ++ enc_from_key d.signature), length-append before_payload b) in
    inside_fits s (0 + length before_payload) (length b) starts (has_length s _ b h)

-- so it is handed back as it lies
read_span : (s : List ℕ) → AreBytes s → (d : Descriptor) → Allowed d → s ≡ encode d
    → payload_span s (reading_of (read_of s)) ≡ span_of (handed s).payload_at (handed s).payload_len
read_span s bs d a e =
    subst (λ (r : Answer). payload_span s (reading_of r)
    ≡ span_of (numbers_of (reading_of r)).payload_at (numbers_of (reading_of r)).payload_len) (sym (answer_seen s bs d a e))
    (payload_inside s d e)

-- a refusal hands back nothing
refused_span : (s : List ℕ) (a : Answer) → ((numbers_of (reading_of a)).answer ≡ 0 → ⊥) → payload_span s (reading_of a) ≡ span_of 0 0
refused_span s (read v) f = absurd (f refl)
refused_span s structure f = refl
refused_span s validity f = refl

pub payload_handed : PayloadHanded
payload_handed s bs =
    record {
      done = λ e. let x = (answered_exactly s bs).done.0 e in read_span s bs x.0 x.1 x.2;
      refused = λ f. refused_span s (read_of s) f;
    }
