-- Where the texts, the byte strings and the maps of pairs of a descriptor stand in its encoding. Assumes nothing.
use Rattle.entries_spec.specs.Value.{placed}
use mathlib.Core.Path.{◌≡◌, refl, sym, subst}
use mathlib.Core.List.{List, ◌++◌}
use mathlib.Core.Option.{Option, none, some}
use Prim.Native.Nat.{ℕ, ◌+◌}
use native.Mathlib.Omega.{arith}
use lib.ListN.{length, length-append}
use Rattle.octets.specs.Bytes.{Has}
use Rattle.exact.specs.Reads.{enc_opt}
use Rattle.cbor_item_spec.specs.Encoding.{head}
use Rattle.cbor_item_spec.specs.Head.{encode_string}
use Rattle.octets.proofs.BytesLaws.{has_left, has_right, has_part, all_has}
use Rattle.entries_spec.specs.declared.Kind.TheVariants.{Text}
use Rattle.entries_spec.specs.Keys.{k_metadata, k_issued_at, k_issuer_id, k_grantor_id, k_algorithm, k_signature_value}
use Rattle.entries_spec.specs.Model.{Pair, Signature, pair_count, enc_text, enc_pairs, enc_algorithm}
use Rattle.entries_spec.specs.View.{content_span, opt_kind_view, opt_pairs_view}
use Rattle.descriptor_spec.specs.Model.{Payload, Descriptor, encode_payload, encode}
use Rattle.descriptor_spec.specs.View.{descriptor_view}
use Rattle.descriptor_spec.specs.Reader.{before_payload, before_key_id}
use Rattle.descriptor_spec.specs.Promises.{Lies, LiesIf, StandsIf, pairs_in}
use Rattle.descriptor_spec.proofs.payload.PieceLaws.{issue_bytes, grantor_bytes}
use Rattle.descriptor_spec.proofs.payload.PayloadLaws.{issue_of, grantor_of}
use Rattle.entries_spec.proofs.SignatureLaws.{enc_from_key}
use Rattle.descriptor_spec.proofs.whole.DescriptorLaws.{halves_encode}
use Rattle.descriptor_spec.proofs.places.PlaceLaws.{issue_at_lem, grantor_at_lem}

-- ---- at a place

module _ (s : List ℕ) (at : ℕ) where
  -- bytes that stand at the place lie there
  pub lies : (x : List ℕ) → Has s at x → Lies s at (length x) x
  lies x h = record { long = refl; there = has_part s at x h }

  -- the content of a string that stands there lies behind its head
  pub content_lies : (major : ℕ) (x : List ℕ) → Has s at (encode_string major x)
      → Lies s (content_span at major x).start (content_span at major x).len x
  content_lies major x h = record { long = refl; there = has_part s _ x (has_right s at (head major (length x)) x h) }

  -- an optional map of pairs stands behind its key
  pub pairs_stand : (key : List ℕ) (m : Option (List Pair)) (rest : List ℕ) → Has s at (enc_opt key enc_pairs m ++ rest)
      → StandsIf s (placed (opt_pairs_view at key m)).at m
  pairs_stand key none rest h = refl
  pairs_stand key (some ps) rest h = has_right s at key (enc_pairs ps) (has_left s at (key ++ enc_pairs ps) rest h)

module _ (s : List ℕ) (at : ℕ) where
  -- an optional text lies behind its key and its head
  text_lies : (key : List ℕ) (g : Option (List ℕ)) (rest : List ℕ) → Has s at (enc_opt key enc_text g ++ rest)
      → let v = placed (opt_kind_view at key (Text 1 128) g) in LiesIf s v.at v.size g
  text_lies key none rest h = (refl, refl)
  text_lies key (some x) rest h = content_lies s _ 3 x (has_right s at key (enc_text x) (has_left s at (key ++ enc_text x) rest h))

-- ---- counts

-- the pairs that are seen of an optional map are those that it has
pub pairs_count : (m : Option (List Pair)) → pair_count m ≡ pairs_in m
pairs_count none = refl
pairs_count (some ps) = refl

-- ---- the payload

module _ (d : Descriptor) where
  -- metadata stands behind the grants
  pub metadata_stands : StandsIf (encode d) (placed (descriptor_view 0 d).payload.metadata).at d.payload.metadata
  metadata_stands = pairs_stand (encode d) _ k_metadata d.payload.metadata _
      (has_left (encode d) _ (issue_bytes (issue_of d.payload)) _ (issue_at_lem d))

  -- issuer_id
  pub issuer_lies : let v = (descriptor_view 0 d).payload.issuer in Lies (encode d) v.start v.len d.payload.issuer
  issuer_lies =
      let s : List ℕ = encode d in
      let p : Payload = d.payload in
      let here = has_right s _ (k_issued_at ++ head 0 p.issued_at) _
      (has_right s _ (enc_opt k_metadata enc_pairs p.metadata) _ (has_left s _ (issue_bytes (issue_of p)) _ (issue_at_lem d))) in
      content_lies s _ 3 p.issuer (has_right s _ k_issuer_id _ (has_left s _ (k_issuer_id ++ enc_text p.issuer) _ here))

  -- grantor_id
  pub grantor_lies : let v = placed (descriptor_view 0 d).payload.grantor in LiesIf (encode d) v.at v.size d.payload.grantor
  grantor_lies = text_lies (encode d) _ k_grantor_id d.payload.grantor _
      (has_left (encode d) _ (grantor_bytes (grantor_of d.payload)) _ (grantor_at_lem d))

-- ---- the signature

module _ (d : Descriptor) where
  -- the signature from the text of key_id on
  signed_at_lem : Has (encode d) (0 + length before_payload + length (encode_payload d.payload) + length before_key_id)
      (enc_from_key d.signature)
  signed_at_lem =
      let s : List ℕ = encode d in
      let e : List ℕ = encode_payload d.payload in
      let same : 0 + length (before_payload ++ e) + length before_key_id ≡ 0 + length before_payload + length e + length before_key_id
      = omega (arith, length-append before_payload e) in
      subst (λ (n : ℕ). Has s n (enc_from_key d.signature)) same
      (has_right s _ before_key_id _ (has_right s 0 (before_payload ++ e) _ (subst (Has s 0) (sym (halves_encode d)) (all_has s))))

  -- key_id
  pub key_lies : let v = (descriptor_view 0 d).signature.key_id in Lies (encode d) v.start v.len d.signature.key_id
  key_lies = content_lies (encode d) _ 3 d.signature.key_id (has_left (encode d) _ (enc_text d.signature.key_id) _ signed_at_lem)

  -- signature_value
  pub value_lies : let v = (descriptor_view 0 d).signature.value in Lies (encode d) v.start v.len d.signature.value
  value_lies =
      let s : List ℕ = encode d in
      let g : Signature = d.signature in
      content_lies s _ 2 g.value
      (has_right s _ k_signature_value _
      (has_right s _ (k_algorithm ++ enc_algorithm g.algorithm) _ (has_right s _ (enc_text g.key_id) _ signed_at_lem)))
