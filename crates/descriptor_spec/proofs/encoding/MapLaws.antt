-- The encodings of a descriptor and of its parts are maps of their entries, whose keys ascend. Assumes nothing.
use mathlib.Core.Path.{◌≡◌, refl, ap, ap₂}
use mathlib.Core.Bool.{true}
use mathlib.Core.List.{List, [], ◌∷◌, ◌++◌, append-nil}
use mathlib.Core.Option.{Option, none, some}
use Prim.Native.Nat.{ℕ, suc}
use lib.ListN.{length}
use Rattle.exact.specs.Reads.{enc_all}
use Rattle.cbor_item_spec.specs.Encoding.{head}
use Rattle.entries_spec.specs.Model.{Pair, Signature, enc_pair, enc_pairs, enc_signature}
use Rattle.descriptor_spec.specs.Model.{Grant, Payload, Descriptor, enc_modes, enc_grant, enc_grants, encode_payload, encode}
use Rattle.octets.specs.Order.{before}
use Rattle.descriptor_spec.specs.Promises.{Entry, text, map, descriptor_entries, payload_entries, signature_entries, grant_entries}
use Rattle.descriptor_spec.specs.Promises.{pair_entries, ascending, IsMap, MapsDeterministic}
use Rattle.descriptor_spec.proofs.encoding.NameLaws as named
use Rattle.descriptor_spec.proofs.encoding.NameLaws.{payload-keys}

-- ---- payload

module _ (gs : List Grant) (issued : ℕ) (issuer : List ℕ) (after since : ℕ) (t id f : List ℕ) where
  abbrev payload_with : Option (List Pair) → Option (List ℕ) → Payload
  payload_with m g = record {
    grants = gs;
    metadata = m;
    issued_at = issued;
    issuer = issuer;
    not_after = after;
    grantor = g;
    not_before =
        since;
    terminal = t;
    id = id;
    fay = f;
  }

  payload_map : (m : Option (List Pair)) (g : Option (List ℕ)) → encode_payload (payload_with m g) ≡ map (payload_entries (payload_with m g))
  unfolding encode_payload enc_grants
  payload_map none none = simp (append-nil, payload-keys)
  payload_map none (some g) = simp (append-nil, payload-keys)
  payload_map (some m) none = simp (append-nil, payload-keys)
  payload_map (some m) (some g) = simp (append-nil, payload-keys)

  payload_order : (m : Option (List Pair)) (g : Option (List ℕ)) → ascending (payload_entries (payload_with m g)) ≡ true
  unfolding before head
  payload_order none none = refl
  payload_order none (some g) = refl
  payload_order (some m) none = refl
  payload_order (some m) (some g) = refl

of_payload : (p : Payload) → IsMap (encode_payload p) (payload_entries p)
of_payload p =
    record {
      same = payload_map p.grants p.issued_at p.issuer p.not_after p.not_before p.terminal p.id p.fay p.metadata
          p.grantor;
      order = payload_order p.grants p.issued_at p.issuer p.not_after p.not_before p.terminal p.id p.fay
          p.metadata p.grantor;
    }

-- ---- grant

module _ (ms p : List ℕ) where
  abbrev grant_with : Option (List Pair) → Grant
  grant_with c = record { modes = ms; constraints = c; pattern = p }

  grant_map : (c : Option (List Pair)) → enc_grant (grant_with c) ≡ map (grant_entries (grant_with c))
  unfolding enc_grant enc_modes
  grant_map none = simp (append-nil, named.modes, named.resource_pattern)
  grant_map (some c) = simp (append-nil, named.modes, named.constraints, named.resource_pattern)

  grant_order : (c : Option (List Pair)) → ascending (grant_entries (grant_with c)) ≡ true
  unfolding before head
  grant_order none = refl
  grant_order (some c) = refl

of_grant : (g : Grant) → IsMap (enc_grant g) (grant_entries g)
of_grant g = record {
  same = grant_map g.modes g.pattern g.constraints;
  order =
      grant_order g.modes g.pattern g.constraints;
}

-- ---- signature

signature_map : (g : Signature) → enc_signature g ≡ map (signature_entries g)
unfolding enc_signature
signature_map g = simp (append-nil, named.key_id, named.algorithm, named.signature_value)

signature_order : (g : Signature) → ascending (signature_entries g) ≡ true
unfolding before head
signature_order g = refl

-- ---- descriptor

descriptor_map : (d : Descriptor) → encode d ≡ map (descriptor_entries d)
unfolding encode
descriptor_map d = simp (append-nil, named.payload, named.version, named.signature)

descriptor_order : (d : Descriptor) → ascending (descriptor_entries d) ≡ true
unfolding before head
descriptor_order d = refl

-- ---- pairs

-- there is an entry for each pair
entries_count : (ps : List Pair) → length ps ≡ length (pair_entries ps)
entries_count [] = refl
entries_count (p ∷ ps) = ap suc (entries_count ps)

-- which has its encoding
entries_same : (ps : List Pair) → enc_all enc_pair ps ≡ enc_all (λ (e : Entry). text e.key ++ e.value) (pair_entries ps)
unfolding enc_pair
entries_same [] = refl
entries_same (p ∷ ps) = ap (λ (r : List ℕ). (text p.key ++ text p.value) ++ r) (entries_same ps)

pairs_map : (ps : List Pair) → enc_pairs ps ≡ map (pair_entries ps)
unfolding enc_pairs
pairs_map ps = ap₂ (λ (n : ℕ) (r : List ℕ). head 5 n ++ r) (entries_count ps) (entries_same ps)

-- ---- all of them

pub maps_deterministic : MapsDeterministic
maps_deterministic =
    record {
      descriptor = λ d. record { same = descriptor_map d; order = descriptor_order d };
      payload = of_payload;
      signature = λ g. record { same = signature_map g; order = signature_order g };
      grant = of_grant;
      pairs = pairs_map;
    }
