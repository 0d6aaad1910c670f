-- The reader of a descriptor is exact (specs/Reader.antt). Assumes nothing.
use mathlib.Core.Path.{◌≡◌, refl, sym}
use mathlib.Core.List.{List, ◌++◌}
use Prim.Native.Nat.{ℕ, ◌+◌, ◌-◌}
use native.Mathlib.Omega.{arith}
use lib.ListN.{length, length-append}
use Rattle.octets.specs.Bytes.{AreBytes}
use Rattle.exact.specs.Reads.{Reads}
use Rattle.cbor_item_spec.specs.Encoding.{head}
use Rattle.exact.proofs.ReadsLaws.{recast, seq, keyed, mapped}
use Rattle.entries_spec.specs.Keys.{k_payload, k_version, k_signature, k_key_id}
use Rattle.entries_spec.specs.Model.{enc_signature}
use Rattle.entries_spec.specs.Allowed.{SignatureOk}
use Rattle.descriptor_spec.specs.Model.{Descriptor, encode_payload, encode}
use Rattle.descriptor_spec.specs.Allowed.{PayloadOk}
use Rattle.descriptor_spec.specs.Reader.{before_payload, before_key_id, descriptor_at}
use Rattle.descriptor_spec.specs.View.{descriptor_view}
use Rattle.descriptor_spec.proofs.payload.PayloadLaws.{payload_exact}
use Rattle.entries_spec.proofs.SignatureLaws.{enc_from_key, signature_exact}

-- a descriptor of an allowed payload and an allowed signature, of whatever length
pub record Both (d : Descriptor) : Type 0 where
  pub payload : PayloadOk d.payload
  pub signature : SignatureOk d.signature

-- the encoding of a descriptor is its payload and its signature from key_id on, each after fixed bytes
pub halves_encode : (d : Descriptor) → (before_payload ++ encode_payload d.payload) ++ (before_key_id ++ enc_from_key d.signature)
    ≡ encode d
unfolding encode enc_signature before_payload before_key_id head k_payload k_version k_signature k_key_id
halves_encode d = refl

module _ (s : List ℕ) (bs : AreBytes s) where
  -- a descriptor is read exactly
  pub descriptor_exact : (at : ℕ) → Reads s at Both encode (descriptor_view at) (descriptor_at s at)
  unfolding descriptor_at
  descriptor_exact at =
      recast
      (seq _ (keyed before_payload (payload_exact s bs _)) (λ p p₀ h₀.
      mapped (keyed before_key_id (signature_exact s bs _))
      (λ g. descriptor_view at (record { payload = p; signature = g })) _
      (λ g p₁ h₁.
      let n : ℕ = at + length (before_payload ++ encode_payload p) in
      let len : n - (at + length before_payload) ≡ length (encode_payload p) = omega (arith, length-append before_payload (encode_payload p)) in
      let end : n ≡ at + length before_payload + length (encode_payload p) = omega (arith, length-append before_payload (encode_payload p)) in
      rw (len, end))))
      Both encode (descriptor_view at) (λ v. record { payload = v.0; signature = v.1 })
      (λ v p h. (record { payload = p.0; signature = p.1 }, sym (halves_encode (record { payload = v.0; signature = v.1 })), refl))
      (λ d q h. ((d.payload, d.signature), (q.payload, q.signature), halves_encode d, refl))
