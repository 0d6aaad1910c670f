-- Each fixed byte string of a descriptor is the text of its name (specs/Keys.antt of `entries_spec`). Assumes nothing.
use mathlib.Core.Path.{◌≡◌, refl}
use Rattle.cbor_item_spec.specs.Encoding.{head}
use Rattle.entries_spec.specs.Keys.{k_payload, k_version, k_signature, k_grants, k_metadata, k_issued_at, k_issuer_id, k_not_after, k_grantor_id}
use Rattle.entries_spec.specs.Keys.{k_not_before, k_terminal_id, k_descriptor_id, k_subject_fay_id, k_key_id, k_algorithm, k_signature_value, k_modes}
use Rattle.entries_spec.specs.Keys.{k_constraints, k_resource_pattern, ed25519, ecdsa_p256_sha256, algorithms, m_read, m_write, m_execute}
use Rattle.entries_spec.specs.Keys.{m_configure}
use Rattle.entries_spec.specs.Model.{enc_algorithm}
use Rattle.descriptor_spec.specs.Promises.{name, NamesEncoded, AlgorithmsFixed}

-- ---- descriptor

pub payload : k_payload ≡ name "payload"
unfolding head k_payload
payload = refl

pub version : k_version ≡ name "version"
unfolding head k_version
version = refl

pub signature : k_signature ≡ name "signature"
unfolding head k_signature
signature = refl

-- ---- payload

pub grants : k_grants ≡ name "grants"
unfolding head k_grants
grants = refl

pub metadata : k_metadata ≡ name "metadata"
unfolding head k_metadata
metadata = refl

pub issued_at : k_issued_at ≡ name "issued_at"
unfolding head k_issued_at
issued_at = refl

pub issuer_id : k_issuer_id ≡ name "issuer_id"
unfolding head k_issuer_id
issuer_id = refl

pub not_after : k_not_after ≡ name "not_after"
unfolding head k_not_after
not_after = refl

pub grantor_id : k_grantor_id ≡ name "grantor_id"
unfolding head k_grantor_id
grantor_id = refl

pub not_before : k_not_before ≡ name "not_before"
unfolding head k_not_before
not_before = refl

pub terminal_id : k_terminal_id ≡ name "terminal_id"
unfolding head k_terminal_id
terminal_id = refl

pub descriptor_id : k_descriptor_id ≡ name "descriptor_id"
unfolding head k_descriptor_id
descriptor_id = refl

pub subject_fay_id : k_subject_fay_id ≡ name "subject_fay_id"
unfolding head k_subject_fay_id
subject_fay_id = refl

-- the keys of a payload
pub ruleset payload-keys = (
  grants,
  metadata,
  issued_at,
  issuer_id,
  not_after,
  grantor_id,
  not_before,
  terminal_id,
  descriptor_id,
  subject_fay_id,
)

-- ---- signature

pub key_id : k_key_id ≡ name "key_id"
unfolding head k_key_id
key_id = refl

pub algorithm : k_algorithm ≡ name "algorithm"
unfolding head k_algorithm
algorithm = refl

pub signature_value : k_signature_value ≡ name "signature_value"
unfolding head k_signature_value
signature_value = refl

-- ---- grant

pub modes : k_modes ≡ name "modes"
unfolding head k_modes
modes = refl

pub constraints : k_constraints ≡ name "constraints"
unfolding head k_constraints
constraints = refl

pub resource_pattern : k_resource_pattern ≡ name "resource_pattern"
unfolding head k_resource_pattern
resource_pattern = refl

-- ---- all of them, with the algorithms and the modes

pub names_encoded : NamesEncoded
unfolding head ed25519 ecdsa_p256_sha256 m_read m_write m_execute m_configure
names_encoded = (
  payload,
  version,
  signature,
  grants,
  metadata,
  issued_at,
  issuer_id,
  not_after,
  grantor_id,
  not_before,
  terminal_id,
  descriptor_id,
  subject_fay_id,
  key_id,
  algorithm,
  signature_value,
  modes,
  constraints,
  resource_pattern,
  refl,
  refl,
  refl,
  refl,
  refl,
  refl,
)

pub algorithms_fixed : AlgorithmsFixed
unfolding head enc_algorithm algorithms ed25519 ecdsa_p256_sha256
algorithms_fixed = (refl, refl)
