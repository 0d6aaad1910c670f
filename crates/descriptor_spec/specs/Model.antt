-- The data model of a descriptor and its deterministic encoding, as source 002 section 2.3 and document 01, "Descriptor bytes", have them;
-- pairs, signatures and strings are in specs/Model.antt of `entries_spec`. Nothing of places or of reading.
use Rattle.std.specs.Prelude.{List, [], ◌∷◌, ◌++◌, ℕ, ◌+◌, length, get_or}
use Rattle.std.proofs.Math.Option.{Option}
use Rattle.cbor_item_spec.specs.Encoding.{head}
use Rattle.exact.specs.Reads.{enc_opt, enc_all}
use Rattle.entries_spec.specs.Keys.{k_payload, k_version, k_signature, k_grants, k_metadata, k_issued_at, k_issuer_id, k_not_after, k_grantor_id}
use Rattle.entries_spec.specs.Keys.{k_not_before}
use Rattle.entries_spec.specs.Keys.{k_terminal_id, k_descriptor_id, k_subject_fay_id, k_modes, k_constraints, k_resource_pattern}
use Rattle.entries_spec.specs.Keys.{m_read, m_write, m_execute, m_configure}
use Rattle.entries_spec.specs.Model.{Pair, Signature, size, enc_text, enc_bytes, enc_pairs, enc_signature}

-- ---- what there is

-- a grant; modes by their numbers; absent and empty constraints are different values
pub record Grant : Type 0 where
  pub modes : List ℕ
  pub constraints : Option (List Pair)
  pub pattern : List ℕ

-- a payload; times are seconds
pub record Payload : Type 0 where
  pub grants : List Grant
  pub metadata : Option (List Pair)
  pub issued_at : ℕ
  pub issuer : List ℕ
  pub not_after : ℕ
  pub grantor : Option (List ℕ)
  pub not_before : ℕ
  pub terminal : List ℕ
  pub id : List ℕ
  pub fay : List ℕ

-- a descriptor; its version is 1
pub record Descriptor : Type 0 where
  pub payload : Payload
  pub signature : Signature

-- ---- its encoding: heads, keys and contents one after the other

-- the modes by number, in the order of source 002: read 0, write 1, execute 2, configure 3; these numbers never change
unfoldable pub mode_names : List (List ℕ)
mode_names = m_read ∷ m_write ∷ m_execute ∷ m_configure ∷ []

-- a mode is the name of its number
unfoldable pub enc_mode : ℕ → List ℕ
enc_mode m = get_or mode_names m []

-- the modes of a grant: an array of their names
unfoldable pub enc_modes : List ℕ → List ℕ
enc_modes ms = head 4 (length ms) ++ enc_all enc_mode ms

-- a grant: a map of modes, constraints where they are there, and resource_pattern
unfoldable pub enc_grant : Grant → List ℕ
enc_grant g =
    head 5 (2 + size g.constraints)
    ++ ((k_modes ++ enc_modes g.modes)
    ++ (enc_opt k_constraints enc_pairs g.constraints
    ++ (k_resource_pattern ++ enc_text g.pattern)))

-- the grants of a payload: an array of them
unfoldable pub enc_grants : List Grant → List ℕ
enc_grants gs = head 4 (length gs) ++ enc_all enc_grant gs

-- the bytes that the signature covers
unfoldable pub encode_payload : Payload → List ℕ
encode_payload p =
    head 5 (8 + (size p.metadata + size p.grantor))
    ++ ((k_grants ++ enc_grants p.grants)
    ++ (enc_opt k_metadata enc_pairs p.metadata
    ++ ((k_issued_at ++ head 0 p.issued_at)
    ++ ((k_issuer_id ++ enc_text p.issuer)
    ++ ((k_not_after ++ head 0 p.not_after)
    ++ (enc_opt k_grantor_id enc_text p.grantor
    ++ ((k_not_before ++ head 0 p.not_before)
    ++ ((k_terminal_id ++ enc_text p.terminal)
    ++ ((k_descriptor_id ++ enc_bytes p.id)
    ++ (k_subject_fay_id ++ enc_text p.fay))))))))))

-- the bytes of a descriptor
unfoldable pub encode : Descriptor → List ℕ
encode d =
    head 5 3
    ++ ((k_payload ++ encode_payload d.payload)
    ++ ((k_version ++ head 0 1)
    ++ (k_signature ++ enc_signature d.signature)))
