-- A reader of the promises does not need this page.
-- What is seen of a value that stands at a place: the places and numbers that the reader answers for it.
use Rattle.std.specs.Prelude.{List, [], ◌∷◌, ◌++◌, ℕ, ◌+◌, ◌^◌, length, take}
use Rattle.std.proofs.Math.Option.{Option}
use Rattle.std.specs.Int.Bits.{bit_or}
use Rattle.octets.specs.Span.{span_of}
use Rattle.exact.specs.Reads.{enc_opt, enc_all}
use Rattle.cbor_item_spec.specs.Encoding.{head}
use Rattle.entries_spec.specs.declared.Kind.TheVariants.{Text}
use Rattle.entries_spec.specs.Keys.{k_grants, k_metadata, k_issued_at, k_issuer_id, k_not_after, k_grantor_id, k_not_before, k_terminal_id, k_descriptor_id}
use Rattle.entries_spec.specs.Keys.{k_subject_fay_id, k_modes, k_constraints, k_resource_pattern}
use Rattle.entries_spec.specs.Model.{Pair, pair_count, size, enc_bytes, enc_text, enc_pairs}
use Rattle.entries_spec.specs.Value.{placed}
use Rattle.entries_spec.specs.View.{content_span, opt_kind_view, opt_pairs_view, signature_view}
use Rattle.descriptor_spec.specs.Model.{Grant, Payload, Descriptor, enc_modes, enc_grant, enc_grants, encode_payload}
use Rattle.descriptor_spec.specs.Reader.{GrantSeen, Sum, GrantsSeen, Issue, Grantor, Ids, PayloadSeen, seen_in, Seen, before_payload}
use Rattle.descriptor_spec.specs.Reader.{before_key_id}

-- the mask of modes after a mask: 1, 2, 4 and 8 for the modes 0 to 3
unfoldable pub mask_from : ℕ → List ℕ → ℕ
mask_from mask [] = mask
mask_from mask (m ∷ ms) = mask_from (mask + 2 ^ m) ms

-- the mask of a grant's modes
abbrev pub mask_of : List ℕ → ℕ
mask_of ms = mask_from 0 ms

-- a grant, of which the key of the modes stands at the place
abbrev pub grant_rest : ℕ → Grant → GrantSeen
grant_rest n g =
    let n₁ = n + length (k_modes ++ enc_modes g.modes) in
    let n₂ = n₁ + length (enc_opt k_constraints enc_pairs g.constraints) in
    record {
      mask = mask_of g.modes;
      modes = n + length k_modes;
      constraints = (placed (opt_pairs_view n₁ k_constraints g.constraints)).at;
      pairs = pair_count g.constraints;
      pattern = content_span (n₂ + length k_resource_pattern) 3 g.pattern;
    }

-- a grant at a place
abbrev pub grant_view : ℕ → Grant → GrantSeen
grant_view at g = grant_rest (at + length (head 5 (2 + size g.constraints))) g

-- the union of the masks of grants, and the number of their constraint pairs
abbrev pub sum_from : Sum → List Grant → Sum
sum_from sum [] = sum
sum_from sum (g ∷ gs) = sum_from (record {
  mask = bit_or sum.mask (mask_of g.modes);
  pairs = sum.pairs + pair_count g.constraints;
}) gs

-- grants, of which the first stands at the place
abbrev pub grants_rest : ℕ → Grant → List Grant → GrantsSeen
grants_rest n g gs =
    record {
      count = length (g ∷ gs);
      start = n;
      first = (grant_view n g).pattern.start;
      sum = sum_from (record { mask = mask_of g.modes; pairs = pair_count g.constraints }) gs;
    }

-- grants, of which the key stands at the place
abbrev pub grants_view : ℕ → List Grant → GrantsSeen
grants_view at [] = record { count = 0; start = 0; first = 0; sum = record { mask = 0; pairs = 0 } }
grants_view at (g ∷ gs) = grants_rest (at + length (k_grants ++ head 4 (length (g ∷ gs)))) g gs

-- the number of a payload's keys
abbrev pub keys_of : Payload → ℕ
keys_of p = 8 + (size p.metadata + size p.grantor)

-- the encoding of metadata, issued_at, issuer_id and not_after
abbrev pub enc_issue : Option (List Pair) → ℕ → List ℕ → ℕ → List ℕ
enc_issue metadata issued_at issuer not_after =
    enc_opt k_metadata enc_pairs metadata
    ++ ((k_issued_at ++ head 0 issued_at)
    ++ ((k_issuer_id ++ enc_text issuer)
    ++ (k_not_after ++ head 0 not_after)))

-- of grantor_id and not_before
abbrev pub enc_grantor : Option (List ℕ) → ℕ → List ℕ
enc_grantor grantor not_before = enc_opt k_grantor_id enc_text grantor ++ (k_not_before ++ head 0 not_before)

-- and of terminal_id, descriptor_id and subject_fay_id
abbrev pub enc_ids : List ℕ → List ℕ → List ℕ → List ℕ
enc_ids terminal id fay = (k_terminal_id ++ enc_text terminal) ++ ((k_descriptor_id ++ enc_bytes id) ++ (k_subject_fay_id ++ enc_text fay))

-- what is seen of the first of these pieces at a place
abbrev pub issue_view : ℕ → Option (List Pair) → ℕ → List ℕ → ℕ → Issue
issue_view at metadata issued_at issuer not_after =
    let n = at + length (enc_opt k_metadata enc_pairs metadata) in
    let n₁ = n + length (k_issued_at ++ head 0 issued_at) in
    record {
      metadata = opt_pairs_view at k_metadata metadata;
      issued_at = issued_at;
      issuer = content_span (n₁ + length k_issuer_id) 3 issuer;
      not_after = not_after;
    }

-- of the second
abbrev pub grantor_view : ℕ → Option (List ℕ) → ℕ → Grantor
grantor_view at grantor not_before = record { grantor = opt_kind_view at k_grantor_id (Text 1 128) grantor; not_before = not_before }

-- and of the third
abbrev pub ids_view : ℕ → List ℕ → List ℕ → List ℕ → Ids
ids_view at terminal id fay =
    let n = at + length (k_terminal_id ++ enc_text terminal) in
    let n₁ = n + length (k_descriptor_id ++ enc_bytes id) in
    record {
      terminal = (content_span (at + length k_terminal_id) 3 terminal).start;
      id = (content_span (n + length k_descriptor_id) 2 id).start;
      fay = (content_span (n₁ + length k_subject_fay_id) 3 fay).start;
    }

-- a payload at a place
abbrev pub payload_view : ℕ → Payload → PayloadSeen
payload_view at p =
    let n = at + length (head 5 (keys_of p)) in
    let n₁ = n + length (k_grants ++ enc_grants p.grants) in
    let n₂ = n₁ + length (enc_issue p.metadata p.issued_at p.issuer p.not_after) in
    let n₃ = n₂ + length (enc_grantor p.grantor p.not_before) in
    seen_in (keys_of p) (grants_view n p.grants) (issue_view n₁ p.metadata p.issued_at p.issuer p.not_after)
    (grantor_view n₂ p.grantor p.not_before) (ids_view n₃ p.terminal p.id p.fay)

-- a descriptor at a place
abbrev pub descriptor_view : ℕ → Descriptor → Seen
descriptor_view at d =
    let n = at + length before_payload in
    let n₁ = n + length (encode_payload d.payload) in
    record {
      covered = span_of n (length (encode_payload d.payload));
      payload = payload_view n d.payload;
      signature = signature_view (n₁ + length before_key_id) d.signature;
    }

-- the place of the i-th grant of a descriptor
abbrev pub grant_place : Descriptor → ℕ → ℕ
grant_place d i = (descriptor_view 0 d).payload.grants.start + length (enc_all enc_grant (take i d.payload.grants))
