-- Document 01's marked cases, by computation. Assumes nothing.
use mathlib.Core.Path.{refl}
use Rattle.octets.specs.Bytes.{part, same, has_at}
use Rattle.exact.specs.Reads.{bind, guard, many}
use Rattle.cbor_item_spec.specs.Utf8.{chars_from, char_at, char_length, second3, second4}
use Rattle.octets.specs.Number.{big_endian, number_at}
use Rattle.cbor_item_spec.specs.Encoding.{head}
use Rattle.cbor_item_spec.specs.Head.{head_at, wide_head, long_head, span_at, span_in}
use Rattle.resource_spec.specs.Identifier.{is_fay, is_terminal, has_form, fay_form, terminal_form, uuid_form, is_hex}
use Rattle.resource_spec.specs.Level.{is_name_char, all_name_chars, levels, levels_ok}
use Rattle.resource_spec.specs.Text.{pattern_ok, is_pattern, levels_of, pattern_of}
use Rattle.entries_spec.specs.Keys.{k_payload, k_version, k_signature, k_grants, k_metadata, k_issued_at, k_issuer_id, k_not_after, k_grantor_id}
use Rattle.entries_spec.specs.Keys.{k_not_before, k_terminal_id, k_descriptor_id, k_subject_fay_id, k_key_id, k_algorithm, k_signature_value, k_modes}
use Rattle.entries_spec.specs.Keys.{k_constraints, k_resource_pattern, algorithms, ed25519, ecdsa_p256_sha256, m_read, m_write, m_execute}
use Rattle.entries_spec.specs.Keys.{m_configure}
use Rattle.entries_spec.specs.Model.{enc_algorithm, enc_signature}
use Rattle.entries_spec.specs.Kinds.{is_kind}
use Rattle.entries_spec.specs.Value.{count_at, string_at, kind_at, one_of, or_absent, opt_kind_at}
use Rattle.entries_spec.specs.Reader.{pair_at, pairs_at, opt_pairs_at, algorithm_at, signature_at}
use Rattle.descriptor_spec.specs.Model.{mode_names, enc_mode, enc_modes, enc_grant, enc_grants, encode_payload, encode}
use Rattle.descriptor_spec.specs.Reader.{has_mode, mode_at, modes_at, grant_at, more_at, grants_at, issue_at, grantor_at, ids_at, payload_fits}
use Rattle.descriptor_spec.specs.Reader.{payload_at, before_payload, before_key_id, descriptor_at, formed_in, read_of}
use Rattle.octets.specs.Order.{before}
use Rattle.cbor_item_spec.proofs.Promises.{marked_items}
use Rattle.resource_spec.proofs.Promises.{marked_matching}
use Rattle.narrowing_spec.specs.Escape.{fewest_names, lowest_mode, first_rule}
use Rattle.narrowing_spec.specs.Narrow.{rules_at, compared, narrow}
use Rattle.narrowing_spec.specs.Cases.{MarkedNarrowing, MarkedCases}

pub marked_narrowing : MarkedNarrowing
unfolding big_endian head enc_mode enc_modes enc_grant enc_grants encode_payload enc_algorithm enc_signature encode part same has_at bind guard many
    chars_from char_at char_length second3 second4 head_at wide_head long_head number_at span_at span_in is_fay is_terminal has_form fay_form
    terminal_form uuid_form is_hex is_name_char all_name_chars levels levels_ok pattern_ok is_pattern k_payload k_version k_signature k_grants k_metadata
    k_issued_at k_issuer_id k_not_after k_grantor_id k_not_before k_terminal_id k_descriptor_id k_subject_fay_id k_key_id k_algorithm k_signature_value k_modes
    k_constraints k_resource_pattern algorithms mode_names ed25519 ecdsa_p256_sha256 m_read m_write m_execute m_configure before count_at string_at
    kind_at is_kind one_of or_absent opt_kind_at pair_at pairs_at opt_pairs_at algorithm_at has_mode mode_at modes_at grant_at more_at grants_at issue_at
    grantor_at ids_at payload_fits payload_at signature_at before_payload before_key_id descriptor_at formed_in read_of levels_of pattern_of fewest_names
    lowest_mode first_rule rules_at compared narrow
marked_narrowing = (refl, refl, refl, refl, refl, refl, refl)

pub marked_cases : MarkedCases
marked_cases = (marked_items, marked_matching, marked_narrowing)
