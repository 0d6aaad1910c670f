-- Where the ids of a descriptor stand in its encoding. Assumes nothing.
use mathlib.Core.Path.{◌≡◌, sym, ap, ◌∙◌, subst}
use mathlib.Core.List.{List, ◌++◌}
use Prim.Native.Nat.{ℕ, ◌+◌}
use lib.ListN.{length}
use Rattle.resource_spec.specs.Identifier.{fay_size, terminal_size}
use Rattle.octets.specs.Bytes.{Has, part}
use Rattle.cbor_item_spec.specs.Encoding.{head}
use Rattle.octets.proofs.BytesLaws.{has_left, has_right, has_part}
use Rattle.entries_spec.specs.Keys.{k_terminal_id, k_descriptor_id, k_subject_fay_id}
use Rattle.entries_spec.specs.Model.{enc_bytes, enc_text}
use Rattle.descriptor_spec.specs.Model.{Payload, Descriptor, encode}
use Rattle.descriptor_spec.specs.Allowed.{id_size, Formed}
use Rattle.descriptor_spec.specs.Reader.{before_payload}
use Rattle.descriptor_spec.specs.View.{keys_of, descriptor_view}
use Rattle.resource_spec.proofs.Laws.{terminal_length, fay_length}
use Rattle.descriptor_spec.proofs.grants.GrantsLaws.{enc_keyed}
use Rattle.descriptor_spec.proofs.payload.PieceLaws.{issue_bytes, grantor_bytes, ids_bytes}
use Rattle.descriptor_spec.proofs.payload.PayloadLaws.{issue_of, grantor_of, ids_of, pieces_encode}
use Rattle.descriptor_spec.proofs.places.SeenLaws.{payload_here}

-- where the pieces of a descriptor's payload stand
module _ (d : Descriptor) where
  abbrev after_grants : ℕ
  after_grants = 0 + length before_payload + length (head 5 (keys_of d.payload)) + length (enc_keyed d.payload.grants)

  pub issue_at_lem : Has (encode d) after_grants
      (issue_bytes (issue_of d.payload) ++ (grantor_bytes (grantor_of d.payload) ++ ids_bytes (ids_of d.payload)))
  issue_at_lem =
      let s : List ℕ = encode d in
      let p : Payload = d.payload in
      has_right s _ (enc_keyed p.grants) _
      (has_right s _ (head 5 (keys_of p)) _ (subst (Has s (0 + length before_payload)) (sym (pieces_encode p)) (payload_here d)))

  pub grantor_at_lem : Has (encode d) (after_grants + length (issue_bytes (issue_of d.payload)))
      (grantor_bytes (grantor_of d.payload) ++ ids_bytes (ids_of d.payload))
  grantor_at_lem = has_right (encode d) _ (issue_bytes (issue_of d.payload)) _ issue_at_lem

  ids_at_lem : Has (encode d) (after_grants + length (issue_bytes (issue_of d.payload)) + length (grantor_bytes (grantor_of d.payload)))
      (ids_bytes (ids_of d.payload))
  ids_at_lem = has_right (encode d) _ (grantor_bytes (grantor_of d.payload)) _ grantor_at_lem

-- terminal_id
abbrev of_terminal : Payload → List ℕ
of_terminal p = k_terminal_id ++ enc_text p.terminal

-- descriptor_id
abbrev of_id : Payload → List ℕ
of_id p = k_descriptor_id ++ enc_bytes p.id

-- subject_fay_id
abbrev of_fay : Payload → List ℕ
of_fay p = k_subject_fay_id ++ enc_text p.fay

-- the terminal id of a formed descriptor stands in its encoding
pub terminal_part : (d : Descriptor) → Formed d → part (encode d) (descriptor_view 0 d).payload.terminal terminal_size
    ≡ d.payload.terminal
terminal_part d q =
    let s : List ℕ = encode d in
    let p : Payload = d.payload in
    let t : List ℕ = p.terminal in
    let k = has_right s _ (head 3 (length t)) _
    (has_right s _ k_terminal_id _ (has_left s _ (of_terminal p) (of_id p ++ of_fay p) (ids_at_lem d))) in
    ap (part s _) (sym (terminal_length t q.payload.terminal)) ∙ has_part s _ t k

-- so does its id
pub id_part : (d : Descriptor) → Formed d → part (encode d) (descriptor_view 0 d).payload.id id_size ≡ d.payload.id
id_part d q =
    let s : List ℕ = encode d in
    let p : Payload = d.payload in
    let mine = has_left s _ (of_id p) (of_fay p) (has_right s _ (of_terminal p) (of_id p ++ of_fay p) (ids_at_lem d)) in
    let k = has_right s _ (head 2 (length p.id)) _ (has_right s _ k_descriptor_id _ mine) in
    ap (part s _) (sym q.payload.id) ∙ has_part s _ p.id k

-- and the subject's fay id
pub fay_part : (d : Descriptor) → Formed d → part (encode d) (descriptor_view 0 d).payload.fay fay_size ≡ d.payload.fay
fay_part d q =
    let s : List ℕ = encode d in
    let p : Payload = d.payload in
    let mine = has_right s _ (of_id p) (of_fay p) (has_right s _ (of_terminal p) (of_id p ++ of_fay p) (ids_at_lem d)) in
    let k = has_right s _ (head 3 (length p.fay)) _ (has_right s _ k_subject_fay_id _ mine) in
    ap (part s _) (sym (fay_length p.fay q.payload.fay)) ∙ has_part s _ p.fay k
