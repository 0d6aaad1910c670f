-- Where the payload and the grants of a descriptor stand in its encoding. Assumes nothing.
use mathlib.Core.Path.{◌≡◌, sym, ap, ◌∙◌, subst}
use mathlib.Core.List.{List, [], ◌∷◌, ◌++◌, append_assoc}
use Prim.Native.Nat.{ℕ, zero, suc, ◌+◌, ◌≤◌, ◌<◌}
use native.Mathlib.Numerals.{add-one}
use native.Mathlib.Omega.{arith}
use lib.ListN.{length, take, get_or, length-append}
use Rattle.octets.specs.Bytes.{Has}
use Rattle.exact.specs.Reads.{got, enc_all}
use Rattle.cbor_item_spec.specs.Encoding.{head}
use Rattle.octets.proofs.BytesLaws.{has_left, has_right, all_has}
use Rattle.exact.proofs.ReadsLaws.{complete}
use Rattle.exact.proofs.CountedLaws.{all_at}
use Rattle.entries_spec.specs.Keys.{k_grants}
use Rattle.descriptor_spec.specs.Model.{Grant, Payload, Descriptor, enc_grant, enc_grants, encode_payload, encode}
use Rattle.descriptor_spec.specs.Allowed.{GrantOk, All, Formed}
use Rattle.descriptor_spec.specs.Reader.{before_payload}
use Rattle.descriptor_spec.specs.View.{keys_of, grant_view, grants_view, descriptor_view, grant_place}
use Rattle.descriptor_spec.specs.Laws.{GrantsWalk}
use Rattle.descriptor_spec.proofs.grants.GrantLaws.{grant_exact}
use Rattle.descriptor_spec.proofs.grants.GrantsLaws.{enc_keyed}
use Rattle.descriptor_spec.proofs.payload.PieceLaws.{issue_bytes, grantor_bytes, ids_bytes}
use Rattle.descriptor_spec.proofs.payload.PayloadLaws.{issue_of, grantor_of, ids_of, pieces_encode}
use Rattle.descriptor_spec.proofs.whole.DescriptorLaws.{halves_encode}

-- ---- lists

-- what holds of each element holds of the i-th
pub all_get : {X : Type 0} (P : X → Type 0) (xs : List X) (i : ℕ) (d : X) → i < length xs → All P xs → P (get_or xs i d)
all_get P [] i d h a = absurd (omega arith)
all_get P (x ∷ xs) zero d h a = a.0
all_get P (x ∷ xs) (suc i) d h a = all_get P xs i d (omega arith) a.1

-- the elements up to the i-th, and the i-th
take_next : {X : Type 0} (enc : X → List ℕ) (xs : List X) (i : ℕ) (d : X) → i < length xs
    → length (enc_all enc (take i xs)) + length (enc (get_or xs i d)) ≡ length (enc_all enc (take (suc i) xs))
take_next enc [] i d h = absurd (omega arith)
take_next enc (x ∷ xs) zero d h = omega (arith, length-append (enc x) [])
take_next enc (x ∷ xs) (suc i) d h =
    omega (
      arith,
      length-append (enc x) (enc_all enc (take i xs)),
      length-append (enc x) (enc_all enc (take (suc i) xs)),
      take_next enc xs i d
          (omega arith),
    )

-- ---- places

-- where the payload stands
pub payload_here : (d : Descriptor) → Has (encode d) (0 + length before_payload) (encode_payload d.payload)
payload_here d =
    let s : List ℕ = encode d in
    has_right s 0 before_payload _
    (has_left s 0 (before_payload ++ encode_payload d.payload) _ (subst (Has s 0) (sym (halves_encode d)) (all_has s)))

-- where the first grant stands, and what follows the last, where the key of the grants stands at a place
start_at : (s : List ℕ) (at : ℕ) (gs : List Grant) (rest : List ℕ) → 1 ≤ length gs → Has s at (enc_keyed gs ++ rest)
    → Has s (grants_view at gs).start (enc_all enc_grant gs ++ rest)
unfolding enc_grants
start_at s at [] rest l h = absurd (omega arith)
start_at s at (g ∷ gs) rest l h =
    let n : List ℕ = head 4 (length (g ∷ gs)) in
    let all : List ℕ = enc_all enc_grant (g ∷ gs) in
    let e : (k_grants ++ (n ++ all)) ++ rest ≡ (k_grants ++ n) ++ (all ++ rest) = simp append_assoc in
    has_right s at (k_grants ++ n) _ (subst (Has s at) e h)

-- what stands in a payload behind the grants: "metadata" with its pairs, or none, and "issued_at" with what follows
abbrev pub behind_grants : Payload → List ℕ
behind_grants p = issue_bytes (issue_of p) ++ (grantor_bytes (grantor_of p) ++ ids_bytes (ids_of p))

-- where all the grants of a descriptor stand with what is behind them
pub grants_here : (d : Descriptor) → Formed d
    → Has (encode d) (descriptor_view 0 d).payload.grants.start (enc_all enc_grant d.payload.grants ++ behind_grants d.payload)
grants_here d q =
    let s : List ℕ = encode d in
    let p : Payload = d.payload in
    start_at s _ p.grants (behind_grants p) q.payload.least
    (has_right s _ (head 5 (keys_of p)) _ (subst (Has s (0 + length before_payload)) (sym (pieces_encode p)) (payload_here d)))

-- where they stand
pub all_grants : (d : Descriptor) → Formed d → Has (encode d) (descriptor_view 0 d).payload.grants.start
    (enc_all enc_grant d.payload.grants)
all_grants d q = has_left (encode d) _ (enc_all enc_grant d.payload.grants) (behind_grants d.payload) (grants_here d q)

-- where the i-th stands
pub grant_here : (d : Descriptor) → Formed d → (i : ℕ) (g : Grant) → i < length d.payload.grants → get_or d.payload.grants i g ≡ g
    → Has (encode d) (grant_place d i) (enc_grant g)
grant_here d q i g l e = subst (λ (x : Grant). Has (encode d) (grant_place d i) (enc_grant x)) e
    (all_at (encode d) enc_grant _ d.payload.grants i g l (all_grants d q))

-- the next stands after it
next_grant : (d : Descriptor) (i : ℕ) (g : Grant) → i < length d.payload.grants → get_or d.payload.grants i g ≡ g
    → grant_place d i + length (enc_grant g) ≡ grant_place d (i + 1)
next_grant d i g l e =
    let more : length (enc_all enc_grant (take i d.payload.grants)) + length (enc_grant g)
    ≡ length (enc_all enc_grant (take (i + 1) d.payload.grants))
    = rw add-one (rw e at (take_next enc_grant d.payload.grants i g l)) in
    omega arith

-- the grants are read one after the other
pub grants_walk : GrantsWalk
grants_walk d bs q i g l e =
    let ok : GrantOk g = subst GrantOk e (all_get GrantOk d.payload.grants i g l q.payload.grants) in
    complete (grant_exact (encode d) bs (grant_place d i)) g ok (grant_here d q i g l e)
    ∙ ap (got (grant_view (grant_place d i) g)) (next_grant d i g l e)
