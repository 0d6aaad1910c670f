-- Behind the last grant of a descriptor stands a key, and no grant (specs/Laws.antt). Assumes nothing.
use mathlib.Core.Path.{◌≡◌, sym, subst}
use mathlib.Core.List.{List, ◌++◌, append_assoc}
use mathlib.Core.Option.{Option, none, some}
use Prim.Native.Nat.{ℕ, ◌+◌}
use lib.ListN.{length}
use lib.Seq.{take-length}
use lib.Dec.{T}
use Rattle.octets.specs.Bytes.{Has, clash}
use Rattle.exact.specs.Reads.{enc_opt, enc_all}
use Rattle.cbor_item_spec.specs.Encoding.{head}
use Rattle.octets.proofs.BytesLaws.{has_left, has_right, has_clash}
use Rattle.entries_spec.specs.Keys.{k_metadata, k_issued_at}
use Rattle.entries_spec.specs.Model.{Pair, size, enc_pairs}
use Rattle.descriptor_spec.specs.Model.{Grant, enc_grant, encode}
use Rattle.descriptor_spec.specs.View.{descriptor_view, grant_place}
use Rattle.descriptor_spec.specs.Laws.{GrantsEnd}
use Rattle.descriptor_spec.proofs.places.SeenLaws.{behind_grants, grants_here}
use Rattle.descriptor_spec.proofs.handed.FoundLaws.{grant_absent}

-- the head of a grant is that of neither key
heads_apart : (cs : Option (List Pair)) → T (clash (head 5 (2 + size cs)) k_metadata) × T (clash (head 5 (2 + size cs)) k_issued_at)
unfolding clash head k_metadata k_issued_at
heads_apart none = (tt, tt)
heads_apart (some ps) = (tt, tt)

-- where one of the keys stands no grant does
key_apart : (s : List ℕ) (at : ℕ) (metadata : Option (List Pair)) (rest : List ℕ) (g : Grant)
    → Has s at (enc_opt k_metadata enc_pairs metadata ++ (k_issued_at ++ rest)) → Has s at (enc_grant g) → ⊥
unfolding enc_grant
key_apart s at none rest g h k =
    has_clash s at _ k_issued_at (heads_apart g.constraints).1 (has_left s at (head 5 (2 + size g.constraints)) _ k)
    (has_left s at k_issued_at rest h)
key_apart s at (some ps) rest g h k =
    has_clash s at _ k_metadata (heads_apart g.constraints).0 (has_left s at (head 5 (2 + size g.constraints)) _ k)
    (has_left s at k_metadata (enc_pairs ps) (has_left s at (k_metadata ++ enc_pairs ps) (k_issued_at ++ rest) h))

-- what stands behind the grants begins with one of the keys
behind_keys : (a b c d : List ℕ) → (a ++ ((k_issued_at ++ b) ++ c)) ++ d ≡ a ++ (k_issued_at ++ (b ++ (c ++ d)))
behind_keys a b c d = simp append_assoc

pub grants_end : GrantsEnd
grants_end d bs q =
    let s : List ℕ = encode d in
    let gs : List Grant = d.payload.grants in
    let start : ℕ = (descriptor_view 0 d).payload.grants.start in
    let here : Has s (grant_place d (length gs)) (behind_grants d.payload)
    = subst (λ (hs : List Grant). Has s (start + length (enc_all enc_grant hs)) (behind_grants d.payload)) (sym (take-length gs))
    (has_right s start (enc_all enc_grant gs) _ (grants_here d q)) in
    (grant_absent s bs _).1
    (λ g w. key_apart s _ d.payload.metadata _ g
    (subst (Has s _) (behind_keys (enc_opt k_metadata enc_pairs d.payload.metadata) _ _ _) here) w.there)
