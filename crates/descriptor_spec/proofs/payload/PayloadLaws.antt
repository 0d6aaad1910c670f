-- The reader of a payload is exact (specs/Reader.antt). Assumes nothing.
use mathlib.Core.Path.{◌≡◌, refl, sym, ap, ap₂, ◌∙◌}
use mathlib.Core.Logic.{◌↔◌}
use mathlib.Core.List.{List, ◌++◌, append_assoc}
use Prim.Native.Nat.{ℕ, ◌+◌, ◌≤◌, ◌<◌}
use native.Mathlib.Omega.{arith}
use lib.ListN.{length}
use lib.Dec.{T, leb, ltb, eqb, lit<}
use Rattle.resource_spec.specs.Identifier.{terminal_size}
use Rattle.octets.specs.Bytes.{AreBytes, part, Has, same}
use Rattle.octets.proofs.BytesLaws.{has_left, has_right, has_part}
use Rattle.octets.proofs.TruthLaws.{eqb_test, leb_test, ltb_test, same_test, and_test}
use Rattle.exact.specs.Reads.{Reads}
use Rattle.exact.proofs.ReadsLaws.{recast, seq, refine}
use Rattle.cbor_item_spec.specs.Encoding.{head}
use Rattle.resource_spec.proofs.Laws.{terminal_length}
use Rattle.entries_spec.specs.declared.Kind.TheVariants.{Text}
use Rattle.entries_spec.specs.Keys.{k_metadata, k_grantor_id, k_terminal_id}
use Rattle.entries_spec.specs.Model.{size, enc_text}
use Rattle.entries_spec.specs.Value.{flag}
use Rattle.entries_spec.proofs.ValueLaws.{count_exact}
use Rattle.entries_spec.proofs.OptionalLaws.{size_small, pairs_there, kind_there}
use Rattle.descriptor_spec.specs.Model.{Grant, Payload, encode_payload}
use Rattle.descriptor_spec.specs.Allowed.{PayloadOk}
use Rattle.descriptor_spec.specs.Reader.{PayloadSeen, seen_in, payload_fits, payload_at}
use Rattle.descriptor_spec.specs.View.{keys_of, grants_view, enc_issue, enc_grantor, enc_ids, payload_view}
use Rattle.descriptor_spec.proofs.grants.GrantsLaws.{enc_keyed, owner, first_at, together_of, of_together, grants_exact}
use Rattle.descriptor_spec.proofs.payload.PieceLaws.{Issue, issue_bytes, issue_seen, issue_exact, Grantor, grantor_bytes, grantor_seen}
use Rattle.descriptor_spec.proofs.payload.PieceLaws.{grantor_exact, Ids, IdsOk, ids_bytes, ids_seen, ids_exact}

-- ---- a payload and its pieces

-- the payload of its grants and three pieces
abbrev payload_of : List Grant → Issue → Grantor → Ids → Payload
payload_of gs i g ids =
    record {
      grants = gs;
      metadata = i.0;
      issued_at = i.1.0;
      issuer = i.1.1.0;
      not_after = i.1.1.1;
      grantor = g.0;
      not_before = g.1;
      terminal = ids.0;
      id = ids.1.0;
      fay = ids.1.1;
    }

-- the first piece of a payload
abbrev pub issue_of : Payload → Issue
issue_of p = (p.metadata, (p.issued_at, (p.issuer, p.not_after)))

-- its second piece
abbrev pub grantor_of : Payload → Grantor
grantor_of p = (p.grantor, p.not_before)

-- its last piece
abbrev pub ids_of : Payload → Ids
ids_of p = (p.terminal, (p.id, p.fay))

-- the encoding of a payload is that of its head, its grants and its pieces, one after the other
pub pieces_encode : (p : Payload)
    → head 5 (keys_of p) ++
    (enc_keyed p.grants ++
    (enc_issue p.metadata p.issued_at p.issuer p.not_after ++
    (enc_grantor p.grantor p.not_before ++ enc_ids p.terminal p.id p.fay)))
    ≡ encode_payload p
unfolding encode_payload
pieces_encode p = simp append_assoc

-- what is seen of them, one after the other
abbrev pieces_view : ℕ → ℕ → List Grant → Issue → Grantor → Ids → PayloadSeen
pieces_view at keys gs i g ids =
    let n = at + length (head 5 keys) in
    let n₁ = n + length (enc_keyed gs) in
    let n₂ = n₁ + length (issue_bytes i) in
    seen_in keys (grants_view n gs) (issue_seen n₁ i) (grantor_seen n₂ g) (ids_seen (n₂ + length (grantor_bytes g)) ids)

-- ---- the conditions on the whole

-- as many keys as there are, the patterns' terminal is the payload's, and issued_at ≤ not_before < not_after
abbrev Fits : ℕ → List Grant → Issue → Grantor → Ids → Type 0
Fits keys gs i g ids =
    (keys ≡ 8 + (size i.0 + size g.0))
    × ((owner gs ≡ ids.0)
    × ((i.1.0 ≤ g.1) × (g.1 < i.1.1.1)))

-- the test of these conditions
fits_test : (s : List ℕ) (p : PayloadSeen) (k : ℕ) (u t : List ℕ)
    → flag p.metadata + flag p.grantor ≡ k → part s p.grants.first terminal_size ≡ u
    → part s p.terminal terminal_size ≡ t
    → T (payload_fits s p) ↔ ((p.keys ≡ 8 + k) × ((u ≡ t) × ((p.issued_at ≤ p.not_before) × (p.not_before < p.not_after))))
unfolding payload_fits
fits_test s p k u t ek eu et =
    rw (ek, eu, et)
    (and_test (eqb p.keys (8 + k)) _ (eqb_test p.keys (8 + k))
    (and_test (same u t) _ (same_test u t)
    (and_test (leb p.issued_at p.not_before) (ltb p.not_before p.not_after) (leb_test p.issued_at p.not_before)
    (ltb_test p.not_before p.not_after))))

-- the terminal id of the payload
terminal_at : (s : List ℕ) (at : ℕ) (ids : Ids) → IdsOk ids → Has s at (ids_bytes ids) → part s (ids_seen at ids).terminal terminal_size
    ≡ ids.0
terminal_at s at ids p h =
    let k = has_right s _ (head 3 (length ids.0)) _ (has_right s _ k_terminal_id _ (has_left s _ (k_terminal_id ++ enc_text ids.0) _ h)) in
    ap (part s _) (sym (terminal_length ids.0 p.0)) ∙ has_part s _ ids.0 k

-- ---- the reader

module _ (s : List ℕ) (bs : AreBytes s) where
  -- a payload is read exactly
  pub payload_exact : (at : ℕ) → Reads s at PayloadOk encode_payload (payload_view at) (payload_at s at)
  unfolding payload_at
  payload_exact at =
      recast
      (seq _ (count_exact s bs at 5 8 10 (lit< tt) (lit< tt)) (λ c p₀ h₀.
      seq _ (grants_exact s bs _) (λ gs p₁ h₁.
      seq _ (issue_exact s bs _) (λ i p₂ h₂.
      seq _ (grantor_exact s bs _) (λ g p₃ h₃.
      refine (ids_exact s bs _) (λ ids. Fits c gs i g ids) (λ ids. pieces_view at c gs i g ids) _ _
      (λ ids p₄ h₄. (
        fits_test s (pieces_view at c gs i g ids) (size i.0 + size g.0) (owner gs) ids.0
            (ap₂ (λ (m n : ℕ). m + n) (pairs_there _ k_metadata i.0) (kind_there _ k_grantor_id (Text 1 128) g.0))
            (first_at s _ gs p₁ h₁) (terminal_at s _ ids p₄ h₄),
        refl,
      )))))))
      PayloadOk encode_payload (payload_view at) (λ v. payload_of v.1.0 v.1.1.0 v.1.1.1.0 v.1.1.1.1)
      (λ v p h.
      let i = p.1.1.0 in
      let g = p.1.1.1.0 in
      let ids = p.1.1.1.1.0 in
      let fits = p.1.1.1.1.1 in
      let each = together_of v.1.1.1.1.0 v.1.0 p.1.0 fits.1.0 in (
        record {
          least = p.1.0.least;
          most = p.1.0.most;
          grants = each.0;
          metadata = i.0;
          issued_at = i.1.0;
          issuer = i.1.1.0;
          not_after = i.1.1.1;
          grantor = g.0;
          not_before = g.1;
          terminal = ids.0;
          id = omega (arith, ids.1.0);
          fay = ids.1.1;
          patterns = each.1;
          issued = fits.1.1.0;
          lasts = fits.1.1.1;
        },
        rw fits.0 (sym (pieces_encode (payload_of v.1.0 v.1.1.0 v.1.1.1.0 v.1.1.1.1))),
        rw fits.0,
      ))
      (λ p q h.
      let each = of_together p.terminal p.grants q.least q.most q.grants q.patterns in (
        (keys_of p, (p.grants, (issue_of p, (grantor_of p, ids_of p)))),
        (
          (omega arith, omega (arith, size_small p.metadata, size_small p.grantor)),
          (
            each.0,
            (
              (q.metadata, (q.issued_at, (q.issuer, q.not_after))),
              (
                (q.grantor, q.not_before),
                ((q.terminal, ((omega (arith, q.id), omega (arith, q.id)), q.fay)), (refl, (each.1, (q.issued, q.lasts)))),
              ),
            ),
          ),
        ),
        pieces_encode p,
        refl,
      ))
