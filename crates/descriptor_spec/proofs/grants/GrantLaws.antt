-- The reader of a grant is exact (specs/Reader.antt). Assumes nothing.
use mathlib.Core.Path.{◌≡◌, refl}
use mathlib.Core.List.{List, ◌++◌}
use Prim.Native.Nat.{ℕ, ◌+◌}
use native.Mathlib.Omega.{arith}
use lib.ListN.{length}
use lib.Dec.{T, lit<}
use Rattle.octets.specs.Bytes.{AreBytes, clash}
use Rattle.exact.specs.Reads.{Reads}
use Rattle.cbor_item_spec.specs.Encoding.{head}
use Rattle.octets.proofs.BytesLaws.{has_left, has_clash}
use Rattle.exact.proofs.ReadsLaws.{recast, seq, keyed, refine}
use Rattle.entries_spec.specs.Keys.{k_modes, k_constraints, k_resource_pattern}
use Rattle.entries_spec.specs.Model.{size, enc_text}
use Rattle.descriptor_spec.specs.Model.{enc_modes, enc_grant}
use Rattle.descriptor_spec.specs.Allowed.{GrantOk}
use Rattle.descriptor_spec.specs.Reader.{grant_at}
use Rattle.descriptor_spec.specs.View.{grant_rest, grant_view}
use Rattle.octets.proofs.TruthLaws.{eqb_test}
use Rattle.entries_spec.specs.declared.Kind.TheVariants.{Pattern}
use Rattle.entries_spec.proofs.ValueLaws.{count_exact, string_exact}
use Rattle.entries_spec.proofs.OptionalLaws.{size_small, pairs_there, pairs_seen, opt_pairs_exact}
use Rattle.descriptor_spec.proofs.grants.ModeLaws.{modes_exact}

-- "resource_pattern" is not "constraints"
constraints_apart : T (clash k_resource_pattern k_constraints)
unfolding clash k_resource_pattern k_constraints
constraints_apart = tt

module _ (s : List ℕ) (bs : AreBytes s) where
  -- a grant is read exactly
  pub grant_exact : (at : ℕ) → Reads s at GrantOk enc_grant (grant_view at) (grant_at s at)
  unfolding grant_at enc_grant
  grant_exact at =
      recast
      (seq _ (count_exact s bs at 5 2 3 (lit< tt) (lit< tt)) (λ c p₀ h₀.
      seq _ (modes_exact s bs _) (λ ms p₁ h₁.
      opt_pairs_exact s bs _ k_constraints 8 (lit< tt) _ (λ cs p₂ h₂.
      let n = at + length (head 5 c) in
      let n₁ = n + length (k_modes ++ enc_modes ms) in
      refine (keyed k_resource_pattern (string_exact s bs _ Pattern tt))
      (λ pat. c ≡ 2 + size cs)
      (λ pat. grant_rest n (record { modes = ms; constraints = cs; pattern = pat }))
      _ _
      (λ pat p₃ h₃. (rw (pairs_there n₁ k_constraints cs) (eqb_test c (2 + size cs)), rw (pairs_seen n₁ k_constraints cs))))
      (λ pat p h k. has_clash s _ k_resource_pattern k_constraints constraints_apart (has_left s _ k_resource_pattern (enc_text pat) h) k))))
      GrantOk enc_grant (grant_view at) (λ v. record { modes = v.1.0; constraints = v.1.1.0; pattern = v.1.1.1 })
      (λ v p h. (record { modes = p.1.0; constraints = p.1.1.0; pattern = p.1.1.1.0 }, rw p.1.1.1.1, rw p.1.1.1.1))
      (λ g q h. (
        (2 + size g.constraints, (g.modes, (g.constraints, g.pattern))),
        ((omega arith, omega (arith, size_small g.constraints)), (q.modes, (q.constraints, (q.pattern, refl)))),
        refl,
        refl,
      ))
