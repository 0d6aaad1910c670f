-- The reader of a signature is exact (specs/Reader.antt). Assumes nothing.
use mathlib.Core.Path.{◌≡◌, refl}
use mathlib.Core.Logic.Iff
use mathlib.Core.Logic.{inl, inr}
use mathlib.Core.List.{List, ◌++◌}
use Prim.Native.Nat.{ℕ, zero, suc, ◌≤◌, ◌<◌}
use native.Mathlib.Omega.{arith}
use lib.ListN.{length}
use lib.Dec.{T, eqb→eq, lit<}
use Rattle.octets.specs.Bytes.{AreBytes, clash}
use Rattle.exact.specs.Reads.{Reads}
use Rattle.exact.proofs.ReadsLaws.{recast, seq, keyed, refine}
use Rattle.entries_spec.specs.declared.Kind.TheVariants.{Text, Bytes}
use Rattle.entries_spec.specs.Keys.{k_algorithm, k_signature_value, ed25519, ecdsa_p256_sha256, algorithms}
use Rattle.entries_spec.specs.Model.{Signature, enc_text, enc_bytes, enc_algorithm}
use Rattle.entries_spec.specs.Allowed.{ValueOk, SignatureOk}
use Rattle.entries_spec.specs.Reader.{value_fits, algorithm_at, signature_at}
use Rattle.entries_spec.specs.View.{signature_view}
use Rattle.entries_spec.proofs.ValueLaws.{Apart, string_exact, one_exact}

-- no two algorithms can stand at one place
algorithms_apart : Apart algorithms
unfolding algorithms ed25519 ecdsa_p256_sha256 clash
algorithms_apart = ((tt, tt), (tt, tt))

-- there are two algorithms
two : length algorithms ≡ 2
unfolding algorithms
two = refl

-- what the reader asks of an algorithm and the length of its value
abbrev Asked : ℕ → ℕ → Type 0
Asked a n = (a < length algorithms) × ((1 ≤ n) × (n ≤ 72)) × T (value_fits a n)

-- it is what is allowed
asked_ok : (a n : ℕ) → Asked a n → ValueOk a n
asked_ok zero n p = inl (refl, eqb→eq n 64 p.2)
asked_ok (suc zero) n p = inr (refl, p.1.0, p.1.1)
asked_ok (suc (suc a)) n p = absurd (omega (arith, two))

-- and what is allowed is asked
ok_asked : (a n : ℕ) → ValueOk a n → Asked a n
ok_asked a n (inl p) = (omega (arith, two), (omega arith, omega arith), rw (p.0, p.1) tt)
ok_asked a n (inr p) = (omega (arith, two), (omega arith, omega arith), rw p.0 tt)

-- the encoding of a signature from the text of key_id on
abbrev pub enc_from_key : Signature → List ℕ
enc_from_key g = enc_text g.key_id ++ ((k_algorithm ++ enc_algorithm g.algorithm) ++ (k_signature_value ++ enc_bytes g.value))

module _ (s : List ℕ) (bs : AreBytes s) (at : ℕ) where
  -- a signature is read exactly
  pub signature_exact : Reads s at SignatureOk enc_from_key (signature_view at) (signature_at s at)
  unfolding signature_at algorithm_at enc_algorithm
  signature_exact =
      recast
      (seq _ (string_exact s bs at (Text 1 64) (lit< tt)) (λ k p₀ h₀.
      seq _ (keyed k_algorithm (one_exact s bs _ algorithms algorithms_apart)) (λ a p₁ h₁.
      refine (keyed k_signature_value (string_exact s bs _ (Bytes 1 72) (lit< tt))) (λ v. T (value_fits a (length v)))
      (λ v. signature_view at (record { key_id = k; algorithm = a; value = v })) _ _
      (λ v p₂ h₂. (Iff.rfl, refl)))))
      SignatureOk enc_from_key (signature_view at) (λ v. record { key_id = v.0; algorithm = v.1.0; value = v.1.1 })
      (λ v p h. (record { key_id = p.0; value = asked_ok v.1.0 (length v.1.1) (p.1.0, p.1.1.0, p.1.1.1) }, refl, refl))
      (λ g q h.
      let asked = ok_asked g.algorithm (length g.value) q.value in
      ((g.key_id, (g.algorithm, g.value)), (q.key_id, (asked.0, (asked.1, asked.2))), refl, refl))
