-- A signature by ed25519 whose bytes before its value stand as one byte string (specs/Code.antt). Assumes nothing.
use mathlib.Core.Path.{◌≡◌, refl, sym, ap, ◌∙◌}
use mathlib.Core.List.{List, [], ◌∷◌, ◌++◌}
use Prim.Native.Nat.{ℕ, ◌+◌, ◌≤◌}
use native.Mathlib.Omega.{arith}
use lib.ListN.{length}
use lib.Dec.{T}
use Rattle.octets.specs.Bytes.{Has, has_at}
use Rattle.octets.specs.Span.{Span, span_of}
use Rattle.octets.proofs.BytesLaws.{has_left, has_right, has_at_yes, yes_has_at, part_has}
use Rattle.octets.proofs.TruthLaws.{T_true}
use Rattle.exact.specs.Reads.{got, guard}
use Rattle.exact.proofs.ReadsLaws.{took, passed}
use Rattle.entries_spec.specs.declared.Kind.TheVariants.{Bytes}
use Rattle.entries_spec.specs.Keys.{k_algorithm, k_signature_value, ed25519, algorithms}
use Rattle.entries_spec.specs.Kinds.{is_kind}
use Rattle.entries_spec.specs.Value.{kind_at, keyed_at}
use Rattle.entries_spec.specs.Reader.{algorithm_at}
use Rattle.entries_spec.proofs.FixedLaws.{span_two, keyed_known}
use Rattle.entries.proofs.Laws.{one_first}
use Rattle.entries.specs.Code.{signed_at}

-- "algorithm", "ed25519", "signature_value" and the head of 64 bytes
abbrev pub before_value : List ℕ
before_value = k_algorithm ++ (ed25519 ++ (k_signature_value ++ (88 ∷ 64 ∷ [])))

module _ (s : List ℕ) (n : ℕ) (t : T (has_at s n before_value)) (l : n + 36 + 64 ≤ length s) where
  whole : Has s n before_value
  whole = has_at_yes s n before_value t

  after_algorithm : Has s (n + length k_algorithm) (ed25519 ++ (k_signature_value ++ (88 ∷ 64 ∷ [])))
  after_algorithm = has_right s n k_algorithm _ whole

  after_name : Has s (n + length k_algorithm + length ed25519) (k_signature_value ++ (88 ∷ 64 ∷ []))
  after_name = has_right s _ ed25519 _ after_algorithm

  -- the algorithm is read
  algorithm_read : got 0 (n + length k_algorithm + length ed25519) ≡ keyed_at s n k_algorithm (algorithm_at s)
  unfolding algorithm_at algorithms
  algorithm_read =
      let here = yes_has_at s (n + length k_algorithm) ed25519 (has_left s _ ed25519 _ after_algorithm) in
      passed _ (yes_has_at s n k_algorithm (has_left s n k_algorithm _ whole)) (one_first s _ 0 ed25519 _ (rw ((T_true _).0 here)))

  -- and the value
  value_read : got (span_of (n + 36) 64) (n + 36 + 64) ≡ keyed_at s (n + length k_algorithm + length ed25519) k_signature_value (kind_at (Bytes 1 72) s)
  unfolding k_algorithm ed25519 k_signature_value is_kind
  value_read =
      let p = n + 10 + 8 in
      let start : p + 16 + 2 ≡ n + 36 = omega arith in
      let known : got (span_of (n + 36) 64) (n + 36 + 64) ≡ got (span_of (p + 16 + 2) 64) (p + 16 + 2 + 64)
      = ap (λ x. got (span_of x 64) (x + 64)) (sym start) in
      keyed_known (Bytes 1 72) s p k_signature_value (span_of (n + 36) 64) (n + 36 + 64)
      (yes_has_at s p k_signature_value (has_left s p k_signature_value _ after_name))
      (known ∙ span_two s (p + 16) 88 2 64 (has_right s p k_signature_value _ after_name) refl refl (omega arith) (omega arith))
      (rw (part_has s (n + 36) 64 l).1)

  -- so is the signature
  pub ed25519_found : (key_id : Span) → got (record { key_id = key_id; algorithm = 0; value = span_of (n + 36) 64 }) (n + 36 + 64) ≡ signed_at s key_id n
  unfolding signed_at guard
  ed25519_found key_id = took _ algorithm_read (took _ value_read refl)
