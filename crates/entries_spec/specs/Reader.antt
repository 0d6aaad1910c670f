-- A reader of the promises does not need this page.
-- Readers of maps of pairs and of signatures. These definitions compute: the code answers what they say.
use Rattle.std.specs.Prelude.{Bool, ◌||◌, List, ℕ, ◌+◌, ◌-◌, length, eqb}
use Rattle.octets.specs.Bytes.{part, has_at}
use Rattle.octets.specs.Order.{before}
use Rattle.octets.specs.Span.{Span, span_of}
use Rattle.exact.specs.Reads.{Got, got, bind, guard, many}
use Rattle.entries_spec.specs.declared.Kind.TheVariants.{Text, Bytes}
use Rattle.entries_spec.specs.Keys.{k_algorithm, k_signature_value, algorithms}
use Rattle.entries_spec.specs.Value.{Optional, count_at, kind_at, one_of, keyed_at, present, or_absent}

-- ---- pairs

-- one pair after the key whose encoding is the part `last`; the answer is the new key's part
unfoldable pub pair_at : List ℕ → Span → ℕ → Got Span
pair_at s last at =
    bind (kind_at (Text 1 64) s at) (λ k n.
    guard (before (part s last.start last.len) (part s at (n - at)))
    (bind (kind_at (Text 0 256) s n) (λ v n₂. got (span_of at (n - at)) n₂)))

-- a map of at most so many pairs; the answer is how many there are
unfoldable pub pairs_at : List ℕ → ℕ → ℕ → Got ℕ
pairs_at s most at = bind (count_at s at 5 0 most) (λ c n. bind (many (pair_at s) c (span_of 0 0) n) (λ last n₂. got c n₂))

-- an optional map of at most so many pairs after its key
unfoldable pub opt_pairs_at : List ℕ → ℕ → List ℕ → ℕ → Got Optional
opt_pairs_at s at key most =
    or_absent (has_at s at key) (bind (pairs_at s most (at + length key)) (λ c n. got (present (at + length key) c) n)) at

-- ---- signatures

-- what is seen of a signature
pub record SignatureSeen : Type 0 where
  pub key_id : Span
  pub algorithm : ℕ
  pub value : Span

-- 64 bytes for ed25519, 1 to 72 for ecdsa-p256-sha256
abbrev pub value_fits : ℕ → ℕ → Bool
value_fits algorithm n = eqb algorithm 1 || eqb n 64

-- an algorithm
unfoldable pub algorithm_at : List ℕ → ℕ → Got ℕ
algorithm_at s at = one_of s at 0 algorithms

-- from the text of key_id on
unfoldable pub signature_at : List ℕ → ℕ → Got SignatureSeen
signature_at s at =
    bind (kind_at (Text 1 64) s at) (λ key_id n.
    bind (keyed_at s n k_algorithm (algorithm_at s)) (λ algorithm n₁.
    bind (keyed_at s n₁ k_signature_value (kind_at (Bytes 1 72) s)) (λ value n₂.
    guard (value_fits algorithm value.len) (got (record { key_id = key_id; algorithm = algorithm; value = value }) n₂))))
