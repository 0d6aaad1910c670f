-- A reader of the promises does not need this page.
-- What the answers of the code say, as answers of exact readers.
use Rattle.std.specs.Prelude.{cond, Option, Some, None, List, ℕ, ◌+◌, length}
use Rattle.octets.specs.Bytes.{has_at}
use Rattle.octets.specs.Span.{Span, span_of}
use Rattle.exact.specs.Reads.{Got, got, bind, guard}
use Rattle.exact.specs.Answer.{got_by}
use Rattle.cbor_item_spec.specs.declared.Span.{Span as CodeSpan}
use Rattle.entries.specs.declared.signature.SignatureFields.{SignatureFields}
use Rattle.entries_spec.specs.declared.Kind.TheVariants.{Bytes}
use Rattle.entries_spec.specs.Keys.{k_algorithm, k_signature_value}
use Rattle.entries_spec.specs.Value.{Optional, kind_at, keyed_at}
use Rattle.entries_spec.specs.Reader.{value_fits, algorithm_at, SignatureSeen}

-- the place after a key, where the key stands at `at`
abbrev pub after_key : List ℕ → ℕ → List ℕ → Option ℕ
after_key s at key = cond (has_at s at key) (Some (at + length key)) None

-- a number and the place after it
abbrev pub count_read : Option (ℕ × ℕ) → Got ℕ
count_read = got_by (λ n. n)

-- an optional value and the place after it
abbrev pub optional_read : Option (Optional × ℕ) → Got Optional
optional_read = got_by (λ v. v)

-- the part of a pair's key, and the place after the pair
abbrev pub pair_read : Option (CodeSpan × ℕ) → Got Span
pair_read = got_by (λ part. span_of part.start part.len)

-- a signature
abbrev pub signature_of : SignatureFields → SignatureSeen
signature_of f = record { key_id = span_of f.key.start f.key.len; algorithm = f.algorithm; value = span_of f.value.start f.value.len }

-- that and the place after it, or a refusal
abbrev pub signature_read : Option (SignatureFields × ℕ) → Got SignatureSeen
signature_read = got_by signature_of

-- the signature after key_id: its algorithm and its value
unfoldable pub signed_at : List ℕ → Span → ℕ → Got SignatureSeen
signed_at s key_id n =
    bind (keyed_at s n k_algorithm (algorithm_at s)) (λ algorithm n₁.
    bind (keyed_at s n₁ k_signature_value (kind_at (Bytes 1 72) s)) (λ value n₂.
    guard (value_fits algorithm value.len) (got (record { key_id = key_id; algorithm = algorithm; value = value }) n₂)))
