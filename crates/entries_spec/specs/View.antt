-- A reader of the promises does not need this page.
-- What is seen of a value that stands at a place: the places and numbers that its reader answers.
use Rattle.std.specs.Prelude.{List, ◌++◌, ℕ, ◌+◌, length}
use Rattle.std.proofs.Math.Option.{Option, none, some}
use Rattle.octets.specs.Span.{Span, span_of}
use Rattle.exact.specs.Reads.{view_opt}
use Rattle.cbor_item_spec.specs.Encoding.{head}
use Rattle.entries_spec.specs.declared.Kind.{Kind}
use Rattle.entries_spec.specs.Keys.{k_algorithm, k_signature_value}
use Rattle.entries_spec.specs.Model.{Pair, Signature, enc_text, enc_algorithm}
use Rattle.entries_spec.specs.Kinds.{major_of}
use Rattle.entries_spec.specs.Value.{Optional, absent, present}
use Rattle.entries_spec.specs.Reader.{SignatureSeen}

-- the content of a string that stands at a place with its head
abbrev pub content_span : ℕ → ℕ → List ℕ → Span
content_span at major c = span_of (at + length (head major (length c))) (length c)

-- the value, or what is seen where there is none
abbrev pub or_none : Option Optional → Optional
or_none none = absent
or_none (some v) = v

-- an optional string of a kind, whose key stands at the place
abbrev pub opt_kind_view : ℕ → List ℕ → Kind → Option (List ℕ) → Optional
opt_kind_view at key kind c =
    or_none (view_opt (λ (x : List ℕ). present (content_span (at + length key) (major_of kind) x).start (length x)) c)

-- an optional map of pairs, whose key stands at the place
abbrev pub opt_pairs_view : ℕ → List ℕ → Option (List Pair) → Optional
opt_pairs_view at key ps = or_none (view_opt (λ (x : List Pair). present (at + length key) (length x)) ps)

-- a signature, of which the text of key_id stands at the place
abbrev pub signature_view : ℕ → Signature → SignatureSeen
signature_view at g =
    let n = at + length (enc_text g.key_id) in
    let n₁ = n + length (k_algorithm ++ enc_algorithm g.algorithm) in
    record {
      key_id = content_span at 3 g.key_id;
      algorithm = g.algorithm;
      value = content_span (n₁ + length k_signature_value) 2 g.value;
    }
