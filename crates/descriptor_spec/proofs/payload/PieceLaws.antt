-- The readers of the three pieces of a payload behind its grants are exact (specs/Reader.antt). Assumes nothing.
use mathlib.Core.Path.{◌≡◌, refl}
use mathlib.Core.Bool.{true}
use mathlib.Core.List.{List, ◌++◌}
use mathlib.Core.Option.{Option}
use Prim.Native.Nat.{ℕ, ◌≤◌}
use lib.ListN.{length}
use lib.Dec.{T, lit<}
use Rattle.octets.specs.Bytes.{AreBytes, clash}
use Rattle.octets.proofs.BytesLaws.{has_left, has_clash}
use Rattle.exact.specs.Reads.{Reads, OptOk}
use Rattle.exact.proofs.ReadsLaws.{seq, keyed, mapped}
use Rattle.cbor_item_spec.specs.Encoding.{head}
use Rattle.resource_spec.specs.Identifier.{is_fay, is_terminal}
use Rattle.entries_spec.specs.declared.Kind.TheVariants.{Text, Bytes, Terminal, Fay}
use Rattle.entries_spec.specs.Keys.{k_metadata, k_issued_at, k_issuer_id, k_not_after, k_grantor_id, k_not_before, k_terminal_id, k_descriptor_id}
use Rattle.entries_spec.specs.Keys.{k_subject_fay_id}
use Rattle.entries_spec.specs.Model.{Pair}
use Rattle.entries_spec.specs.Allowed.{TimeOk, TextOk, PairsOk}
use Rattle.descriptor_spec.specs.Allowed.{id_size}
use Rattle.entries_spec.proofs.ValueLaws.{time_exact, string_exact}
use Rattle.entries_spec.proofs.OptionalLaws.{opt_string_exact, opt_pairs_exact}
use Rattle.descriptor_spec.specs.Reader.{issue_at, grantor_at, ids_at}
use Rattle.descriptor_spec.specs.Reader as read
use Rattle.descriptor_spec.specs.View.{enc_issue, enc_grantor, enc_ids, issue_view, grantor_view, ids_view}

-- ---- metadata, issued_at, issuer_id and not_after

-- what stands there
abbrev pub Issue : Type 0
Issue = Option (List Pair) × (ℕ × (List ℕ × ℕ))

-- what is allowed there
abbrev pub IssueOk : Issue → Type 0
IssueOk v = OptOk (PairsOk 16) v.0 × (TimeOk v.1.0 × (TextOk 1 128 v.1.1.0 × TimeOk v.1.1.1))

-- its encoding, and what is seen of it
abbrev pub issue_bytes : Issue → List ℕ
issue_bytes v = enc_issue v.0 v.1.0 v.1.1.0 v.1.1.1

abbrev pub issue_seen : ℕ → Issue → read.Issue
issue_seen at v = issue_view at v.0 v.1.0 v.1.1.0 v.1.1.1

-- "issued_at" is not "metadata"
metadata_apart : T (clash k_issued_at k_metadata)
unfolding clash k_issued_at k_metadata
metadata_apart = tt

module _ (s : List ℕ) (bs : AreBytes s) (at : ℕ) where
  pub issue_exact : Reads s at IssueOk issue_bytes (issue_seen at) (issue_at s at)
  unfolding issue_at
  issue_exact =
      opt_pairs_exact s bs at k_metadata 16 (lit< tt) _ (λ m p₀ h₀.
      seq _ (keyed k_issued_at (time_exact s bs _)) (λ t p₁ h₁.
      seq _ (keyed k_issuer_id (string_exact s bs _ (Text 1 128) (lit< tt))) (λ c p₂ h₂.
      mapped (keyed k_not_after (time_exact s bs _)) (λ u. issue_view at m t c u) _ (λ u p₃ h₃. refl))))
      (λ y p h k. has_clash s at k_issued_at k_metadata metadata_apart
      (has_left s at k_issued_at (head 0 y.0) (has_left s at (k_issued_at ++ head 0 y.0) _ h)) k)

-- ---- grantor_id and not_before

abbrev pub Grantor : Type 0
Grantor = Option (List ℕ) × ℕ

abbrev pub GrantorOk : Grantor → Type 0
GrantorOk v = OptOk (TextOk 1 128) v.0 × TimeOk v.1

abbrev pub grantor_bytes : Grantor → List ℕ
grantor_bytes v = enc_grantor v.0 v.1

abbrev pub grantor_seen : ℕ → Grantor → read.Grantor
grantor_seen at v = grantor_view at v.0 v.1

-- "not_before" is not "grantor_id"
grantor_apart : T (clash k_not_before k_grantor_id)
unfolding clash k_not_before k_grantor_id
grantor_apart = tt

module _ (s : List ℕ) (bs : AreBytes s) (at : ℕ) where
  pub grantor_exact : Reads s at GrantorOk grantor_bytes (grantor_seen at) (grantor_at s at)
  unfolding grantor_at
  grantor_exact =
      opt_string_exact s bs at k_grantor_id (Text 1 128) (lit< tt) _ (λ g p₀ h₀.
      mapped (keyed k_not_before (time_exact s bs _)) (λ t. grantor_view at g t) _ (λ t p₁ h₁. refl))
      (λ t p h k. has_clash s at k_not_before k_grantor_id grantor_apart (has_left s at k_not_before (head 0 t) h) k)

-- ---- terminal_id, descriptor_id and subject_fay_id

abbrev pub Ids : Type 0
Ids = List ℕ × (List ℕ × List ℕ)

abbrev pub IdsOk : Ids → Type 0
IdsOk v = (is_terminal v.0 ≡ true) × (((id_size ≤ length v.1.0) × (length v.1.0 ≤ id_size)) × (is_fay v.1.1 ≡ true))

abbrev pub ids_bytes : Ids → List ℕ
ids_bytes v = enc_ids v.0 v.1.0 v.1.1

abbrev pub ids_seen : ℕ → Ids → read.Ids
ids_seen at v = ids_view at v.0 v.1.0 v.1.1

module _ (s : List ℕ) (bs : AreBytes s) (at : ℕ) where
  pub ids_exact : Reads s at IdsOk ids_bytes (ids_seen at) (ids_at s at)
  unfolding ids_at
  ids_exact =
      seq _ (keyed k_terminal_id (string_exact s bs _ Terminal tt)) (λ t p₀ h₀.
      seq _ (keyed k_descriptor_id (string_exact s bs _ (Bytes id_size id_size) (lit< tt))) (λ i p₁ h₁.
      mapped (keyed k_subject_fay_id (string_exact s bs _ Fay tt)) (λ f. ids_view at t i f) _ (λ f p₂ h₂. refl)))
