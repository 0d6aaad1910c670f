-- An optional value after its key, and what follows it (specs/Value.antt). Assumes nothing.
use mathlib.Core.Path.{◌≡◌, refl}
use mathlib.Core.Bool.{Bool, true, false}
use mathlib.Core.List.{List, ◌++◌}
use mathlib.Core.Option.{Option, none, some}
use Prim.Native.Nat.{ℕ, ◌+◌, ◌^◌, ◌≤◌, ◌<◌}
use native.Mathlib.Omega.{arith}
use lib.ListN.{length}
use Rattle.octets.specs.Bytes.{AreBytes, Has, has_at}
use Rattle.exact.specs.Reads.{Got, got, refused, Reads, bind, opt_at, enc_opt, OptOk, view_opt}
use Rattle.exact.proofs.ReadsLaws.{mapped}
use Rattle.exact.proofs.OptionalLaws.{optional}
use Rattle.cbor_item_spec.specs.Head.{encode_string}
use Rattle.entries_spec.specs.declared.Kind.{Kind}
use Rattle.entries_spec.specs.Model.{Pair, pair_count, size, enc_pairs}
use Rattle.entries_spec.specs.Kinds.{major_of}
use Rattle.entries_spec.specs.Allowed.{KindOk, PairsOk}
use Rattle.entries_spec.specs.Value.{Optional, present, placed, flag, or_absent, opt_kind_at}
use Rattle.entries_spec.specs.Reader.{opt_pairs_at}
use Rattle.entries_spec.specs.View.{content_span, or_none, opt_kind_view, opt_pairs_view}
use Rattle.entries_spec.proofs.ValueLaws.{KindShort, string_exact}
use Rattle.entries_spec.proofs.PairLaws.{pairs_exact}

-- an optional value is one key at most
pub size_small : {X : Type 0} (x : Option X) → size x ≤ 1
size_small none = omega arith
size_small (some x) = omega arith

-- an optional map of pairs is seen to be there where it is one key
pub pairs_there : (at : ℕ) (key : List ℕ) (ps : Option (List Pair)) → flag (opt_pairs_view at key ps) ≡ size ps
pairs_there at key none = refl
pairs_there at key (some ps) = refl

-- so is an optional string
pub kind_there : (at : ℕ) (key : List ℕ) (kind : Kind) (c : Option (List ℕ)) → flag (opt_kind_view at key kind c) ≡ size c
kind_there at key kind none = refl
kind_there at key kind (some c) = refl

-- as many pairs are seen as there are
pub pairs_seen : (at : ℕ) (key : List ℕ) (ps : Option (List Pair)) → (placed (opt_pairs_view at key ps)).size ≡ pair_count ps
pairs_seen at key none = refl
pairs_seen at key (some ps) = refl

-- reading an optional value and going on is reading it as an option, and going on
or_bind : {Q : Type 0} (b : Bool) (o : Got Optional) (at : ℕ) (k : Optional → ℕ → Got Q)
    → bind (opt_at b o at) (λ v n. k (or_none v) n) ≡ bind (or_absent b o at) k
unfolding opt_at or_absent bind
or_bind true (got v n) at k = refl
or_bind true refused at k = refl
or_bind false o at k = refl

-- an optional value after its key, and what follows, are read exactly where both are and what follows cannot be taken for the key
optional_exact : {X Y Q : Type 0} {s : List ℕ} {at : ℕ} {P : X → Type 0} {enc : X → List ℕ} {view : X → Optional} {o : Got Optional}
    {P₂ : Option X → Y → Type 0} {enc₂ : Option X → Y → List ℕ} {view₂ : Option X → Y → Q} (k : Optional → ℕ → Got Q) (b : List ℕ)
    → Reads s (at + length b) P enc view o
    → ((x : Option X) → OptOk P x → Has s at (enc_opt b enc x) →
    Reads s (at + length (enc_opt b enc x)) (P₂ x) (enc₂ x) (view₂ x) (k (or_none (view_opt view x)) (at + length (enc_opt b enc x))))
    → ((y : Y) → P₂ none y → Has s at (enc₂ none y) → Has s at b → ⊥)
    → Reads s at (λ (v : Option X × Y). OptOk P v.0 × P₂ v.0 v.1) (λ (v : Option X × Y). enc_opt b enc v.0 ++ enc₂ v.0 v.1)
    (λ (v : Option X × Y). view₂ v.0 v.1) (bind (or_absent (has_at s at b) o at) k)
optional_exact {s} {at} {o} k b r f apart = rw (← (or_bind (has_at s at b) o at k)) (optional (λ v n. k (or_none v) n) b r f apart)

module _ {Y Q : Type 0} (s : List ℕ) (bs : AreBytes s) (at : ℕ) (key : List ℕ) where
  -- so it is for a string of a kind
  pub opt_string_exact : {P₂ : Option (List ℕ) → Y → Type 0} {enc₂ : Option (List ℕ) → Y → List ℕ} {view₂ : Option (List ℕ) → Y → Q}
      (kind : Kind) → KindShort kind → (k : Optional → ℕ → Got Q)
      → ((x : Option (List ℕ)) → OptOk (KindOk kind) x → Has s at (enc_opt key (encode_string (major_of kind)) x) →
      Reads s (at + length (enc_opt key (encode_string (major_of kind)) x)) (P₂ x) (enc₂ x) (view₂ x)
      (k (opt_kind_view at key kind x) (at + length (enc_opt key (encode_string (major_of kind)) x))))
      → ((y : Y) → P₂ none y → Has s at (enc₂ none y) → Has s at key → ⊥)
      → Reads s at (λ (v : Option (List ℕ) × Y). OptOk (KindOk kind) v.0 × P₂ v.0 v.1)
      (λ (v : Option (List ℕ) × Y). enc_opt key (encode_string (major_of kind)) v.0 ++ enc₂ v.0 v.1)
      (λ (v : Option (List ℕ) × Y). view₂ v.0 v.1) (bind (opt_kind_at s at key kind) k)
  unfolding opt_kind_at
  opt_string_exact kind l k f apart =
      optional_exact k key
      (mapped (string_exact s bs _ kind l) (λ c. present (content_span (at + length key) (major_of kind) c).start (length c)) _
      (λ c p h. refl))
      f apart

  -- and for a map of pairs
  pub opt_pairs_exact : {P₂ : Option (List Pair) → Y → Type 0} {enc₂ : Option (List Pair) → Y → List ℕ} {view₂ : Option (List Pair) → Y → Q}
      (most : ℕ) → most < 2 ^ 64 → (k : Optional → ℕ → Got Q)
      → ((x : Option (List Pair)) → OptOk (PairsOk most) x → Has s at (enc_opt key enc_pairs x) →
      Reads s (at + length (enc_opt key enc_pairs x)) (P₂ x) (enc₂ x) (view₂ x)
      (k (opt_pairs_view at key x) (at + length (enc_opt key enc_pairs x))))
      → ((y : Y) → P₂ none y → Has s at (enc₂ none y) → Has s at key → ⊥)
      → Reads s at (λ (v : Option (List Pair) × Y). OptOk (PairsOk most) v.0 × P₂ v.0 v.1)
      (λ (v : Option (List Pair) × Y). enc_opt key enc_pairs v.0 ++ enc₂ v.0 v.1)
      (λ (v : Option (List Pair) × Y). view₂ v.0 v.1) (bind (opt_pairs_at s at key most) k)
  unfolding opt_pairs_at
  opt_pairs_exact most l k f apart =
      optional_exact k key (mapped (pairs_exact s bs most _ l) (λ ps. present (at + length key) (length ps)) _ (λ ps p h. refl)) f apart
