-- What those above cite of the readers of entries: a key that the code found, the end of a string, and one of a table. Assumes nothing.
use mathlib.Core.Path.{◌≡◌, refl}
use mathlib.Core.Bool.{Bool, true, false}
use mathlib.Core.List.{List, [], ◌∷◌}
use Prim.Native.Nat.{ℕ, suc, ◌+◌, ◌≤◌}
use lib.ListN.{length}
use lib.Dec.{T}
use Rattle.octets.specs.Bytes.{has_at}
use Rattle.octets.specs.Span.{span_of}
use Rattle.octets.proofs.TruthLaws.{T_true}
use Rattle.std.proofs.Common.{cond, Some, None}
use Rattle.exact.specs.Reads.{Got, got, refused, guard}
use Rattle.exact.proofs.HoldsLaws.{held}
use Rattle.exact.proofs.ReadsLaws.{passed}
use Rattle.cbor_item_spec.specs.Head.{span_at}
use Rattle.cbor_item_spec.specs.Laws.{SpanTo}
use Rattle.cbor_item_spec.proofs.Laws.{spans_end}
use Rattle.entries.specs.Code.{after_key}
use Rattle.entries_spec.specs.Value.{one_of}

-- ---- keys

-- a key that the code found, in s at a place
pub record KeyTo (s : List ℕ) (at : ℕ) (key : List ℕ) (place : ℕ) : Type 0 where
  pub there : T (has_at s at key)
  pub ends : place ≡ at + length key

found : {m : ℕ} (b : Bool) (n : ℕ) → Some m ≡ cond b (Some n) None → T b × (m ≡ n)
found true n e = (tt, cc)
found false n e = cc

-- what the code found is such a key
pub key_to : (s : List ℕ) (at : ℕ) (key : List ℕ) {place : ℕ} → Some place ≡ after_key s at key → KeyTo s at key place
key_to s at key e = let f = found (has_at s at key) _ e in record { there = f.0; ends = f.1 }

-- where the code found no key, none stands
pub key_not : (s : List ℕ) (at : ℕ) (key : List ℕ) → None ≡ after_key s at key → has_at s at key ≡ false
key_not s at key e = go (has_at s at key) _ e
  where
    go : (b : Bool) (n : ℕ) → None ≡ cond b (Some n) None → b ≡ false
    go true n e = cc
    go false n e = refl

-- and one whose key does
pub key_yes : {R : Type 0} {q o : Got R} {m : ℕ} (s : List ℕ) (at : ℕ) (key : List ℕ) → Some m ≡ after_key s at key → q ≡ o
    → q ≡ guard (has_at s at key) o
key_yes s at key e f = passed _ (key_to s at key e).there f

-- ---- strings

-- the string of a major type at a place lies in s
pub span_bound : (s : List ℕ) (at major start len : ℕ) → got (span_of start len) (start + len) ≡ span_at s at major → start + len ≤ length s
span_bound s at major start len e = (held (SpanTo s at) (spans_end s at major) e).fits

-- ---- one of a table

-- the first entry stands at the place
pub one_first : {m : ℕ} (s : List ℕ) (at i : ℕ) (k : List ℕ) (ks : List (List ℕ)) → Some m ≡ after_key s at k
    → got i m ≡ one_of s at i (k ∷ ks)
unfolding one_of
one_first s at i k ks e = let f = key_to s at k e in rw ((T_true _).0 f.there, f.ends)

-- it does not, and the others decide
pub one_next : (s : List ℕ) (at i : ℕ) (k : List ℕ) (ks : List (List ℕ)) → None ≡ after_key s at k
    → one_of s at (suc i) ks ≡ one_of s at i (k ∷ ks)
unfolding one_of
one_next s at i k ks e = rw (key_not s at k e)

-- none is left
pub one_none : (s : List ℕ) (at i : ℕ) → refused ≡ one_of s at i []
unfolding one_of
one_none s at i = refl
