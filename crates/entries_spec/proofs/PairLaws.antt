-- The reader of a map of pairs is exact (specs/Reader.antt). Assumes nothing.
use mathlib.Core.Path.{◌≡◌, refl, ap}
use mathlib.Core.Bool.{true}
use mathlib.Core.List.{List, [], ◌++◌}
use Prim.Native.Nat.{ℕ, ◌+◌, ◌-◌, ◌^◌, ◌<◌}
use native.Mathlib.Omega.{arith}
use lib.ListN.{length}
use lib.Dec.{lit<}
use Rattle.octets.specs.Bytes.{AreBytes, part, Has}
use Rattle.octets.specs.Order.{before}
use Rattle.octets.specs.Span.{Span, span_of}
use Rattle.octets.proofs.BytesLaws.{has_left, has_part, part_back}
use Rattle.octets.proofs.TruthLaws.{T_true}
use Rattle.exact.specs.Reads.{Reads, enc_all}
use Rattle.exact.proofs.ReadsLaws.{recast, seq, mapped, checked}
use Rattle.exact.proofs.CountedLaws.{counted}
use Rattle.cbor_item_spec.specs.Encoding.{head}
use Rattle.entries_spec.specs.declared.Kind.TheVariants.{Text}
use Rattle.entries_spec.specs.Model.{Pair, enc_text, enc_pair, enc_pairs}
use Rattle.entries_spec.specs.Allowed.{PairOk, key_of, PairsOk}
use Rattle.entries_spec.specs.Reader.{pair_at, pairs_at}
use Rattle.entries_spec.proofs.ValueLaws.{count_exact, string_exact}

-- where the encoding of a pair's key stands, when the pair stands at a place
abbrev key_part : ℕ → Pair → Span
key_part at p = span_of at (length (enc_text p.key))

-- before the first pair the last key's part is empty
no_key_lem : (s : List ℕ) → part s 0 0 ≡ []
unfolding part
no_key_lem s = refl

-- the part of a pair's key has the key's encoding
key_kept : (s : List ℕ) (at : ℕ) (p : Pair) → Has s at (enc_pair p) → part s at (length (enc_text p.key)) ≡ enc_text p.key
unfolding enc_pair
key_kept s at p h = has_part s at (enc_text p.key) (has_left s at (enc_text p.key) (enc_text p.value) h)

-- the reader of one pair is exact, after the key whose encoding g is the part `last`
pair_exact : (s : List ℕ) → AreBytes s → (last : Span) (g : List ℕ) (at : ℕ) → part s last.start last.len ≡ g
    → Reads s at (PairOk g) enc_pair (key_part at) (pair_at s last at)
unfolding pair_at enc_pair
pair_exact s bs last g at i =
    recast
    (checked (λ k n. before (part s last.start last.len) (part s at (n - at))) _ (λ k. before g (enc_text k) ≡ true)
    (string_exact s bs at (Text 1 64) (lit< tt))
    (λ k p h. rw (i, part_back s at (enc_text k) h) (T_true (before g (enc_text k))))
    (λ k p c h.
    mapped (string_exact s bs (at + length (enc_text k)) (Text 0 256) (lit< tt)) (λ v. span_of at (length (enc_text k))) _
    (λ v q h₂. ap (span_of at) (omega arith))))
    (PairOk g) enc_pair (key_part at) (λ v. record { key = v.0; value = v.1 })
    (λ v p h. (record { key = p.0.0; value = p.1; ascends = p.0.1 }, refl, refl))
    (λ p q h. ((p.key, p.value), ((q.key, q.ascends), q.value), refl, refl))

-- the reader of a map of at most so many pairs is exact
pub pairs_exact : (s : List ℕ) → AreBytes s → (most at : ℕ) → most < 2 ^ 64
    → Reads s at (PairsOk most) enc_pairs (λ (ps : List Pair). length ps) (pairs_at s most at)
unfolding pairs_at enc_pairs
pairs_exact s bs most at l =
    recast
    (seq _ (count_exact s bs at 5 0 most (lit< tt) l)
    (λ c p h.
    mapped
    (counted s enc_pair PairOk key_of (λ last g. part s last.start last.len ≡ g) (λ last p at. key_part at p) (pair_at s)
    (pair_exact s bs) (λ last g at p i q h. key_kept s at p h) c (span_of 0 0) [] (at + length (head 5 c)) (no_key_lem s))
    (λ ps. c) _ (λ ps q h₂. refl)))
    (PairsOk most) enc_pairs (λ ps. length ps) (λ v. v.1)
    (λ v p h. (record { few = omega arith; each = p.1.1 }, ap (λ (n : ℕ). head 5 n ++ enc_all enc_pair v.1) p.1.0, p.1.0))
    (λ ps q h. ((length ps, ps), ((omega arith, q.few), (refl, q.each)), refl, refl))
