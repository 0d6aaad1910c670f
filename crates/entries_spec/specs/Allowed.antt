-- What document 01 allows of strings, times, maps of pairs and signatures. Nothing of places or of reading. A reader of the promises does
-- not need this page: `AllowedExactly` of `descriptor_spec` has each limit with its number.
use Rattle.std.specs.Prelude.{◌≡◌, true, List, [], ◌⊎◌, ℕ, ◌^◌, ◌≤◌, ◌<◌, length}
use Rattle.octets.specs.Order.{before}
use Rattle.cbor_item_spec.specs.Unicode.{Utf8}
use Rattle.exact.specs.Reads.{AllFrom}
use Rattle.resource_spec.specs.Identifier.{is_fay, is_terminal}
use Rattle.resource_spec.specs.Text.{pattern_ok}
use Rattle.entries_spec.specs.declared.Kind.{Kind}
use Rattle.entries_spec.specs.declared.Kind.TheVariants.{Text, Bytes, Terminal, Fay, Pattern}
use Rattle.entries_spec.specs.Model.{Pair, Signature, enc_text}

-- a text of lo to hi bytes
pub record TextOk (lo hi : ℕ) (c : List ℕ) : Type 0 where
  pub least : lo ≤ length c
  pub most : length c ≤ hi
  pub valid : Utf8 c

-- a string of a kind
abbrev pub KindOk : Kind → List ℕ → Type 0
KindOk (Text lo hi) c = TextOk lo hi c
KindOk (Bytes lo hi) c = (lo ≤ length c) × (length c ≤ hi)
KindOk Terminal c = is_terminal c ≡ true
KindOk Fay c = is_fay c ≡ true
KindOk Pattern c = pattern_ok c ≡ true

-- a time: unsigned 64-bit seconds
abbrev pub TimeOk : ℕ → Type 0
TimeOk t = t < 2 ^ 64

-- a pair after a key whose encoding is `last`: from text of 1 to 64 bytes to text of 0 to 256, the key's encoding after `last`; before
-- the first key `last` is empty
pub record PairOk (last : List ℕ) (p : Pair) : Type 0 where
  pub key : TextOk 1 64 p.key
  pub value : TextOk 0 256 p.value
  pub ascends : before last (enc_text p.key) ≡ true

-- the encoding of a pair's key
abbrev pub key_of : List ℕ → Pair → List ℕ
key_of last p = enc_text p.key

-- at most so many pairs, keys in bytewise order of their encodings, none twice
pub record PairsOk (most : ℕ) (ps : List Pair) : Type 0 where
  pub few : length ps ≤ most
  pub each : AllFrom PairOk key_of [] ps

-- ed25519 with 64 signature bytes, or ecdsa-p256-sha256 with 1 to 72
abbrev pub ValueOk : ℕ → ℕ → Type 0
ValueOk algorithm n = ((algorithm ≡ 0) × (n ≡ 64)) ⊎ ((algorithm ≡ 1) × (1 ≤ n) × (n ≤ 72))

-- a signature: key_id of 1 to 64 bytes, and a value that its algorithm allows
pub record SignatureOk (s : Signature) : Type 0 where
  pub key_id : TextOk 1 64 s.key_id
  pub value : ValueOk s.algorithm (length s.value)
