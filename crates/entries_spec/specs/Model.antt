-- The values that the maps of source 002 have in common, section 2.3: strings, maps of pairs and signatures, and their deterministic
-- encoding. Nothing of places or of reading.
use Rattle.std.specs.Prelude.{List, [], ◌++◌, ℕ, length, get_or}
use Rattle.std.proofs.Math.Option.{Option, none, some}
use Rattle.cbor_item_spec.specs.Encoding.{head}
use Rattle.cbor_item_spec.specs.Head.{encode_string}
use Rattle.exact.specs.Reads.{enc_all}
use Rattle.entries_spec.specs.Keys.{k_key_id, k_algorithm, k_signature_value, algorithms}

-- ---- what there is

-- a pair of metadata or of constraints
pub record Pair : Type 0 where
  pub key : List ℕ
  pub value : List ℕ

-- a signature; the algorithm by its number
pub record Signature : Type 0 where
  pub key_id : List ℕ
  pub algorithm : ℕ
  pub value : List ℕ

-- how many pairs an optional map has
abbrev pub pair_count : Option (List Pair) → ℕ
pair_count none = 0
pair_count (some ps) = length ps

-- ---- its encoding: heads, keys and contents one after the other

-- a byte string
abbrev pub enc_bytes : List ℕ → List ℕ
enc_bytes c = encode_string 2 c

-- a text
abbrev pub enc_text : List ℕ → List ℕ
enc_text c = encode_string 3 c

-- one key more where a value is there
abbrev pub size : {X : Type 0} → Option X → ℕ
size none = 0
size (some x) = 1

-- a pair: its key, then its value
unfoldable pub enc_pair : Pair → List ℕ
enc_pair p = enc_text p.key ++ enc_text p.value

-- a map of pairs
unfoldable pub enc_pairs : List Pair → List ℕ
enc_pairs ps = head 5 (length ps) ++ enc_all enc_pair ps

-- an algorithm is the name of its number
unfoldable pub enc_algorithm : ℕ → List ℕ
enc_algorithm a = get_or algorithms a []

-- a signature: a map of key_id, algorithm and signature_value
unfoldable pub enc_signature : Signature → List ℕ
enc_signature s =
    head 5 3
    ++ ((k_key_id ++ enc_text s.key_id)
    ++ ((k_algorithm ++ enc_algorithm s.algorithm)
    ++ (k_signature_value ++ enc_bytes s.value)))
