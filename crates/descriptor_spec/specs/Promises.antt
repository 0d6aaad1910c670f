-- What is promised of descriptors, and nothing else, in the order of document 01, "Descriptor bytes", with its names and numbers. Each
-- statement `NameOfIt` is proved in proofs/Promises.antt as `name_of_it`.
use Rattle.std.specs.Prelude.{◌≡◌, ◌↔◌, ◌⊎◌, Bool, true, false, cond, ◌&&◌, ◌||◌, List, [], ◌∷◌, ◌++◌, ℕ, ◌+◌, ◌-◌, ◌^◌, ◌≤◌, ◌<◌, length, take, get_or, eqb}
use Rattle.std.proofs.Math.Option.{Option, none, some}
use Prim.Native.String.{String}
use Rattle.octets.specs.Bytes.{AreBytes, part, Has}
use Rattle.cbor_item_spec.specs.Encoding.{head}
use Rattle.exact.specs.Reads.{enc_all, OptOk}
use Rattle.cbor_item_spec.specs.Unicode.{Utf8}
use Rattle.resource_spec.specs.Characters.{codes}
use Rattle.resource_spec.specs.Identifier.{is_fay, is_terminal}
use Rattle.resource_spec.specs.Text.{is_pattern}
use Rattle.descriptor_spec.specs.declared.DescriptorNumbers.{DescriptorNumbers}
use Rattle.descriptor_spec.specs.declared.GrantNumbers.{GrantNumbers}
use Rattle.entries_spec.specs.Keys.{k_payload, k_version, k_signature, k_grants, k_metadata, k_issued_at, k_issuer_id, k_not_after, k_grantor_id}
use Rattle.entries_spec.specs.Keys.{k_not_before, k_terminal_id, k_descriptor_id, k_subject_fay_id, k_key_id, k_algorithm, k_signature_value, k_modes}
use Rattle.entries_spec.specs.Keys.{k_constraints, k_resource_pattern, ed25519, ecdsa_p256_sha256, m_read, m_write, m_execute, m_configure}
use Rattle.entries_spec.specs.Model.{Pair, Signature, enc_pairs, enc_algorithm, enc_signature}
use Rattle.entries_spec.specs.Allowed.{PairsOk}
use Rattle.descriptor_spec.specs.Model.{Grant, Payload, Descriptor, enc_mode, enc_grant, encode_payload, encode}
use Rattle.descriptor_spec.specs.Allowed.{longest, longest_period, Formed, Allowed}
use Rattle.octets.specs.Order.{before}
use Rattle.descriptor_spec.specs.Modes.{union_of}
use Rattle.descriptor_spec.specs.Reader.{read_of, grant_at}
use Rattle.descriptor_spec.specs.View.{mask_of, grant_place}
use Rattle.descriptor_spec.specs.Code.{reading_of}
use Rattle.descriptor_spec.specs.Numbers.{numbers_of, payload_span, grant_numbers}

-- ---- the deterministic encoding

-- at most 32,768 bytes, and at most 7,776,000 seconds
abbrev pub LimitsFixed : Type 0
LimitsFixed = (longest ≡ 32768) × (longest_period ≡ 7776000)

-- a text: a head with the number of its bytes, and the bytes
abbrev pub text : List ℕ → List ℕ
text c = head 3 (length c) ++ c

-- a byte string
abbrev pub bytes : List ℕ → List ℕ
bytes c = head 2 (length c) ++ c

-- a name as a text
abbrev pub name : String → List ℕ
name n = text (codes n)

-- an array: a head with the number of its elements, and the elements
abbrev pub array : {X : Type 0} → (X → List ℕ) → List X → List ℕ
array enc xs = head 4 (length xs) ++ enc_all enc xs

-- an entry of a map: the bytes of its key's text, and the encoding of its value
pub record Entry : Type 0 where
  pub key : List ℕ
  pub value : List ℕ

-- a map: a head with the number of its entries, and for each its key as a text and its value
abbrev pub map : List Entry → List ℕ
map es = head 5 (length es) ++ enc_all (λ (e : Entry). text e.key ++ e.value) es

-- the entry with that name
abbrev pub entry : String → List ℕ → Entry
entry n v = record { key = codes n; value = v }

-- an optional entry before others
abbrev pub optional : {X : Type 0} → String → (X → List ℕ) → Option X → List Entry → List Entry
optional n enc none es = es
optional n enc (some x) es = entry n (enc x) ∷ es

-- descriptor: payload, version, signature (version is 1)
abbrev pub descriptor_entries : Descriptor → List Entry
descriptor_entries d =
    entry "payload" (encode_payload d.payload)
    ∷ entry "version" (head 0 1)
    ∷ entry "signature" (enc_signature d.signature)
    ∷ []

-- payload: grants, metadata?, issued_at, issuer_id, not_after, grantor_id?, not_before, terminal_id, descriptor_id, subject_fay_id
abbrev pub payload_entries : Payload → List Entry
payload_entries p =
    entry "grants" (array enc_grant p.grants)
    ∷ optional "metadata" enc_pairs p.metadata
    (entry "issued_at" (head 0 p.issued_at)
    ∷ entry "issuer_id" (text p.issuer)
    ∷ entry "not_after" (head 0 p.not_after)
    ∷ optional "grantor_id" text p.grantor
    (entry "not_before" (head 0 p.not_before)
    ∷ entry "terminal_id" (text p.terminal)
    ∷ entry "descriptor_id" (bytes p.id)
    ∷ entry "subject_fay_id" (text p.fay)
    ∷ []))

-- signature: key_id, algorithm, signature_value
abbrev pub signature_entries : Signature → List Entry
signature_entries g =
    entry "key_id" (text g.key_id)
    ∷ entry "algorithm" (enc_algorithm g.algorithm)
    ∷ entry "signature_value" (bytes g.value)
    ∷ []

-- grant: modes, constraints?, resource_pattern
abbrev pub grant_entries : Grant → List Entry
grant_entries g =
    entry "modes" (array enc_mode g.modes)
    ∷ optional "constraints" enc_pairs g.constraints
    (entry "resource_pattern" (text g.pattern)
    ∷ [])

-- metadata and constraints: from text to text
abbrev pub pair_entries : List Pair → List Entry
pair_entries [] = []
pair_entries (p ∷ ps) = record { key = p.key; value = text p.value } ∷ pair_entries ps

-- each key's encoding stands before the next one's in bytewise order
abbrev pub ascending : List Entry → Bool
ascending [] = true
ascending (e ∷ []) = true
ascending (e ∷ f ∷ es) = before (text e.key) (text f.key) && ascending (f ∷ es)

-- bytes are the map of the entries, whose keys ascend
pub record IsMap (b : List ℕ) (es : List Entry) : Type 0 where
  pub same : b ≡ map es
  pub order : ascending es ≡ true

-- each encoding is a map of its entries: as many as the head says, by their names, in bytewise order of the encoded keys
pub record MapsDeterministic : Type 0 where
  pub descriptor : (d : Descriptor) → IsMap (encode d) (descriptor_entries d)
  pub payload : (p : Payload) → IsMap (encode_payload p) (payload_entries p)
  pub signature : (g : Signature) → IsMap (enc_signature g) (signature_entries g)
  pub grant : (g : Grant) → IsMap (enc_grant g) (grant_entries g)
  pub pairs : (ps : List Pair) → enc_pairs ps ≡ map (pair_entries ps)

-- x is used up before y is, or has the smaller byte
abbrev pub Less : List ℕ → List ℕ → Type 0
Less x [] = ⊥
Less [] (b ∷ y) = Unit {0}
Less (a ∷ x) (b ∷ y) = a < b

-- bytewise order: after what the two have in common, the one is used up first or has the smaller byte
abbrev pub BytewiseOrder : Type 0
BytewiseOrder = (x y : List ℕ)
    → (before x y ≡ true) ↔ ((c : List ℕ) × (a : List ℕ) × (b : List ℕ) × (x ≡ c ++ a) × (y ≡ c ++ b) × Less a b)

-- each element of a list: x is the i-th
abbrev pub Each : {X : Type 0} → (X → Type 0) → List X → Type 0
Each {X} P xs = (i : ℕ) (x : X) → i < length xs → get_or xs i x ≡ x → P x

-- each two elements of a list: x is the i-th and y a later one, the j-th
abbrev pub EachTwo : {X : Type 0} → (X → X → Type 0) → List X → Type 0
EachTwo {X} R xs = (i j : ℕ) (x y : X) → i < j → j < length xs → get_or xs i x ≡ x → get_or xs j y ≡ y → R x y

-- of two allowed pairs of one map the encoded key of the first stands before that of the second
abbrev pub PairsAscend : Type 0
PairsAscend = (most : ℕ) (ps : List Pair) → PairsOk most ps → EachTwo (λ (p q : Pair). before (text p.key) (text q.key) ≡ true) ps

-- and the two keys differ: none stands twice
abbrev pub PairsDistinct : Type 0
PairsDistinct = (most : ℕ) (ps : List Pair) → PairsOk most ps → EachTwo (λ (p q : Pair). p.key ≡ q.key → ⊥) ps

-- ---- the fixed byte strings

-- what the reader compares and the encoding has are the published keys, algorithms and mode names as texts
abbrev pub NamesEncoded : Type 0
NamesEncoded =
    (k_payload ≡ name "payload") × (k_version ≡ name "version") × (k_signature ≡ name "signature")
    × (k_grants ≡ name "grants") × (k_metadata ≡ name "metadata") × (k_issued_at ≡ name "issued_at") × (k_issuer_id ≡ name "issuer_id")
    × (k_not_after ≡ name "not_after") × (k_grantor_id ≡ name "grantor_id") × (k_not_before ≡ name "not_before")
    × (k_terminal_id ≡ name "terminal_id")
    × (k_descriptor_id ≡ name "descriptor_id") × (k_subject_fay_id ≡ name "subject_fay_id")
    × (k_key_id ≡ name "key_id") × (k_algorithm ≡ name "algorithm") × (k_signature_value ≡ name "signature_value")
    × (k_modes ≡ name "modes") × (k_constraints ≡ name "constraints") × (k_resource_pattern ≡ name "resource_pattern")
    × (ed25519 ≡ name "ed25519") × (ecdsa_p256_sha256 ≡ name "ecdsa-p256-sha256")
    × (m_read ≡ name "read") × (m_write ≡ name "write") × (m_execute ≡ name "execute") × (m_configure ≡ name "configure")

-- algorithms by number: 0 is "ed25519", 1 is "ecdsa-p256-sha256"
abbrev pub AlgorithmsFixed : Type 0
AlgorithmsFixed = (enc_algorithm 0 ≡ name "ed25519") × (enc_algorithm 1 ≡ name "ecdsa-p256-sha256")

-- a mode is one of those
abbrev pub among : ℕ → List ℕ → Bool
among m [] = false
among m (n ∷ ns) = eqb m n || among m ns

-- one of the grants has the mode
abbrev pub one_has : ℕ → List Grant → Bool
one_has m [] = false
one_has m (g ∷ gs) = among m g.modes || one_has m gs

-- mode numbers: read 0, write 1, execute 2, configure 3; a mask gives them 1, 2, 4, 8, and the mask of grants has those that one of the
-- grants has
abbrev pub ModesFixed : Type 0
ModesFixed =
    (enc_mode 0 ≡ name "read") × (enc_mode 1 ≡ name "write") × (enc_mode 2 ≡ name "execute") × (enc_mode 3 ≡ name "configure")
    × (mask_of (0 ∷ []) ≡ 1) × (mask_of (1 ∷ []) ≡ 2) × (mask_of (2 ∷ []) ≡ 4) × (mask_of (3 ∷ []) ≡ 8)
    × ((gs : List Grant) → union_of gs
    ≡ cond (one_has 0 gs) 1 0 + (cond (one_has 1 gs) 2 0 + (cond (one_has 2 gs) 4 0 + cond (one_has 3 gs) 8 0)))

-- ---- what is allowed

-- a text of lo to hi bytes
pub record TextWithin (lo hi : ℕ) (c : List ℕ) : Type 0 where
  pub least : lo ≤ length c
  pub most : length c ≤ hi
  pub valid : Utf8 c

-- at most so many pairs, from text of 1 to 64 bytes to text of 0 to 256, keys in bytewise order of their encodings
pub record PairsWithin (most : ℕ) (ps : List Pair) : Type 0 where
  pub few : length ps ≤ most
  pub keys : Each (λ (p : Pair). TextWithin 1 64 p.key) ps
  pub values : Each (λ (p : Pair). TextWithin 0 256 p.value) ps
  pub order : EachTwo (λ (p q : Pair). before (text p.key) (text q.key) ≡ true) ps

-- 1 to 4 modes, any order, none twice
pub record ModesWithin (ms : List ℕ) : Type 0 where
  pub least : 1 ≤ length ms
  pub most : length ms ≤ 4
  pub known : Each (λ (m : ℕ). m < 4) ms
  pub once : EachTwo (λ (m n : ℕ). m ≡ n → ⊥) ms

-- a grant of the terminal t: at most 8 constraint pairs, and a pattern of at most 256 bytes whose terminal is t
pub record GrantWithin (t : List ℕ) (g : Grant) : Type 0 where
  pub modes : ModesWithin g.modes
  pub constraints : OptOk (PairsWithin 8) g.constraints
  pub pattern : is_pattern g.pattern ≡ true
  pub short : length g.pattern ≤ 256
  pub terminal : take 45 g.pattern ≡ t

-- a descriptor but for its longest period: at most 32,768 bytes, 1 to 256 grants, at most 16 pairs of metadata, times of 64 bits,
-- issued_at ≤ not_before < not_after, and an ed25519 signature of 64 bytes or one of ecdsa-p256-sha256 of 1 to 72
pub record Within (d : Descriptor) : Type 0 where
  pub short : length (encode d) ≤ 32768
  pub least : 1 ≤ length d.payload.grants
  pub most : length d.payload.grants ≤ 256
  pub grants : Each (GrantWithin d.payload.terminal) d.payload.grants
  pub metadata : OptOk (PairsWithin 16) d.payload.metadata
  pub issued : d.payload.issued_at < 2 ^ 64
  pub issuer : TextWithin 1 128 d.payload.issuer
  pub until : d.payload.not_after < 2 ^ 64
  pub grantor : OptOk (TextWithin 1 128) d.payload.grantor
  pub since : d.payload.not_before < 2 ^ 64
  pub terminal : is_terminal d.payload.terminal ≡ true
  pub id : length d.payload.id ≡ 16
  pub fay : is_fay d.payload.fay ≡ true
  pub begins : d.payload.issued_at ≤ d.payload.not_before
  pub lasts : d.payload.not_before < d.payload.not_after
  pub key : TextWithin 1 64 d.signature.key_id
  pub value : ((d.signature.algorithm ≡ 0) × (length d.signature.value ≡ 64))
      ⊎ ((d.signature.algorithm ≡ 1) × (1 ≤ length d.signature.value) × (length d.signature.value ≤ 72))

-- a descriptor is allowed exactly within these limits and with a period of at most 7,776,000; it is formed exactly within these limits
abbrev pub AllowedExactly : Type 0
AllowedExactly = (d : Descriptor)
    → (Allowed d ↔ (Within d × (d.payload.not_after - d.payload.not_before ≤ 7776000)))
    × (Formed d ↔ Within d)

-- ---- reading

-- what reading hands back of bytes
abbrev pub handed : List ℕ → DescriptorNumbers
handed s = numbers_of (reading_of (read_of s))

-- which answer bytes have
pub record Answered (s : List ℕ) : Type 0 where
  -- 0 exactly when they are the encoding of an allowed descriptor
  pub done : ((handed s).answer ≡ 0) ↔ ((d : Descriptor) × Allowed d × (s ≡ encode d))
  -- 1 exactly when they are the encoding of no descriptor, allowed or too long valid
  pub structure : ((handed s).answer ≡ 1) ↔ ((d : Descriptor) → Formed d → s ≡ encode d → ⊥)
  -- 2 exactly when all else is right and not_after − not_before exceeds 7,776,000
  pub validity : ((handed s).answer ≡ 2) ↔ ((d : Descriptor) × Formed d × (7776000 < d.payload.not_after - d.payload.not_before)
      × (s ≡ encode d))

-- all bytes are answered so
abbrev pub AnsweredExactly : Type 0
AnsweredExactly = (s : List ℕ) → AreBytes s → Answered s

-- bytes have one reading
abbrev pub OneReading : Type 0
OneReading = (s : List ℕ) → AreBytes s → (d e : Descriptor) → Formed d → Formed e → s ≡ encode d → s ≡ encode e → d ≡ e

-- ---- what is handed back

-- x lies at the place, and has that length
pub record Lies (s : List ℕ) (at len : ℕ) (x : List ℕ) : Type 0 where
  pub long : len ≡ length x
  pub there : part s at len ≡ x

-- an optional text: zeros where it is absent
abbrev pub LiesIf : List ℕ → ℕ → ℕ → Option (List ℕ) → Type 0
LiesIf s at len none = (at ≡ 0) × (len ≡ 0)
LiesIf s at len (some x) = Lies s at len x

-- an optional map of pairs stands at the place; the place is 0 where it is absent
abbrev pub StandsIf : List ℕ → ℕ → Option (List Pair) → Type 0
StandsIf s at none = at ≡ 0
StandsIf s at (some ps) = Has s at (enc_pairs ps)

-- the number of pairs of an optional map
abbrev pub pairs_in : Option (List Pair) → ℕ
pairs_in none = 0
pairs_in (some ps) = length ps

-- the number of constraint pairs of all grants
abbrev pub constraint_pairs : List Grant → ℕ
constraint_pairs [] = 0
constraint_pairs (g ∷ gs) = pairs_in g.constraints + constraint_pairs gs

-- the numbers that are handed back of the descriptor d in its bytes s, one by one, in the order of include/cap.h
pub record DescriptorHanded (s : List ℕ) (d : Descriptor) (n : DescriptorNumbers) : Type 0 where
  pub answer : n.answer ≡ 0
  pub payload : Lies s n.payload_at n.payload_len (encode_payload d.payload)
  pub issued : n.issued_at ≡ d.payload.issued_at
  pub since : n.not_before ≡ d.payload.not_before
  pub until : n.not_after ≡ d.payload.not_after
  pub id : part s n.id_at 16 ≡ d.payload.id
  pub issuer : Lies s n.issuer_at n.issuer_len d.payload.issuer
  pub grantor : LiesIf s n.grantor_at n.grantor_len d.payload.grantor
  pub fay : part s n.fay_at 40 ≡ d.payload.fay
  pub terminal : part s n.terminal_at 45 ≡ d.payload.terminal
  pub grants : n.grants ≡ length d.payload.grants
  pub metadata : StandsIf s n.metadata_at d.payload.metadata
  pub pairs : n.metadata_pairs ≡ pairs_in d.payload.metadata
  pub constraints : n.constraint_pairs ≡ constraint_pairs d.payload.grants
  pub mask : n.mask ≡ union_of d.payload.grants
  pub key : Lies s n.key_id_at n.key_id_len d.signature.key_id
  pub algorithm : n.algorithm ≡ d.signature.algorithm
  pub value : Lies s n.signature_at n.signature_len d.signature.value

-- reading the bytes of an allowed descriptor hands back that descriptor's numbers
abbrev pub HandsBack : Type 0
HandsBack = (s : List ℕ) → AreBytes s → (d : Descriptor) → Allowed d → s ≡ encode d → DescriptorHanded s d (handed s)

-- a refusal's numbers: its answer, and zeros
abbrev pub refusal : ℕ → DescriptorNumbers
refusal n =
    record {
      answer = n;
      payload_at = 0;
      payload_len = 0;
      issued_at = 0;
      not_before = 0;
      not_after = 0;
      id_at = 0;
      issuer_at = 0;
      issuer_len = 0;
      grantor_at = 0;
      grantor_len = 0;
      fay_at = 0;
      terminal_at = 0;
      grants = 0;
      metadata_at = 0;
      metadata_pairs = 0;
      constraint_pairs = 0;
      mask = 0;
      key_id_at = 0;
      key_id_len = 0;
      algorithm = 0;
      signature_at = 0;
      signature_len = 0;
    }

-- a refusal's other numbers are 0
abbrev pub RefusalZero : Type 0
RefusalZero = (s : List ℕ) → ((handed s).answer ≡ 0 → ⊥) → handed s ≡ refusal (handed s).answer

-- the part that `payload_part` hands back of what was read is the payload's; a refusal hands back the empty part at the start
pub record PayloadOf (s : List ℕ) : Type 0 where
  pub done : (handed s).answer ≡ 0 → payload_span s (reading_of (read_of s))
      ≡ record { start = (handed s).payload_at; len = (handed s).payload_len }
  pub refused : ((handed s).answer ≡ 0 → ⊥) → payload_span s (reading_of (read_of s)) ≡ record { start = 0; len = 0 }

-- it is so for all bytes
abbrev pub PayloadHanded : Type 0
PayloadHanded = (s : List ℕ) → AreBytes s → PayloadOf s

-- ---- a grant

-- the numbers that are handed back of the grant g in bytes s, one by one, in the order of include/cap.h
pub record GrantHandedBack (s : List ℕ) (g : Grant) (n : GrantNumbers) : Type 0 where
  pub found : n.found ≡ 1
  pub pattern : Lies s n.pattern_at n.pattern_len g.pattern
  pub mask : n.mask ≡ union_of (g ∷ [])
  pub modes : Has s n.modes_at (array enc_mode g.modes)
  pub constraints : StandsIf s n.constraints_at g.constraints
  pub pairs : n.constraint_pairs ≡ pairs_in g.constraints

-- the numbers of no grant
abbrev pub no_grant : GrantNumbers
no_grant = record { found = 0; pattern_at = 0; pattern_len = 0; mask = 0; modes_at = 0; constraints_at = 0; constraint_pairs = 0 }

-- a grant of whatever terminal stands at the place
pub record GrantStands (s : List ℕ) (at : ℕ) (g : Grant) : Type 0 where
  pub allowed : GrantWithin (take 45 g.pattern) g
  pub there : Has s at (enc_grant g)

-- reading a grant at a place of any bytes hands back the grant that stands there
abbrev pub GrantFound : Type 0
GrantFound = (s : List ℕ) → AreBytes s → (at : ℕ) (g : Grant) → GrantStands s at g → GrantHandedBack s g (grant_numbers (grant_at s at))

-- and none exactly where none stands
abbrev pub GrantAbsent : Type 0
GrantAbsent = (s : List ℕ) → AreBytes s → (at : ℕ) → (grant_numbers (grant_at s at) ≡ no_grant) ↔ ((g : Grant) → GrantStands s at g → ⊥)

-- at its place in the bytes of a descriptor it hands back the i-th grant
abbrev pub GrantHanded : Type 0
GrantHanded = (d : Descriptor) → AreBytes (encode d) → Formed d → (i : ℕ) (g : Grant) → i < length d.payload.grants
    → get_or d.payload.grants i g ≡ g
    → GrantHandedBack (encode d) g (grant_numbers (grant_at (encode d) (grant_place d i)))
