-- What the crates above stand on, in the code's own answers. A reader of the promises does not need this page. Each statement
-- `NameOfIt` is proved in proofs/Laws.antt as `name_of_it`.
use Rattle.std.specs.Prelude.{◌≡◌, ◌↔◌, List, [], ◌∷◌, ℕ, suc, ◌+◌, ◌-◌, ◌≤◌, ◌<◌, length, take, drop, get_or}
use Rattle.std.proofs.Math.Option.{none, some}
use Rattle.resource_spec.specs.Identifier.{fay_size, levels_place, terminal_size}
use Rattle.octets.specs.Bytes.{AreBytes, part}
use Rattle.exact.specs.Reads.{got}
use Rattle.exact.specs.Holds.{Holds}
use Rattle.entries_spec.specs.Keys.{k_modes}
use Rattle.entries_spec.specs.Model.{pair_count}
use Rattle.descriptor_spec.specs.Model.{Grant, Descriptor, encode}
use Rattle.descriptor_spec.specs.Allowed.{is_in, id_size, GrantOk, longest, longest_period, period, Formed, Allowed}
use Rattle.descriptor_spec.specs.Modes.{union_of}
use Rattle.descriptor_spec.specs.Reader.{has_mode, mode_at, modes_at, GrantSeen, grant_at, Sum, more_at, GrantsSeen, grants_at, Ids, ids_at}
use Rattle.descriptor_spec.specs.Reader.{PayloadSeen, payload_at, Seen, descriptor_at, read, structure, validity, formed_in, read_of}
use Rattle.descriptor_spec.specs.View.{mask_of, grant_view, descriptor_view, grant_place}
use Rattle.descriptor_spec.specs.Code.{reading_of, form_of, reading_in}
use Rattle.descriptor_spec.specs.Numbers.{numbers_of, grant_numbers}
use Rattle.descriptor_spec.specs.Promises.{handed, DescriptorHanded, no_grant}

-- ---- reading

-- bytes are read with 0 exactly when they are the encoding of an allowed descriptor, and what is seen is that descriptor's
abbrev pub ReadsExactly : Type 0
ReadsExactly = (s : List ℕ) → AreBytes s → (v : Seen)
    → (read_of s ≡ read v) ↔ ((d : Descriptor) × Allowed d × (s ≡ encode d) × (v ≡ descriptor_view 0 d))

-- the answer is 2 exactly when all is right but the period
abbrev pub ValidityExactly : Type 0
ValidityExactly = (s : List ℕ) → AreBytes s
    → (read_of s ≡ validity) ↔ ((d : Descriptor) × Formed d × (longest_period < period d) × (s ≡ encode d))

-- and 1 exactly when the bytes are the encoding of no descriptor, allowed or too long valid
abbrev pub StructureExactly : Type 0
StructureExactly = (s : List ℕ) → AreBytes s → (read_of s ≡ structure) ↔ ((d : Descriptor) → Formed d → s ≡ encode d → ⊥)

-- before the period is looked at a descriptor is seen exactly where the bytes are the encoding of one that is allowed but for its period, and
-- what is seen is that descriptor's
abbrev pub FormedExactly : Type 0
FormedExactly = (s : List ℕ) → AreBytes s → (v : Seen)
    → (formed_in s ≡ some v) ↔ ((d : Descriptor) × Formed d × (s ≡ encode d) × (v ≡ descriptor_view 0 d))

-- and nothing exactly where they are the encoding of no such descriptor
abbrev pub UnformedExactly : Type 0
UnformedExactly = (s : List ℕ) → AreBytes s → (formed_in s ≡ none) ↔ ((d : Descriptor) → Formed d → s ≡ encode d → ⊥)

-- the period then decides what reading answers
abbrev pub ReadByPeriod : Type 0
ReadByPeriod = (s : List ℕ) → reading_of (read_of s) ≡ reading_in (form_of (formed_in s))

-- the number of an answer tells the answer
pub record ByNumber (s : List ℕ) : Type 0 where
  pub done : ((handed s).answer ≡ 0) ↔ ((v : Seen) × (read_of s ≡ read v))
  pub structure : ((handed s).answer ≡ 1) ↔ (read_of s ≡ structure)
  pub validity : ((handed s).answer ≡ 2) ↔ (read_of s ≡ validity)

-- it does for all bytes
abbrev pub NumberTells : Type 0
NumberTells = (s : List ℕ) → ByNumber s

-- the numbers of what is seen of a formed descriptor are the descriptor's
abbrev pub SeenHanded : Type 0
SeenHanded = (d : Descriptor) → Formed d → DescriptorHanded (encode d) d (numbers_of (reading_of (read (descriptor_view 0 d))))

-- ---- grants

-- each grant of a formed descriptor is allowed
abbrev pub GrantsAllowed : Type 0
GrantsAllowed = (d : Descriptor) → Formed d → (i : ℕ) (g : Grant) → i < length d.payload.grants
    → GrantOk (get_or d.payload.grants i g)

-- the mask of an allowed grant's modes is the union of that grant alone, and has exactly its modes
abbrev pub MaskExactly : Type 0
MaskExactly = (g : Grant) → GrantOk g
    → (mask_of g.modes ≡ union_of (g ∷ [])) × ((m : ℕ) → m < 4 → has_mode (mask_of g.modes) m ≡ is_in m g.modes)

-- reading the grant at that place gives the i-th grant, and the place of the next
abbrev pub GrantsWalk : Type 0
GrantsWalk = (d : Descriptor) → AreBytes (encode d) → Formed d → (i : ℕ) (g : Grant) → i < length d.payload.grants
    → get_or d.payload.grants i g ≡ g
    → grant_at (encode d) (grant_place d i) ≡ got (grant_view (grant_place d i) g) (grant_place d (i + 1))

-- behind the last there is none
abbrev pub GrantsEnd : Type 0
GrantsEnd = (d : Descriptor) → AreBytes (encode d) → Formed d
    → grant_numbers (grant_at (encode d) (grant_place d (length d.payload.grants))) ≡ no_grant

-- v is what is seen in s of the allowed grant g of the terminal t: its mask, the number of its constraint pairs, its pattern, and the
-- levels of that
pub record SeenAs (s t : List ℕ) (g : Grant) (v : GrantSeen) : Type 0 where
  pub allowed : GrantOk g
  pub terminal : take terminal_size g.pattern ≡ t
  pub mask : v.mask ≡ mask_of g.modes
  pub pairs : v.pairs ≡ pair_count g.constraints
  pub pattern : part s v.pattern.start v.pattern.len ≡ g.pattern
  pub below : part s (v.pattern.start + levels_place) (v.pattern.len - levels_place) ≡ drop levels_place g.pattern

-- the n grants that are read one after the other from a place of s on are gs, all of the terminal t
pub data InTurn (s t : List ℕ) : ℕ → ℕ → List Grant → Type 0 where
  no_more : (at : ℕ) → InTurn s t 0 at []
  one_more : (n at next : ℕ) (v : GrantSeen) (g : Grant) (gs : List Grant) → grant_at s at ≡ got v next → SeenAs s t g v
      → InTurn s t n next gs
      → InTurn s t (suc n) at (g ∷ gs)

-- so are those of a formed descriptor in its encoding
abbrev pub GrantsInTurn : Type 0
GrantsInTurn = (d : Descriptor) → AreBytes (encode d) → Formed d
    → let v = (descriptor_view 0 d).payload.grants
    in InTurn (encode d) d.payload.terminal v.count v.start d.payload.grants

-- ---- where what is read lies, for any bytes

-- a mask below 16, and a place not before b
abbrev pub MaskTo : ℕ → ℕ → ℕ → Type 0
MaskTo b mask n = (mask < 16) × (b ≤ n)

-- a mask with one mode more stays below 16
abbrev pub ModeBounds : Type 0
ModeBounds = (s : List ℕ) (mask b at : ℕ) → mask < 16 → b ≤ at → Holds (MaskTo b) (mode_at s mask at)

-- the mask of modes is below 16, and they end not before their key does
abbrev pub ModesBounds : Type 0
ModesBounds = (s : List ℕ) (at : ℕ) → Holds (MaskTo (at + length k_modes)) (modes_at s at)

-- a grant: its pattern has at least 46 bytes and lies within s, its pairs are few, and its mask is below 16
pub record GrantIn (s : List ℕ) (at : ℕ) (g : GrantSeen) (n : ℕ) : Type 0 where
  pub after : at ≤ n
  pub long : levels_place ≤ g.pattern.len
  pub fits : g.pattern.start + g.pattern.len ≤ length s
  pub few : g.pairs ≤ 8
  pub small : g.mask < 16

-- so is each grant that is answered
abbrev pub GrantBounds : Type 0
GrantBounds = (s : List ℕ) (at : ℕ) → Holds (GrantIn s at) (grant_at s at)

-- the pattern of a grant that was read has at least 46 bytes, and ends within s
abbrev pub PatternRoom : Type 0
PatternRoom = (s : List ℕ) (at : ℕ) (g : GrantSeen) (n : ℕ) → got g n ≡ grant_at s at
    → (levels_place ≤ g.pattern.len) × (g.pattern.start + g.pattern.len ≤ length s)

-- the sum after one more grant: it has at most 8 pairs more, and its mask stays below 16
pub record MoreIn (sum : Sum) (at : ℕ) (more : Sum) (n : ℕ) : Type 0 where
  pub after : at ≤ n
  pub few : more.pairs ≤ sum.pairs + 8
  pub small : sum.mask < 16 → more.mask < 16

-- so is each sum that is answered
abbrev pub MoreBounds : Type 0
MoreBounds = (s : List ℕ) (first : ℕ) (sum : Sum) (at : ℕ) → Holds (MoreIn sum at) (more_at s first sum at)

-- grants: the first pattern's terminal id lies within s, and the mask is below 16
pub record GrantsIn (s : List ℕ) (at : ℕ) (g : GrantsSeen) (n : ℕ) : Type 0 where
  pub after : at ≤ n
  pub first : g.first + terminal_size ≤ length s
  pub small : g.sum.mask < 16

-- so are all grants that are answered
abbrev pub GrantsBounds : Type 0
GrantsBounds = (s : List ℕ) (at : ℕ) → Holds (GrantsIn s at) (grants_at s at)

-- terminal_id, descriptor_id and subject_fay_id lie within s
pub record IdsIn (s : List ℕ) (at : ℕ) (ids : Ids) (n : ℕ) : Type 0 where
  pub after : at ≤ n
  pub terminal : ids.terminal + terminal_size ≤ length s
  pub id : ids.id + id_size ≤ length s
  pub fay : ids.fay + fay_size ≤ length s

-- so do those that are answered
abbrev pub IdsBounds : Type 0
IdsBounds = (s : List ℕ) (at : ℕ) → Holds (IdsIn s at) (ids_at s at)

-- a payload: its period is not empty, its mask is below 16, and its ids lie within s
pub record PayloadIn (s : List ℕ) (p : PayloadSeen) : Type 0 where
  pub lasts : p.not_before < p.not_after
  pub small : p.grants.sum.mask < 16
  pub terminal : p.terminal + terminal_size ≤ length s
  pub id : p.id + id_size ≤ length s
  pub fay : p.fay + fay_size ≤ length s

-- so is each payload that is answered, and it ends not before its place
abbrev pub PayloadBounds : Type 0
PayloadBounds = (s : List ℕ) (at : ℕ) → Holds (λ p n. (at ≤ n) × PayloadIn s p) (payload_at s at)

-- so is the payload of each descriptor that is seen before the period is looked at; the bytes are at most as many as a descriptor may have
abbrev pub FormedBounds : Type 0
FormedBounds = (s : List ℕ) (v : Seen) → formed_in s ≡ some v → (length s ≤ longest) × PayloadIn s v.payload

-- so is the payload of each descriptor that is answered
abbrev pub DescriptorBounds : Type 0
DescriptorBounds = (s : List ℕ) (at : ℕ) → Holds (λ v n. PayloadIn s v.payload) (descriptor_at s at)
