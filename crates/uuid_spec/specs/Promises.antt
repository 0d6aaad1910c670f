-- What is promised of UUIDs, and nothing else: RFC 9562, and document 02 §6. Each statement `NameOfIt` is proved in proofs/Promises.antt as
-- `name_of_it`.
use Rattle.std.specs.Prelude.{◌≡◌, ◌↔◌, Bool, true, false, List, ℕ, ◌+◌, ◌*◌, ◌^◌, ◌<◌, length}
use Prim.Native.String.{String}
use Rattle.octets.specs.Bytes.{AreBytes}
use Rattle.octets.specs.Number.{number_at}
use Rattle.resource_spec.specs.Characters.{codes}
use Rattle.resource_spec.specs.Identifier.{has_form}
use Rattle.resource_spec.specs.Promises.{form}
use Rattle.uuid_spec.specs.Uuid.{IsVersion7, text, lowered, Spells}
use Rattle.uuid_spec.specs.Version7.{is_version7, is_version7_text}

-- ---- octets

-- octets are accepted exactly when they are 16, and of their 128 bits the version is 7 and the variant that of RFC 9562
abbrev pub OctetsExactly : Type 0
OctetsExactly = (b : List ℕ) → AreBytes b → (is_version7 b ≡ true) ↔ IsVersion7 b

-- the fields of a UUID of version 7, in RFC 9562's names: 48 bits, 12 and 62
pub record Layout : Type 0 where
  pub unix_ts_ms : ℕ
  pub rand_a : ℕ
  pub rand_b : ℕ

-- b is laid out so, as section 5.7 has it: unix_ts_ms (48 bits), ver (4), which is 7, rand_a (12), var (2), which is 10, rand_b (62)
pub record LaidOut (b : List ℕ) (l : Layout) : Type 0 where
  pub octets : AreBytes b
  pub size : length b ≡ 16
  pub time : l.unix_ts_ms < 2 ^ 48
  pub first : l.rand_a < 2 ^ 12
  pub second : l.rand_b < 2 ^ 62
  pub number : number_at b 0 16 ≡ l.unix_ts_ms * 2 ^ 80 + (7 * 2 ^ 76 + (l.rand_a * 2 ^ 64 + (2 * 2 ^ 62 + l.rand_b)))

-- a UUID of version 7 is one that is laid out so
abbrev pub LayoutExactly : Type 0
LayoutExactly = (b : List ℕ) → IsVersion7 b ↔ ((l : Layout) × LaidOut b l)

-- ---- texts

-- the UUID texts of document 01, of hexadecimal digits of either case, are those that spell 16 octets
abbrev pub TextsSpell : Type 0
TextsSpell = (t : List ℕ) → (has_form (form (codes "xxxxxxxx-xxxx-xxxx-xxxx-xxxxxxxxxxxx")) t ≡ true) ↔ ((b : List ℕ) × Spells t b)

-- and they spell those alone
abbrev pub SpelledOnce : Type 0
SpelledOnce = (t a b : List ℕ) → Spells t a → Spells t b → a ≡ b

-- a text is accepted exactly when it is lower case and the 16 octets that it spells are of version 7
abbrev pub TextExactly : Type 0
TextExactly = (t b : List ℕ) → Spells t b → (is_version7_text t ≡ true) ↔ ((lowered t ≡ t) × IsVersion7 b)

-- so a UUID text is accepted exactly when it is the lower-case text of a UUID of version 7
abbrev pub TextOfVersion7 : Type 0
TextOfVersion7 = (t : List ℕ) → has_form (form (codes "xxxxxxxx-xxxx-xxxx-xxxx-xxxxxxxxxxxx")) t ≡ true
    → (is_version7_text t ≡ true) ↔ ((b : List ℕ) × IsVersion7 b × (t ≡ text b))

-- ---- published examples

-- whether the text is accepted
abbrev pub enters : String → Bool
enters t = is_version7_text (codes t)

-- of the examples of RFC 9562, appendices A.1 to A.6 and B.1, that of version 7 alone; and neither the nil UUID nor the max UUID
abbrev pub PublishedExamples : Type 0
PublishedExamples =
    (enters "c232ab00-9414-11ec-b3c8-9f6bdeced846" ≡ false)
    × (enters "5df41881-3aed-3515-88a7-2f4a814cf09e" ≡ false)
    × (enters "919108f7-52d1-4320-9bac-f847db4148a8" ≡ false)
    × (enters "2ed6657d-e927-568b-95e1-2665a8aea6a2" ≡ false)
    × (enters "1ec9414c-232a-6b00-b3c8-9f6bdeced846" ≡ false)
    × (enters "017f22e2-79b0-7cc3-98c4-dc0c0c07398f" ≡ true)
    × (enters "2489e9ad-2ee2-8e00-8ec9-32d5f69181c0" ≡ false)
    × (enters "00000000-0000-0000-0000-000000000000" ≡ false)
    × (enters "ffffffff-ffff-ffff-ffff-ffffffffffff" ≡ false)

-- the same of the UUID of version 7 with the versions 6 and 8 beside it, with each other variant, and with one letter in upper case
abbrev pub BothSides : Type 0
BothSides =
    (enters "017f22e2-79b0-6cc3-98c4-dc0c0c07398f" ≡ false)
    × (enters "017f22e2-79b0-8cc3-98c4-dc0c0c07398f" ≡ false)
    × (enters "017f22e2-79b0-7cc3-08c4-dc0c0c07398f" ≡ false)
    × (enters "017f22e2-79b0-7cc3-78c4-dc0c0c07398f" ≡ false)
    × (enters "017f22e2-79b0-7cc3-88c4-dc0c0c07398f" ≡ true)
    × (enters "017f22e2-79b0-7cc3-b8c4-dc0c0c07398f" ≡ true)
    × (enters "017f22e2-79b0-7cc3-c8c4-dc0c0c07398f" ≡ false)
    × (enters "017F22e2-79b0-7cc3-98c4-dc0c0c07398f" ≡ false)
    × (enters "017f22e2-79b0-7cc3-98c4-dc0c0c07398F" ≡ false)
