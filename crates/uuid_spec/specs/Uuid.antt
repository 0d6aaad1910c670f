-- UUIDs, as RFC 9562 lays them out: 16 octets, whose 128 bits are counted from 0, the most significant bit of the first octet (sections 4 and
-- 5.7); and their texts, 8-4-4-4-12 hexadecimal digits (section 4).
use Rattle.std.specs.Prelude.{◌≡◌, cond, List, [], ◌∷◌, ◌++◌, ℕ, ◌+◌, ◌-◌, ◌/◌, ◌%◌, ◌^◌, length, take, drop, get_or}
use Rattle.octets.specs.Bytes.{AreBytes}
use Rattle.octets.specs.Number.{number_at}
use Rattle.resource_spec.specs.Characters.{codes}
use Rattle.resource_spec.specs.Identifier.{between}

-- ---- the 128 bits

-- the number in `width` of the 128 bits, from the bit `from` on
abbrev pub bits : List ℕ → ℕ → ℕ → ℕ
bits b from width = number_at b 0 16 / 2 ^ (128 - (from + width)) % 2 ^ width

-- ver: the 4 bits from bit 48 on
abbrev pub version : List ℕ → ℕ
version b = bits b 48 4

-- var: the 2 bits from bit 64 on
abbrev pub variant : List ℕ → ℕ
variant b = bits b 64 2

-- 16 octets with version 7 and RFC 9562's variant, whose bits are 10
pub record IsVersion7 (b : List ℕ) : Type 0 where
  pub octets : AreBytes b
  pub size : length b ≡ 16
  pub version : version b ≡ 7
  pub variant : variant b ≡ 2

-- ---- the text

-- the hexadecimal digit of a number below 16, in lower case
abbrev pub digit : ℕ → ℕ
digit n = get_or (codes "0123456789abcdef") n 0

-- two digits for each octet
abbrev pub hex : List ℕ → List ℕ
hex [] = []
hex (x ∷ xs) = digit (x / 16) ∷ digit (x % 16) ∷ hex xs

-- octets in groups of so many, with "-" between the groups
abbrev pub grouped : List ℕ → List ℕ → List ℕ
grouped [] b = []
grouped (n ∷ []) b = hex (take n b)
grouped (n ∷ m ∷ ns) b = hex (take n b) ++ (codes "-" ++ grouped (m ∷ ns) (drop n b))

-- the text of 16 octets in lower case: 8-4-4-4-12 digits
abbrev pub text : List ℕ → List ℕ
text b = grouped (4 ∷ 2 ∷ 2 ∷ 2 ∷ 6 ∷ []) b

-- a letter of A-Z in lower case; any other character is itself
abbrev pub lower : ℕ → ℕ
lower c = cond (between 65 90 c) (c + 32) c

-- a text in lower case
abbrev pub lowered : List ℕ → List ℕ
lowered [] = []
lowered (c ∷ t) = lower c ∷ lowered t

-- a text spells 16 octets: in lower case it is theirs
pub record Spells (t b : List ℕ) : Type 0 where
  pub octets : AreBytes b
  pub size : length b ≡ 16
  pub text : lowered t ≡ text b
