-- Whether octets are a UUID of version 7, and whether a UUID text is one in lower case: what the code answers. These definitions compute. A
-- reader of the promises does not need this page.
use Rattle.std.specs.Prelude.{Bool, true, not, ◌&&◌, ◌||◌, List, [], ◌∷◌, ℕ, ◌/◌, length, get_or, eqb}
use Rattle.resource_spec.specs.Identifier.{between}

-- ---- octets

-- the octet whose high half is the version
abbrev pub version_octet : ℕ
version_octet = 6

-- the octet whose two high bits are the variant
abbrev pub variant_octet : ℕ
variant_octet = 8

-- 16 octets, with 7 for the version and 10 for the variant
unfoldable pub is_version7 : List ℕ → Bool
is_version7 b = eqb (length b) 16 && (eqb (get_or b version_octet 0 / 16) 7 && eqb (get_or b variant_octet 0 / 64) 2)

-- ---- texts

-- the place of the digit that is the version, the first of the third group
abbrev pub version_place : ℕ
version_place = 14

-- the place of the digit that begins with the variant, the first of the fourth group
abbrev pub variant_place : ℕ
variant_place = 19

-- a letter of A-Z
abbrev pub is_upper : ℕ → Bool
is_upper c = between 65 90 c

-- no character of a text is a letter of A-Z
unfoldable pub no_upper : List ℕ → Bool
no_upper [] = true
no_upper (c ∷ t) = not (is_upper c) && no_upper t

-- a digit whose two high bits are 10: 8, 9, a or b
unfoldable pub is_variant_digit : ℕ → Bool
is_variant_digit c = between 56 57 c || between 97 98 c

-- 36 characters, none of A-Z, with 7 for the version, and 8, 9, a or b for the digit of the variant
unfoldable pub is_version7_text : List ℕ → Bool
is_version7_text t = eqb (length t) 36 && (no_upper t && (eqb (get_or t version_place 0) 55 && is_variant_digit (get_or t variant_place 0)))
