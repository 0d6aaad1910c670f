-- The characters of digits and names, by their letters: one test over all bytes, and the rule for each. Assumes nothing.
use mathlib.Core.Path.{◌≡◌, refl}
use Prim.Native.Nat.{ℕ, ◌<◌}
use Rattle.resource_spec.specs.Characters.{codes, one_of}
use Rattle.resource_spec.specs.Identifier.{is_hex}
use Rattle.resource_spec.specs.Level.{is_name_char}
use Rattle.octets.proofs.BelowLaws.{all_from, alike_below}

-- a byte is a hexadecimal digit exactly when it is one of these
pub hex_letters : (b : ℕ) → b < 256 → is_hex b ≡ one_of b (codes "0123456789abcdefABCDEF")
unfolding is_hex all_from
hex_letters = alike_below is_hex (λ b. one_of b (codes "0123456789abcdefABCDEF")) 256 refl

-- a byte is a character of a name exactly when it is one of these
pub name_letters : (b : ℕ) → b < 256 → is_name_char b ≡ one_of b (codes "abcdefghijklmnopqrstuvwxyzABCDEFGHIJKLMNOPQRSTUVWXYZ0123456789._-")
unfolding is_name_char all_from
name_letters = alike_below is_name_char (λ b. one_of b (codes "abcdefghijklmnopqrstuvwxyzABCDEFGHIJKLMNOPQRSTUVWXYZ0123456789._-")) 256 refl
