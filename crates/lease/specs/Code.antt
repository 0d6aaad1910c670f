-- What the code's inner functions answer and need. A reader of the promises does not need this page.
use Rattle.std.specs.Prelude.{List, ℕ, ◌*◌, ◌/◌, ◌%◌, ◌^◌, bit_xor}
use Rattle.octets.specs.Number.{number_at}
use Rattle.descriptor_spec.specs.Allowed.{id_size}
use Rattle.lease_spec.specs.Table.{lease_size}

-- the id of row i as a number, the highest byte first
abbrev pub id_number : List ℕ → ℕ → ℕ
id_number s i = number_at s (lease_size * i) id_size

-- how many slots there are
abbrev pub slots : ℕ
slots = 8192

-- the slot of an id, which both halves of it tell
unfoldable pub slot_of : ℕ → ℕ
slot_of id = bit_xor id (id / 2 ^ 64) % slots
