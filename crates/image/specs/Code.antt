-- A reader of the promises does not need this page.
-- What the answer of reading a row says, as an answer of an exact reader.
use Rattle.std.specs.Prelude.{Option, List, ℕ, ◌+◌, ◌%◌}
use Rattle.octets.specs.Number.{number_in}
use Rattle.exact.specs.Reads.{Got}
use Rattle.exact.specs.Answer.{got_by}
use Rattle.descriptor_spec.specs.declared.Fields.{Fields}

-- how many slots the ids of the rows mark
abbrev pub slots : ℕ
slots = 8192

-- the slot of the id of the row at r, by its last 8 bytes
unfoldable pub slot_at : List ℕ → ℕ → ℕ
slot_at s r = number_in s (r + 8) 8 % slots

-- what was read of the row's body, and the place after it; or nothing
abbrev pub row_read : Option (Fields × ℕ) → Got Fields
row_read = got_by (λ f. f)
