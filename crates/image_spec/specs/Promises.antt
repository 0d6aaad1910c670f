-- What is promised of stored images, and nothing else. Each statement `NameOfIt` is proved in proofs/Promises.antt as `name_of_it`.
-- Document 01, "The stored image", as document 02 §5 amends it; the numbers of a lookup are those of include/cap.h.
use Rattle.std.specs.Prelude.{◌≡◌, ◌↔◌, ◌⊎◌, List, [], ◌∷◌, ◌++◌, ℕ, ◌+◌, ◌*◌, ◌/◌, ◌%◌, ◌^◌, ◌≤◌, ◌<◌, length, drop}
use Rattle.std.proofs.Math.Option.{none, some}
use Rattle.octets.specs.Bytes.{AreBytes, part}
use Rattle.octets.specs.Span.{span_of}
use Rattle.octets.specs.Number.{number_at}
use Rattle.descriptor_spec.specs.Model.{Descriptor, encode}
use Rattle.descriptor_spec.specs.Allowed.{Allowed}
use Rattle.descriptor_spec.specs.Modes.{union_of}
use Rattle.descriptor_spec.specs.Reader.{read_of}
use Rattle.descriptor_spec.specs.Code.{reading_of}
use Rattle.descriptor_spec.specs.Numbers as descriptor
use Rattle.image_spec.specs.declared.StoredNumbers.{StoredNumbers}
use Rattle.image_spec.specs.declared.layout.Layout.{Layout}
use Rattle.image_spec.specs.Layout.{edition1, edition2}
use Rattle.image_spec.specs.Image.{Row, id_of, modes_of, header, row, rows_of, joined, image_of, Every, Holds, body_with}
use Rattle.image_spec.specs.Check.{body_span, numbers_of}
use Rattle.image_spec.specs.NewImage.{creation_of, number_of}
use Rattle.image_spec.specs.Readable.{Holds as Readable, find_of}
use Rattle.image_spec.specs.Edition2.{after_new}
use Rattle.image_spec.specs.Upgrade.{upgrade_of, after_upgrade, written_of}

-- ---- the layout

-- a number in 4 bytes, big-endian
abbrev pub four : ℕ → List ℕ
four n = (n / 16777216 % 256) ∷ (n / 65536 % 256) ∷ (n / 256 % 256) ∷ (n % 256) ∷ []

-- a number in 8 bytes, big-endian
abbrev pub eight : ℕ → List ℕ
eight n = four (n / 4294967296) ++ four n

-- a row as document 01 has it: descriptor id (16), body offset (4), body length (4), mask (1), zero (7)
abbrev pub first_row : ℕ → List ℕ → List ℕ
first_row at b = id_of b ++ (four at ++ (four (length b) ++ (modes_of b ∷ 0 ∷ 0 ∷ 0 ∷ 0 ∷ 0 ∷ 0 ∷ 0 ∷ [])))

-- Edition 1. Header, 8 bytes: image edition 1 (2 bytes), mode edition 1 (2), row count (2), zero (2). Rows of 32 bytes. Bodies lie back to
-- back in row order from 8 + 32 × rows.
abbrev pub Layout1Fixed : Type 0
Layout1Fixed =
    ((n : ℕ) → header edition1 n ≡ 0 ∷ 1 ∷ 0 ∷ 1 ∷ (n / 256 % 256) ∷ (n % 256) ∷ 0 ∷ 0 ∷ [])
    × ((at : ℕ) (r : Row) → row edition1 at r ≡ first_row at r.body)
    × ((rs : List Row) → image_of edition1 rs ≡ header edition1 (length rs) ++ (rows_of edition1 (8 + 32 * length rs) rs ++ joined rs))

-- Edition 2. The same with image edition 2; rows of 40 bytes, the old row and the last-used moment (8). Bodies from 8 + 40 × rows.
abbrev pub Layout2Fixed : Type 0
Layout2Fixed =
    ((n : ℕ) → header edition2 n ≡ 0 ∷ 2 ∷ 0 ∷ 1 ∷ (n / 256 % 256) ∷ (n % 256) ∷ 0 ∷ 0 ∷ [])
    × ((at : ℕ) (r : Row) → row edition2 at r ≡ first_row at r.body ++ eight r.used)
    × ((rs : List Row) → image_of edition2 rs ≡ header edition2 (length rs) ++ (rows_of edition2 (8 + 40 * length rs) rs ++ joined rs))

-- in both the rows stand one after the other, each with the place at which the body before it ends, and so do the bodies; an id has 16 bytes
abbrev pub RowsInTurn : Type 0
RowsInTurn =
    ((l : Layout) (at : ℕ) → rows_of l at [] ≡ [])
    × ((l : Layout) (at : ℕ) (r : Row) (rs : List Row) → rows_of l at (r ∷ rs) ≡ row l at r ++ rows_of l (at + length r.body) rs)
    × (joined [] ≡ [])
    × ((r : Row) (rs : List Row) → joined (r ∷ rs) ≡ r.body ++ joined rs)
    × ((b : List ℕ) → length (id_of b) ≡ 16)

-- document 01's number of reading a body
abbrev pub answer_of : List ℕ → ℕ
answer_of b = descriptor.number_of (reading_of (read_of b))

-- a body that reads with 0 is the encoding of an allowed descriptor; its row has that descriptor's id, and the union of its modes as
-- the mask
abbrev pub RowOfBody : Type 0
RowOfBody = (b : List ℕ) → AreBytes b → answer_of b ≡ 0
    → (d : Descriptor) × Allowed d × (b ≡ encode d) × (id_of b ≡ d.payload.id) × (modes_of b ≡ union_of d.payload.grants)

-- the bits 4 to 7 of a row's mask are 0
abbrev pub MaskSmall : Type 0
MaskSmall = (b : List ℕ) → modes_of b < 16

-- ---- which rows a buffer holds

-- the ids of the rows differ
abbrev pub IdsDiffer : List Row → Type 0
IdsDiffer [] = Unit {0}
IdsDiffer (r ∷ rs) = Every (λ q. id_of q.body ≡ id_of r.body → ⊥) rs × IdsDiffer rs

-- a buffer holds the rows in edition 1 exactly when they are at most 64, each body reads with 0, their ids differ, their moments are 0, since
-- they have none, and the buffer is their image, followed by anything
abbrev pub Holds1Exactly : Type 0
Holds1Exactly = (s : List ℕ) (rs : List Row)
    → Holds edition1 s rs
    ↔ ((length rs ≤ 64) × Every (λ r. answer_of r.body ≡ 0) rs × IdsDiffer rs × Every (λ r. r.used ≡ 0) rs
    × ((rest : List ℕ) × (s ≡ image_of edition1 rs ++ rest)))

-- and in edition 2 exactly when they are at most 1,024, each body reads with 0, their ids differ, their moments are any numbers of 8 bytes,
-- and the buffer is their image, followed by anything
abbrev pub Holds2Exactly : Type 0
Holds2Exactly = (s : List ℕ) (rs : List Row)
    → Holds edition2 s rs
    ↔ ((length rs ≤ 1024) × Every (λ r. answer_of r.body ≡ 0) rs × IdsDiffer rs × Every (λ r. r.used < 2 ^ 64) rs
    × ((rest : List ℕ) × (s ≡ image_of edition2 rs ++ rest)))

-- it holds one list of rows in an edition
abbrev pub RowsOnce : Type 0
RowsOnce =
    ((s : List ℕ) (rs qs : List Row) → Holds edition1 s rs → Holds edition1 s qs → rs ≡ qs)
    × ((s : List ℕ) (rs qs : List Row) → Holds edition2 s rs → Holds edition2 s qs → rs ≡ qs)

-- no buffer holds rows in both
abbrev pub NotInBoth : Type 0
NotInBoth = (s : List ℕ) (rs qs : List Row) → Holds edition1 s rs → Holds edition2 s qs → ⊥

-- an image that may be read holds rows in edition 1 or in edition 2
abbrev pub ReadableExactly : Type 0
ReadableExactly = (s : List ℕ) (rs : List Row) → Readable s rs ↔ (Holds edition1 s rs ⊎ Holds edition2 s rs)

-- the body with an id is that of the row whose id it is
abbrev pub BodyOfId : Type 0
BodyOfId = (id : List ℕ)
    → (body_with id [] ≡ none)
    × ((r : Row) (rs : List Row) → id_of r.body ≡ id → body_with id (r ∷ rs) ≡ some r.body)
    × ((r : Row) (rs : List Row) → (id_of r.body ≡ id → ⊥) → body_with id (r ∷ rs) ≡ body_with id rs)

-- ---- a lookup

-- a refusal's other numbers are 0
abbrev pub refusal : ℕ → StoredNumbers
refusal n = record { answer = n; body_at = 0; body_len = 0 }

-- the answer is 0, and the numbers are the place and the length of the body b in s
pub record FoundAt (s b : List ℕ) (n : StoredNumbers) : Type 0 where
  pub answer : n.answer ≡ 0
  pub bytes : part s n.body_at n.body_len ≡ b
  pub len : n.body_len ≡ length b
  pub inside : n.body_at + n.body_len ≤ length s

-- 15: the id is not 16 bytes. 16: the buffer holds no list of rows in edition 1 or 2. 7: no row has the id. Else 0, with the body of the
-- row that has it.
pub record LookupExactly : Type 0 where
  pub bad_id : (s id : List ℕ) → (length id ≡ 16 → ⊥) → numbers_of (find_of s id) ≡ refusal 15
  pub bad_image : (s id : List ℕ) → AreBytes s → length id ≡ 16 → ((rs : List Row) → Readable s rs → ⊥)
      → numbers_of (find_of s id) ≡ refusal 16
  pub not_held : (s id : List ℕ) (rs : List Row) → length id ≡ 16 → Readable s rs → body_with id rs ≡ none
      → numbers_of (find_of s id) ≡ refusal 7
  pub held : (s id : List ℕ) (rs : List Row) (b : List ℕ) → length id ≡ 16 → Readable s rs → body_with id rs ≡ some b
      → FoundAt s b (numbers_of (find_of s id))

-- an image is sound, which is that a lookup of an id of 16 bytes is not answered 16, exactly when the buffer holds a list of rows in
-- edition 1 or 2
abbrev pub SoundExactly : Type 0
SoundExactly = (s id : List ℕ) → AreBytes s → length id ≡ 16 → ((numbers_of (find_of s id)).answer ≡ 16 → ⊥)
    ↔ ((rs : List Row) × Readable s rs)

-- an image whose image edition is another than 1 and 2, or whose mode edition is another than 1, is answered 16, whatever else it holds
abbrev pub EditionsKnown : Type 0
EditionsKnown = (s id : List ℕ) → length id ≡ 16
    → ((number_at s 0 2 ≡ 1 → ⊥) × (number_at s 0 2 ≡ 2 → ⊥)) ⊎ (number_at s 2 2 ≡ 1 → ⊥)
    → numbers_of (find_of s id) ≡ refusal 16

-- the part that is handed back for a lookup has the place and the length of its numbers; for a refusal that is the empty part at the start
abbrev pub BodyHanded : Type 0
BodyHanded = (s id : List ℕ) → AreBytes s
    → body_span s (find_of s id) ≡ span_of (numbers_of (find_of s id)).body_at (numbers_of (find_of s id)).body_len

-- ---- a new image

-- a new image writes 00 02 00 01 00 00 00 00 and no other byte, which is the image of no rows in edition 2; a buffer under 8 bytes gives 17,
-- and is left as it was
abbrev pub NewImage : Type 0
NewImage =
    ((d : List ℕ) → 8 ≤ length d
    → (number_of (creation_of d) ≡ 0)
    × (after_new d ≡ 0x00 ∷ 0x02 ∷ 0x00 ∷ 0x01 ∷ 0x00 ∷ 0x00 ∷ 0x00 ∷ 0x00 ∷ drop 8 d)
    × (after_new d ≡ image_of edition2 [] ++ drop 8 d))
    × ((d : List ℕ) → length d < 8 → (number_of (creation_of d) ≡ 17) × (after_new d ≡ d))

-- ---- an image of edition 1 turned into one of edition 2

-- 16: the old bytes hold no list of rows in edition 1. 17: the buffer is shorter than the image of the same rows in edition 2. With either the
-- length is 0, and the buffer is left as it was. Else 0 and the length of that image, which stands at the start of the buffer, followed by
-- what stood there; it holds the same rows, whose last-used moments are 0.
pub record UpgradeExactly : Type 0 where
  pub bad_image : (old d : List ℕ) → AreBytes old → ((rs : List Row) → Holds edition1 old rs → ⊥)
      → (written_of (upgrade_of old d) ≡ record { answer = 16; len = 0 }) × (after_upgrade old d ≡ d)
  pub too_short : (old d : List ℕ) (rs : List Row) → Holds edition1 old rs → length d < length (image_of edition2 rs)
      → (written_of (upgrade_of old d) ≡ record { answer = 17; len = 0 }) × (after_upgrade old d ≡ d)
  pub upgraded : (old d : List ℕ) (rs : List Row) → Holds edition1 old rs → length (image_of edition2 rs) ≤ length d
      → (written_of (upgrade_of old d) ≡ record { answer = 0; len = length (image_of edition2 rs) })
      × (after_upgrade old d ≡ image_of edition2 rs ++ drop (length (image_of edition2 rs)) d)
      × Holds edition2 (after_upgrade old d) rs
      × Every (λ r. r.used ≡ 0) rs

-- after an upgrade with 0 every id is answered what it was answered before, with the same bytes
abbrev pub UpgradeFinds : Type 0
UpgradeFinds = (old d : List ℕ) (rs : List Row) (id : List ℕ) → Holds edition1 old rs → (written_of (upgrade_of old d)).answer ≡ 0
    → let after = after_upgrade old d in
    let n = numbers_of (find_of after id) in
    let m = numbers_of (find_of old id) in
    (n.answer ≡ m.answer) × (part after n.body_at n.body_len ≡ part old m.body_at m.body_len)
