-- An image of one edition turned into one of another, in a second buffer: what the code answers and writes. A reader of the promises does
-- not need this page.
use Rattle.std.specs.Prelude.{cond, Result, Ok, Err, List, [], ℕ, zero, suc, ◌+◌, ◌-◌, length, leb, Some, None}
use Rattle.octets.specs.Bytes.{part}
use Rattle.octets.specs.Number.{big_endian, number_in}
use Rattle.octets.specs.Write.{put_at}
use Rattle.image_spec.specs.declared.layout.Layout.{Layout}
use Rattle.image_spec.specs.Check.{ImageCheck, check_of}
use Rattle.image_spec.specs.declared.UpgradeError.{UpgradeError}
use Rattle.image_spec.specs.declared.UpgradeError.TheVariants.{BadImage, TooShort}
use Rattle.image_spec.specs.declared.Written.{Written}
use Rattle.image_spec.specs.Layout.{header_width, count_place, body_width, offset_place, moment_place, moment_size, row_place}
use Rattle.image_spec.specs.Layout.{edition1, edition2}
use Rattle.image_spec.specs.NewImage.{new_bytes}

-- ---- what is written

-- row i of the old image, up to its moment, is copied; its offset is higher by so much, and its moment is 0
unfoldable pub row_copied : Layout → Layout → List ℕ → List ℕ → ℕ → ℕ → List ℕ
row_copied from to old d i by =
    let r = row_place from i in
    let q = row_place to i in
    let d₁ = put_at d q (part old r (moment_place from)) in
    let d₂ = put_at d₁ (q + offset_place) (big_endian body_width (number_in old (r + offset_place) body_width + by)) in
    put_at d₂ (q + moment_place to) (big_endian (moment_size to) 0)

-- k rows from row i on
unfoldable pub rows_copied : Layout → Layout → List ℕ → List ℕ → ℕ → ℕ → ℕ → List ℕ
rows_copied from to old d zero i by = d
rows_copied from to old d (suc k) i by = rows_copied from to old (row_copied from to old d i by) k (i + 1) by

-- the old image has n rows, whose bodies end at `end`: a new header, the rows, the bodies, and the row count
unfoldable pub copied : Layout → Layout → List ℕ → List ℕ → ℕ → ℕ → List ℕ
copied from to old d n end =
    let start = row_place from n in
    let d₁ = new_bytes to d in
    let d₂ = rows_copied from to old d₁ n 0 (row_place to n - start) in
    let d₃ = put_at d₂ (row_place to n) (part old start (end - start)) in
    put_at d₃ count_place (big_endian header_width n)

-- ---- what is answered

-- how long the new image is
abbrev pub new_length : Layout → Layout → ℕ → ℕ → ℕ
new_length from to n end = end + (row_place to n - row_place from n)

-- by the check of the old image: 16 where it is not sound, 17 where the new one exceeds the buffer
abbrev pub upgrade_by : Layout → Layout → List ℕ → ImageCheck → Result ℕ UpgradeError
upgrade_by from to d (Some v) =
    cond (leb (new_length from to v.rows v.end) (length d)) (Ok (new_length from to v.rows v.end)) (Err TooShort)
upgrade_by from to d None = Err BadImage

-- by the same check, what the buffer comes to: as it was, but where the new image fits
abbrev pub after_by : Layout → Layout → List ℕ → List ℕ → ImageCheck → List ℕ
after_by from to old d (Some v) =
    cond (leb (new_length from to v.rows v.end) (length d)) (copied from to old d v.rows v.end) d
after_by from to old d None = d

-- an image of edition 1 turned into one of edition 2 in the buffer d; no id is looked for
unfoldable pub upgrade_of : List ℕ → List ℕ → Result ℕ UpgradeError
upgrade_of old d = upgrade_by edition1 edition2 d (check_of edition1 old [])

-- the buffer after
unfoldable pub after_upgrade : List ℕ → List ℕ → List ℕ
after_upgrade old d = after_by edition1 edition2 old d (check_of edition1 old [])

-- document 02's answer, and with 0 the length of what was written
abbrev pub written_of : Result ℕ UpgradeError → Written
written_of (Ok n) = record { answer = 0; len = n }
written_of (Err BadImage) = record { answer = 16; len = 0 }
written_of (Err TooShort) = record { answer = 17; len = 0 }
