-- Edition 2, which is written: each definition that depends on the edition, under its own name, at the layout of edition 2. A reader of the
-- promises does not need this page: they have the numbers.
use Rattle.std.specs.Prelude.{Bool, Result, List, ℕ}
use Rattle.image_spec.specs.Check.{ImageCheck}
use Rattle.image_spec.specs.declared.AddError.{AddError}
use Rattle.image_spec.specs.Layout.{edition2}
use Rattle.image_spec.specs.Image.{Row}
use Rattle.image_spec.specs.Image as image
use Rattle.image_spec.specs.Check as check
use Rattle.image_spec.specs.NewImage as new_bytes
use Rattle.image_spec.specs.Grow as grow

-- ---- the image of a list of rows

abbrev pub header : ℕ → List ℕ
header = image.header edition2

abbrev pub row : ℕ → Row → List ℕ
row = image.row edition2

abbrev pub rows_of : ℕ → List Row → List ℕ
rows_of = image.rows_of edition2

abbrev pub image_of : List Row → List ℕ
image_of = image.image_of edition2

abbrev pub RowsOk : List Row → Type 0
RowsOk = image.RowsOk edition2

abbrev pub Holds : List ℕ → List Row → Type 0
Holds = image.Holds edition2

-- ---- what is answered and written

abbrev pub check_of : List ℕ → List ℕ → ImageCheck
check_of = check.check_of edition2

abbrev pub rows_held : List ℕ → List Row
rows_held = check.rows_held edition2

abbrev pub after_new : List ℕ → List ℕ
after_new = new_bytes.after_new edition2

abbrev pub added_of : List ℕ → ℕ → ℕ → List ℕ → ℕ → Result Unit AddError
added_of = grow.added_of edition2

abbrev pub after_add : List ℕ → ℕ → ℕ → List ℕ → ℕ → ℕ → ℕ → List ℕ
after_add = grow.after_add edition2

abbrev pub has_room : List ℕ → List Row → Row → Bool
has_room = grow.has_room edition2

abbrev pub with_body : List ℕ → List Row → Row → List ℕ
with_body = grow.with_body edition2
