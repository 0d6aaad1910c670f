-- An image that may be read, of edition 1 or of edition 2: each definition that depends on the edition, under its own name, at the layout
-- that the image's header names. That such an image is one of edition 1 or of edition 2 is a promise.
use Rattle.std.specs.Prelude.{List, ℕ}
use Rattle.image_spec.specs.Check.{ImageCheck, layout_of, Finding}
use Rattle.image_spec.specs.Image.{Row}
use Rattle.image_spec.specs.Image as image
use Rattle.image_spec.specs.Check as check

-- the bytes are the image of the rows in the edition that the header names, followed by anything
abbrev pub Holds : List ℕ → List Row → Type 0
Holds s rs = image.Holds (layout_of s) s rs

-- the check of an image for an id
abbrev pub check_of : List ℕ → List ℕ → ImageCheck
check_of s id = check.check_of (layout_of s) s id

-- the lookup of an id
abbrev pub find_of : List ℕ → List ℕ → Finding
find_of s id = check.find_of (layout_of s) s id

-- the rows of an image
abbrev pub rows_held : List ℕ → List Row
rows_held s = check.rows_held (layout_of s) s
