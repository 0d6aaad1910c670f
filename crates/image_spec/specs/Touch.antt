-- The last-used moment of a row, raised: what the code writes, and what that is over a list of rows.
use Rattle.std.specs.Prelude.{true, false, cond, List, [], ◌∷◌, ℕ, ◌+◌, max, leb, ltb, length}
use Rattle.octets.specs.Bytes.{same}
use Rattle.octets.specs.Number.{big_endian, number_in}
use Rattle.octets.specs.Write.{put_at}
use Rattle.image_spec.specs.declared.layout.Layout.{Layout}
use Rattle.image_spec.specs.Layout.{row_size, moment_place, moment_size, place_within}
use Rattle.image_spec.specs.Image.{Row, id_of}
use Rattle.image_spec.specs.Check.{layout_of}

-- ---- over a list of rows

-- the row, last used at the moment, where that is later
abbrev pub used_again : ℕ → Row → Row
used_again t r = record { body = r.body; used = max r.used t }

-- the row with the id was used at the moment; the others are as they were
unfoldable pub touched : List ℕ → ℕ → List Row → List Row
touched id t [] = []
touched id t (r ∷ rs) = elim (same (id_of r.body) id) [ true ↦ used_again t r ∷ rs | false ↦ r ∷ touched id t rs ]

-- ---- what is written

-- the moment of the row at r is written where it is later than the one that stands there
unfoldable pub raised_at : Layout → List ℕ → ℕ → ℕ → List ℕ
raised_at l s r t =
    cond (ltb (number_in s (r + moment_place l) (moment_size l)) t) (put_at s (r + moment_place l) (big_endian (moment_size l) t)) s

-- the same of row i, where it lies in the bytes
unfoldable pub touched_at : Layout → List ℕ → ℕ → ℕ → List ℕ
touched_at l s i t = let r = place_within l i in cond (leb (r + row_size l) (length s)) (raised_at l s r t) s

-- row i of an image was used at the moment; in edition 1, whose rows have no moment, nothing is written
unfoldable pub after_touch : List ℕ → ℕ → ℕ → List ℕ
after_touch s i t = touched_at (layout_of s) s i t
