-- A new image is the image of no bodies (specs/NewImage.antt). Assumes nothing.
use mathlib.Core.Path.{◌≡◌, ap, ◌∙◌}
use mathlib.Core.List.{List, ◌++◌}
use Prim.Native.Nat.{ℕ, ◌+◌, ◌≤◌}
use native.Mathlib.Omega.{arith}
use lib.ListN.{length, drop}
use borrow.Author.Tests.{le-ltb, lt-ltb}
use Rattle.octets.specs.Number.{big_endian}
use Rattle.octets.specs.Write.{over}
use Rattle.octets.proofs.NumberLaws.{length_big_endian}
use Rattle.octets.proofs.OverLaws.{over_has, over_after, has_front}
use Rattle.image_spec.specs.declared.layout.Layout.{Layout}
use Rattle.image_spec.specs.Layout.{mode_edition, header_size, header_width, modes_place, count_place, header_zero, edition2}
use Rattle.image_spec.specs.Image.{header, rows_of, joined, image_of}
use Rattle.image_spec.specs.NewImage.{new_bytes, creation_of, after_new}
use Rattle.image_spec.specs.Promises.{NewImage}
use Rattle.image_spec.proofs.RaiseLaws.{put_four}
use Rattle.image_spec.proofs.RowLaws.{header_length}

-- the four numbers of a header written one after the other are the header of no rows written
pub header_written : (l : Layout) (d : List ℕ) → header_size ≤ length d → new_bytes l d ≡ over d 0 (header l 0)
unfolding new_bytes header
header_written l d h =
    let w : (m : ℕ) → length (big_endian header_width m) ≡ header_width = length_big_endian header_width in
    put_four d 0 modes_place count_place header_zero (big_endian header_width l.edition) (big_endian header_width mode_edition)
    (big_endian header_width 0) (big_endian header_width 0) (omega (arith, w l.edition)) (omega (arith, w mode_edition))
    (omega (arith, w 0)) (omega (arith, w 0))

-- they are that header, and no other byte is changed
fresh_header : (l : Layout) (d : List ℕ) → header_size ≤ length d → new_bytes l d ≡ header l 0 ++ drop header_size d
fresh_header l d h =
    let fit : 0 + length (header l 0) ≤ length d = omega (arith, header_length l 0) in
    header_written l d h
    ∙ has_front (over d 0 (header l 0)) (header l 0) (over_has d 0 (header l 0) fit)
    ∙ ap (λ (x : List ℕ). header l 0 ++ x)
    (over_after d 0 (header l 0) (length (header l 0)) fit (omega arith) ∙ ap (λ (n : ℕ). drop n d) (header_length l 0))

-- `NewImage`
pub new_image : NewImage
unfolding creation_of after_new image_of header rows_of joined big_endian
new_image = (
  λ d h. let e = le-ltb (length d) header_size h in (rw e, rw e (fresh_header edition2 d h), rw e (fresh_header edition2 d h)),
  λ d h. let e = lt-ltb (length d) header_size h in (rw e, rw e),
)
