-- Laws that the proof of making a new image applies: what the test and the writes of the code say of the definitions of specs/NewImage.antt
-- of `image_spec`. Assumes nothing.
use mathlib.Core.Path.{◌≡◌}
use mathlib.Core.List.{List}
use Prim.Native.Nat.{ℕ, ◌≤◌, ◌<◌}
use lib.ListN.{length}
use borrow.Author.Tests.{lt-ltb, le-ltb}
use Rattle.octets.specs.Number.{big_endian}
use Rattle.octets.specs.Write.{put_at}
use Rattle.std.specs.Prelude.{Ok, Err}
use Rattle.image_spec.specs.declared.CreateError.TheVariants.{TooShort}
use Rattle.image_spec.specs.declared.layout.Layout.{Layout}
use Rattle.image_spec.specs.Layout.{mode_edition, header_size, header_width, edition_place, modes_place, count_place, header_zero}
use Rattle.image_spec.specs.NewImage.{new_bytes, creation_of, after_new}

module _ (l : Layout) where
  -- a buffer that is shorter than a header is too short, and stays
  pub new_short : (d : List ℕ) → length d < header_size → (Err TooShort ≡ creation_of d) × (d ≡ after_new l d)
  unfolding creation_of after_new
  new_short d h = let e = lt-ltb (length d) header_size h in (rw e, rw e)

  -- the four numbers of the header
  pub header_done : (d d₁ d₂ d₃ d₄ : List ℕ) → d₁ ≡ put_at d edition_place (big_endian header_width l.edition)
      → d₂ ≡ put_at d₁ modes_place (big_endian header_width mode_edition) → d₃ ≡ put_at d₂ count_place (big_endian header_width 0)
      → d₄ ≡ put_at d₃ header_zero (big_endian header_width 0) → d₄ ≡ new_bytes l d
  unfolding new_bytes
  header_done d d₁ d₂ d₃ d₄ e₁ e₂ e₃ e₄ = rw (e₄, e₃, e₂, e₁)

  -- another one has them first
  pub new_done : (d d' : List ℕ) → header_size ≤ length d → d' ≡ new_bytes l d → (Ok tt ≡ creation_of d) × (d' ≡ after_new l d)
  unfolding creation_of after_new
  new_done d d' h e = let t = le-ltb (length d) header_size h in (rw t, rw t e)
