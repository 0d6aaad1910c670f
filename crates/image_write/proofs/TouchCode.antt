-- Laws that the proofs of raising a row's last-used moment apply: what the tests, calls and writes of the code say of the definitions of
-- specs/Touch.antt of `image_spec`. Assumes nothing.
use mathlib.Core.Path.{◌≡◌, sym, ap, ◌∙◌}
use mathlib.Core.Bool.{Bool, true, false, not}
use mathlib.Core.List.{List}
use Prim.Native.Nat.{ℕ, ◌+◌, ◌≤◌, ◌<◌}
use lib.ListN.{length}
use lib.Dec.{ltb}
use borrow.Author.Tests.{le-leb, lt-leb, not-true, not-false}
use Rattle.octets.specs.Number.{big_endian, number_in}
use Rattle.octets.specs.Write.{put_at}
use Rattle.time.specs.declared.Seconds.{Seconds}
use Rattle.time.specs.Time.{seconds}
use Rattle.image_spec.specs.declared.layout.Layout.{Layout}
use Rattle.image_spec.specs.Layout.{row_size, moment_place, moment_size, place_within}
use Rattle.image_spec.specs.Touch.{raised_at, touched_at}

module _ (l : Layout) (d : List ℕ) where
  module _ (r : ℕ) (t used : Seconds) (b : Bool) (e : used ≡ seconds (number_in d (r + moment_place l) (moment_size l)))
      (f : b ≡ ltb used.0 t.0) where
    -- what the test says of the moment that stands there
    is_later : b ≡ ltb (number_in d (r + moment_place l) (moment_size l)) t.0
    is_later = f ∙ ap (λ (u : Seconds). ltb u.0 t.0) e

    -- the moment is not later
    pub raise_not : not b ≡ true → d ≡ raised_at l d r t.0
    unfolding raised_at
    raise_not g = rw (sym is_later ∙ not-true b g)

    -- it is, and is written
    pub raise_done : (d' : List ℕ) → not b ≡ false → d' ≡ put_at d (r + moment_place l) (big_endian (moment_size l) t.0)
        → d' ≡ raised_at l d r t.0
    unfolding raised_at
    raise_done d' g w = rw (sym is_later ∙ not-false b g) w

  module _ (i r t : ℕ) (e : r ≡ place_within l i) where
    -- the row does not lie in the bytes
    pub touch_not : length d < r + row_size l → d ≡ touched_at l d i t
    unfolding touched_at
    touch_not h = rw (← e, lt-leb (r + row_size l) (length d) h)

    -- it does
    pub touch_done : (d' : List ℕ) → r + row_size l ≤ length d → d' ≡ raised_at l d r t → d' ≡ touched_at l d i t
    unfolding touched_at
    touch_done d' h w = rw (← e, le-leb (r + row_size l) (length d) h) w
