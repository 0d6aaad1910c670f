-- The rows that go for a new one (specs/Removal.antt) are those that are chosen (specs/Choose.antt). Assumes nothing.
use mathlib.Core.Path.{◌≡◌, refl, sym, ap, ap₂, ◌∙◌, subst}
use mathlib.Core.Bool.{Bool, true, false, false≢true, ◌&&◌}
use mathlib.Core.List.{List, [], ◌∷◌, ◌++◌}
use Prim.Native.Nat.{ℕ, ◌≤◌, ◌<◌}
use native.Mathlib.Omega.{arith}
use lib.ListN.{length, get_or}
use lib.Dec.{leb, ltb}
use borrow.Author.Tests.{le-leb, lt-ltb, leb-true, ltb-true}
use Rattle.octets.proofs.Tests.{and_left, and_right}
use Rattle.image_spec.specs.declared.Mark.{Mark}
use Rattle.image_spec.specs.declared.Mark.TheVariants.{Current, Expired, Gone}
use Rattle.image_spec.specs.declared.layout.Layout.{Layout}
use Rattle.image_spec.specs.Layout.{most_rows, row_place, LayoutOk}
use Rattle.image_spec.specs.Image.{Row, joined, image_of}
use Rattle.image_spec.specs.Grow.{has_room}
use Rattle.image_spec.specs.Close.{is_gone, kept}
use Rattle.image_spec.specs.Choose.{unexpired, marked, fits_in, Chosen, chosen_of, choice_of, goes_of, staying_of}
use Rattle.image_spec.specs.Removal.{left, Goes, Removal}
use Rattle.image_spec.proofs.RowPlaceLaws.{place_order}
use Rattle.image_spec.proofs.RowLaws.{image_length}
use Rattle.image_spec.proofs.MoreLaws.{length_more}
use Rattle.image_spec.proofs.LeastLaws.{by_eq, mark_below}
use Rattle.image_spec.proofs.MarkLaws.{Marks, marks_length, mark_gone, mark_left, kept_first, unexpired_kept, kept_unexpired}
use Rattle.image_spec.proofs.MarkLaws.{unexpired_fewer, goes_length, goes_at, goes_there, left_kept, put_back_lem}
use Rattle.image_spec.proofs.ChoiceLaws.{asked, going_first, fits_room, Ended, choice_ended, chosen_fits}

-- the mark of a row that goes
gone_is : (g : Mark) → is_gone g ≡ true → g ≡ Gone
gone_is Current e = absurd (false≢true e)
gone_is Expired e = absurd (false≢true e)
gone_is Gone e = refl

-- a row that goes is marked so
goes_mark : (gs : List Mark) (i : ℕ) → Goes (goes_of gs) i → get_or gs i Current ≡ Gone
goes_mark gs i g = gone_is (get_or gs i Current) (sym (goes_at gs i) ∙ g.flag)

-- a row that is marked so goes
mark_goes : (gs : List Mark) (i : ℕ) → get_or gs i Current ≡ Gone → Goes (goes_of gs) i
mark_goes gs i z = record {
  place = omega (arith, mark_below gs i Gone refl z, goes_length gs);
  flag = goes_at gs i ∙ ap is_gone z;
}

module _ (l : Layout) (ok : LayoutOk l) where
  -- so many rows begin where fewer do, or later
  place_more : (n m : ℕ) → n ≤ m → row_place l n ≤ row_place l m
  place_more n m h =
      by_eq (row_place l n ≤ row_place l m) n m (λ e. omega (arith, ap (row_place l) e))
      (λ e. omega (arith, place_order l n m (omega arith)))

  -- where there is room beside rows there is room beside rows that are not more, and whose bodies are not longer
  pub room_fewer : (d : List ℕ) (rs ss : List Row) (new : Row) → length ss ≤ length rs → length (joined ss) ≤ length (joined rs)
      → has_room l d rs new ≡ true → has_room l d ss new ≡ true
  unfolding has_room
  room_fewer d rs ss new h k e =
      let a : Bool = ltb (length rs) (most_rows l) in
      let larger : ℕ = length (image_of l (rs ++ (new ∷ []))) in
      let few : length rs < most_rows l = ltb-true (length rs) (most_rows l) (and_left a (leb larger (length d)) e) in
      let room : larger ≤ length d = leb-true larger (length d) (and_right a (leb larger (length d)) e) in
      ap₂ (λ (x y : Bool). x && y) (lt-ltb (length ss) (most_rows l) (omega arith))
      (le-leb (length (image_of l (ss ++ (new ∷ [])))) (length d)
      (omega (
        arith,
        length_more l ok rs new,
        length_more l ok ss new,
        image_length l ok rs,
        image_length l ok ss,
        place_more (length ss) (length rs) h,
      )))

  module _ (d : List ℕ) (clock : ℕ) (rs : List Row) (new : Row) where
    -- the choice for the new row
    abbrev pub choice : Chosen
    choice = choice_of l (length d) clock rs (length new.body)

    -- the rows that stay
    abbrev pub staying : List Row
    staying = staying_of l (length d) clock rs (length new.body)

    -- the answer says whether there is room beside the rows that stay
    pub choice_room : choice.ok ≡ has_room l d staying new
    unfolding staying_of
    choice_room = (choice_ended l ok d clock rs new).answer

    -- where the answer is yes the chosen rows are those that go
    pub choice_removal : choice.ok ≡ true
        → Removal l d clock rs new (goes_of choice.marks) × (left (goes_of choice.marks) rs ≡ staying)
    unfolding staying_of
    choice_removal yes' =
        let e : Ended l ok d clock rs new choice = choice_ended l ok d clock rs new in
        let gs : List Mark = choice.marks in
        let m : Marks clock gs rs = e.going.marks in (
          record {
            one_each = goes_length gs ∙ marks_length clock gs rs m;
            due = λ i g. mark_gone clock gs rs i m (goes_mark gs i g);
            order = λ i j g s.
                let h : j < length gs = omega (arith, s.place, goes_length gs) in
                e.going.order i j (goes_mark gs i g)
                (mark_left clock gs rs j m h (sym (goes_there gs j h) ∙ s.flag) s.over);
            fits = ap (λ (x : List Row). has_room l d x new) (left_kept gs rs) ∙ sym e.answer ∙ yes';
            fewest = λ j g f.
                ap (λ (x : List Bool). has_room l d (left x rs) new) (put_back_lem gs j)
                ∙ ap (λ (x : List Row). has_room l d x new) (left_kept _ rs)
                ∙ e.going.last j (goes_mark gs j g) (λ i z n. f i (mark_goes gs i z) n);
          },
          left_kept gs rs,
        )

    -- the answer is yes exactly where there is room beside the rows that are not expired
    pub choice_exactly : choice.ok ≡ has_room l d (unexpired clock rs) new
    choice_exactly = go choice.ok refl
      where
        e : Ended l ok d clock rs new choice
        e = choice_ended l ok d clock rs new

        fewer : (length (unexpired clock rs) ≤ length (kept choice.marks rs))
            × (length (joined (unexpired clock rs)) ≤ length (joined (kept choice.marks rs)))
        fewer =
            subst
            (λ (x : List Row). (length x ≤ length (kept choice.marks rs)) × (length (joined x) ≤ length (joined (kept choice.marks rs))))
            (unexpired_kept clock choice.marks rs e.going.marks) (unexpired_fewer clock (kept choice.marks rs))

        go : (t : Bool) → choice.ok ≡ t → choice.ok ≡ has_room l d (unexpired clock rs) new
        go true q = q ∙ sym (room_fewer d (kept choice.marks rs) (unexpired clock rs) new fewer.0 fewer.1 (sym e.answer ∙ q))
        go false q =
            e.answer ∙ ap (λ (x : List Row). has_room l d x new)
            (kept_unexpired clock choice.marks rs e.going.marks (e.all q))

    -- where the new row fits none goes
    pub fits_none_goes : has_room l d rs new ≡ true → (staying ≡ rs) × (choice.ok ≡ true)
    unfolding staying_of choice_of
    fits_none_goes e =
        let f : fits_in l (asked l ok d clock rs new) 0 0 ≡ true
        = fits_room l ok d clock rs new (marked clock rs) 0 0 (going_first l ok d clock rs new)
        ∙ ap (λ (x : List Row). has_room l d x new) (kept_first clock rs) ∙ e in
        let c : choice ≡ chosen_of true (marked clock rs) 0 0
        = chosen_fits l (asked l ok d clock rs new) (length rs) (marked clock rs) 0 0 f in
        (ap (λ (x : Chosen). kept x.marks rs) c ∙ kept_first clock rs, ap (λ (x : Chosen). x.ok) c)

    -- no row that is not expired is lost
    pub unexpired_stay : unexpired clock staying ≡ unexpired clock rs
    unfolding staying_of
    unexpired_stay = unexpired_kept clock choice.marks rs (choice_ended l ok d clock rs new).going.marks
