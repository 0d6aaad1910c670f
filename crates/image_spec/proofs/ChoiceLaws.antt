-- What is chosen (specs/Choose.antt): the expired rows that go come before those that stay, they are no more than needed, and the answer
-- says whether there is room then. Assumes nothing.
use mathlib.Core.Path.{◌≡◌, refl, sym, ap, ap₂, ◌∙◌, subst}
use mathlib.Core.Bool.{Bool, true, false, ◌&&◌, false≢true}
use mathlib.Core.List.{List, [], ◌∷◌, ◌++◌}
use Prim.Native.Nat.{ℕ, zero, suc, ◌+◌, ◌-◌, ◌≤◌, ◌<◌}
use native.Mathlib.Omega.{arith}
use lib.ListN.{length, get_or, set}
use lib.Seq.{get_or-set_same, get_or-set_other}
use lib.Dec.{leb}
use borrow.Author.Tests.{le-leb, leb-true, leb-false}
use Rattle.image_spec.specs.declared.Mark.{Mark}
use Rattle.image_spec.specs.declared.Mark.TheVariants.{Current, Expired, Gone}
use Rattle.image_spec.specs.declared.layout.Layout.{Layout}
use Rattle.std.specs.Prelude.{Option, Some, None}
use Rattle.image_spec.specs.Layout.{row_size, most_rows, row_place, LayoutOk}
use Rattle.image_spec.specs.Image.{Row, image_of}
use Rattle.image_spec.specs.Grow.{has_room}
use Rattle.image_spec.specs.Close.{kept}
use Rattle.image_spec.specs.Choose.{Ask, short_of, least_of, fits_after, fits_in, Chosen, chosen_of, one_step, chosen, marked, ask_of}
use Rattle.image_spec.specs.Choose.{may_go, choice_of}
use Rattle.image_spec.specs.Removal.{row_in, Before}
use Rattle.image_spec.proofs.RowPlaceLaws.{place_next}
use Rattle.image_spec.proofs.RowLaws.{image_length}
use Rattle.image_spec.proofs.MoreLaws.{length_more}
use Rattle.image_spec.proofs.LeastLaws.{by_eq, mark_below, LeastTo, SeenTo, mark_in, least_seen}
use Rattle.image_spec.proofs.MarkLaws.{Marks, marks_first, marks_length, marks_set, first_none, kept_first, kept_set, set_back}

-- two tests of which each holds where the other does
pub leb_same : (x y x' y' : ℕ) → (x ≤ y → x' ≤ y') → (x' ≤ y' → x ≤ y) → leb x y ≡ leb x' y'
leb_same x y x' y' f g = go (leb x' y') refl
  where
    go : (t : Bool) → leb x' y' ≡ t → leb x y ≡ t
    go true e = le-leb x y (g (leb-true x' y' e))
    go false e = other (leb x y) refl
      where
        both : x' ≤ y' → y' < x' → ⊥
        both a b = omega arith

        other : (t : Bool) → leb x y ≡ t → t ≡ false
        other true q = absurd (both (f (leb-true x y q)) (leb-false x' y' e))
        other false q = refl

-- a row that goes is not marked as expired
gone_expired : Gone ≡ Expired → ⊥
gone_expired e = false≢true (ap may_go e)

-- one row goes: a mark of the others is what it was, and the row's mark says that it goes
set_mark : (gs : List Mark) (k i : ℕ) (g : Mark) → k < length gs → get_or (set gs k Gone) i Current ≡ g → (i ≡ k → ⊥) → get_or gs i Current ≡ g
set_mark gs k i g h z n = sym (get_or-set_other gs k i Gone Current n) ∙ z

-- a row that is then still marked as expired is another
still_other : (gs : List Mark) (k i : ℕ) → k < length gs → get_or (set gs k Gone) i Current ≡ Expired → i ≡ k → ⊥
still_other gs k i h z e =
    let q : get_or (set gs k Gone) k Current ≡ Gone = get_or-set_same gs k Gone Current h in
    let w : get_or (set gs k Gone) k Current ≡ Expired = ap (λ (x : ℕ). get_or (set gs k Gone) x Current) (sym e) ∙ z in
    absurd (gone_expired (sym q ∙ w))

module _ (l : Layout) (ok : LayoutOk l) (d : List ℕ) (clock : ℕ) (rs : List Row) (new : Row) where
  -- what the choice is made by
  abbrev pub asked : Ask
  asked = ask_of l rs (length new.body) (length d)

  -- there is room beside what is kept
  abbrev pub room_beside : List Mark → Bool
  room_beside gs = has_room l d (kept gs rs) new

  -- Rows went by these marks: the marks say which rows are expired; so many rows and bytes were removed; every row that goes comes before
  -- every expired row that stays; and with the last that goes there was no room.
  pub record Going (gs : List Mark) (removed freed : ℕ) : Type 0 where
    pub marks : Marks clock gs rs
    pub rows : length (kept gs rs) + removed ≡ length rs
    pub bytes : length (image_of l (kept gs rs)) + freed ≡ length (image_of l rs)
    pub order : (i j : ℕ) → get_or gs i Current ≡ Gone → get_or gs j Current ≡ Expired → Before rs i j
    pub last : (j : ℕ) → get_or gs j Current ≡ Gone → ((i : ℕ) → get_or gs i Current ≡ Gone → (i ≡ j → ⊥) → Before rs i j)
        → room_beside (set gs j Expired) ≡ false

  -- before any row goes it is so
  pub going_first : Going (marked clock rs) 0 0
  going_first =
      let e : kept (marked clock rs) rs ≡ rs = kept_first clock rs in
      record {
        marks = marks_first clock rs;
        rows = omega (arith, ap (λ (x : List Row). length x) e);
        bytes = omega (arith, ap (λ (x : List Row). length (image_of l x)) e);
        order = λ i j z y. absurd (first_none clock rs i z);
        last = λ j z f. absurd (first_none clock rs j z);
      }

  -- the test of the choice is that there is room beside what is kept
  pub fits_room : (gs : List Mark) (removed freed : ℕ) → Going gs removed freed → fits_in l asked removed freed ≡ room_beside gs
  unfolding fits_after short_of has_room
  fits_room gs removed freed t =
      let k : ℕ = length (kept gs rs) in
      let m : ℕ = length (image_of l (kept gs rs)) in
      let end : ℕ = length (image_of l rs) in
      let r : k + removed ≡ length rs = t.rows in
      let b : m + freed ≡ end = t.bytes in
      let n : length (image_of l (kept gs rs ++ (new ∷ []))) ≡ m + row_size l + length new.body = length_more l ok (kept gs rs) new in
      ap₂ (λ (x y : Bool). x && y)
      (leb_same (suc (length rs)) (most_rows l + removed) (suc k) (most_rows l) (λ h. omega arith) (λ h. omega arith))
      (leb_same ((end + row_size l + length new.body) - length d) freed (length (image_of l (kept gs rs ++ (new ∷ [])))) (length d)
      (λ h. omega arith) (λ h. omega arith))

  -- where the row that goes next goes, and there was no room without that, it is so again
  going_next : (gs : List Mark) (removed freed k v : ℕ) → Going gs removed freed → room_beside gs ≡ false → least_of asked gs ≡ Some (k, v)
      → Going (set gs k Gone) (removed + 1) (freed + (row_size l + length (row_in rs k).body))
  going_next gs removed freed k v t full e =
      let s : LeastTo asked.used (mark_in gs) (length gs) k v
      = subst (SeenTo asked.used (mark_in gs) (length gs)) e (least_seen asked gs) in
      let h : k < length gs = s.below in
      let n : length gs ≡ length rs = marks_length clock gs rs t.marks in
      let q = kept_set gs rs k n s.due in
      let gs' : List Mark = set gs k Gone in
      let fewer : length (kept gs rs) ≡ length (kept gs' rs) + 1 = q.0 in
      -- the row comes before every expired row that stays
      let first : (j : ℕ) → get_or gs' j Current ≡ Expired → Before rs k j = λ j z.
      let o : j ≡ k → ⊥ = still_other gs k j h z in
      let y : get_or gs j Current ≡ Expired = set_mark gs k j Expired h z o in
      let w = s.first j (mark_below gs j Expired refl y) y in
      (w.0, λ x. let le : k ≤ j = w.1 x in by_eq (k < j) j k (λ z. absurd (o z)) (λ z. omega arith)) in
      record {
        marks = marks_set clock gs rs k t.marks s.due;
        rows = omega (arith, t.rows, q.0);
        bytes = omega (
          arith,
          t.bytes,
          q.1,
          image_length l ok (kept gs rs),
          image_length l ok (kept gs' rs),
          place_next l (length (kept gs' rs)),
          ap (row_place l) fewer,
        );
        order = λ i j z y.
            let o : j ≡ k → ⊥ = still_other gs k j h y in
            by_eq (Before rs i j) i k (λ x. subst (λ (p : ℕ). Before rs p j) (sym x) (first j y))
            (λ x. t.order i j (set_mark gs k i Gone h z x) (set_mark gs k j Expired h y o));
        last = λ j z f.
            by_eq (room_beside (set gs' j Expired) ≡ false) j k
            (λ x. subst (λ (p : ℕ). room_beside (set gs' p Expired) ≡ false) (sym x) (ap room_beside (set_back gs k s.due) ∙ full))
            (λ x.
            let a : Before rs j k = t.order j k (set_mark gs k j Gone h z x) s.due in
            let b : Before rs k j = f k (get_or-set_same gs k Gone Current h) (λ y. x (sym y)) in
            absurd (turn j k a b));
      }
    where
      turn : (j k : ℕ) → Before rs j k → Before rs k j → ⊥
      turn j k a b = let x : j < k = a.1 b.0 in let y : k < j = b.1 a.0 in omega arith

  -- What was chosen: rows went so; the answer says whether there is room then; and where there is none no expired row is left.
  pub record Ended (c : Chosen) : Type 0 where
    pub going : Going c.marks c.removed c.freed
    pub answer : c.ok ≡ room_beside c.marks
    pub all : c.ok ≡ false → (i : ℕ) → get_or c.marks i Current ≡ Expired → ⊥

  -- nothing more is chosen
  ends_here : (gs : List Mark) (removed freed : ℕ) (t : Bool) → Going gs removed freed → fits_in l asked removed freed ≡ t
      → (t ≡ false → (i : ℕ) → get_or gs i Current ≡ Expired → ⊥) → Ended (chosen_of t gs removed freed)
  ends_here gs removed freed t g e f = record { going = g; answer = sym e ∙ fits_room gs removed freed g; all = f }

  -- where at most as many more are chosen as there are rows left, what is chosen is so
  pub chosen_ended : (m : ℕ) (gs : List Mark) (removed freed : ℕ) → length (kept gs rs) ≤ m → Going gs removed freed
      → Ended (chosen l asked m gs removed freed)
  unfolding chosen
  chosen_ended zero gs removed freed h g =
      ends_here gs removed freed (fits_in l asked removed freed) g refl
      (λ e i z. omega (arith, (kept_set gs rs i (marks_length clock gs rs g.marks) z).0))
  chosen_ended (suc m) gs removed freed h g = go (fits_in l asked removed freed) (least_of asked gs) refl refl (chosen_ended m)
    where
      go : (t : Bool) (b : Option (ℕ × ℕ)) → fits_in l asked removed freed ≡ t → least_of asked gs ≡ b
          → ((gs' : List Mark) (r f : ℕ) → length (kept gs' rs) ≤ m → Going gs' r f → Ended (chosen l asked m gs' r f))
          → Ended (one_step t b gs removed freed
          (λ j. chosen l asked m (set gs j Gone) (removed + 1) (freed + (row_size l + asked.size j))))
      go true b e f more = ends_here gs removed freed true g e (λ q. absurd (false≢true (sym q)))
      go false None e f more =
          ends_here gs removed freed false g e
          (λ q i z. subst (SeenTo asked.used (mark_in gs) (length gs)) f (least_seen asked gs) i (mark_below gs i Expired refl z) z)
      go false (Some b) e f more =
          let s : LeastTo asked.used (mark_in gs) (length gs) b.0 b.1
          = subst (SeenTo asked.used (mark_in gs) (length gs)) f (least_seen asked gs) in
          let q = kept_set gs rs b.0 (marks_length clock gs rs g.marks) s.due in
          more (set gs b.0 Gone) (removed + 1) (freed + (row_size l + asked.size b.0)) (omega (arith, q.0))
          (going_next gs removed freed b.0 b.1 g (sym (fits_room gs removed freed g) ∙ e) f)

  -- so is the choice among the rows
  pub choice_ended : Ended (choice_of l (length d) clock rs (length new.body))
  unfolding choice_of
  choice_ended =
      chosen_ended (length rs) (marked clock rs) 0 0 (omega (arith, ap (λ (x : List Row). length x) (kept_first clock rs))) going_first

-- where there is room nothing more is chosen
pub chosen_fits : (l : Layout) (a : Ask) (m : ℕ) (gs : List Mark) (removed freed : ℕ) → fits_in l a removed freed ≡ true
    → chosen l a m gs removed freed ≡ chosen_of true gs removed freed
unfolding chosen
chosen_fits l a zero gs removed freed e = ap (λ (t : Bool). chosen_of t gs removed freed) e
chosen_fits l a (suc m) gs removed freed e =
    ap (λ (t : Bool). one_step t (least_of a gs) gs removed freed
    (λ j. chosen l a m (set gs j Gone) (removed + 1) (freed + (row_size l + a.size j)))) e
