-- How room is made, in the code's own form (specs/Choose.antt of `image_spec`). Assumes nothing.
use mathlib.Core.Path.{◌≡◌, refl, sym, ap, ap₂, ◌∙◌, subst}
use mathlib.Core.Bool.{Bool, true, false, false≢true, cond, ◌&&◌, and-false}
use mathlib.Core.List.{List}
use Prim.Native.Nat.{ℕ, zero, suc, ◌+◌, ◌-◌, ◌≤◌, ◌<◌}
use native.Mathlib.Omega.{arith}
use lib.ListN.{length, take, replicate, length-replicate}
use lib.Seq.{length-take-le}
use lib.Dec.{leb}
use borrow.Author.Tests.{le-leb, lt-leb}
use Rattle.descriptor_spec.specs.Allowed.{longest}
use Rattle.image_spec.specs.declared.layout.Layout.{Layout}
use Rattle.image_spec.specs.declared.Room.{Room}
use Rattle.image_spec.specs.declared.Mark.{Mark}
use Rattle.image_spec.specs.declared.Mark.TheVariants.{Current}
use Rattle.std.specs.Prelude.{Option, Some, None}
use Rattle.removal.specs.declared.choose.Choice.{Choice}
use Rattle.removal.specs.Code.{choice_by, choice_in}
use Rattle.image_spec.specs.Layout.{most_rows}
use Rattle.image_spec.specs.Close.{closed_up}
use Rattle.image_spec.specs.Choose.{made, marks_from, short_of, Chosen, chosen, ask_at, choice_at, room_by, room_of, after_by, after_room}

-- ---- no room is made

-- the tests before the choice
abbrev tests : Layout → List ℕ → ℕ → ℕ → ℕ → Bool
tests l d rows end more = leb rows (most_rows l) && (leb end (length d) && leb more longest)

-- what is promised where no room is made
abbrev pub NoneMade : Layout → List ℕ → ℕ → ℕ → ℕ → ℕ → Type 0
NoneMade l d rows end clock more = (None ≡ room_of l d rows end clock more) × (d ≡ after_room l d rows end clock more)

-- it is so where the answer is no
none_made : (l : Layout) (d : List ℕ) (rows end clock more : ℕ) → room_of l d rows end clock more ≡ None → NoneMade l d rows end clock more
unfolding after_room
none_made l d rows end clock more e = (sym e, ap (after_by l d rows end clock more) (sym e))

-- the answer is no where a test does not hold
tests_not : (l : Layout) (d : List ℕ) (rows end clock more : ℕ) → tests l d rows end more ≡ false → NoneMade l d rows end clock more
unfolding room_of
tests_not l d rows end clock more e =
    none_made l d rows end clock more (ap (λ (t : Bool). cond t (room_by rows end (choice_at l d rows end clock more)) None) e)

-- there are more rows than there may be
pub room_many : (l : Layout) (d : List ℕ) (rows end clock more : ℕ) → most_rows l < rows → NoneMade l d rows end clock more
room_many l d rows end clock more h =
    tests_not l d rows end clock more (ap (λ (t : Bool). t && (leb end (length d) && leb more longest)) (lt-leb rows (most_rows l) h))

-- they do not end in the buffer
pub room_past : (l : Layout) (d : List ℕ) (rows end clock more : ℕ) → length d < end → NoneMade l d rows end clock more
room_past l d rows end clock more h =
    tests_not l d rows end clock more
    (ap (λ (t : Bool). leb rows (most_rows l) && (t && leb more longest)) (lt-leb end (length d) h) ∙ and-false (leb rows (most_rows l)))

-- the body is longer than it may be
pub room_long : (l : Layout) (d : List ℕ) (rows end clock more : ℕ) → longest < more → NoneMade l d rows end clock more
room_long l d rows end clock more h =
    tests_not l d rows end clock more
    (ap (λ (t : Bool). leb rows (most_rows l) && (leb end (length d) && t)) (lt-leb more longest h)
    ∙ ap (λ (t : Bool). leb rows (most_rows l) && t) (and-false (leb end (length d))) ∙ and-false (leb rows (most_rows l)))

-- ---- by a choice

-- there are as many marks as rows
marks_many : (l : Layout) (d : List ℕ) (clock n i : ℕ) → length (marks_from l d clock n i) ≡ n
unfolding marks_from
marks_many l d clock zero i = refl
marks_many l d clock (suc n) i = omega (arith, marks_many l d clock n (i + 1))

-- there is a choice
abbrev is_choice : Option Choice → Bool
is_choice (Some c) = true
is_choice None = false

-- equal choices
same_choice : (c x : Choice) → ◌≡◌ {A = Option Choice} (Some c) (Some x) → c ≡ x
same_choice c x e = cc

module _ (l : Layout) (d : List ℕ) (rows end clock more : ℕ) (few : rows ≤ most_rows l) (within : end ≤ length d)
    (least : more ≤ longest) where
  -- what is answered by the choice
  by_choice : room_of l d rows end clock more ≡ room_by rows end (choice_at l d rows end clock more)
  unfolding room_of
  by_choice =
      ap (λ (t : Bool). cond t (room_by rows end (choice_at l d rows end clock more)) None)
      (ap₂ (λ (x y : Bool). x && y) (le-leb rows (most_rows l) few)
      (ap₂ (λ (x y : Bool). x && y) (le-leb end (length d) within) (le-leb more longest least)))

  -- by one without room none is made
  by_none : (t : Bool) (r f : ℕ) → None ≡ choice_by t r f
      → cond (t && leb f end) (made (rows - r) (end - f)) None ≡ None
  by_none true r f e = absurd (false≢true (ap is_choice e))
  by_none false r f e = refl

  -- by one with room, it is made where no more is freed than there is
  by_some : (t : Bool) (r f : ℕ) (c : Choice) → Some c ≡ choice_by t r f
      → cond (t && leb f end) (made (rows - r) (end - f)) None ≡ cond (leb c.freed end) (made (rows - c.removed) (end - c.freed)) None
  by_some true r f c e =
      ap (λ (x : Choice). cond (leb x.freed end) (made (rows - x.removed) (end - x.freed)) None) (sym (same_choice c _ e))
  by_some false r f c e = absurd (false≢true (sym (ap is_choice e)))

  module _ (ms : List Mark) (short : ℕ) (marks : ms ≡ marks_from l d clock rows 0) (lacks : short ≡ short_of l end more (length d)) where
    -- what the code chooses
    abbrev pub code_choice : Chosen
    code_choice = chosen l (ask_at l d (length ms) short) (length ms) ms 0 0

    -- it is the choice of the definition
    choice_is : code_choice ≡ choice_at l d rows end clock more
    unfolding choice_at
    choice_is =
        let n : length ms ≡ rows = ap length marks ∙ marks_many l d clock rows 0 in
        ap (λ (k : ℕ). chosen l (ask_at l d k short) k ms 0 0) n
        ∙ ap₂ (λ (s : ℕ) (xs : List Mark). chosen l (ask_at l d rows s) rows xs 0 0) lacks marks

    -- there is no room
    pub room_no : None ≡ choice_in code_choice → NoneMade l d rows end clock more
    room_no e =
        let c : Chosen = code_choice in
        none_made l d rows end clock more (by_choice ∙ ap (room_by rows end) (sym choice_is) ∙ by_none c.ok c.removed c.freed e)

    module _ (c : Choice) (chose : Some c ≡ choice_in code_choice) where
      -- what is answered where there is room
      by_room : room_of l d rows end clock more ≡ cond (leb c.freed end) (made (rows - c.removed) (end - c.freed)) None
      by_room =
          let x : Chosen = code_choice in
          by_choice ∙ ap (room_by rows end) (sym choice_is) ∙ by_some x.ok x.removed x.freed c chose

      -- more is freed than there is
      pub room_beyond : end < c.freed → NoneMade l d rows end clock more
      room_beyond h =
          none_made l d rows end clock more
          (by_room ∙ ap (λ (x : Bool). cond x (made (rows - c.removed) (end - c.freed)) None) (lt-leb c.freed end h))

      -- it is made
      pub room_yes : (gs : List Mark) (n : ℕ) (d' : List ℕ) → gs ≡ code_choice.marks → c.freed ≤ end → n ≡ rows → d' ≡ closed_up l d gs
          → (made (n - c.removed) (end - c.freed) ≡ room_of l d rows end clock more) × (d' ≡ after_room l d rows end clock more)
      unfolding after_room
      room_yes gs n d' gone h m k =
          let says : room_of l d rows end clock more ≡ made (rows - c.removed) (end - c.freed)
          = by_room ∙ ap (λ (x : Bool). cond x (made (rows - c.removed) (end - c.freed)) None) (le-leb c.freed end h) in (
            ap (λ (x : ℕ). made (x - c.removed) (end - c.freed)) m ∙ sym says,
            k ∙ ap (closed_up l d) gone ∙ ap (λ (x : Chosen). closed_up l d x.marks) choice_is
                ∙ ap (after_by l d rows end clock more) (sym says),
          )

-- ---- the lent marks

-- so many of the array are lent
pub lent : (n m : ℕ) → n ≤ m → length (take n (replicate {A = Mark} m Current)) ≡ n
lent n m h = length-take-le n (replicate {A = Mark} m Current) (omega (arith, length-replicate {A = Mark} m Current))

-- what is promised of as many marks as rows
pub made_of : (l : Layout) (d d' : List ℕ) (rows n end clock more : ℕ) (r : Option Room) → n ≡ rows
    → (r ≡ room_of l d n end clock more) × (d' ≡ after_room l d n end clock more)
    → (r ≡ room_of l d rows end clock more) × (d' ≡ after_room l d rows end clock more)
made_of l d d' rows n end clock more r e =
    subst (λ (k : ℕ). (r ≡ room_of l d k end clock more) × (d' ≡ after_room l d k end clock more)) e
