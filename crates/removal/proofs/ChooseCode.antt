-- The numbers of a row, and the turns of the loops that mark and choose, in the code's own form (specs/Choose.antt of `image_spec`).
-- Assumes nothing.
use mathlib.Core.Path.{◌≡◌, refl, sym, ap, ap₂, ◌∙◌, subst}
use mathlib.Core.Bool.{Bool, true, false, cond}
use mathlib.Core.List.{List, [], ◌∷◌, ◌++◌, append_assoc, append-nil}
use Prim.Native.Nat.{ℕ, suc, ◌+◌, ◌-◌, ◌≤◌, ◌<◌}
use native.Mathlib.Omega.{arith}
use native.Mathlib.Numerals.{add-one}
use lib.ListN.{length, take, drop, get_or, set, drop_of_length-le}
use lib.Seq.{drop-cons, take_all, take-suc-set}
use lib.Dec.{ltb}
use borrow.Author.Tests.{lt-ltb, le-ltb, le-leb, lt-leb, ltb-true, ltb-false}
use Rattle.octets.specs.Bytes.{part}
use Rattle.octets.specs.Span.{inside}
use Rattle.octets.specs.Number.{number_in}
use Rattle.octets.proofs.Tests.{by_cond}
use Rattle.descriptor_spec.specs.Reading.{Reading}
use Rattle.descriptor_spec.specs.Reader.{read_of}
use Rattle.descriptor_spec.specs.Code.{reading_of}
use Rattle.image_spec.specs.declared.layout.Layout.{Layout}
use Rattle.image_spec.specs.declared.Mark.{Mark}
use Rattle.image_spec.specs.declared.Mark.TheVariants.{Current, Expired, Gone}
use Rattle.std.specs.Prelude.{Option, Some, None}
use Rattle.image_spec.specs.Layout.{body_width, offset_place, length_place, row_size, moment_place, moment_size, row_place}
use Rattle.image_spec.specs.Image.{reading}
use Rattle.image_spec.specs.Choose.{end_in, end_of, mark_by, used_at, size_at, body_at, mark_at, marks_from, Ask}
use Rattle.image_spec.specs.Choose.{may_go, lesser, least_from, least_of, fits_in, Chosen, chosen_of, one_step, chosen}

-- ---- what a row says

module _ (l : Layout) (d : List ℕ) (i p : ℕ) (e : p ≡ row_place l i) where
  -- the last-used moment
  pub used_is : (u : ℕ) → u ≡ number_in d (p + moment_place l) (moment_size l) → u ≡ used_at l d i
  unfolding used_at
  used_is u f = f ∙ ap (λ (q : ℕ). number_in d (q + moment_place l) (moment_size l)) e

  -- the length of the body
  pub size_is : (n : ℕ) → n ≡ number_in d (p + length_place) body_width → n ≡ size_at l d i
  unfolding size_at
  size_is n f = f ∙ ap (λ (q : ℕ). number_in d (q + length_place) body_width) e

  -- the end of what is read of the body
  pub end_is : (at n : ℕ) (b : List ℕ) (x : Reading) (t : ℕ) → at ≡ number_in d (p + offset_place) body_width → n ≡ size_at l d i
      → b ≡ part d (inside d at n).start (inside d at n).len → x ≡ reading_of (read_of b) → t ≡ end_in x → t ≡ end_of (body_at l d i)
  unfolding end_of body_at reading
  end_is at n b x t f g k m q =
      let o : at ≡ number_in d _ body_width
      = f ∙ ap (λ (r : ℕ). number_in d (r + offset_place) body_width) e in
      let body : b ≡ part d (inside d _ _).start (inside d _ _).len
      = k ∙ ap₂ (λ (x y : ℕ). part d (inside d x y).start (inside d x y).len) o g in
      q ∙ ap end_in m ∙ ap (λ (y : List ℕ). end_in (reading_of (read_of y))) body

-- a row is not expired
pub mark_current : (l : Layout) (d : List ℕ) (i clock t : ℕ) (b : Bool) → t ≡ end_of (body_at l d i) → b ≡ ltb clock t → b ≡ true
    → Current ≡ mark_at l d clock i
unfolding mark_at
mark_current l d i clock t b e f h =
    let k : clock < t = ltb-true clock t (sym f ∙ h) in
    ap mark_by (sym (lt-leb (end_of (body_at l d i)) clock (omega arith)))

-- a row is expired
pub mark_expired : (l : Layout) (d : List ℕ) (i clock t : ℕ) (b : Bool) → t ≡ end_of (body_at l d i) → b ≡ ltb clock t → b ≡ false
    → Expired ≡ mark_at l d clock i
unfolding mark_at
mark_expired l d i clock t b e f h =
    let k : t ≤ clock = ltb-false clock t (sym f ∙ h) in
    ap mark_by (sym (le-leb (end_of (body_at l d i)) clock (omega arith)))

-- ---- all marks

module _ (l : Layout) (d : List ℕ) (clock : ℕ) where
  -- before the first turn
  pub marks_begin : (n : ℕ) → marks_from l d clock n 0 ≡ marks_from l d clock (n - 0) 0
  marks_begin n = let e : n ≡ n - 0 = omega arith in ap (λ (m : ℕ). marks_from l d clock m 0) e

  -- a turn
  pub marks_next : (gs : List Mark) (n i : ℕ) (g : Mark) → i < n → i < length gs → g ≡ mark_at l d clock i
      → take i gs ++ marks_from l d clock (n - i) i ≡ take (i + 1) (set gs i g) ++ marks_from l d clock (n - (i + 1)) (i + 1)
  unfolding marks_from
  marks_next gs n i g h k e =
      let m : n - i ≡ suc (n - (i + 1)) = omega arith in
      let rest : List Mark = marks_from l d clock (n - (i + 1)) (i + 1) in
      ap (λ (x : ℕ). take i gs ++ marks_from l d clock x i) m
      ∙ ap (λ (x : Mark). take i gs ++ (x ∷ rest)) (sym e)
      ∙ sym (append_assoc (take i gs) (g ∷ []) rest)
      ∙ ap (λ (x : List Mark). x ++ rest) (sym (take-suc-set gs i g k) ∙ ap (λ (x : ℕ). take x (set gs i g)) (sym (add-one i)))

  -- after the last turn
  pub marks_end : (gs : List Mark) (n i : ℕ) → n ≤ i → length gs ≤ i → take i gs ++ marks_from l d clock (n - i) i ≡ gs
  unfolding marks_from
  marks_end gs n i h k =
      let m : n - i ≡ 0 = omega arith in
      ap (λ (x : ℕ). take i gs ++ marks_from l d clock x i) m ∙ append-nil (take i gs) ∙ take_all i gs k

-- ---- the lesser of two

-- row i may not go
pub lesser_not : (g : Mark) (i u : ℕ) (b : Option (ℕ × ℕ)) → (g ≡ Expired → ⊥) → b ≡ lesser (may_go g) i u b
unfolding lesser
lesser_not Current i u b n = refl
lesser_not Expired i u b n = absurd (n refl)
lesser_not Gone i u b n = refl

-- what the code compares, where it may
lesser_alike : (g : Mark) (i u u' : ℕ) (b b' : Option (ℕ × ℕ)) → g ≡ Expired → u ≡ u' → b ≡ b'
    → lesser true i u b' ≡ lesser (may_go g) i u' b
lesser_alike g i u u' b b' e q f =
    ap (λ (t : Bool). lesser t i u b') (sym (ap may_go e)) ∙ ap₂ (λ (x : ℕ) (y : Option (ℕ × ℕ)). lesser (may_go g) i x y) q (sym f)

-- it may, and was used before the least so far
pub lesser_new : (g : Mark) (i u u' j v : ℕ) (b : Option (ℕ × ℕ)) → g ≡ Expired → u ≡ u' → b ≡ Some (j, v) → u < v
    → Some (i, u) ≡ lesser (may_go g) i u' b
unfolding lesser
lesser_new g i u u' j v b e q f h =
    ap (λ (t : Bool). cond t (Some (i, u)) (Some (j, v))) (sym (lt-ltb u v h)) ∙ lesser_alike g i u u' b (Some (j, v)) e q f

-- it may, and was not used before the least so far
pub lesser_old : (g : Mark) (i u u' j v : ℕ) (b : Option (ℕ × ℕ)) → g ≡ Expired → u ≡ u' → b ≡ Some (j, v) → v ≤ u
    → Some (j, v) ≡ lesser (may_go g) i u' b
unfolding lesser
lesser_old g i u u' j v b e q f h =
    ap (λ (t : Bool). cond t (Some (i, u)) (Some (j, v))) (sym (le-ltb u v h)) ∙ lesser_alike g i u u' b (Some (j, v)) e q f

-- it may, and is the first that does
pub lesser_first : (g : Mark) (i u u' : ℕ) (b : Option (ℕ × ℕ)) → g ≡ Expired → u ≡ u' → b ≡ None → Some (i, u) ≡ lesser (may_go g) i u' b
unfolding lesser
lesser_first g i u u' b e q f = lesser_alike g i u u' b None e q f

-- ---- the least

-- a turn
pub least_next : (used : ℕ → ℕ) (gs : List Mark) (i : ℕ) (b b' : Option (ℕ × ℕ)) → i < length gs → b' ≡ lesser (may_go (get_or gs i Current)) i (used i) b
    → least_from used (drop i gs) i b ≡ least_from used (drop (i + 1) gs) (i + 1) b'
unfolding least_from
least_next used gs i b b' h k =
    rw k
    (ap (λ (x : List Mark). least_from used x i b) (drop-cons gs i Current h)
    ∙ ap (λ (j : ℕ). least_from used (drop j gs) (i + 1) (lesser (may_go (get_or gs i Current)) i (used i) b)) (sym (add-one i)))

-- after the last turn
pub least_end : (used : ℕ → ℕ) (gs : List Mark) (i : ℕ) (b : Option (ℕ × ℕ)) → length gs ≤ i → least_from used (drop i gs) i b ≡ b
unfolding least_from
least_end used gs i b h = ap (λ (x : List Mark). least_from used x i b) (drop_of_length-le gs h)

-- the row, if any, is one of the first n
abbrev LeastIn : ℕ → Option (ℕ × ℕ) → Type 0
LeastIn n (Some b) = b.0 < n
LeastIn n None = Unit {0}

-- so it is of one row more
in_more : (n : ℕ) (b : Option (ℕ × ℕ)) → LeastIn n b → LeastIn (n + 1) b
in_more n (Some b) h = omega arith
in_more n None h = tt

-- also after that row was looked at
lesser_in : (t : Bool) (i u : ℕ) (b : Option (ℕ × ℕ)) → LeastIn i b → LeastIn (i + 1) (lesser t i u b)
unfolding lesser
lesser_in false i u b h = in_more i b h
lesser_in true i u None h = omega arith
lesser_in true i u (Some b) h = by_cond (LeastIn (i + 1)) (ltb u b.1) (λ e. here) (λ e. there)
  where
    here : i < i + 1
    here = omega arith

    there : b.0 < i + 1
    there = omega arith

-- and after all
from_in : (used : ℕ → ℕ) (gs : List Mark) (i : ℕ) (b : Option (ℕ × ℕ)) → LeastIn i b → LeastIn (i + length gs) (least_from used gs i b)
unfolding least_from
from_in used [] i b h = let e : i ≡ i + 0 = omega arith in subst (λ (n : ℕ). LeastIn n b) e h
from_in used (g ∷ gs) i b h =
    let n : (i + 1) + length gs ≡ i + suc (length gs) = omega arith in
    let b' : Option (ℕ × ℕ) = lesser (may_go g) i (used i) b in
    subst (λ (m : ℕ). LeastIn m (least_from used gs (i + 1) b')) n
    (from_in used gs (i + 1) b' (lesser_in (may_go g) i (used i) b h))

-- the row that goes next is one of the rows
pub least_in : (used : ℕ → ℕ) (gs : List Mark) (j v : ℕ) → least_from used gs 0 None ≡ Some (j, v) → j < length gs
least_in used gs j v e =
    let h : LeastIn (0 + length gs) (least_from used gs 0 None) = from_in used gs 0 None tt in
    let k : j < 0 + length gs = subst (LeastIn (0 + length gs)) e h in
    omega arith

-- ---- the choice

module _ (l : Layout) (a : Ask) where
  -- before the first turn
  pub choose_begin : (gs : List Mark) (n : ℕ) → chosen l a n gs 0 0 ≡ chosen l a (n - 0) gs 0 0
  choose_begin gs n = let e : n ≡ n - 0 = omega arith in ap (λ (m : ℕ). chosen l a m gs 0 0) e

  module _ (gs : List Mark) (n removed freed : ℕ) where
    -- what is chosen after the row j goes
    abbrev next : ℕ → Chosen
    next j = chosen l a (n - (removed + 1)) (set gs j Gone) (removed + 1) (freed + (row_size l + a.size j))

    -- one more may be chosen
    step : removed < n → chosen l a (n - removed) gs removed freed ≡ chosen l a (suc (n - (removed + 1))) gs removed freed
    step h = let e : n - removed ≡ suc (n - (removed + 1)) = omega arith in ap (λ (m : ℕ). chosen l a m gs removed freed) e

    -- there is room
    pub choose_fits : removed < n → fits_in l a removed freed ≡ true
        → chosen l a (n - removed) gs removed freed ≡ chosen_of true gs removed freed
    unfolding chosen
    choose_fits h f = step h ∙ ap (λ (t : Bool). one_step t (least_of a gs) gs removed freed next) f

    module _ (h : removed < n) (f : fits_in l a removed freed ≡ false) where
      -- there is none
      turn : (b : Option (ℕ × ℕ)) → least_of a gs ≡ b → chosen l a (n - removed) gs removed freed ≡ one_step false b gs removed freed next
      unfolding chosen
      turn b g =
          step h ∙ ap (λ (t : Bool). one_step t (least_of a gs) gs removed freed next) f
          ∙ ap (λ (x : Option (ℕ × ℕ)). one_step false x gs removed freed next) g

      -- and no row may go
      pub choose_none : least_of a gs ≡ None → chosen l a (n - removed) gs removed freed ≡ chosen_of false gs removed freed
      choose_none g = turn None g

      -- and row j goes
      pub choose_next : (j v s : ℕ) → least_of a gs ≡ Some (j, v) → s ≡ a.size j
          → chosen l a (n - removed) gs removed freed
          ≡ chosen l a (n - (removed + 1)) (set gs j Gone) (removed + 1) (freed + (row_size l + s))
      choose_next j v s g e =
          turn (Some (j, v)) g
          ∙ ap (λ (x : ℕ). chosen l a (n - (removed + 1)) (set gs j Gone) (removed + 1) (freed + (row_size l + x))) (sym e)

    -- after the last turn
    pub choose_last : (t : Bool) → removed ≡ n → t ≡ fits_in l a n freed
        → chosen l a (n - removed) gs removed freed ≡ chosen_of t gs n freed
    unfolding chosen
    choose_last t h e =
        let m : n - removed ≡ 0 = omega arith in
        ap₂ (λ (m r : ℕ). chosen l a m gs r freed) m h ∙ ap (λ (x : Bool). chosen_of x gs n freed) (sym e)
