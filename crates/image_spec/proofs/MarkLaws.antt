-- What the marks of rows say, and what is kept by them (specs/Close.antt, specs/Choose.antt, specs/Removal.antt). Assumes nothing.
use mathlib.Core.Path.{◌≡◌, refl, sym, ap, ◌∙◌, subst}
use mathlib.Core.Bool.{Bool, true, false, not, false≢true}
use mathlib.Core.List.{List, [], ◌∷◌}
use Prim.Native.Nat.{ℕ, zero, suc, ◌+◌, ◌≤◌, ◌<◌}
use native.Mathlib.Omega.{arith}
use lib.ListN.{length, get_or, set, length-append}
use Rattle.image_spec.specs.declared.Mark.{Mark}
use Rattle.image_spec.specs.declared.Mark.TheVariants.{Current, Expired, Gone}
use Rattle.image_spec.specs.Image.{Row, joined}
use Rattle.image_spec.specs.Close.{is_gone, stays, keep, kept}
use Rattle.image_spec.specs.Choose.{is_expired, unexpired, mark_by, marked, goes_of}
use Rattle.image_spec.specs.Removal.{row_in, left, put_back}
use Rattle.image_spec.proofs.LeastLaws.{current_other}

-- ---- what each mark says of its row

-- a mark says whether its row is expired
abbrev pub MarkOf : ℕ → Row → Mark → Type 0
MarkOf clock r Current = is_expired clock r ≡ false
MarkOf clock r Expired = is_expired clock r ≡ true
MarkOf clock r Gone = is_expired clock r ≡ true

-- each row has a mark that says so
abbrev pub Marks : ℕ → List Mark → List Row → Type 0
Marks clock [] [] = Unit {0}
Marks clock [] (r ∷ rs) = ⊥
Marks clock (g ∷ gs) [] = ⊥
Marks clock (g ∷ gs) (r ∷ rs) = MarkOf clock r g × Marks clock gs rs

module _ (clock : ℕ) where
  -- the marks before any row goes say so
  pub marks_first : (rs : List Row) → Marks clock (marked clock rs) rs
  unfolding marked
  marks_first [] = tt
  marks_first (r ∷ rs) = (go (is_expired clock r) refl, marks_first rs)
    where
      go : (t : Bool) → is_expired clock r ≡ t → MarkOf clock r (mark_by t)
      go true e = e
      go false e = e

  -- there is a mark for each row
  pub marks_length : (gs : List Mark) (rs : List Row) → Marks clock gs rs → length gs ≡ length rs
  marks_length [] [] m = refl
  marks_length [] (r ∷ rs) m = absurd m
  marks_length (g ∷ gs) [] m = absurd m
  marks_length (g ∷ gs) (r ∷ rs) m = omega (arith, marks_length gs rs m.1)

  -- they say so after an expired row goes
  pub marks_set : (gs : List Mark) (rs : List Row) (j : ℕ) → Marks clock gs rs → get_or gs j Current ≡ Expired → Marks clock (set gs j Gone) rs
  marks_set [] rs j m z = absurd (current_other Expired refl z)
  marks_set (g ∷ gs) [] j m z = absurd m
  marks_set (g ∷ gs) (r ∷ rs) zero m z = (subst (MarkOf clock r) z m.0, m.1)
  marks_set (g ∷ gs) (r ∷ rs) (suc j) m z = (m.0, marks_set gs rs j m.1 z)

  -- a row that goes is expired
  pub mark_gone : (gs : List Mark) (rs : List Row) (i : ℕ) → Marks clock gs rs → get_or gs i Current ≡ Gone → is_expired clock (row_in rs i) ≡ true
  mark_gone [] rs i m z = absurd (current_other Gone refl z)
  mark_gone (g ∷ gs) [] i m z = absurd m
  mark_gone (g ∷ gs) (r ∷ rs) zero m z = subst (MarkOf clock r) z m.0
  mark_gone (g ∷ gs) (r ∷ rs) (suc i) m z = mark_gone gs rs i m.1 z

  -- the mark of an expired row that does not go
  left_mark : (r : Row) (g : Mark) → MarkOf clock r g → is_gone g ≡ false → is_expired clock r ≡ true → g ≡ Expired
  left_mark r Current m n e = absurd (false≢true (sym m ∙ e))
  left_mark r Expired m n e = refl
  left_mark r Gone m n e = absurd (false≢true (sym n))

  -- an expired row that does not go is marked so
  pub mark_left : (gs : List Mark) (rs : List Row) (i : ℕ) → Marks clock gs rs → i < length gs → is_gone (get_or gs i Current) ≡ false
      → is_expired clock (row_in rs i) ≡ true → get_or gs i Current ≡ Expired
  mark_left [] rs i m h n e = absurd (omega arith)
  mark_left (g ∷ gs) [] i m h n e = absurd m
  mark_left (g ∷ gs) (r ∷ rs) zero m h n e = left_mark r g m.0 n e
  mark_left (g ∷ gs) (r ∷ rs) (suc i) m h n e = mark_left gs rs i m.1 (omega arith) n e

  -- before any row goes none does
  pub first_none : (rs : List Row) (i : ℕ) → get_or (marked clock rs) i Current ≡ Gone → ⊥
  unfolding marked
  first_none [] i z = current_other Gone refl z
  first_none (r ∷ rs) zero z = go (is_expired clock r) z
    where
      go : (t : Bool) → mark_by t ≡ Gone → ⊥
      go true e = false≢true (ap is_gone e)
      go false e = current_other Gone refl e
  first_none (r ∷ rs) (suc i) z = first_none rs i z

  -- ---- what is kept

  -- before any row goes all are kept
  pub kept_first : (rs : List Row) → kept (marked clock rs) rs ≡ rs
  unfolding kept marked
  kept_first [] = refl
  kept_first (r ∷ rs) = go (is_expired clock r) ∙ ap (λ (x : List Row). r ∷ x) (kept_first rs)
    where
      go : (t : Bool) → keep (stays (mark_by t)) r (kept (marked clock rs) rs) ≡ r ∷ kept (marked clock rs) rs
      go true = refl
      go false = refl

  -- the rows that are not expired are kept
  pub unexpired_kept : (gs : List Mark) (rs : List Row) → Marks clock gs rs → unexpired clock (kept gs rs) ≡ unexpired clock rs
  unfolding kept unexpired
  unexpired_kept [] [] m = refl
  unexpired_kept [] (r ∷ rs) m = absurd m
  unexpired_kept (g ∷ gs) [] m = absurd m
  unexpired_kept (Current ∷ gs) (r ∷ rs) m = ap (λ (x : List Row). keep (not (is_expired clock r)) r x) (unexpired_kept gs rs m.1)
  unexpired_kept (Expired ∷ gs) (r ∷ rs) m = ap (λ (x : List Row). keep (not (is_expired clock r)) r x) (unexpired_kept gs rs m.1)
  unexpired_kept (Gone ∷ gs) (r ∷ rs) m =
      unexpired_kept gs rs m.1 ∙ ap (λ (t : Bool). keep (not t) r (unexpired clock rs)) (sym m.0)

  -- where no expired row is left those that are not expired are kept, and no other
  pub kept_unexpired : (gs : List Mark) (rs : List Row) → Marks clock gs rs → ((i : ℕ) → get_or gs i Current ≡ Expired → ⊥)
      → kept gs rs ≡ unexpired clock rs
  unfolding kept unexpired
  kept_unexpired [] [] m n = refl
  kept_unexpired [] (r ∷ rs) m n = absurd m
  kept_unexpired (g ∷ gs) [] m n = absurd m
  kept_unexpired (Current ∷ gs) (r ∷ rs) m n =
      ap (λ (x : List Row). r ∷ x) (kept_unexpired gs rs m.1 (λ i. n (suc i)))
      ∙ ap (λ (t : Bool). keep (not t) r (unexpired clock rs)) (sym m.0)
  kept_unexpired (Expired ∷ gs) (r ∷ rs) m n = absurd (n 0 refl)
  kept_unexpired (Gone ∷ gs) (r ∷ rs) m n =
      kept_unexpired gs rs m.1 (λ i. n (suc i)) ∙ ap (λ (t : Bool). keep (not t) r (unexpired clock rs)) (sym m.0)

  -- the rows that are not expired are not more than all, and their bodies not longer
  pub unexpired_fewer : (rs : List Row)
      → (length (unexpired clock rs) ≤ length rs) × (length (joined (unexpired clock rs)) ≤ length (joined rs))
  unfolding unexpired joined
  unexpired_fewer [] = (omega arith, omega arith)
  unexpired_fewer (r ∷ rs) = go (is_expired clock r) (unexpired_fewer rs)
    where
      go : (t : Bool) → (length (unexpired clock rs) ≤ length rs) × (length (joined (unexpired clock rs)) ≤ length (joined rs))
          → (length (keep (not t) r (unexpired clock rs)) ≤ suc (length rs))
          × (length (joined (keep (not t) r (unexpired clock rs))) ≤ length (joined (r ∷ rs)))
      go true y = (omega (arith, y.0), omega (arith, y.1, length-append r.body (joined rs)))
      go false y = (
        omega (arith, y.0),
        omega (arith, y.1, length-append r.body (joined rs), length-append r.body (joined (unexpired clock rs))),
      )

-- one more goes: one row less is kept, and its body
pub kept_set : (gs : List Mark) (rs : List Row) (j : ℕ) → length gs ≡ length rs → get_or gs j Current ≡ Expired
    → (length (kept gs rs) ≡ length (kept (set gs j Gone) rs) + 1)
    × (length (joined (kept gs rs)) ≡ length (joined (kept (set gs j Gone) rs)) + length (row_in rs j).body)
unfolding kept joined
kept_set [] rs j n z = absurd (current_other Expired refl z)
kept_set (g ∷ gs) [] j n z = absurd (omega arith)
kept_set (g ∷ gs) (r ∷ rs) zero n z =
    let k : List Row = kept gs rs in
    subst
    (λ (x : Mark). (length (keep (stays x) r k) ≡ length k + 1) × (length (joined (keep (stays x) r k)) ≡ length (joined k) + length r.body))
    (sym z) (omega arith, omega (arith, length-append r.body (joined k)))
kept_set (g ∷ gs) (r ∷ rs) (suc j) n z = go (stays g) (kept_set gs rs j (omega arith) z)
  where
    go : (t : Bool)
        → (length (kept gs rs) ≡ length (kept (set gs j Gone) rs) + 1)
        × (length (joined (kept gs rs)) ≡ length (joined (kept (set gs j Gone) rs)) + length (row_in rs j).body)
        → (length (keep t r (kept gs rs)) ≡ length (keep t r (kept (set gs j Gone) rs)) + 1)
        × (length (joined (keep t r (kept gs rs))) ≡ length (joined (keep t r (kept (set gs j Gone) rs))) + length (row_in rs j).body)
    go true y = (
      omega (arith, y.0),
      omega (arith, y.1, length-append r.body (joined (kept gs rs)), length-append r.body (joined (kept (set gs j Gone) rs))),
    )
    go false y = y

-- an expired row that goes and then does not is marked as it was
pub set_back : (gs : List Mark) (j : ℕ) → get_or gs j Current ≡ Expired → set (set gs j Gone) j Expired ≡ gs
set_back [] j z = refl
set_back (g ∷ gs) zero z = ap (λ (x : Mark). x ∷ gs) (sym z)
set_back (g ∷ gs) (suc j) z = ap (λ (x : List Mark). g ∷ x) (set_back gs j z)

-- ---- in the words of the promise

-- there is an answer for each row
pub goes_length : (gs : List Mark) → length (goes_of gs) ≡ length gs
goes_length [] = refl
goes_length (g ∷ gs) = omega (arith, goes_length gs)

-- a row goes where its mark says so
pub goes_at : (gs : List Mark) (i : ℕ) → get_or (goes_of gs) i false ≡ is_gone (get_or gs i Current)
goes_at [] i = refl
goes_at (g ∷ gs) zero = refl
goes_at (g ∷ gs) (suc i) = goes_at gs i

-- the same of a row that there is
pub goes_there : (gs : List Mark) (i : ℕ) → i < length gs → get_or (goes_of gs) i true ≡ is_gone (get_or gs i Current)
goes_there [] i h = absurd (omega arith)
goes_there (g ∷ gs) zero h = refl
goes_there (g ∷ gs) (suc i) h = goes_there gs i (omega arith)

-- the rows that are left are those that are kept
pub left_kept : (gs : List Mark) (rs : List Row) → left (goes_of gs) rs ≡ kept gs rs
unfolding kept
left_kept [] rs = refl
left_kept (g ∷ gs) [] = refl
left_kept (g ∷ gs) (r ∷ rs) = go (is_gone g) (left_kept gs rs)
  where
    go : (t : Bool) → left (goes_of gs) rs ≡ kept gs rs → left (t ∷ goes_of gs) (r ∷ rs) ≡ keep (not t) r (kept gs rs)
    go true e = e
    go false e = ap (λ (x : List Row). r ∷ x) e

-- a row that is marked as expired again stays after all
pub put_back_lem : (gs : List Mark) (j : ℕ) → put_back (goes_of gs) j ≡ goes_of (set gs j Expired)
put_back_lem [] j = refl
put_back_lem (g ∷ gs) zero = refl
put_back_lem (g ∷ gs) (suc j) = ap (λ (x : List Bool). is_gone g ∷ x) (put_back_lem gs j)
