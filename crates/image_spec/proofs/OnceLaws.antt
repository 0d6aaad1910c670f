-- What is promised of the rows that go (specs/Removal.antt) is so of one list of them at most. Assumes nothing.
use mathlib.Core.Path.{◌≡◌, refl, sym, ap, ap₂, ◌∙◌, subst}
use mathlib.Core.Bool.{Bool, true, false, false≢true}
use mathlib.Core.List.{List, [], ◌∷◌}
use Prim.Native.Nat.{ℕ, zero, suc, ◌+◌, ◌≤◌, ◌<◌}
use native.Mathlib.Omega.{arith}
use native.Mathlib.Numerals.{add-one}
use lib.ListN.{length, get_or, length-append}
use lib.Dec.{ltb}
use borrow.Author.Tests.{ltb-true, ltb-false}
use Rattle.image_spec.specs.declared.layout.Layout.{Layout}
use Rattle.image_spec.specs.Layout.{LayoutOk}
use Rattle.image_spec.specs.Image.{Row, joined}
use Rattle.image_spec.specs.Grow.{has_room}
use Rattle.image_spec.specs.Removal.{row_in, left, put_back, Before, Goes, StaysExpired, Removal}
use Rattle.image_spec.proofs.LeastLaws.{by_last, by_eq}
use Rattle.image_spec.proofs.RemovalLaws.{room_fewer}

-- ---- rows that go

-- a row of the rest goes
goes_rest : (b : Bool) (g : List Bool) (i : ℕ) → Goes (b ∷ g) (suc i) → Goes g i
goes_rest b g i x = record { place = omega (arith, x.place); flag = x.flag }

-- it goes among all
goes_more : (b : Bool) (g : List Bool) (i : ℕ) → Goes g i → Goes (b ∷ g) (suc i)
goes_more b g i x = record { place = omega (arith, x.place); flag = x.flag }

-- what the answer is past the last row does not matter for a row
same_answer : (g : List Bool) (i : ℕ) → i < length g → get_or g i true ≡ get_or g i false
same_answer [] i h = absurd (omega arith)
same_answer (b ∷ g) zero h = refl
same_answer (b ∷ g) (suc i) h = same_answer g i (omega arith)

-- a row goes or stays
by_goes : (P : Type 0) (g : List Bool) (i : ℕ) → i < length g → (Goes g i → P) → (get_or g i true ≡ false → P) → P
by_goes P g i h f k = go (get_or g i false) refl
  where
    go : (t : Bool) → get_or g i false ≡ t → P
    go true e = f (record { place = h; flag = e })
    go false e = k (same_answer g i h ∙ e)

-- a row that goes does not stay
goes_stays : (g : List Bool) (i : ℕ) → Goes g i → get_or g i true ≡ false → ⊥
goes_stays g i x e = false≢true (sym e ∙ same_answer g i x.place ∙ x.flag)

-- another than the one that stays after all still goes
goes_back : (g : List Bool) (j i : ℕ) → Goes g i → (i ≡ j → ⊥) → Goes (put_back g j) i
goes_back [] j i x n = x
goes_back (b ∷ g) zero zero x n = absurd (n refl)
goes_back (b ∷ g) zero (suc i) x n = goes_more false g i (goes_rest b g i x)
goes_back (b ∷ g) (suc j) zero x n = record { place = omega arith; flag = x.flag }
goes_back (b ∷ g) (suc j) (suc i) x n = goes_more b (put_back g j) i (goes_back g j i (goes_rest b g i x) (λ e. n (ap suc e)))

-- as many answers are left
back_length : (g : List Bool) (j : ℕ) → length (put_back g j) ≡ length g
back_length [] j = refl
back_length (b ∷ g) zero = refl
back_length (b ∷ g) (suc j) = omega (arith, back_length g j)

-- lists of answers by which the same rows go are the same
same_goes : (g h : List Bool) → length g ≡ length h → ((i : ℕ) → Goes g i → Goes h i) → ((i : ℕ) → Goes h i → Goes g i) → g ≡ h
same_goes [] [] n f k = refl
same_goes [] (c ∷ h) n f k = absurd (omega arith)
same_goes (b ∷ g) [] n f k = absurd (omega arith)
same_goes (b ∷ g) (c ∷ h) n f k =
    ap₂ (λ (x : Bool) (y : List Bool). x ∷ y)
    (head b c (λ e. (f 0 (record { place = omega arith; flag = e })).flag) (λ e. (k 0 (record { place = omega arith; flag = e })).flag))
    (same_goes g h (omega arith)
    (λ i x. goes_rest c h i (f (suc i) (goes_more b g i x))) (λ i x. goes_rest b g i (k (suc i) (goes_more c h i x))))
  where
    head : (b c : Bool) → (b ≡ true → c ≡ true) → (c ≡ true → b ≡ true) → b ≡ c
    head true c p q = sym (p refl)
    head false true p q = q refl
    head false false p q = refl

-- where more rows go fewer are left, and their bodies are not longer
left_fewer : (g h : List Bool) (rs : List Row) → length g ≡ length rs → length h ≡ length rs → ((i : ℕ) → Goes g i → Goes h i)
    → (length (left h rs) ≤ length (left g rs)) × (length (joined (left h rs)) ≤ length (joined (left g rs)))
unfolding joined
left_fewer [] [] rs n m f = (omega arith, omega arith)
left_fewer [] (c ∷ h) [] n m f = absurd (omega arith)
left_fewer [] (c ∷ h) (r ∷ rs) n m f = absurd (omega arith)
left_fewer (b ∷ g) [] rs n m f = absurd (omega arith)
left_fewer (b ∷ g) (c ∷ h) [] n m f = absurd (omega arith)
left_fewer (true ∷ g) (false ∷ h) (r ∷ rs) n m f = absurd (false≢true (f 0 (record { place = omega arith; flag = refl })).flag)
left_fewer (true ∷ g) (true ∷ h) (r ∷ rs) n m f =
    left_fewer g h rs (omega arith) (omega arith) (λ i x. goes_rest true h i (f (suc i) (goes_more true g i x)))
left_fewer (false ∷ g) (true ∷ h) (r ∷ rs) n m f =
    let y = left_fewer g h rs (omega arith) (omega arith) (λ i x. goes_rest true h i (f (suc i) (goes_more false g i x))) in
    (omega (arith, y.0), omega (arith, y.1, length-append r.body (joined (left g rs))))
left_fewer (false ∷ g) (false ∷ h) (r ∷ rs) n m f =
    let y = left_fewer g h rs (omega arith) (omega arith) (λ i x. goes_rest false h i (f (suc i) (goes_more false g i x))) in (
      omega (arith, y.0),
      omega (arith, y.1, length-append r.body (joined (left g rs)), length-append r.body (joined (left h rs))),
    )

-- ---- the last that goes

-- none of the first n rows goes, or one does that all others come before
data Last (rs : List Row) (g : List Bool) (n : ℕ) : Type 0 where
  none_goes : ((i : ℕ) → i < n → Goes g i → ⊥) → Last rs g n
  last_goes : (j : ℕ) → Goes g j → ((i : ℕ) → i < n → Goes g i → (i ≡ j → ⊥) → Before rs i j) → Last rs g n

-- one is the last
last_of : (rs : List Row) (g : List Bool) (n : ℕ) → n ≤ length g → Last rs g n
last_of rs g zero h = none_goes (λ i k x. omega arith)
last_of rs g (suc n) h =
    subst (Last rs g) (add-one n)
    (by_goes (Last rs g (n + 1)) g n (omega arith) (λ x. with x (last_of rs g n (omega arith)))
    (λ e. without e (last_of rs g n (omega arith))))
  where
    without : get_or g n true ≡ false → Last rs g n → Last rs g (n + 1)
    without e (none_goes f) = none_goes (by_last (λ (i : ℕ). Goes g i → ⊥) n f (λ x. goes_stays g n x e))
    without e (last_goes j y f) =
        last_goes j y (by_last (λ (i : ℕ). Goes g i → (i ≡ j → ⊥) → Before rs i j) n f (λ x m. absurd (goes_stays g n x e)))

    with : Goes g n → Last rs g n → Last rs g (n + 1)
    with x (none_goes f) =
        last_goes n x (by_last (λ (i : ℕ). Goes g i → (i ≡ n → ⊥) → Before rs i n) n (λ i k z m. absurd (f i k z)) (λ z m. absurd (m refl)))
    with x (last_goes j y f) = go (ltb (row_in rs n).used (row_in rs j).used) refl
      where
        -- no row before was used later than row j
        most : (i : ℕ) → i < n → Goes g i → (row_in rs i).used ≤ (row_in rs j).used
        most i k z =
            by_eq ((row_in rs i).used ≤ (row_in rs j).used) i j (λ e. omega (arith, ap (λ (p : ℕ). (row_in rs p).used) e)) (λ m. (f i k z m).0)

        go : (t : Bool) → ltb (row_in rs n).used (row_in rs j).used ≡ t → Last rs g (n + 1)
        go true e =
            let q : (row_in rs n).used < (row_in rs j).used = ltb-true (row_in rs n).used (row_in rs j).used e in
            last_goes j y
            (by_last (λ (i : ℕ). Goes g i → (i ≡ j → ⊥) → Before rs i j) n f (λ z m. (omega arith, λ w. absurd (omega arith))))
        go false e =
            let q : (row_in rs j).used ≤ (row_in rs n).used = ltb-false (row_in rs n).used (row_in rs j).used e in
            last_goes n x
            (by_last (λ (i : ℕ). Goes g i → (i ≡ n → ⊥) → Before rs i n) n (λ i k z m. (omega (arith, most i k z), λ w. k))
            (λ z m. absurd (m refl)))

-- ---- one list at most

module _ (l : Layout) (ok : LayoutOk l) (d : List ℕ) (clock : ℕ) (rs : List Row) (new : Row) where
  -- of two rows not each comes before the other
  not_both : (i j : ℕ) → Before rs i j → Before rs j i → ⊥
  not_both i j a b = let x : i < j = a.1 b.0 in let y : j < i = b.1 a.0 in omega arith

  -- a row that goes by one list and stays by another is expired, and stays so
  stays_so : (g h : List Bool) (i : ℕ) → Removal l d clock rs new g → Removal l d clock rs new h → Goes h i → get_or g i true ≡ false
      → StaysExpired clock rs g i
  stays_so g h i a b x e = record { place = omega (arith, x.place, a.one_each, b.one_each); flag = e; over = b.due i x }

  -- a row that goes by one list goes by the other
  goes_both : (g h : List Bool) → Removal l d clock rs new g → Removal l d clock rs new h → (i : ℕ) → Goes h i → Goes g i
  goes_both g h a b i x = go (last_of rs h (length h) (omega arith))
    where
      n : length g ≡ length h
      n = a.one_each ∙ sym b.one_each

      go : Last rs h (length h) → Goes g i
      go (none_goes f) = absurd (f i x.place x)
      go (last_goes j y f) =
          by_goes (Goes g i) g j (omega (arith, n, y.place)) (λ z. with z) (λ e. absurd (false≢true (sym (b.fewest j y before) ∙ fits e)))
        where
          before : (k : ℕ) → Goes h k → (k ≡ j → ⊥) → Before rs k j
          before k z m = f k z.place z m

          -- the last that goes by the one goes by the other, and so all before it do
          with : Goes g j → Goes g i
          with z =
              by_eq (Goes g i) i j (λ e. subst (Goes g) (sym e) z)
              (λ m. by_goes (Goes g i) g i (omega (arith, n, x.place)) (λ w. w)
              (λ e. absurd (not_both i j (before i x m) (a.order j i z (stays_so g h i a b x e)))))

          -- it stays by the other: then those that go by the other go before it, and there is room without it
          more : get_or g j true ≡ false → (k : ℕ) → Goes g k → Goes (put_back h j) k
          more e k z =
              let first : Before rs k j = a.order k j z (stays_so g h j a b y e) in
              by_goes (Goes (put_back h j) k) h k (omega (arith, n, z.place))
              (λ w. goes_back h j k w (λ q. goes_stays g j (subst (Goes g) q z) e))
              (λ w. absurd (not_both k j first (b.order j k y (stays_so h g k b a z w))))

          fits : get_or g j true ≡ false → has_room l d (left (put_back h j) rs) new ≡ true
          fits e =
              let y = left_fewer g (put_back h j) rs a.one_each (back_length h j ∙ b.one_each) (more e) in
              room_fewer l ok d (left g rs) (left (put_back h j) rs) new y.0 y.1 a.fits

  -- so there is one list at most
  pub removal_once : (g h : List Bool) → Removal l d clock rs new g → Removal l d clock rs new h → g ≡ h
  removal_once g h a b = same_goes g h (a.one_each ∙ sym b.one_each) (goes_both h g b a) (goes_both g h a b)
