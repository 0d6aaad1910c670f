-- The row that goes next is the least recently used of the expired rows that are still there (specs/Choose.antt). Assumes nothing.
use mathlib.Core.Path.{◌≡◌, refl, sym, ap, ◌∙◌, subst}
use mathlib.Core.Bool.{Bool, true, false, false≢true}
use mathlib.Core.List.{List, [], ◌∷◌}
use Prim.Native.Nat.{ℕ, zero, suc, ◌+◌, ◌≤◌, ◌<◌}
use native.Mathlib.Omega.{arith}
use lib.ListN.{length, get_or}
use lib.Dec.{ltb, eqb}
use borrow.Author.Tests.{ltb-true, ltb-false, eqb-true, eqb-false}
use Rattle.octets.proofs.Tests.{by_cond}
use Rattle.std.specs.Prelude.{Option, Some, None}
use Rattle.image_spec.specs.declared.Mark.{Mark}
use Rattle.image_spec.specs.declared.Mark.TheVariants.{Current, Expired, Gone}
use Rattle.image_spec.specs.Choose.{may_go, Ask, lesser, least_from, least_of}

-- ---- cases

-- what holds below i and at i holds below i + 1
pub by_last : (P : ℕ → Type 0) (i : ℕ) → ((m : ℕ) → m < i → P m) → P i → (m : ℕ) → m < i + 1 → P m
by_last P i f p m h = go (ltb m i) refl
  where
    go : (t : Bool) → ltb m i ≡ t → P m
    go true e = f m (ltb-true m i e)
    go false e = let k : i ≤ m = ltb-false m i e in let q : i ≡ m = omega arith in subst P q p

-- two numbers are equal or not
pub by_eq : (P : Type 0) (i k : ℕ) → (i ≡ k → P) → ((i ≡ k → ⊥) → P) → P
by_eq P i k yes' no' = go (eqb i k) refl
  where
    go : (t : Bool) → eqb i k ≡ t → P
    go true e = yes' (eqb-true i k e)
    go false e = no' (eqb-false i k e)

-- the body of a row with the mark is not expired
abbrev pub is_current : Mark → Bool
is_current Current = true
is_current Expired = false
is_current Gone = false

-- which is another mark than those of which it is not so
pub current_other : (g : Mark) → is_current g ≡ false → Current ≡ g → ⊥
current_other g n e = false≢true (sym n ∙ ap is_current (sym e))

-- a place that has another mark is one of the places
pub mark_below : (gs : List Mark) (i : ℕ) (g : Mark) → is_current g ≡ false → get_or gs i Current ≡ g → i < length gs
mark_below [] i g n e = absurd (current_other g n e)
mark_below (x ∷ gs) zero g n e = omega arith
mark_below (x ∷ gs) (suc i) g n e = omega (arith, mark_below gs i g n e)

-- the mark of a row that may go
may_go_is : (g : Mark) → may_go g ≡ true → g ≡ Expired
may_go_is Current e = absurd (false≢true e)
may_go_is Expired e = refl
may_go_is Gone e = absurd (false≢true e)

-- ---- the least

module _ (used : ℕ → ℕ) (mark : ℕ → Mark) where
  -- row j, last used at v, is one of the first i rows that may go, and none of them comes before it
  pub record LeastTo (i j v : ℕ) : Type 0 where
    pub below : j < i
    pub due : mark j ≡ Expired
    pub moment : v ≡ used j
    pub first : (m : ℕ) → m < i → mark m ≡ Expired → (used j ≤ used m) × (used m ≤ used j → j ≤ m)

  -- none of the first i rows may go
  abbrev pub NoneTo : ℕ → Type 0
  NoneTo i = (m : ℕ) → m < i → mark m ≡ Expired → ⊥

  -- what is found among the first i rows is the least of those that may go, or none may
  abbrev pub SeenTo : ℕ → Option (ℕ × ℕ) → Type 0
  SeenTo i (Some b) = LeastTo i b.0 b.1
  SeenTo i None = NoneTo i

  -- a row that may not go changes nothing
  seen_skip : (i : ℕ) (b : Option (ℕ × ℕ)) → (mark i ≡ Expired → ⊥) → SeenTo i b → SeenTo (i + 1) b
  seen_skip i (Some b) h s = record {
    below = omega (arith, s.below);
    due = s.due;
    moment = s.moment;
    first = by_last (λ (m : ℕ). mark m ≡ Expired → (used b.0 ≤ used m) × (used m ≤ used b.0 → b.0 ≤ m)) i s.first (λ f. absurd (h f));
  }
  seen_skip i None h s = by_last (λ (m : ℕ). mark m ≡ Expired → ⊥) i s h

  -- a row that may go is the least where none before it may
  seen_first : (i : ℕ) → mark i ≡ Expired → NoneTo i → LeastTo (i + 1) i (used i)
  seen_first i f s = record {
    below = omega arith;
    due = f;
    moment = refl;
    first = by_last (λ (m : ℕ). mark m ≡ Expired → (used i ≤ used m) × (used m ≤ used i → i ≤ m)) i (λ m k g. absurd (s m k g))
        (λ g. (omega arith, λ k. omega arith));
  }

  -- it is the least where it was used before the least so far
  seen_new : (i j v : ℕ) → mark i ≡ Expired → used i < v → LeastTo i j v → LeastTo (i + 1) i (used i)
  seen_new i j v f h s = record {
    below = omega arith;
    due = f;
    moment = refl;
    first = by_last (λ (m : ℕ). mark m ≡ Expired → (used i ≤ used m) × (used m ≤ used i → i ≤ m)) i
        (λ m k g. let q : used j ≤ used m = (s.first m k g).0 in let w : v ≡ used j = s.moment in (omega arith, λ x. absurd (omega arith)))
        (λ g. (omega arith, λ k. omega arith));
  }

  -- else the least so far stays so
  seen_old : (i j v : ℕ) → v ≤ used i → LeastTo i j v → LeastTo (i + 1) j v
  seen_old i j v h s = record {
    below = omega (arith, s.below);
    due = s.due;
    moment = s.moment;
    first = by_last (λ (m : ℕ). mark m ≡ Expired → (used j ≤ used m) × (used m ≤ used j → j ≤ m)) i s.first
        (λ g. let w : v ≡ used j = s.moment in let b : j < i = s.below in (omega arith, λ k. omega arith));
  }

  -- one row more
  seen_next : (i : ℕ) (b : Option (ℕ × ℕ)) → SeenTo i b → SeenTo (i + 1) (lesser (may_go (mark i)) i (used i) b)
  unfolding lesser
  seen_next i b s = go (may_go (mark i)) refl b s
    where
      go : (t : Bool) → may_go (mark i) ≡ t → (b : Option (ℕ × ℕ)) → SeenTo i b → SeenTo (i + 1) (lesser t i (used i) b)
      go false e b s = seen_skip i b (λ f. false≢true (sym e ∙ ap may_go f)) s
      go true e None s = seen_first i (may_go_is (mark i) e) s
      go true e (Some b) s =
          by_cond (SeenTo (i + 1)) (ltb (used i) b.1) (λ q. seen_new i b.0 b.1 (may_go_is (mark i) e) (ltb-true (used i) b.1 q) s)
          (λ q. seen_old i b.0 b.1 (ltb-false (used i) b.1 q) s)

  -- all rows
  seen_all : (gs : List Mark) (i : ℕ) (b : Option (ℕ × ℕ)) → ((m : ℕ) → m < length gs → get_or gs m Current ≡ mark (i + m)) → SeenTo i b
      → SeenTo (i + length gs) (least_from used gs i b)
  unfolding least_from
  seen_all [] i b f s = let n : i ≡ i + 0 = omega arith in subst (λ (m : ℕ). SeenTo m b) n s
  seen_all (g ∷ gs) i b f s =
      let here : i + 0 ≡ i = omega arith in
      let mine : g ≡ mark i = f 0 (omega arith) ∙ ap mark here in
      let n : (i + 1) + length gs ≡ i + suc (length gs) = omega arith in
      let b' : Option (ℕ × ℕ) = lesser (may_go g) i (used i) b in
      let s' : SeenTo (i + 1) b' = subst (λ (x : Mark). SeenTo (i + 1) (lesser (may_go x) i (used i) b)) (sym mine) (seen_next i b s) in
      subst (λ (m : ℕ). SeenTo m (least_from used gs (i + 1) b')) n
      (seen_all gs (i + 1) b' (λ m h. let k : i + suc m ≡ (i + 1) + m = omega arith in f (suc m) (omega arith) ∙ ap mark k) s')

-- the mark of a row, `Current` past the last
abbrev pub mark_in : List Mark → ℕ → Mark
mark_in gs m = get_or gs m Current

-- what is found is the least of the rows that may go, or none may
pub least_seen : (a : Ask) (gs : List Mark) → SeenTo a.used (mark_in gs) (length gs) (least_of a gs)
least_seen a gs =
    let e : 0 + length gs ≡ length gs = omega arith in
    subst (λ (n : ℕ). SeenTo a.used (mark_in gs) n (least_of a gs)) e
    (seen_all a.used (mark_in gs) gs 0 None (λ m h. let k : m ≡ 0 + m = omega arith in ap (mark_in gs) k) (λ m h f. omega arith))
