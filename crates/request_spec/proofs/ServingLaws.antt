-- The grant that is picked (specs/Promises.antt) serves, none that serves has more levels matched by equal names, and none before it as
-- many. Assumes nothing.
use mathlib.Core.Path.{◌≡◌, refl, sym, ap, ◌∙◌, subst}
use mathlib.Core.Bool.{Bool, true, false, cond, ◌&&◌, ◌||◌, false≢true}
use mathlib.Core.List.{List, [], ◌∷◌}
use Prim.Native.Nat.{ℕ, zero, suc, ◌+◌, ◌≤◌, ◌<◌, max}
use native.Mathlib.Numerals.{add-one}
use native.Mathlib.Omega.{arith}
use lib.ListN.{length, get_or}
use lib.Dec.{ltb, eqb}
use borrow.Author.Tests.{ltb-true, ltb-false, eqb-true, eqb-false, eq-eqb}
use Rattle.octets.proofs.Tests.{and_left, and_right, and_both, or_true}
use Rattle.resource_spec.specs.Pattern.{Path}
use Rattle.descriptor_spec.specs.Model.{Grant}
use Rattle.descriptor_spec.specs.Modes.{union_of}
use Rattle.request_spec.specs.Promises.{grant_serves, some_serves, grant_names, most_names, serves_with, first_place, first_mask, is_picked}
use Rattle.request_spec.specs.Promises.{ServesAt, Picked, PickedOnce}

-- ---- the first grant that passes a test

-- the grant at the place k of gs passes the test and has the mask, and none before it passes
record First (test : Grant → Bool) (gs : List Grant) (k mask : ℕ) : Type 0 where
  grant : Grant
  place : k < length gs
  there : get_or gs k grant ≡ grant
  passes : test grant ≡ true
  mine : mask ≡ union_of (grant ∷ [])
  first : (j : ℕ) (h : Grant) → j < k → get_or gs j h ≡ h → test h ≡ false

-- some grant passes it
abbrev some_passes : (Grant → Bool) → List Grant → Bool
some_passes test [] = false
some_passes test (g ∷ gs) = test g || some_passes test gs

-- the first grant passes
passes_here : (test : Grant → Bool) (g : Grant) (gs : List Grant) → test g ≡ true → First test (g ∷ gs) 0 (union_of (g ∷ []))
passes_here test g gs e =
    record { grant = g; place = omega arith; there = refl; passes = e; mine = refl; first = λ j h l t. absurd (omega arith) }

-- the first grant does not pass, and one of the rest does
passes_later : (test : Grant → Bool) (g : Grant) (gs : List Grant) (k mask : ℕ) → test g ≡ false → First test gs k mask
    → First test (g ∷ gs) (suc k) mask
passes_later test g gs k mask e s =
    record {
      grant = s.grant;
      place = omega (arith, s.place);
      there = s.there;
      passes = s.passes;
      mine = s.mine;
      first = earlier;
    }
  where
    earlier : (j : ℕ) (h : Grant) → j < suc k → get_or (g ∷ gs) j h ≡ h → test h ≡ false
    earlier zero h l t = subst (λ (f : Grant). test f ≡ false) t e
    earlier (suc j) h l t = s.first j h (omega arith) t

-- where some grant passes, the grant at the place of the first does, and none before it
first_passes : (test : Grant → Bool) (gs : List Grant) → some_passes test gs ≡ true → First test gs (first_place test gs) (first_mask test gs)
first_passes test [] e = absurd (false≢true e)
first_passes test (g ∷ gs) e = go (test g) refl e (first_passes test gs)
  where
    go : (b : Bool) → test g ≡ b → (b || some_passes test gs) ≡ true
        → (some_passes test gs ≡ true → First test gs (first_place test gs) (first_mask test gs))
        → First test (g ∷ gs) (cond b 0 (first_place test gs + 1)) (cond b (union_of (g ∷ [])) (first_mask test gs))
    go true t f k = passes_here test g gs t
    go false t f k =
        subst (λ (p : ℕ). First test (g ∷ gs) p (first_mask test gs)) (sym (add-one (first_place test gs)))
        (passes_later test g gs (first_place test gs) (first_mask test gs) t (k f))

-- ---- the most levels

-- one number is less than another, or it is not
pub either_way : {A : Type 0} (a b : ℕ) → (a < b → A) → (b ≤ a → A) → A
either_way {A = A} a b less more = go (ltb a b) refl
  where
    go : (t : Bool) → ltb a b ≡ t → A
    go true e = less (ltb-true a b e)
    go false e = more (ltb-false a b e)

module _ (m : ℕ) (x : Path) (g : Grant) (gs : List Grant) where
  -- where a grant serves, the most is the larger of its levels and the most of the rest
  pub most_serving : grant_serves g m x ≡ true → most_names (g ∷ gs) m x ≡ max (grant_names g x) (most_names gs m x)
  most_serving e = ap (λ (b : Bool). max (cond b (grant_names g x) 0) (most_names gs m x)) e

  -- where it does not serve, the most is that of the rest
  pub most_other : grant_serves g m x ≡ false → most_names (g ∷ gs) m x ≡ most_names gs m x
  most_other e = ap (λ (b : Bool). max (cond b (grant_names g x) 0) (most_names gs m x)) e ∙ omega arith

-- a grant that serves has no more than the most
most_bounds : (gs : List Grant) (m : ℕ) (x : Path) (j : ℕ) (h : Grant) → ServesAt gs m x j h → grant_names h x ≤ most_names gs m x
most_bounds [] m x j h s = absurd (omega (arith, s.place))
most_bounds (g ∷ gs) m x zero h s =
    let own : grant_names h x ≤ most_names (h ∷ gs) m x = omega (arith, most_serving m x h gs s.serves) in
    subst (λ (f : Grant). grant_names h x ≤ most_names (f ∷ gs) m x) (sym s.there) own
most_bounds (g ∷ gs) m x (suc j) h s =
    let rest = most_bounds gs m x j h (record { place = omega (arith, s.place); there = s.there; serves = s.serves }) in
    omega (arith, rest)

-- where the most is not 0 some grant serves
most_some : (gs : List Grant) (m : ℕ) (x : Path) → 0 < most_names gs m x → some_serves gs m x ≡ true
most_some [] m x h = absurd (omega arith)
most_some (g ∷ gs) m x h = go (grant_serves g m x) refl (most_some gs m x)
  where
    go : (b : Bool) → grant_serves g m x ≡ b → (0 < most_names gs m x → some_serves gs m x ≡ true) → (b || some_serves gs m x) ≡ true
    go true e f = refl
    go false e f = f (omega (arith, most_other m x g gs e))

-- ---- the grant that is picked

module _ (m : ℕ) (x : Path) (g : Grant) (gs : List Grant) where
  -- a grant that serves and has the most passes
  best_passes : grant_serves g m x ≡ true → most_names (g ∷ gs) m x ≡ grant_names g x → some_passes (is_picked (g ∷ gs) m x) (g ∷ gs) ≡ true
  best_passes e z =
      let n : ℕ = most_names (g ∷ gs) m x in
      ap (λ (b : Bool). b || some_passes (is_picked (g ∷ gs) m x) gs)
      (and_both (grant_serves g m x) (eqb (grant_names g x) n) e (eq-eqb (grant_names g x) n (sym z)))

  -- so does one of the rest, where the most is theirs
  rest_passes : most_names (g ∷ gs) m x ≡ most_names gs m x → some_passes (is_picked gs m x) gs ≡ true
      → some_passes (is_picked (g ∷ gs) m x) (g ∷ gs) ≡ true
  rest_passes z p =
      ap (λ (n : ℕ). some_passes (serves_with n m x) (g ∷ gs)) z
      ∙ ap (◌||◌ (is_picked gs m x g)) p ∙ or_true (is_picked gs m x g)

-- where some grant serves, one serves and has the most
some_best : (gs : List Grant) (m : ℕ) (x : Path) → some_serves gs m x ≡ true → some_passes (is_picked gs m x) gs ≡ true
some_best [] m x e = e
some_best (g ∷ gs) m x e = go (grant_serves g m x) refl e (some_best gs m x)
  where
    go : (b : Bool) → grant_serves g m x ≡ b → (b || some_serves gs m x) ≡ true
        → (some_serves gs m x ≡ true → some_passes (is_picked gs m x) gs ≡ true)
        → some_passes (is_picked (g ∷ gs) m x) (g ∷ gs) ≡ true
    go true e s f =
        either_way (grant_names g x) (most_names gs m x)
        (λ h. rest_passes m x g gs (most_serving m x g gs e ∙ omega arith) (f (most_some gs m x (omega arith))))
        (λ h. best_passes m x g gs e (most_serving m x g gs e ∙ omega arith))
    go false e s f = rest_passes m x g gs (most_other m x g gs e) (f s)

-- where some grant serves, the grant at the place is picked and has the mask
pub picked : (gs : List Grant) (m : ℕ) (x : Path) → some_serves gs m x ≡ true
    → (g : Grant) × Picked gs m x (first_place (is_picked gs m x) gs) g × (first_mask (is_picked gs m x) gs ≡ union_of (g ∷ []))
picked gs m x e = (
  g,
  record {
    serves = record { place = w.place; there = w.there; serves = and_left (grant_serves g m x) (eqb (grant_names g x) n) w.passes };
    most = λ j h s. omega (arith, most_bounds gs m x j h s, its_most);
    first = fewer;
  },
  w.mine,
)
  where
    n : ℕ
    n = most_names gs m x

    w : First (is_picked gs m x) gs (first_place (is_picked gs m x) gs) (first_mask (is_picked gs m x) gs)
    w = first_passes (is_picked gs m x) gs (some_best gs m x e)

    g : Grant
    g = w.grant

    its_most : grant_names g x ≡ n
    its_most = eqb-true (grant_names g x) n (and_right (grant_serves g m x) (eqb (grant_names g x) n) w.passes)

    fewer : (j : ℕ) (h : Grant) → ServesAt gs m x j h → j < first_place (is_picked gs m x) gs → grant_names h x < grant_names g x
    fewer j h s l =
        let other = ap (λ (b : Bool). b && eqb (grant_names h x) n) (sym s.serves) ∙ w.first j h l s.there in
        omega (arith, most_bounds gs m x j h s, its_most, eqb-false (grant_names h x) n other)

-- `PickedOnce`
pub picked_one_place : PickedOnce
picked_one_place gs m x i j g h p q =
    either_way i j (λ l. absurd (omega (arith, q.first i g p.serves l, p.most j h q.serves)))
    (λ l. either_way j i (λ k. absurd (omega (arith, p.first j h q.serves k, q.most i g p.serves))) (λ k. omega arith))
