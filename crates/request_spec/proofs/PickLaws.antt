-- The search of specs/Meaning.antt picks the first grant that serves and has the most levels matched by equal names
-- (specs/Promises.antt). Assumes nothing.
use mathlib.Core.Path.{◌≡◌, refl, sym, ap, ◌∙◌}
use mathlib.Core.Bool.{Bool, true, false, ◌&&◌, ◌||◌, false≢true}
use mathlib.Core.List.{List, [], ◌∷◌}
use Prim.Native.Nat.{ℕ, ◌+◌, ◌≤◌, ◌<◌}
use native.Mathlib.Omega.{arith}
use lib.Dec.{ltb, eqb}
use borrow.Author.Tests.{ltb-true, ltb-false, eq-eqb, ne_eqb}
use Rattle.octets.proofs.Tests.{by_cond, and_false, and_both, or_true, or_false}
use Rattle.resource_spec.specs.Pattern.{Path}
use Rattle.descriptor_spec.specs.Model.{Grant}
use Rattle.descriptor_spec.specs.Allowed.{GrantOk, All}
use Rattle.descriptor_spec.specs.Modes.{union_of}
use Rattle.descriptor_spec.specs.View.{mask_of}
use Rattle.descriptor_spec.proofs.Laws.{mask_exactly}
use Rattle.request_spec.specs.Decision.{Matched}
use Rattle.std.specs.Prelude.{Some, None}
use Rattle.request_spec.specs.Decision.{picked_at}
use Rattle.request_spec.specs.Decision.{is_matched, more_exact, picked_with}
use Rattle.request_spec.specs.Meaning.{pick_serving}
use Rattle.request_spec.specs.Promises.{grant_serves, some_serves, grant_names, most_names, serves_with, first_place, first_mask, is_picked}
use Rattle.request_spec.proofs.ServingLaws.{either_way, most_serving, most_other}

-- ---- one of two grants that serve

-- of two grants that serve, the earlier is kept where the later has no more levels
keeps : (k mask n i mine c : ℕ) → c ≤ n → more_exact (picked_at k mask n) i mine c ≡ picked_at k mask n
keeps k mask n i mine c h =
    by_cond (λ (y : Matched). y ≡ picked_at k mask n) (ltb n c) (λ e. absurd (omega (arith, ltb-true n c e))) (λ e. refl)

-- the later is taken where it has more
takes : (k mask n i mine c : ℕ) → n < c → more_exact (picked_at k mask n) i mine c ≡ picked_at i mine c
takes k mask n i mine c h =
    by_cond (λ (y : Matched). y ≡ picked_at i mine c) (ltb n c) (λ e. refl) (λ e. absurd (omega (arith, ltb-false n c e)))

-- ---- the first grant that passes a test

-- its place, counted from i, and its mask, with n levels
abbrev pub first_of : (Grant → Bool) → List Grant → ℕ → ℕ → Matched
first_of test gs i n = picked_at (i + first_place test gs) (first_mask test gs) n

-- a grant that passes is the first
first_here : (test : Grant → Bool) (g : Grant) (gs : List Grant) (i n : ℕ) → test g ≡ true
    → picked_at i (union_of (g ∷ [])) n ≡ first_of test (g ∷ gs) i n
first_here test g gs i n e = let z : i + 0 ≡ i = omega arith in rw (e, z)

-- after one that does not, the first is that of the rest
first_later : (test : Grant → Bool) (g : Grant) (gs : List Grant) (i n : ℕ) → test g ≡ false
    → first_of test gs (i + 1) n ≡ first_of test (g ∷ gs) i n
first_later test g gs i n e =
    let z : (i + 1) + first_place test gs ≡ i + (first_place test gs + 1) = omega arith in
    rw (e, z)

-- ---- the first that serves and has the most

-- the grant of gs that is picked, its place counted from i
abbrev pub best_of : List Grant → ℕ → Path → ℕ → Matched
best_of gs m x i = first_of (is_picked gs m x) gs i (most_names gs m x)

module _ (m : ℕ) (x : Path) (g : Grant) (gs : List Grant) where
  -- a grant that serves and has the most is the best
  best_here : (i : ℕ) → GrantOk g → grant_serves g m x ≡ true → most_names (g ∷ gs) m x ≡ grant_names g x
      → picked_at i (mask_of g.modes) (grant_names g x) ≡ best_of (g ∷ gs) m x i
  best_here i o e f =
      let n : ℕ = grant_names g x in
      ap (λ (k : ℕ). picked_at i k n) (mask_exactly g o).0
      ∙ first_here (serves_with n m x) g gs i n (and_both (grant_serves g m x) (eqb n n) e (eq-eqb n n refl))
      ∙ ap (λ (k : ℕ). first_of (serves_with k m x) (g ∷ gs) i k) (sym f)

  -- after one that does not serve with the most of the rest, the best is that of the rest, where it has the most
  best_later : (i : ℕ) → serves_with (most_names gs m x) m x g ≡ false → most_names (g ∷ gs) m x ≡ most_names gs m x
      → best_of gs m x (i + 1) ≡ best_of (g ∷ gs) m x i
  best_later i e f =
      first_later (is_picked gs m x) g gs i (most_names gs m x) e ∙ ap (λ (k : ℕ). first_of (serves_with k m x) (g ∷ gs) i k) (sym f)

  -- after one that serves with fewer levels than the most of the rest, it is that of the rest
  best_more : (i : ℕ) → grant_serves g m x ≡ true → grant_names g x < most_names gs m x → best_of gs m x (i + 1) ≡ best_of (g ∷ gs) m x i
  best_more i e h =
      let n : ℕ = most_names gs m x in
      best_later i (ap (◌&&◌ (grant_serves g m x)) (ne_eqb (grant_names g x) n (λ q. omega arith)) ∙ and_false (grant_serves g m x))
      (most_serving m x g gs e ∙ omega arith)

  -- so it is after one that does not serve
  best_other : (i : ℕ) → grant_serves g m x ≡ false → best_of gs m x (i + 1) ≡ best_of (g ∷ gs) m x i
  best_other i e = best_later i (ap (λ (b : Bool). b && eqb (grant_names g x) (most_names gs m x)) e) (most_other m x g gs e)

-- ---- the search

-- a grant that was picked stays picked where the most of those that follow is no more than it has
kept : (gs : List Grant) (m : ℕ) (x : Path) (i k mask n : ℕ) → most_names gs m x ≤ n → pick_serving gs m x i (picked_at k mask n) ≡ picked_at k mask n
kept [] m x i k mask n h = refl
kept (g ∷ gs) m x i k mask n h =
    ap (pick_serving gs m x (i + 1)) (go (grant_serves g m x) refl) ∙ kept gs m x (i + 1) k mask n (omega arith)
  where
    go : (b : Bool) → grant_serves g m x ≡ b → picked_with b (picked_at k mask n) i (mask_of g.modes) (grant_names g x) ≡ picked_at k mask n
    go true e = keeps k mask n i (mask_of g.modes) (grant_names g x) (omega (arith, most_serving m x g gs e))
    go false e = refl

module _ (m : ℕ) (x : Path) (g : Grant) (gs : List Grant) (i : ℕ) (o : GrantOk g) where
  -- what is picked after a grant that serves is the best, where the best of the rest is picked if it has more
  serving_best : grant_serves g m x ≡ true
      → (grant_names g x < most_names gs m x
      → pick_serving gs m x (i + 1) (picked_at i (mask_of g.modes) (grant_names g x)) ≡ best_of gs m x (i + 1))
      → pick_serving gs m x (i + 1) (picked_at i (mask_of g.modes) (grant_names g x)) ≡ best_of (g ∷ gs) m x i
  serving_best e f =
      let n : ℕ = grant_names g x in
      either_way n (most_names gs m x) (λ h. f h ∙ best_more m x g gs i e h)
      (λ h. kept gs m x (i + 1) i (mask_of g.modes) n h ∙ best_here m x g gs i o e (most_serving m x g gs e ∙ omega arith))

-- a grant that was picked gives way to the best of those that follow, where that has more
improved : (gs : List Grant) (m : ℕ) (x : Path) (i k mask n : ℕ) → All GrantOk gs → n < most_names gs m x
    → pick_serving gs m x i (picked_at k mask n) ≡ best_of gs m x i
improved [] m x i k mask n a h = absurd (omega arith)
improved (g ∷ gs) m x i k mask n a h = go (grant_serves g m x) refl (λ k mask n. improved gs m x (i + 1) k mask n a.1)
  where
    go : (b : Bool) → grant_serves g m x ≡ b
        → ((k mask n : ℕ) → n < most_names gs m x → pick_serving gs m x (i + 1) (picked_at k mask n) ≡ best_of gs m x (i + 1))
        → pick_serving gs m x (i + 1) (picked_with b (picked_at k mask n) i (mask_of g.modes) (grant_names g x)) ≡ best_of (g ∷ gs) m x i
    go true e f =
        let mine : ℕ = mask_of g.modes in
        let c : ℕ = grant_names g x in
        either_way n c
        (λ l. ap (pick_serving gs m x (i + 1)) (takes k mask n i mine c l) ∙ serving_best m x g gs i a.0 e (f i mine c))
        (λ l.
        let more : n < most_names gs m x = omega (arith, most_serving m x g gs e) in
        ap (pick_serving gs m x (i + 1)) (keeps k mask n i mine c l) ∙ f k mask n more ∙ best_more m x g gs i e (omega arith))
    go false e f = f k mask n (omega (arith, most_other m x g gs e)) ∙ best_other m x g gs i e

-- where some of allowed grants serves, the search that counts from i picks the best
pub best_picked : (gs : List Grant) (m : ℕ) (x : Path) (i : ℕ) → All GrantOk gs → some_serves gs m x ≡ true
    → pick_serving gs m x i None ≡ best_of gs m x i
best_picked [] m x i a e = absurd (false≢true e)
best_picked (g ∷ gs) m x i a e = go (grant_serves g m x) refl e (best_picked gs m x (i + 1) a.1)
  where
    go : (b : Bool) → grant_serves g m x ≡ b → (b || some_serves gs m x) ≡ true
        → (some_serves gs m x ≡ true → pick_serving gs m x (i + 1) None ≡ best_of gs m x (i + 1))
        → pick_serving gs m x (i + 1) (picked_with b None i (mask_of g.modes) (grant_names g x)) ≡ best_of (g ∷ gs) m x i
    go true e s f = serving_best m x g gs i a.0 e (improved gs m x (i + 1) i (mask_of g.modes) (grant_names g x) a.1)
    go false e s f = f s ∙ best_other m x g gs i e

-- one of two grants is picked
more_matched : (best : Matched) (i mask names : ℕ) → is_matched (more_exact best i mask names) ≡ true
more_matched None i mask names = refl
more_matched (Some p) i mask names = by_cond (λ (y : Matched). is_matched y ≡ true) (ltb p.names names) (λ e. refl) (λ e. refl)

-- a grant is picked exactly where one was before, or some grant serves
pub some_picked : (gs : List Grant) (m : ℕ) (x : Path) (i : ℕ) (best : Matched)
    → is_matched (pick_serving gs m x i best) ≡ (is_matched best || some_serves gs m x)
some_picked [] m x i best = sym (or_false (is_matched best))
some_picked (g ∷ gs) m x i best = some_picked gs m x (i + 1) _ ∙ go (grant_serves g m x)
  where
    go : (b : Bool) → (is_matched (picked_with b best i (mask_of g.modes) (grant_names g x)) || some_serves gs m x)
        ≡ (is_matched best || (b || some_serves gs m x))
    go true =
        ap (λ (t : Bool). t || some_serves gs m x) (more_matched best i (mask_of g.modes) (grant_names g x))
        ∙ sym (or_true (is_matched best))
    go false = refl
