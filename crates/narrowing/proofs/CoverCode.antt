-- Laws of covering level by level: what the step of two first levels says of the range of numbers of names (specs/Range.antt). Assumes
-- nothing.
use mathlib.Core.Path.{◌≡◌, refl, sym, ap, ◌∙◌, subst}
use mathlib.Core.Bool.{Bool, true, false, cond, ◌&&◌, ◌||◌, and-false, and-true}
use mathlib.Core.List.{List, [], ◌∷◌}
use Prim.Native.Nat.{ℕ, ◌+◌, ◌-◌, ◌<◌}
use native.Mathlib.Omega.{arith}
use lib.ListN.{length, drop, take}
use lib.Dec.{eqb}
use lib.Pointwise.{pointwise, bytes_decides}
use Rattle.std.proofs.Common.{nat_eq}
use Rattle.resource.specs.declared.LevelStep.{LevelStep}
use Rattle.resource.specs.declared.LevelStep.TheVariants.{Finish, Next}
use Rattle.std.proofs.Common.{Option, Some, None}
use Rattle.octets.specs.Bytes.{same}
use Rattle.resource_spec.specs.Level.{is_star, is_deep, levels}
use Rattle.resource_spec.specs.Pattern.{Levels, done, deep, name, star}
use Rattle.resource_spec.specs.Text.{with_level, levels_of}
use Rattle.resource.specs.Code.{star_first, step_of}
use Rattle.octets.proofs.Tests.{no_flag}
use Rattle.octets.proofs.SameLaws.{same_equal}
use Rattle.resource.specs.Laws.{alike, Firsts, FirstLevels}
use Rattle.resource_spec.proofs.Laws.{spelled_first}
use Rattle.resource.proofs.Laws.{first_star, step_levels}
use Rattle.octets.proofs.PartLaws.{part_to_end}
use Rattle.narrowing.specs.Range.{Range}
use Rattle.narrowing.specs.Range.{range, most, fresh_range, cover_range, text_range}

-- ---- fresh names

-- the range of fresh names that the levels of a text match, after e were taken
abbrev pub fresh_of : ℕ → List ℕ → Range
fresh_of e s = fresh_range e (levels_of (levels s))

-- "**"
pub fresh_deep : (e : ℕ) (s : List ℕ) → is_deep s ≡ true → fresh_of e s ≡ range (e + 1) most
unfolding levels levels_of same
fresh_deep e s d = rw (same_equal s (42 ∷ 42 ∷ []) d)

-- a first level that is neither "*" nor the last and "**"
pub fresh_name_lem : (e : ℕ) (s : List ℕ) → is_deep s ≡ false → star_first s ≡ false → fresh_of e s ≡ range 0 0
fresh_name_lem e s d t =
    let f = first_star s in
    rw (f.2, spelled_first s f.0 f.1 f.2 d, sym f.3 ∙ t)

-- a text that does not begin with "*/" and is not "*"
star_not : (s : List ℕ) → pointwise nat_eq (take 2 s) (42 ∷ 47 ∷ []) ≡ false → pointwise nat_eq s (42 ∷ []) ≡ false → star_first s ≡ false
unfolding star_first
star_not [] h l = refl
star_not (a ∷ []) h l = sym (and-true (eqb a 42)) ∙ l
star_not (a ∷ b ∷ s) h l = ap (λ (t : Bool). eqb a 42 && t) (sym (and-true (eqb b 47))) ∙ h

pub fresh_other : (e : ℕ) (s : List ℕ) → is_deep s ≡ false → pointwise nat_eq (take 2 s) (42 ∷ 47 ∷ []) ≡ false
    → pointwise nat_eq s (42 ∷ []) ≡ false → fresh_of e s ≡ range 0 0
fresh_other e s d h l = fresh_name_lem e s d (star_not s h l)

-- "*" and no more
pub fresh_last : (e : ℕ) (s : List ℕ) → pointwise nat_eq s (42 ∷ []) ≡ true → fresh_of e s ≡ range (e + 1) (e + 2)
unfolding levels levels_of same
fresh_last e s h = let n : (e + 1) + 1 ≡ e + 2 = omega arith in rw ((bytes_decides s (42 ∷ [])).0 h, n)

-- "*" and more levels
star_more : (e : ℕ) (t : List ℕ) → fresh_of e (42 ∷ 47 ∷ t) ≡ fresh_of (e + 1) t
unfolding levels levels_of same
star_more e t = rw (first_star t).2

pub fresh_more : (e : ℕ) (s t : List ℕ) → pointwise nat_eq (take 2 s) (42 ∷ 47 ∷ []) ≡ true → t ≡ drop 2 s → fresh_of e s ≡ fresh_of (e + 1) t
fresh_more e [] t h f = no_flag h
fresh_more e (a ∷ []) t h f = no_flag (sym (and-false (eqb a 42)) ∙ h)
fresh_more e (a ∷ b ∷ s) t h f =
    let g : a ∷ b ∷ [] ≡ 42 ∷ 47 ∷ [] = (bytes_decides (a ∷ b ∷ []) (42 ∷ 47 ∷ [])).0 h in
    let x : a ≡ 42 = cc in
    let y : b ≡ 47 = cc in
    rw (x, y, f) (star_more e s)

-- ---- covering

-- two levels that are not "**", and the levels after them
level_cover : (l k : List ℕ) (q p : Levels)
    → cover_range (with_level (is_star l) l q) (with_level (is_star k) k p) ≡ cond (is_star l || same l k) (cover_range q p) (range 0 0)
level_cover l k q p = go (is_star l) (is_star k) refl refl
  where
    go : (t u : Bool) → is_star l ≡ t → is_star k ≡ u
        → cover_range (with_level t l q) (with_level u k p) ≡ cond (t || same l k) (cover_range q p) (range 0 0)
    go true true e f = refl
    go true false e f = refl
    go false true e f = rw (same_equal k (42 ∷ []) f, e)
    go false false e f = refl

-- what holds of "**", of "*" before levels and of a name before levels holds of one or more levels
some_levels : (P : Levels → Type 0) → P deep → ((q : Levels) → P (star q)) → ((n : List ℕ) (q : Levels) → P (name n q))
    → (l : List ℕ) (ls : List (List ℕ)) → P (levels_of (l ∷ ls))
unfolding levels_of
some_levels P d s n l [] = go (is_deep l) (is_star l)
  where
    go : (t u : Bool) → P (elim t [ true ↦ deep | false ↦ with_level u l done ])
    go true u = d
    go false true = s done
    go false false = n l done
some_levels P d s n l (k ∷ ls) = go (is_star l) (levels_of (k ∷ ls))
  where
    go : (t : Bool) (q : Levels) → P (with_level t l q)
    go true q = s q
    go false q = n l q

-- no level against one or more
none_some : (l : List ℕ) (ls : List (List ℕ)) → cover_range done (levels_of (l ∷ ls)) ≡ range 0 0
none_some = some_levels (λ q. cover_range done q ≡ range 0 0) refl (λ q. refl) (λ n q. refl)

-- one or more against none
some_none : (l : List ℕ) (ls : List (List ℕ)) → cover_range (levels_of (l ∷ ls)) done ≡ range 0 0
some_none = some_levels (λ q. cover_range q done ≡ range 0 0) refl (λ q. refl) (λ n q. refl)

-- both have levels after the first, and those decide
pub record Goes (q p : List ℕ) (i j : ℕ) : Type 0 where
  pub in_q : i < length q
  pub in_p : j < length p
  pub decides : text_range q p ≡ text_range (drop (i + 1) q) (drop (j + 1) p)

-- what is told of two texts that are not "**" by the step of their first levels
abbrev pub Stepped : List ℕ → List ℕ → Option LevelStep → Type 0
Stepped q p None = text_range q p ≡ range 0 0
Stepped q p (Some (Finish names)) = text_range q p ≡ range 0 1
Stepped q p (Some (Next i j names)) = Goes q p i j

-- two texts that are not "**", by their first levels
first_cover : (q p : List ℕ) (ls ks : List (List ℕ)) (t : Bool) → Firsts q p ls ks t → is_deep q ≡ false → is_deep p ≡ false
    → text_range q p ≡ cond t (cover_range (levels_of ls) (levels_of ks)) (range 0 0)
unfolding text_range
first_cover q p ls ks t f d c =
    rw (f.of_p, f.of_r, spelled_first q f.first_p ls f.of_p d, spelled_first p f.first_r ks f.of_r c)
    (level_cover f.first_p f.first_r (levels_of ls) (levels_of ks)
    ∙ ap (λ (b : Bool). cond b (cover_range (levels_of ls) (levels_of ks)) (range 0 0)) f.fit)

-- where the first do not fit, or levels follow only one of them
other_cover : (t : Bool) (ls ks : List (List ℕ)) → (t && alike ls ks) ≡ false
    → cond t (cover_range (levels_of ls) (levels_of ks)) (range 0 0) ≡ range 0 0
unfolding levels_of
other_cover false ls ks e = refl
other_cover true [] [] e = no_flag (sym e)
other_cover true [] (k ∷ ks) e = none_some k ks
other_cover true (l ∷ ls) [] e = some_none l ls
other_cover true (l ∷ ls) (k ∷ ks) e = no_flag (sym e)

-- it holds by what the step says of the levels
cover_says : (q p : List ℕ) (x : Option LevelStep) → FirstLevels q p x → is_deep q ≡ false → is_deep p ≡ false → Stepped q p x
unfolding levels_of text_range
cover_says q p None f d c = first_cover q p f.0 f.1 f.2 f.3 d c ∙ other_cover f.2 f.0 f.1 f.4
cover_says q p (Some (Finish names)) f d c = first_cover q p [] [] true f.0 d c
cover_says q p (Some (Next i j names)) f d c =
    record {
      in_q = f.0;
      in_p = f.1;
      decides = first_cover q p (levels (drop (i + 1) q)) (levels (drop (j + 1) p)) true f.2 d c;
    }

-- it holds of a step that the code took
pub step_says : (q p : List ℕ) {x : Option LevelStep} → false ≡ is_deep q → false ≡ is_deep p → x ≡ step_of q p → Stepped q p x
step_says q p d c e = subst (Stepped q p) (sym e) (cover_says q p (step_of q p) (step_levels q p) (sym d) (sym c))

-- both have levels after the first
pub next_in : (q p : List ℕ) {i j n : ℕ} → false ≡ is_deep q → false ≡ is_deep p → Some (Next i j n) ≡ step_of q p
    → (i < length q) × (j < length p)
next_in q p d c e = let g = step_says q p d c e in (g.in_q, g.in_p)

-- the levels after the first, as slices that go to the end, decide
pub next_same : (q p : List ℕ) (i j : ℕ) → Goes q p i j
    → text_range q p ≡ text_range (take (length q - (i + 1)) (drop (i + 1) q)) (take (length p - (j + 1)) (drop (j + 1) p))
next_same q p i j g = rw (part_to_end q (i + 1), part_to_end p (j + 1)) g.decides

-- "**" covers whatever is left
some_cover : (l : List ℕ) (ls : List (List ℕ)) → cover_range deep (levels_of (l ∷ ls)) ≡ range 0 most
some_cover = some_levels (λ q. cover_range deep q ≡ range 0 most) refl (λ q. refl) (λ n q. refl)

pub deep_matches : (q p : List ℕ) → is_deep q ≡ true → text_range q p ≡ range 0 most
unfolding text_range levels levels_of same
deep_matches q p e = let s = first_star p in rw (same_equal q (42 ∷ 42 ∷ []) e, s.2) (some_cover s.0 s.1)

-- "**" is covered by what matches fresh names
level_fresh : (t : Bool) (l : List ℕ) (q : Levels) → cover_range (with_level t l q) (levels_of (levels (42 ∷ 42 ∷ [])))
    ≡ fresh_range 0 (with_level t l q)
unfolding levels levels_of same
level_fresh true l q = refl
level_fresh false l q = refl

pub fresh_says : (q p : List ℕ) → is_deep q ≡ false → is_deep p ≡ true → text_range q p ≡ fresh_of 0 q
unfolding text_range
fresh_says q p d c =
    let f = first_star q in
    rw (same_equal p (42 ∷ 42 ∷ []) c, f.2, spelled_first q f.0 f.1 f.2 d) (level_fresh (is_star f.0) f.0 (levels_of f.1))
