-- Laws of matching the first level of a pattern against the first level of a path (specs/Code.antt), and what it says of all levels
-- (specs/Text.antt of `resource_spec`). Assumes nothing.
use mathlib.Core.Path.{◌≡◌, refl, sym, ap, ap₂, subst, ◌∙◌}
use mathlib.Core.Bool.{Bool, true, false, cond, ◌&&◌, ◌||◌, and-true, and-false, or-false}
use mathlib.Core.List.{List, [], ◌∷◌, ◌++◌, append-nil}
use Prim.Native.Nat.{ℕ, suc, ◌+◌, ◌≤◌, ◌<◌}
use native.Mathlib.Nat.{add-zero, zero-add}
use native.Mathlib.Numerals.{add-one}
use native.Mathlib.Omega.{arith}
use lib.ListN.{length, get_or, drop, length-append, drop_of_length-le}
use lib.Seq.{drop-cons, drop-append-add}
use lib.Dec.{eqb}
use borrow.Author.Tests.{eq-eqb, ne_eqb}
use Rattle.std.specs.Str.{bytes_eq}
use Rattle.std.specs.List.{starts_with}
use Rattle.resource.specs.declared.LevelStep.{LevelStep}
use Rattle.resource.specs.declared.LevelStep.TheVariants.{Finish, Next}
use Rattle.std.proofs.Common.{Option, Some, None}
use Rattle.std.specs.Option.{option_or}
use Rattle.octets.specs.Bytes.{same}
use Rattle.octets.specs.Scan.{bytes_before, without}
use Rattle.resource_spec.specs.Level.{is_star, is_deep, levels}
use Rattle.resource_spec.specs.Pattern.{Levels, done, deep, matches, equal_names}
use Rattle.resource_spec.specs.Text.{with_level, levels_of, levels_match, levels_named}
use Rattle.resource.specs.Code.{level_length, name_step, star_first, star_step, step_of}
use Rattle.resource.specs.Laws.{alike, Firsts, Counted, FirstLevels, Stepped, StepLevels, FirstStar, MatchesWith, NextSame}
use Rattle.octets.proofs.Tests.{by_cond, no_flag}
use Rattle.resource.proofs.FormCode.{eqb_comm}
use Rattle.octets.proofs.SameLaws.{same_equal, not_same}
use Rattle.octets.proofs.PartLaws.{part_to_end}
use Rattle.octets.proofs.ScanLaws.{before_other, without_first, without_rest, without_drop}
use Rattle.resource_spec.specs.Laws.{Parted, last, more}
use Rattle.resource_spec.proofs.Laws.{each_parted, levels_one, levels_more, levels_some, first_without, spelled_first}

-- ---- a name against a name, by its first bytes

module _ (i x y : ℕ) (xs ys : List ℕ) where
  -- equal bytes other than "/": the next ones decide
  name_equal : eqb x y ≡ true → eqb x 47 ≡ false → name_step i (x ∷ xs) (y ∷ ys) ≡ name_step (i + 1) xs ys
  unfolding name_step
  name_equal e f = rw (e, f, name_step)

  -- "/" in both
  name_both : eqb x y ≡ true → eqb x 47 ≡ true → name_step i (x ∷ xs) (y ∷ ys) ≡ Some (Next i i 1)
  unfolding name_step
  name_both e f = rw (e, f, name_step)

  -- different bytes
  name_other : eqb x y ≡ false → name_step i (x ∷ xs) (y ∷ ys) ≡ None
  unfolding name_step
  name_other e = rw (e, name_step)

-- ---- a name against a name, from an index on

module _ (p r : List ℕ) (i : ℕ) where
  -- equal bytes at i other than "/"
  pub name_next : i < length p → i < length r → get_or p i 0 ≡ get_or r i 0 → (get_or p i 0 ≡ 47 → ⊥)
      → name_step i (drop i p) (drop i r) ≡ name_step (i + 1) (drop (i + 1) p) (drop (i + 1) r)
  name_next h k e f =
      rw (drop-cons p i 0 h, drop-cons r i 0 k, add-one i)
      (name_equal i (get_or p i 0) (get_or r i 0) (drop (suc i) p) (drop (suc i) r) (eq-eqb (get_or p i 0) (get_or r i 0) e)
      (ne_eqb (get_or p i 0) 47 f) ∙ rw add-one)

  -- "/" at i in both
  pub name_slash : i < length p → i < length r → get_or p i 0 ≡ get_or r i 0 → get_or p i 0 ≡ 47
      → name_step i (drop i p) (drop i r) ≡ Some (Next i i 1)
  name_slash h k e f =
      rw (drop-cons p i 0 h, drop-cons r i 0 k)
      (name_both i (get_or p i 0) (get_or r i 0) (drop (suc i) p) (drop (suc i) r) (eq-eqb (get_or p i 0) (get_or r i 0) e)
      (eq-eqb (get_or p i 0) 47 f))

  -- different bytes at i
  pub name_differ : i < length p → i < length r → (get_or p i 0 ≡ get_or r i 0 → ⊥) → name_step i (drop i p) (drop i r) ≡ None
  name_differ h k e =
      rw (drop-cons p i 0 h, drop-cons r i 0 k)
      (name_other i (get_or p i 0) (get_or r i 0) (drop (suc i) p) (drop (suc i) r) (ne_eqb (get_or p i 0) (get_or r i 0) e))

  -- the path ends at i, the pattern does not
  pub name_short : i < length p → length r ≤ i → name_step i (drop i p) (drop i r) ≡ None
  unfolding name_step
  name_short h k = rw (drop-cons p i 0 h, drop_of_length-le r k)

  -- the pattern ends at i, the path does not
  pub name_long : length p ≤ i → i < length r → name_step i (drop i p) (drop i r) ≡ None
  unfolding name_step
  name_long h k = rw (drop_of_length-le p h, drop-cons r i 0 k)

  -- both end at i
  pub name_end : length p ≤ i → length r ≤ i → name_step i (drop i p) (drop i r) ≡ Some (Finish 1)
  unfolding name_step
  name_end h k = rw (drop_of_length-le p h, drop_of_length-le r k)

-- the laws of the loop of `name_step`
pub ruleset name_laws = (name_next, name_slash, name_differ, name_short, name_long, name_end)

-- ---- the code's tests of a wildcard

-- the library's test whether two lists of bytes are the same
pub bytes_same : (x y : List ℕ) → bytes_eq x y ≡ same x y
unfolding same
bytes_same [] [] = refl
bytes_same [] (y ∷ ys) = refl
bytes_same (x ∷ xs) [] = refl
bytes_same (x ∷ xs) (y ∷ ys) = ap (λ (t : Bool). eqb x y && t) (bytes_same xs ys)

-- the first level is "*" where the text is "*" or begins with "*/"
pub star_tests : (p : List ℕ) → (bytes_eq p (42 ∷ []) || starts_with eqb p (42 ∷ 47 ∷ [])) ≡ star_first p
unfolding star_first
star_tests [] = refl
star_tests (a ∷ []) = simp (and-true, and-false, or-false)
star_tests (a ∷ b ∷ s) = rw (eqb_comm a 42, eqb_comm b 47) (simp (and-true, and-false))

-- the text is "*"
pub star_whole : (p : List ℕ) → bytes_eq p (42 ∷ []) ≡ true → true ≡ star_first p
star_whole p e = sym (ap (λ (t : Bool). t || starts_with eqb p (42 ∷ 47 ∷ [])) e) ∙ star_tests p

-- it is another
pub star_other : (p : List ℕ) → bytes_eq p (42 ∷ []) ≡ false → starts_with eqb p (42 ∷ 47 ∷ []) ≡ star_first p
star_other p e = sym (ap (λ (t : Bool). t || starts_with eqb p (42 ∷ 47 ∷ [])) e) ∙ star_tests p

-- ---- a first level and what follows it

-- what follows a level: nothing, or "/" and more
pub data Ends : List ℕ → Type 0 where
  at_end : Ends []
  at_slash : (t : List ℕ) → Ends (47 ∷ t)

-- a text is its first level and what follows it
pub data Front : List ℕ → Type 0 where
  front : (l a : List ℕ) → without 47 l ≡ true → Ends a → Front (l ++ a)

-- each parted text is so
pub front_of : {s : List ℕ} → Parted s → Front s
front_of (last l h) = subst Front (append-nil l) (front l [] h at_end)
front_of (more l t h) = front l (47 ∷ t) h (at_slash t)

-- the levels after the first
unfoldable pub tail_levels : List ℕ → List (List ℕ)
tail_levels [] = []
tail_levels (b ∷ t) = levels t

-- the step where the first levels match and count names, by what follows them
unfoldable pub tail_step : ℕ → ℕ → ℕ → List ℕ → List ℕ → Option LevelStep
tail_step names i j [] [] = Some (Finish names)
tail_step names i j [] (y ∷ b) = None
tail_step names i j (x ∷ a) [] = None
tail_step names i j (x ∷ a) (y ∷ b) = Some (Next i j names)

-- the levels of a text by its first one
pub front_levels : (l : List ℕ) {a : List ℕ} → without 47 l ≡ true → Ends a → levels (l ++ a) ≡ l ∷ tail_levels a
unfolding tail_levels
front_levels l h at_end = rw (append-nil l) (levels_one l h)
front_levels l h (at_slash t) = levels_more l t h

-- ---- the step of two first levels

-- the bytes before the first "/" are those of the first level
front_length : (k : List ℕ) {b : List ℕ} → without 47 k ≡ true → Ends b → level_length (k ++ b) ≡ length k
unfolding bytes_before
front_length [] h at_end = refl
front_length [] h (at_slash t) = refl
front_length (x ∷ k) {b} h e = before_other 47 x (k ++ b) (without_first 47 x k h) ∙ ap suc (front_length k (without_rest 47 x k h) e)

-- whether the first level is "*"
pub front_star : (l : List ℕ) {a : List ℕ} → without 47 l ≡ true → Ends a → star_first (l ++ a) ≡ is_star l
unfolding star_first same
front_star [] h at_end = refl
front_star [] h (at_slash []) = refl
front_star [] h (at_slash (x ∷ t)) = refl
front_star (c ∷ []) h at_end = sym (and-true (eqb c 42))
front_star (c ∷ []) h (at_slash t) = refl
front_star (c ∷ d ∷ l) h e = rw (without_first 47 d l (without_rest 47 c (d ∷ l) h))

-- the step where both levels have been read
name_tail : (i : ℕ) {a b : List ℕ} → Ends a → Ends b → name_step i a b ≡ tail_step 1 i i a b
unfolding name_step tail_step
name_tail i at_end at_end = refl
name_tail i at_end (at_slash u) = refl
name_tail i (at_slash t) at_end = refl
name_tail i (at_slash t) (at_slash u) = refl

-- the same test with its sides changed
slash_other : (y : ℕ) → eqb y 47 ≡ false → eqb 47 y ≡ false
slash_other y e = ne_eqb 47 y (λ q. no_flag (sym e ∙ eq-eqb y 47 (sym q)))

-- the pattern's level ends where the path's does not
name_from_end : (i y : ℕ) (r : List ℕ) {a : List ℕ} → eqb y 47 ≡ false → Ends a → name_step i a (y ∷ r) ≡ None
unfolding name_step
name_from_end i y r e at_end = refl
name_from_end i y r e (at_slash t) = name_other i 47 y t r (slash_other y e)

-- the path's level ends where the pattern's does not
name_to_end : (i x : ℕ) (p : List ℕ) {b : List ℕ} → eqb x 47 ≡ false → Ends b → name_step i (x ∷ p) b ≡ None
unfolding name_step
name_to_end i x p e at_end = refl
name_to_end i x p e (at_slash u) = name_other i x 47 p u e

-- the step of two names
front_name : (i : ℕ) (l k : List ℕ) {a b : List ℕ} → without 47 l ≡ true → without 47 k ≡ true → Ends a → Ends b
    → name_step i (l ++ a) (k ++ b) ≡ cond (same l k) (tail_step 1 (i + length l) (i + length l) a b) None
unfolding same
front_name i [] [] h g e f = rw (add-zero i) (name_tail i e f)
front_name i [] (y ∷ k) {a} {b} h g e f = name_from_end i y (k ++ b) (without_first 47 y k g) e
front_name i (x ∷ l) [] {a} {b} h g e f = name_to_end i x (l ++ a) (without_first 47 x l h) f
front_name i (x ∷ l) (y ∷ k) {a} {b} h g e f =
    go (eqb x y) refl (front_name (i + 1) l k (without_rest 47 x l h) (without_rest 47 y k g) e f)
  where
    sum : i + suc (length l) ≡ (i + 1) + length l
    sum = omega arith

    go : (t : Bool) → eqb x y ≡ t → name_step (i + 1) (l ++ a) (k ++ b)
        ≡ cond (same l k) (tail_step 1 ((i + 1) + length l) ((i + 1) + length l) a b) None
        → name_step i (x ∷ (l ++ a)) (y ∷ (k ++ b))
        ≡ cond (eqb x y && same l k) (tail_step 1 (i + suc (length l)) (i + suc (length l)) a b) None
    go true q r = name_equal i x y (l ++ a) (k ++ b) q (without_first 47 x l h) ∙ r ∙ sym (rw (q, sum))
    go false q r = name_other i x y (l ++ a) (k ++ b) q ∙ sym (rw q)

-- the step of "*" and a level
star_tail : (k : List ℕ) {a b : List ℕ} → Ends a → Ends b → star_step (42 ∷ a) (k ++ b) (length k) ≡ tail_step 0 1 (length k) a b
unfolding star_step tail_step
star_tail k at_end at_end = rw (append-nil k, eq-eqb (length k) (length k) refl)
star_tail k at_end (at_slash u) = rw (ne_eqb (length k) (length (k ++ (47 ∷ u))) (λ q. omega (arith, length-append k (47 ∷ u))))
star_tail k (at_slash t) at_end =
    rw (append-nil k, eq-eqb (length k) (length k) refl, ne_eqb (suc (suc (length t))) 1 (λ q. omega arith))
star_tail k (at_slash t) (at_slash u) =
    rw (
      ne_eqb (length k) (length (k ++ (47 ∷ u))) (λ q. omega (arith, length-append k (47 ∷ u))),
      ne_eqb (suc (suc (length t))) 1
          (λ q. omega arith),
    )

-- names that are the same have the same length
same_lengths : (l k a b : List ℕ) (t : Bool) → same l k ≡ t
    → cond t (tail_step 1 (0 + length l) (0 + length l) a b) None ≡ cond t (tail_step 1 (length l) (length k) a b) None
same_lengths l k a b true e = rw (zero-add (length l)) (ap (λ (n : ℕ). tail_step 1 (length l) n a b) (ap length (same_equal l k e)))
same_lengths l k a b false e = refl

-- the step of "*", or of a level that does not match, and a level
star_or_differ : (l k : List ℕ) {a b : List ℕ} → Ends a → Ends b → (t : Bool) → is_star l ≡ t
    → cond t (star_step (l ++ a) (k ++ b) (length k)) None ≡ cond t (tail_step 0 (length l) (length k) a b) None
star_or_differ l k e f true q = rw (same_equal l (42 ∷ []) q) (star_tail k e f)
star_or_differ l k e f false q = refl

-- where one text has levels after the first and the other has not, they differ in either case
or_tail : (i j m n : ℕ) {a b : List ℕ} → Ends a → Ends b → (t : Bool)
    → option_or (tail_step 1 i j a b) (cond t (tail_step 0 m n a b) None) ≡ tail_step 1 i j a b
unfolding tail_step
or_tail i j m n at_end at_end t = refl
or_tail i j m n at_end (at_slash u) true = refl
or_tail i j m n at_end (at_slash u) false = refl
or_tail i j m n (at_slash s) at_end true = refl
or_tail i j m n (at_slash s) at_end false = refl
or_tail i j m n (at_slash s) (at_slash u) t = refl

-- the step of two first levels: a name and itself, or "*"
pub front_step : (l k : List ℕ) {a b : List ℕ} → without 47 l ≡ true → without 47 k ≡ true → Ends a → Ends b
    → step_of (l ++ a) (k ++ b) ≡ cond (is_star l || same l k) (tail_step (cond (same l k) 1 0) (length l) (length k) a b) None
unfolding step_of
front_step l k {a} {b} h g e f =
    rw (front_star l h e, front_length k g f)
    (ap₂ option_or (front_name 0 l k h g e f ∙ same_lengths l k a b (same l k) refl) (star_or_differ l k e f (is_star l) refl)
    ∙ go (is_star l) (same l k))
  where
    go : (t u : Bool)
        → option_or (cond u (tail_step 1 (length l) (length k) a b) None) (cond t (tail_step 0 (length l) (length k) a b) None)
        ≡ cond (t || u) (tail_step (cond u 1 0) (length l) (length k) a b) None
    go true true = or_tail (length l) (length k) (length l) (length k) e f true
    go true false = refl
    go false true = or_tail (length l) (length k) (length l) (length k) e f false
    go false false = refl

-- ---- what the step says of the levels

-- what is after the first level and its "/"
drop_more : (l t : List ℕ) → drop (length l + 1) (l ++ (47 ∷ t)) ≡ t
drop_more l t = drop-append-add l (47 ∷ t) 1

-- the first levels, and those after them
abbrev front_firsts : (l k : List ℕ) {a b : List ℕ} (t : Bool) → without 47 l ≡ true → without 47 k ≡ true → Ends a → Ends b
    → (is_star l || same l k) ≡ t
    → Firsts (l ++ a) (k ++ b) (tail_levels a) (tail_levels b) t
front_firsts l k t h g e f m = record { first_p = l; first_r = k; of_p = front_levels l h e; of_r = front_levels k g f; fit = m }

-- the first levels of two texts that go on after "/"
abbrev slash_firsts : (l k t u : List ℕ) → without 47 l ≡ true → without 47 k ≡ true → (is_star l || same l k) ≡ true
    → Firsts (l ++ (47 ∷ t)) (k ++ (47 ∷ u)) (levels (drop (length l + 1) (l ++ (47 ∷ t))))
    (levels (drop (length k + 1) (k ++ (47 ∷ u)))) true
slash_firsts l k t u h g m =
    record {
      first_p = l;
      first_r = k;
      of_p = levels_more l t h ∙ ap (λ (x : List ℕ). l ∷ levels x) (sym (drop_more l t));
      of_r = levels_more k u g ∙ ap (λ (x : List ℕ). k ∷ levels x) (sym (drop_more k u));
      fit = m;
    }

-- what the step says where they fit
fit_says : (l k : List ℕ) {a b : List ℕ} → without 47 l ≡ true → without 47 k ≡ true → Ends a → Ends b → (is_star l || same l k) ≡ true
    → FirstLevels (l ++ a) (k ++ b) (tail_step (cond (same l k) 1 0) (length l) (length k) a b)
unfolding tail_step tail_levels
fit_says l k h g at_end at_end m = (front_firsts l k true h g at_end at_end m, refl)
fit_says l k h g at_end (at_slash u) m = ([], levels u, true, front_firsts l k true h g at_end (at_slash u) m, rw (levels_some u).2)
fit_says l k h g (at_slash t) at_end m = (levels t, [], true, front_firsts l k true h g (at_slash t) at_end m, rw (levels_some t).2)
fit_says l k h g (at_slash t) (at_slash u) m = (
  omega (arith, length-append l (47 ∷ t)),
  omega (arith, length-append k (47 ∷ u)),
  slash_firsts l k t u h g m,
  refl,
)

-- what it says of two texts by their first levels
front_says : {p r : List ℕ} → Front p → Front r → FirstLevels p r (step_of p r)
front_says (front l a h e) (front k b g f) =
    rw (front_step l k h g e f)
    (by_cond (FirstLevels (l ++ a) (k ++ b)) (is_star l || same l k) (λ m. fit_says l k h g e f m)
    (λ m. (tail_levels a, tail_levels b, false, front_firsts l k false h g e f m, refl)))

-- what it says of each two texts
pub first_levels : StepLevels
first_levels p r = front_says (front_of (each_parted p)) (front_of (each_parted r))

-- the first level of each text, and whether it is "*"
pub star_level : FirstStar
star_level s = go (front_of (each_parted s))
  where
    go : {x : List ℕ} → Front x → (l : List ℕ) × (ls : List (List ℕ)) × (levels x ≡ l ∷ ls) × (star_first x ≡ is_star l)
    go (front l a h e) = (l, tail_levels a, front_levels l h e, front_star l h e)

-- ---- what the step says of matching

-- a text with "*" is not one without
pub starless_other : (l k : List ℕ) → without 42 l ≡ false → without 42 k ≡ true → same l k ≡ false
starless_other l k e h = not_same l k (λ i. no_flag (sym e ∙ ap (without 42) i ∙ h))

-- a level that is "*", or any other but "**", against a name
level_match : (l k : List ℕ) (q : Levels) (xs : List (List ℕ))
    → matches (with_level (is_star l) l q) (k ∷ xs) ≡ ((is_star l || same l k) && matches q xs)
level_match l k q xs = go (is_star l)
  where
    go : (t : Bool) → matches (with_level t l q) (k ∷ xs) ≡ ((t || same l k) && matches q xs)
    go true = refl
    go false = refl

-- such a level is counted where it is the same as the path's, which is not "*"
level_names : (l k : List ℕ) (q : Levels) (xs : List (List ℕ)) → without 42 k ≡ true
    → equal_names (with_level (is_star l) l q) (k ∷ xs) ≡ cond (same l k) 1 0 + equal_names q xs
unfolding without
level_names l k q xs h = go (is_star l) refl
  where
    go : (t : Bool) → is_star l ≡ t → equal_names (with_level t l q) (k ∷ xs) ≡ cond (same l k) 1 0 + equal_names q xs
    go true e =
        let other = starless_other l k (ap (without 42) (same_equal l (42 ∷ []) e)) h in sym (rw other (zero-add (equal_names q xs)))
    go false e = refl

-- a pattern with a level does not match a path with none
none_left : (l : List ℕ) (ls : List (List ℕ)) → matches (levels_of (l ∷ ls)) [] ≡ false
unfolding levels_of
none_left l [] = go (is_deep l) (is_star l)
  where
    go : (t u : Bool) → matches (elim t [ true ↦ deep | false ↦ with_level u l done ]) [] ≡ false
    go true u = refl
    go false true = refl
    go false false = refl
none_left l (k ∷ ls) = go (is_star l) (levels_of (k ∷ ls))
  where
    go : (t : Bool) (q : Levels) → matches (with_level t l q) [] ≡ false
    go true q = refl
    go false q = refl

-- a pattern that is not "**" matches by its first level, and then by the others
first_match : (p r : List ℕ) (ls ks : List (List ℕ)) (t : Bool) → Firsts p r ls ks t → is_deep p ≡ false
    → levels_match p r ≡ (t && matches (levels_of ls) ks)
unfolding levels_match
first_match p r ls ks t f d =
    rw (f.of_p, f.of_r, spelled_first p f.first_p ls f.of_p d)
    (level_match f.first_p f.first_r (levels_of ls) ks ∙ ap (λ (b : Bool). b && matches (levels_of ls) ks) f.fit)

-- its first level counts, and then the others, where the path has no "*"
first_names : (p r : List ℕ) (ls ks : List (List ℕ)) (t : Bool) (f : Firsts p r ls ks t) (n : ℕ) → is_deep p ≡ false → without 42 r ≡ true
    → Counted f n → levels_named p r ≡ n + equal_names (levels_of ls) ks
unfolding levels_named
first_names p r ls ks t f n d h c =
    rw (f.of_p, f.of_r, spelled_first p f.first_p ls f.of_p d)
    (level_names f.first_p f.first_r (levels_of ls) ks (first_without 42 r f.first_r ks f.of_r h)
    ∙ ap (λ (m : ℕ). m + equal_names (levels_of ls) ks) c)

-- one level counts one at most
pub one_name : (t : Bool) (n : ℕ) → cond t 1 0 ≡ n → n ≤ 1
one_name true n e = omega (arith, e)
one_name false n e = omega (arith, e)

-- where the levels after the first are not alike, or the first do not fit, the texts do not match
other_match : (t : Bool) (ls ks : List (List ℕ)) → (t && alike ls ks) ≡ false → (t && matches (levels_of ls) ks) ≡ false
unfolding levels_of
other_match false ls ks e = refl
other_match true [] [] e = no_flag (sym e)
other_match true [] (k ∷ ks) e = refl
other_match true (l ∷ ls) [] e = none_left l ls
other_match true (l ∷ ls) (k ∷ ks) e = no_flag (sym e)

-- what is told of a pattern that is not "**" and a path without "*" by the step of their first levels
match_says : (p r : List ℕ) (x : Option LevelStep) → FirstLevels p r x → is_deep p ≡ false → without 42 r ≡ true → Stepped p r x
unfolding levels_of levels_match levels_named
match_says p r None f d h = first_match p r f.0 f.1 f.2 f.3 d ∙ other_match f.2 f.0 f.1 f.4
match_says p r (Some (Finish n)) f d h =
    let counted : levels_named p r ≡ n + 0 = first_names p r [] [] true f.0 n d h f.1 in (
      record { match = first_match p r [] [] true f.0 d; named = counted ∙ add-zero n },
      one_name (same f.0.first_p f.0.first_r) n f.1,
    )
match_says p r (Some (Next i j n)) f d h =
    record {
      in_p = f.0;
      in_r = f.1;
      decides = first_match p r (levels (drop (i + 1) p)) (levels (drop (j + 1) r)) true f.2 d;
      counts = first_names p r (levels (drop (i + 1) p)) (levels (drop (j + 1) r)) true f.2 n d h f.3;
      one = one_name (same f.2.first_p f.2.first_r) n f.3;
      fewer = omega (arith, ap length f.2.of_p);
    }

-- it holds of each two such texts
pub step_tells : (p r : List ℕ) → is_deep p ≡ false → without 42 r ≡ true → Stepped p r (step_of p r)
step_tells p r d h = match_says p r (step_of p r) (first_levels p r) d h

-- the levels after the first, as slices that go to the end, decide
pub next_decides : NextSame
next_decides p r i j n g h =
    rw (part_to_end p (i + 1), part_to_end r (j + 1))
    (record { decides = g.decides; counts = g.counts; starless = without_drop 42 (j + 1) r h })

-- "**" matches whatever is left, by no name
pub deep_tells : (p r : List ℕ) → is_deep p ≡ true → MatchesWith p r 0
unfolding levels_match levels_named levels levels_of same
deep_tells p r e =
    record {
      match = rw (same_equal p (42 ∷ 42 ∷ []) e, (levels_some r).2);
      named = rw (same_equal p (42 ∷ 42 ∷ []) e);
    }
