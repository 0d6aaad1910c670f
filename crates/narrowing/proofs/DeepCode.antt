-- Whether the last level of a text is "**" is told by its last three bytes. Assumes nothing.
use mathlib.Core.Path.{◌≡◌, refl, sym, ap, ◌∙◌}
use mathlib.Core.Bool.{Bool, true, false, ◌&&◌, and-true, and-false}
use mathlib.Core.List.{List, [], ◌∷◌, cons≢nil}
use mathlib.Core.Logic.{◌⊎◌, inl, inr, ⊎_elim}
use Prim.Native.Nat.{ℕ, zero, suc, ◌+◌, ◌-◌, ◌≤◌}
use native.Mathlib.Omega.{arith}
use lib.ListN.{length, drop}
use lib.Dec.{eqb}
use lib.Pointwise.{pointwise}
use Rattle.std.proofs.Common.{nat_eq}
use Rattle.std.proofs.lemmas.Bool.Decides.{nat_tests}
use Rattle.octets.specs.Bytes.{same}
use Rattle.resource_spec.specs.Level.{is_star, is_deep, prefixed, levels, joined}
use Rattle.resource_spec.specs.Pattern.{Levels, done, ends_deep}
use Rattle.resource_spec.specs.Text.{with_level, levels_of}
use Rattle.octets.proofs.SameLaws.{same_equal}
use Rattle.resource_spec.proofs.Promises.{levels_joined}

-- the last of some levels is "**"
abbrev ends : List (List ℕ) → Bool
ends ls = ends_deep (levels_of ls)

-- a level before others does not count
level_before : (t : Bool) (l : List ℕ) (p : Levels) → ends_deep (with_level t l p) ≡ ends_deep p
level_before true l p = refl
level_before false l p = refl

-- the last level does
ends_one : (l : List ℕ) → ends (l ∷ []) ≡ is_deep l
unfolding levels_of
ends_one l = go (is_deep l) refl
  where
    go : (t : Bool) → is_deep l ≡ t → ends (l ∷ []) ≡ t
    go true e = rw (levels_of, e)
    go false e = rw (levels_of, e) (level_before (is_star l) l done)

ends_more : (l k : List ℕ) (ls : List (List ℕ)) → ends (l ∷ k ∷ ls) ≡ ends (k ∷ ls)
unfolding levels_of
ends_more l k ls = level_before (is_star l) l (levels_of (k ∷ ls))

-- the text from "/" on
slash_byte : (b : ℕ) (bs : List ℕ) → eqb b 47 ≡ true → levels (b ∷ bs) ≡ [] ∷ levels bs
unfolding levels
slash_byte b bs e = rw (levels, e)

other_byte : (b : ℕ) (bs : List ℕ) → eqb b 47 ≡ false → levels (b ∷ bs) ≡ prefixed b (levels bs)
unfolding levels
other_byte b bs e = rw (levels, e)

-- a byte before the first level is in one
some_prefixed : (b : ℕ) (ls : List (List ℕ)) → prefixed b ls ≡ [] → ⊥
some_prefixed b [] e = cons≢nil e
some_prefixed b (l ∷ ls) e = cons≢nil e

-- a text has a level
some_level : (s : List ℕ) → levels s ≡ [] → ⊥
unfolding levels
some_level [] e = cons≢nil e
some_level (b ∷ bs) e = go (eqb b 47) refl
  where
    go : (t : Bool) → eqb b 47 ≡ t → ⊥
    go true f = cons≢nil (sym (slash_byte b bs f) ∙ e)
    go false f = some_prefixed b (levels bs) (sym (other_byte b bs f) ∙ e)

-- a "/" first does not count
ends_slash : (b : ℕ) (bs : List ℕ) → eqb b 47 ≡ true → ends (levels (b ∷ bs)) ≡ ends (levels bs)
ends_slash b bs e = ap ends (slash_byte b bs e) ∙ go (levels bs) refl
  where
    go : (ls : List (List ℕ)) → levels bs ≡ ls → ends ([] ∷ ls) ≡ ends ls
    go [] f = absurd (some_level bs f)
    go (k ∷ ls) f = ends_more [] k ls

-- another byte first counts where there is no "/"
abbrev Alone : ℕ → List ℕ → Type 0
Alone b bs = (ends (levels (b ∷ bs)) ≡ is_deep (b ∷ bs)) × (ends (levels bs) ≡ is_deep bs)

ends_other : (b : ℕ) (bs : List ℕ) → eqb b 47 ≡ false → Alone b bs ⊎ (ends (levels (b ∷ bs)) ≡ ends (levels bs))
ends_other b bs e = go (levels bs) refl
  where
    go : (ls : List (List ℕ)) → levels bs ≡ ls → Alone b bs ⊎ (ends (levels (b ∷ bs)) ≡ ends (levels bs))
    go [] f = absurd (some_level bs f)
    go (l ∷ []) f =
        let whole : l ≡ bs = sym (ap joined f) ∙ levels_joined bs in
        inl (
          ap ends (other_byte b bs e ∙ ap (prefixed b) f) ∙ ends_one (b ∷ l) ∙ ap (λ (x : List ℕ). is_deep (b ∷ x)) whole,
          ap ends f
              ∙ ends_one l ∙ ap is_deep whole,
        )
    go (l ∷ k ∷ ls) f = inr
        (ap ends (other_byte b bs e ∙ ap (prefixed b) f) ∙ ends_more (b ∷ l) k ls ∙ sym (ends_more l k ls) ∙ sym (ap ends f))

-- three bytes or more are not "**"
long_not_deep : (l : List ℕ) → 3 ≤ length l → is_deep l ≡ false
long_not_deep l h = go (is_deep l) refl
  where
    go : (t : Bool) → is_deep l ≡ t → t ≡ false
    go true e = absurd (omega (arith, h, ap length (same_equal l (42 ∷ 42 ∷ []) e)))
    go false e = refl

-- a byte before three or more does not count
ends_step : (b : ℕ) (bs : List ℕ) → 3 ≤ length bs → ends (levels (b ∷ bs)) ≡ ends (levels bs)
ends_step b bs h = go (eqb b 47) refl
  where
    go : (t : Bool) → eqb b 47 ≡ t → ends (levels (b ∷ bs)) ≡ ends (levels bs)
    go true e = ends_slash b bs e
    go false e =
        ⊎_elim (λ (a : Alone b bs). a.0 ∙ long_not_deep (b ∷ bs) (omega (arith, h)) ∙ sym (a.1 ∙ long_not_deep bs h))
        (λ (f : ends (levels (b ∷ bs)) ≡ ends (levels bs)). f) (ends_other b bs e)

-- no byte, and one
ends_none : ends (levels []) ≡ false
unfolding levels levels_of same
ends_none = refl

ends_byte : (a : ℕ) → ends (levels (a ∷ [])) ≡ false
unfolding same
ends_byte a = go (eqb a 47) refl
  where
    go : (t : Bool) → eqb a 47 ≡ t → ends (levels (a ∷ [])) ≡ false
    go true e = ends_slash a [] e ∙ ends_none
    go false e = ⊎_elim (λ (x : Alone a []). x.0 ∙ one (eqb a 42)) (λ (f : ends (levels (a ∷ [])) ≡ ends (levels [])). f ∙ ends_none)
        (ends_other a [] e)
      where
        one : (t : Bool) → (t && false) ≡ false
        one true = refl
        one false = refl

-- two bytes are one level, or end in none
ends_two : (b c : ℕ) → ends (levels (b ∷ c ∷ [])) ≡ is_deep (b ∷ c ∷ [])
unfolding levels levels_of same
ends_two b c = go (is_deep (b ∷ c ∷ [])) refl
  where
    stars : ends (levels (42 ∷ 42 ∷ [])) ≡ true
    stars = refl

    go : (t : Bool) → is_deep (b ∷ c ∷ []) ≡ t → ends (levels (b ∷ c ∷ [])) ≡ t
    go true e = ap (λ (l : List ℕ). ends (levels l)) (same_equal (b ∷ c ∷ []) (42 ∷ 42 ∷ []) e) ∙ stars
    go false e = by (eqb b 47) refl
      where
        by : (t : Bool) → eqb b 47 ≡ t → ends (levels (b ∷ c ∷ [])) ≡ false
        by true f = ends_slash b (c ∷ []) f ∙ ends_byte c
        by false f = ⊎_elim (λ (x : Alone b (c ∷ [])). x.0 ∙ e)
            (λ (g : ends (levels (b ∷ c ∷ [])) ≡ ends (levels (c ∷ []))). g ∙ ends_byte c) (ends_other b (c ∷ []) f)

-- three bytes of which the first is not "/" don't end in "**"
three_other : (a b c : ℕ) → eqb a 47 ≡ false → ends (levels (a ∷ b ∷ c ∷ [])) ≡ false
unfolding levels same
three_other a b c e = go (is_deep (b ∷ c ∷ [])) refl
  where
    go : (t : Bool) → is_deep (b ∷ c ∷ []) ≡ t → ends (levels (a ∷ b ∷ c ∷ [])) ≡ false
    go true f =
        ap (λ (l : List ℕ). ends (levels (a ∷ l))) (same_equal (b ∷ c ∷ []) (42 ∷ 42 ∷ []) f) ∙ ap ends (other_byte a (42 ∷ 42 ∷ []) e)
        ∙ ends_one (a ∷ 42 ∷ 42 ∷ []) ∙ long_not_deep (a ∷ 42 ∷ 42 ∷ []) (omega arith)
    go false f =
        ⊎_elim (λ (x : Alone a (b ∷ c ∷ [])). x.0 ∙ long_not_deep (a ∷ b ∷ c ∷ []) (omega arith))
        (λ (g : ends (levels (a ∷ b ∷ c ∷ [])) ≡ ends (levels (b ∷ c ∷ []))). g ∙ ends_two b c ∙ f) (ends_other a (b ∷ c ∷ []) e)

ends_three : (a b c : ℕ) → ends (levels (a ∷ b ∷ c ∷ [])) ≡ (is_deep (b ∷ c ∷ []) && eqb a 47)
ends_three a b c = go (eqb a 47) refl
  where
    go : (t : Bool) → eqb a 47 ≡ t → ends (levels (a ∷ b ∷ c ∷ [])) ≡ (is_deep (b ∷ c ∷ []) && t)
    go true e = ends_slash a (b ∷ c ∷ []) e ∙ ends_two b c ∙ sym (and-true (is_deep (b ∷ c ∷ [])))
    go false e = three_other a b c e ∙ sym (and-false (is_deep (b ∷ c ∷ [])))

-- as bytes
three_bytes : (a b c : ℕ) → (is_deep (b ∷ c ∷ []) && eqb a 47) ≡ pointwise nat_eq (47 ∷ 42 ∷ 42 ∷ []) (a ∷ b ∷ c ∷ [])
unfolding same
three_bytes a b c = grind (arith, nat_tests)

-- the last three of 3 + n bytes tell
ends_long : (n : ℕ) (p : List ℕ) → length p ≡ 3 + n → ends (levels p) ≡ pointwise nat_eq (47 ∷ 42 ∷ 42 ∷ []) (drop n p)
ends_long zero [] e = absurd (omega (arith, e))
ends_long zero (a ∷ []) e = absurd (omega (arith, e))
ends_long zero (a ∷ b ∷ []) e = absurd (omega (arith, e))
ends_long zero (a ∷ b ∷ c ∷ []) e = ends_three a b c ∙ three_bytes a b c
ends_long zero (a ∷ b ∷ c ∷ d ∷ ls) e = absurd (omega (arith, e))
ends_long (suc n) [] e = absurd (omega (arith, e))
ends_long (suc n) (b ∷ bs) e = ends_step b bs (omega (arith, e)) ∙ ends_long n bs (omega (arith, e))

-- ---- the code's tests

-- "**"
pub deep_alone : (p : List ℕ) → true ≡ is_deep p → true ≡ ends (levels p)
unfolding levels levels_of same
deep_alone p e = sym (ap (λ (l : List ℕ). ends (levels l)) (same_equal p (42 ∷ 42 ∷ []) (sym e)))

-- another text, by its last three bytes
pub last_three : (p : List ℕ) → false ≡ is_deep p → pointwise nat_eq (47 ∷ 42 ∷ 42 ∷ []) (drop (length p - 3) p) ≡ ends (levels p)
last_three [] e = sym ends_none
last_three (a ∷ []) e = and-false (eqb 47 a) ∙ sym (ends_byte a)
last_three (a ∷ b ∷ []) e = rw (and-false (eqb 42 b), and-false (eqb 47 a)) (e ∙ sym (ends_two a b))
last_three (a ∷ b ∷ c ∷ p) e = sym (ends_long (length (a ∷ b ∷ c ∷ p) - 3) (a ∷ b ∷ c ∷ p) (omega arith))
