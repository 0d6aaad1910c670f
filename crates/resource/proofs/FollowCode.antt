-- Laws of bytes that may stand after one another (specs/Code.antt), and what they say of the levels of a text (specs/Level.antt of
-- `resource_spec`). Assumes nothing.
use mathlib.Core.Path.{◌≡◌, refl, sym, ap, subst, ◌∙◌}
use mathlib.Core.Bool.{Bool, true, false, cond, not, ◌&&◌, ◌||◌, and_assoc, and-true, and-false, or-false}
use mathlib.Core.List.{List, [], ◌∷◌, ◌++◌}
use Prim.Native.Nat.{ℕ, ◌+◌, ◌-◌, ◌≤◌, ◌<◌}
use native.Mathlib.Numerals.{add-one}
use native.Mathlib.Omega.{arith}
use lib.ListN.{length, get_or, take, drop, length-append, drop_of_length-le}
use lib.Seq.{drop-cons, take-append-add}
use lib.Dec.{eqb}
use borrow.Author.Tests.{eqb-true}
use Rattle.std.specs.List.{ends_with}
use Rattle.std.proofs.lemmas.Slice.Eq.{ends_is}
use Rattle.std.proofs.lemmas.Bool.Decides.{Decides-eqb, nat_tests}
use Rattle.octets.specs.Bytes.{same}
use Rattle.octets.specs.Scan.{without}
use Rattle.octets.proofs.Tests.{or_true, or_elim, or_no_left, or_no_right, no_flag}
use Rattle.octets.proofs.SameLaws.{same_equal}
use Rattle.resource_spec.specs.Identifier.{between}
use Rattle.resource_spec.specs.Level.{is_name_char, all_name_chars, is_name, is_star, is_deep, prefixed, levels, levels_ok}
use Rattle.resource_spec.proofs.Laws.{levels_one}
use Rattle.resource.specs.Code.{is_level_char, may_follow, follows_from, ends_deep}

-- two tests of which each holds where the other does are the same
pub both_hold : (a b : Bool) → (a ≡ true → b ≡ true) → (b ≡ true → a ≡ true) → a ≡ b
both_hold true b f g = sym (f refl)
both_hold false true f g = g refl
both_hold false false f g = refl

-- ---- the characters of a name and "/"

-- those from "-" to "9" are "-", ".", "/" and the digits
pub level_char : (b : ℕ) → (((between 45 57 b || between 97 122 b) || between 65 90 b) || eqb b 95) ≡ is_level_char b
unfolding is_level_char is_name_char
level_char b = grind (arith, nat_tests)

-- ---- what is left of a level, after a byte

-- each level is a name or, where wildcards may stand, "*"
abbrev each_ok : Bool → List (List ℕ) → Bool
each_ok wild [] = true
each_ok wild (l ∷ ls) = (is_name l || (wild && is_star l)) && each_ok wild ls

-- l may be left of a level after the byte a: a whole level after "/", nothing after "*", characters of a name after another byte
unfoldable rest_ok : Bool → ℕ → List ℕ → Bool
rest_ok wild a l = cond (eqb a 47) (is_name l || (wild && is_star l)) (cond (eqb a 42) (same l []) (all_name_chars l))

-- a level may end after any byte but "/"
rest_none : (wild : Bool) (a : ℕ) → rest_ok wild a [] ≡ not (eqb a 47)
unfolding rest_ok all_name_chars same
rest_none wild a = go (eqb a 47) (eqb a 42)
  where
    go : (t u : Bool) → cond t (false || (wild && false)) (cond u true true) ≡ not t
    go true u = and-false wild
    go false true = refl
    go false false = refl

-- "/" may stand after any byte but "/"
slash_after : (wild : Bool) (a : ℕ) → may_follow wild a 47 ≡ not (eqb a 47)
unfolding may_follow is_level_char is_name_char
slash_after wild a = go (eqb a 47) (eqb a 42)
  where
    go : (t u : Bool) → ((not (t && true) && true) && (not u || true)) ≡ not t
    go true u = refl
    go false true = refl
    go false false = refl

-- "*" is no character of a name
star_no_char : is_name_char 42 ≡ false
unfolding is_name_char
star_no_char = refl

-- a byte b other than "/" after a, where t says that a is "/", u that a is "*", v that b is "*", n that b is a character of a name, and k
-- and m that what is left after b is nothing, or characters of a name
byte_tests : (wild t u v n k m : Bool) → (t && u) ≡ false → (v && n) ≡ false
    → ((((((n || false) || (wild && v)) && not (t && false)) && (not v || t)) && (not u || false)) && cond v k m)
    ≡ cond t ((n && m) || (wild && (v && k))) (cond u false (n && m))
byte_tests wild true true v n k m e f = no_flag (sym e)
byte_tests wild true false true true k m e f = no_flag (sym f)
byte_tests true true false true false k m e f = refl
byte_tests false true false true false k m e f = refl
byte_tests wild true false false true k m e f = sym (rw (and-false wild, or-false m))
byte_tests wild true false false false k m e f = rw (and-false wild)
byte_tests wild false true v n k m e f = simp (and-false)
byte_tests wild false false true true k m e f = no_flag (sym f)
byte_tests wild false false true false k m e f = simp (and-false)
byte_tests wild false false false true k m e f = refl
byte_tests wild false false false false k m e f = simp (and-false)

-- another byte than "/" may stand after a, and l may be left after it, exactly where both may be left after a
rest_more : (wild : Bool) (a b : ℕ) (l : List ℕ) → eqb b 47 ≡ false → (may_follow wild a b && rest_ok wild b l) ≡ rest_ok wild a (b ∷ l)
unfolding may_follow is_level_char rest_ok all_name_chars same
rest_more wild a b l e =
    rw e
    (byte_tests wild (eqb a 47) (eqb a 42) (eqb b 42) (is_name_char b) (same l []) (all_name_chars l) (slash (eqb a 47) refl)
    (star (eqb b 42) refl))
  where
    slash : (t : Bool) → eqb a 47 ≡ t → (t && eqb a 42) ≡ false
    slash true f = rw (eqb-true a 47 f)
    slash false f = refl

    star : (t : Bool) → eqb b 42 ≡ t → (t && is_name_char b) ≡ false
    star true f = rw (eqb-true b 42 f) star_no_char
    star false f = refl

-- ---- a text, byte by byte, and its levels

-- the first level of a text, and the others, byte by byte
data Leveled : List ℕ → List ℕ → List (List ℕ) → Type 0 where
  at_end : Leveled [] [] []
  at_slash : {s l : List ℕ} {ls : List (List ℕ)} → Leveled s l ls → Leveled (47 ∷ s) [] (l ∷ ls)
  at_byte : {s l : List ℕ} {ls : List (List ℕ)} (b : ℕ) → eqb b 47 ≡ false → Leveled s l ls → Leveled (b ∷ s) (b ∷ l) ls

-- each text has them
leveled : (s : List ℕ) → (l : List ℕ) × (ls : List (List ℕ)) × Leveled s l ls
leveled [] = ([], [], at_end)
leveled (b ∷ bs) = go (eqb b 47) refl (leveled bs)
  where
    go : (t : Bool) → eqb b 47 ≡ t → ((l : List ℕ) × (ls : List (List ℕ)) × Leveled bs l ls)
        → (l : List ℕ) × (ls : List (List ℕ)) × Leveled (b ∷ bs) l ls
    go true e k = ([], k.0 ∷ k.1, subst (λ (c : ℕ). Leveled (c ∷ bs) [] (k.0 ∷ k.1)) (sym (eqb-true b 47 e)) (at_slash k.2))
    go false e k = (b ∷ k.0, k.1, at_byte b e k.2)

-- they are its levels
levels_are : {s l : List ℕ} {ls : List (List ℕ)} → Leveled s l ls → levels s ≡ l ∷ ls
unfolding levels
levels_are at_end = refl
levels_are (at_slash k) = ap (λ (ls : List (List ℕ)). [] ∷ ls) (levels_are k)
levels_are (at_byte b e k) = rw (e, levels, levels_are k)

-- the bytes of a text may stand after one another exactly where its levels are well formed, none of them "**"
follows_levels : (wild : Bool) (a : ℕ) {s l : List ℕ} {ls : List (List ℕ)} → Leveled s l ls
    → follows_from wild a s ≡ (rest_ok wild a l && each_ok wild ls)
unfolding follows_from rest_ok
follows_levels wild a at_end = sym (and-true (rest_ok wild a []) ∙ rest_none wild a)
follows_levels wild a (at_slash k) = rw (follows_levels wild 47 k, slash_after wild a, rest_none wild a)
follows_levels wild a (at_byte {s} {l} {ls} b e k) =
    rw (follows_levels wild b k, ← rest_more wild a b l e) (sym (and_assoc (may_follow wild a b) (rest_ok wild b l) (each_ok wild ls)))

-- ---- a last level that is "**"

-- "*"
abbrev one_star : List ℕ
one_star = 42 ∷ []

-- "**"
abbrev two_stars : List ℕ
two_stars = 42 ∷ 42 ∷ []

-- the last of the levels l and ls is "**"
abbrev last_deep : List ℕ → List (List ℕ) → Bool
last_deep l [] = is_deep l
last_deep l (k ∷ ls) = last_deep k ls

-- where it is not, or may not be, each level is a name or "*"
each_ok_lem : (wild : Bool) (l : List ℕ) (ls : List (List ℕ)) → (wild && last_deep l ls) ≡ false
    → levels_ok wild (l ∷ ls) ≡ each_ok wild (l ∷ ls)
unfolding levels_ok
each_ok_lem true l [] e = rw (e, or-false (is_star l)) (sym (and-true (is_name l || is_star l)))
each_ok_lem false l [] e = sym (and-true (is_name l || false))
each_ok_lem wild l (k ∷ ls) e = ap (λ (t : Bool). (is_name l || (wild && is_star l)) && t) (each_ok_lem wild k ls e)

-- a text of one level is that level
one_level : {s l : List ℕ} → Leveled s l [] → s ≡ l
one_level at_end = refl
one_level (at_byte b e k) = ap (λ (x : List ℕ). b ∷ x) (one_level k)

-- the last level of a text that does not end with "**" is not "**"
not_deep : {s l : List ℕ} {ls : List (List ℕ)} → Leveled s l ls → ends_deep s ≡ false → last_deep l ls ≡ false
unfolding ends_deep same
not_deep at_end e = refl
not_deep (at_slash k) e = not_deep k e
not_deep (at_byte {s} {l} {ls = []} b f k) e = rw (← one_level k) (or_no_left (is_deep (b ∷ s)) (ends_deep s) e)
not_deep (at_byte {s} {l} {ls = m ∷ ls} b f k) e = not_deep k (or_no_right (is_deep (b ∷ s)) (ends_deep s) e)

-- the levels l and ls, with m after the last of them
abbrev with_last : List ℕ → List ℕ → List (List ℕ) → List (List ℕ)
with_last m l [] = (l ++ m) ∷ []
with_last m l (k ∷ ls) = l ∷ with_last m k ls

-- a byte before the first of them
last_byte : (b : ℕ) (m l : List ℕ) (ls : List (List ℕ)) → prefixed b (with_last m l ls) ≡ with_last m (b ∷ l) ls
last_byte b m l [] = refl
last_byte b m l (k ∷ ls) = refl

-- bytes other than "/" after a text come after its last level
levels_last : (m : List ℕ) → without 47 m ≡ true → {s l : List ℕ} {ls : List (List ℕ)} → Leveled s l ls → levels (s ++ m) ≡ with_last m l ls
unfolding levels
levels_last m h at_end = levels_one m h
levels_last m h (at_slash k) = ap (λ (ls : List (List ℕ)). [] ∷ ls) (levels_last m h k)
levels_last m h (at_byte {s} {l} {ls} b e k) = rw (e, levels, levels_last m h k) (last_byte b m l ls)

-- not each of some bytes with "*" among them is a character of a name
no_chars : (l m : List ℕ) → all_name_chars (l ++ (42 ∷ m)) ≡ false
unfolding all_name_chars
no_chars [] m = rw star_no_char
no_chars (b ∷ l) m = rw (no_chars l m) (and-false (is_name_char b))

-- so they are no name
no_name : (l m : List ℕ) → is_name (l ++ (42 ∷ m)) ≡ false
no_name [] m = no_chars [] m
no_name (b ∷ l) m = no_chars (b ∷ l) m

-- "**" may be the last level where "*" may
deep_star : (l : List ℕ) → levels_ok true ((l ++ two_stars) ∷ []) ≡ each_ok true ((l ++ one_star) ∷ [])
unfolding levels_ok same
deep_star l = rw (no_name l one_star, no_name l []) (go l)
  where
    go : (k : List ℕ) → (is_star (k ++ two_stars) || is_deep (k ++ two_stars)) ≡ (is_star (k ++ one_star) && true)
    go [] = refl
    go (b ∷ []) = simp (and-false)
    go (b ∷ c ∷ []) = simp (and-false)
    go (b ∷ c ∷ d ∷ k) = simp (and-false)

-- so it may be after other levels
deep_last : (l : List ℕ) (ls : List (List ℕ)) → levels_ok true (with_last two_stars l ls) ≡ each_ok true (with_last one_star l ls)
unfolding levels_ok
deep_last l [] = deep_star l
deep_last l (k ∷ []) = ap (λ (t : Bool). (is_name l || is_star l) && t) (deep_last k [])
deep_last l (k ∷ m ∷ ls) = ap (λ (t : Bool). (is_name l || is_star l) && t) (deep_last k (m ∷ ls))

-- ---- what the code finds, and the levels of a text

-- the bytes of a text may stand after one another exactly where each level is a name or, where wildcards may stand, "*"
follows_each : (wild : Bool) (s : List ℕ) → follows_from wild 47 s ≡ each_ok wild (levels s)
unfolding rest_ok
follows_each wild s = let k = leveled s in rw (levels_are k.2) (follows_levels wild 47 k.2)

-- "**" after a text leaves its levels well formed where "*" does
deep_text : (t : List ℕ) → levels_ok true (levels (t ++ two_stars)) ≡ follows_from true 47 (t ++ one_star)
unfolding without
deep_text t =
    let k = leveled t in
    rw (follows_each true (t ++ one_star), levels_last one_star refl k.2, levels_last two_stars refl k.2) (deep_last k.0 k.1)

-- a text that ends with "**" is another text and "**"
deep_parted : (s : List ℕ) → ends_deep s ≡ true → (t : List ℕ) × (s ≡ t ++ two_stars)
unfolding ends_deep
deep_parted [] e = no_flag e
deep_parted (b ∷ bs) e =
    or_elim (is_deep (b ∷ bs)) (ends_deep bs) (λ f. ([], same_equal (b ∷ bs) two_stars f))
    (λ f. let r = deep_parted bs f in (b ∷ r.0, ap (λ (x : List ℕ). b ∷ x) r.1)) e

-- it has two bytes at least
pub ends_long : (s : List ℕ) → ends_deep s ≡ true → 2 ≤ length s
ends_long s e = let r = deep_parted s e in omega (arith, ap length r.1, length-append r.0 two_stars)

-- where wildcards may stand its levels are well formed exactly where they are without its last byte
pub ok_deep : (wild : Bool) (s : List ℕ) → (wild && ends_deep s) ≡ true
    → levels_ok wild (levels s) ≡ follows_from wild 47 (take (length s - 1) s)
ok_deep true s e =
    let r = deep_parted s e in
    let t : List ℕ = r.0 in
    let n : length (t ++ two_stars) - 1 ≡ length t + 1 = omega (arith, length-append t two_stars) in
    rw (r.1, n, take-append-add t two_stars 1) (deep_text t)
ok_deep false s e = no_flag e

-- those of another text, or where no wildcard may stand, exactly where its bytes may stand after one another
pub ok_flat : (wild : Bool) (s : List ℕ) → (wild && ends_deep s) ≡ false → levels_ok wild (levels s) ≡ follows_from wild 47 s
ok_flat wild s e =
    let k = leveled s in
    rw (follows_each wild s, levels_are k.2) (each_ok_lem wild k.0 k.1 (go wild k.2 e))
  where
    go : (w : Bool) {l : List ℕ} {ls : List (List ℕ)} → Leveled s l ls → (w && ends_deep s) ≡ false → (w && last_deep l ls) ≡ false
    go true k f = not_deep k f
    go false k f = refl

-- those of an empty text are not
pub ok_none : (wild : Bool) (s : List ℕ) → length s ≡ 0 → levels_ok wild (levels s) ≡ false
unfolding ends_deep follows_from
ok_none wild [] e = ok_flat wild [] (and-false wild)
ok_none wild (b ∷ s) e = absurd (omega arith)

-- what `all` stands on
pub ruleset ok_laws = (ok_none, ok_deep, ok_flat, ends_long)

-- ---- the code's test

-- a text ends with "**" after any other
deep_after : (t : List ℕ) → ends_deep (t ++ two_stars) ≡ true
unfolding ends_deep same
deep_after [] = refl
deep_after (b ∷ t) = rw (deep_after t) (or_true (is_deep (b ∷ t ++ two_stars)))

-- the library's test of the last two bytes
pub ends_test : (s : List ℕ) → ends_with eqb s (42 ∷ 42 ∷ []) ≡ ends_deep s
ends_test s =
    both_hold _ _ (λ e. rw (tells.0 e) (deep_after (take (length s - 2) s))) (λ e. let r = deep_parted s e in tells.1 r.0 r.1)
  where
    tells : (ends_with eqb s two_stars ≡ true → s ≡ take (length s - 2) s ++ two_stars)
        × ((front : List ℕ) → s ≡ front ++ two_stars → ends_with eqb s two_stars ≡ true)
    tells = ends_is Decides-eqb s two_stars (ends_with eqb s two_stars) refl

-- ---- the bytes, as a loop takes them

-- they are well-formed levels exactly where `ok`, and the bytes from i on may stand after the one before them
abbrev pub Left : Bool → List ℕ → Bool → ℕ → Type 0
Left wild s ok i = follows_from wild 47 s ≡ (ok && follows_from wild (get_or s (i - 1) 0) (drop i s))

module _ (wild : Bool) (s : List ℕ) where
  -- the byte at i, and those after it
  follow_byte : (a i : ℕ) → i < length s
      → follows_from wild a (drop i s) ≡ (may_follow wild a (get_or s i 0) && follows_from wild (get_or s i 0) (drop (i + 1) s))
  unfolding follows_from
  follow_byte a i k = rw (drop-cons s i 0 k, add-one i)

  -- the first byte
  pub left_first : 0 < length s → Left wild s (may_follow wild 47 (get_or s 0 0)) 1
  left_first k = follow_byte 47 0 k

  -- the next one
  pub left_next : (ok : Bool) (i : ℕ) → i < length s → Left wild s ok i
      → Left wild s (ok && may_follow wild (get_or s (i - 1) 0) (get_or s i 0)) (i + 1)
  left_next ok i k e =
      let here : i + 1 - 1 ≡ i = omega arith in
      e ∙ rw (here, follow_byte (get_or s (i - 1) 0) i k)
      (sym (and_assoc ok (may_follow wild (get_or s (i - 1) 0) (get_or s i 0)) (follows_from wild (get_or s i 0) (drop (i + 1) s))))

  -- no more
  pub left_none : (ok : Bool) (i : ℕ) → i ≡ length s → Left wild s ok i
      → (ok && not (eqb (get_or s (length s - 1) 0) 47)) ≡ follows_from wild 47 s
  unfolding follows_from
  left_none ok i k e = sym (e ∙ rw (k, drop_of_length-le s {i = length s} (omega arith)))

-- the laws of the loop of `follow`
pub ruleset left_laws = (left_first, left_next, left_none)
