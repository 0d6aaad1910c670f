-- Laws of bytes at a place (specs/Bytes.antt). Assumes nothing.
use mathlib.Core.Path.{◌≡◌, refl, sym, ap, ap₂, ◌∙◌, subst}
use mathlib.Core.Logic.{◌≢◌, ⊎_elim}
use mathlib.Core.Bool.{Bool, true, false, not}
use mathlib.Core.List.{List, [], ◌∷◌, ◌++◌}
use Prim.Native.Nat.{ℕ, ◌+◌, ◌-◌, ◌≤◌, ◌<◌}
use native.Mathlib.Omega.{arith}
use lib.ListN.{length, take, drop, get_or, length-append, length-take, length-drop}
use lib.Seq.{take-add, drop-drop, take_at, drop_at, take-length, take_all, take-take, drop-cons}
use lib.Dec.{T, eqb, eqb→eq, eqb_refl}
use mir.Syntax.{w8}
use mir.Val.{Fits}
use mir.Facts.{and_yes, yes_and, or_yes, eqb_no}
use borrow.Author.Tests.{ne_eqb}
use Rattle.octets.specs.Bytes.{AreBytes, part, Has, same, has_at, clash}

-- what is known of a lent slice: its elements are bytes
pub are_bytes : (s : List ℕ) → ((i : ℕ) → Fits w8 (get_or s i 0)) → AreBytes s
are_bytes s h i = omega (arith, h i)

-- ---- what stands at a place

pub has_length : (s : List ℕ) (at : ℕ) (bs : List ℕ) → Has s at bs → length bs ≤ length s - at
unfolding Has part
has_length s at bs h = omega (arith, simp (length-take, length-drop) at (ap length h))

pub has_fits : (s : List ℕ) (at : ℕ) (bs : List ℕ) → 0 < length bs → Has s at bs → at + length bs ≤ length s
has_fits s at bs pos h = omega (arith, has_length s at bs h)

pub has_nil : (s : List ℕ) (at : ℕ) → Has s at []
unfolding Has part
has_nil s at = refl

pub has_left : (s : List ℕ) (at : ℕ) (a b : List ℕ) → Has s at (a ++ b) → Has s at a
unfolding Has part
has_left s at a b h =
    let l : length a ≤ length (a ++ b) = simp length-append (omega arith) in
    sym (take-take (length a) (length (a ++ b)) (drop at s) l) ∙ ap (take (length a)) h ∙ take_at a b (length a) refl

pub has_right : (s : List ℕ) (at : ℕ) (a b : List ℕ) → Has s at (a ++ b) → Has s (at + length a) b
unfolding Has part
has_right s at a b h =
    let e : take (length a) (drop at s) ++ take (length b) (drop (length a) (drop at s)) ≡ a ++ b
    = sym (take-add (length a) (length b) (drop at s)) ∙ ap (λ (n : ℕ). take n (drop at s)) (sym (length-append a b)) ∙ h in
    let l : length (take (length a) (drop at s)) ≡ length a = ap length (has_left s at a b h) in
    ap (take (length b)) (sym (drop-drop (length a) at s))
    ∙ sym (drop_at (take (length a) (drop at s)) _ (length a) l)
    ∙ ap (drop (length a)) e
    ∙ drop_at a b (length a) refl

pub has_join : (s : List ℕ) (at : ℕ) (a b : List ℕ) → Has s at a → Has s (at + length a) b → Has s at (a ++ b)
unfolding Has part
has_join s at a b p q =
    ap (λ (n : ℕ). take n (drop at s)) (length-append a b)
    ∙ take-add (length a) (length b) (drop at s)
    ∙ ap₂ (λ (x y : List ℕ). x ++ y) p (ap (take (length b)) (drop-drop (length a) at s) ∙ q)

-- the whole list
pub has_all : (s bs : List ℕ) → Has s 0 bs → length bs ≡ length s → s ≡ bs
unfolding Has part
has_all s bs h e = sym (take_all (length bs) s (omega arith)) ∙ h

pub all_has : (s : List ℕ) → Has s 0 s
unfolding Has part
all_has s = take-length s

-- the part that has some bytes is those bytes
pub has_part : (s : List ℕ) (at : ℕ) (bs : List ℕ) → Has s at bs → part s at (length bs) ≡ bs
unfolding Has
has_part s at bs h = h

pub part_has : (s : List ℕ) (at n : ℕ) → at + n ≤ length s → Has s at (part s at n) × (length (part s at n) ≡ n)
unfolding Has part
part_has s at n h =
    let e : length (take n (drop at s)) ≡ n = simp (length-take, length-drop) (omega arith) in
    (ap (λ (k : ℕ). take k (drop at s)) e, e)

pub part_back : (s : List ℕ) (at : ℕ) (bs : List ℕ) → Has s at bs → part s at ((at + length bs) - at) ≡ bs
unfolding Has
part_back s at bs h = let e : (at + length bs) - at ≡ length bs = omega arith in ap (part s at) e ∙ h

-- the front of bytes at a place
pub part_take : (s : List ℕ) (at n : ℕ) (bs : List ℕ) → n ≤ length bs → Has s at bs → part s at n ≡ take n bs
unfolding Has part
part_take s at n bs l h = sym (take-take n (length bs) (drop at s) l) ∙ ap (take n) h

-- two byte strings of one length at one place are equal
pub has_same : (s : List ℕ) (at : ℕ) (a b : List ℕ) → length a ≡ length b → Has s at a → Has s at b → a ≡ b
unfolding Has part
has_same s at a b e p q = sym p ∙ ap (λ (n : ℕ). take n (drop at s)) e ∙ q

-- what a list begins with stands at its front
pub front_has : (s a rest : List ℕ) → s ≡ a ++ rest → Has s 0 a
unfolding Has part
front_has s a rest e = ap (take (length a)) e ∙ take_at a rest (length a) refl

-- what stands after n bytes
pub has_after : (s : List ℕ) (r n p : ℕ) (a b : List ℕ) → length a ≡ n → r + n ≡ p → Has s r (a ++ b) → Has s p b
has_after s r n p a b e f h = subst (λ (q : ℕ). Has s q b) (ap (λ (k : ℕ). r + k) e ∙ f) (has_right s r a b h)

-- what stands after n bytes, with them
pub has_both : (s : List ℕ) (r n p : ℕ) (a b : List ℕ) → length a ≡ n → r + n ≡ p → Has s r a → Has s p b → Has s r (a ++ b)
has_both s r n p a b e f h k = has_join s r a b h (subst (λ (q : ℕ). Has s q b) (sym (ap (λ (m : ℕ). r + m) e ∙ f)) k)

-- ---- tests

pub same_eq : (xs ys : List ℕ) → T (same xs ys) → xs ≡ ys
unfolding same
same_eq [] [] t = refl
same_eq [] (y ∷ ys) t = absurd t
same_eq (x ∷ xs) [] t = absurd t
same_eq (x ∷ xs) (y ∷ ys) t =
    let p : T (eqb x y) × T (same xs ys) = and_yes (eqb x y) (same xs ys) t in
    ap₂ (λ (a : ℕ) (l : List ℕ). a ∷ l) (eqb→eq x y p.0) (same_eq xs ys p.1)

pub same_refl : (xs : List ℕ) → T (same xs xs)
unfolding same
same_refl [] = tt
same_refl (x ∷ xs) = yes_and (eqb x x) (same xs xs) (eqb_refl x) (same_refl xs)

-- what the code knows of a test it took
pub T_of : {b c : Bool} → b ≡ c → b ≡ true → T c
T_of e t = subst T (sym t ∙ e) tt

pub T_of_not : (b : Bool) {c : Bool} → b ≡ c → not b ≡ false → T c
T_of_not true e t = subst T e tt
T_of_not false e t = absurd (let z : ◌≡◌ {A = ℕ} 0 1 = cc in omega arith)

pub not_T_of : (b : Bool) {c : Bool} → b ≡ c → not b ≡ true → T (not c)
not_T_of true e t = absurd (let z : ◌≡◌ {A = ℕ} 0 1 = cc in omega arith)
not_T_of false e t = subst (λ (d : Bool). T (not d)) e tt

-- s has the bytes k at the place, as a test
pub has_at_yes : (s : List ℕ) (at : ℕ) (k : List ℕ) → T (has_at s at k) → Has s at k
unfolding has_at Has
has_at_yes s at k t = same_eq (part s at (length k)) k t

pub yes_has_at : (s : List ℕ) (at : ℕ) (k : List ℕ) → Has s at k → T (has_at s at k)
unfolding has_at Has
yes_has_at s at k h = rw h (same_refl k)

-- no bytes stand at any place
pub has_at_none : (s : List ℕ) (at : ℕ) (k : List ℕ) → length k ≡ 0 → has_at s at k ≡ true
unfolding has_at part same
has_at_none s at [] e = refl
has_at_none s at (x ∷ k) e = absurd (omega arith)

-- bytes do not stand where s ends before them
pub has_at_short : (s : List ℕ) (at : ℕ) (k : List ℕ) → 0 < length k → length s < at + length k → has_at s at k ≡ false
has_at_short s at k pos h =
    elim (has_at s at k) as (λ b. (T b → Has s at k) → b ≡ false) [
      | false ↦ λ f. refl
      | true ↦ λ f. absurd (omega (arith, has_fits s at k pos (f tt)))
    ] (has_at_yes s at k)

-- nor where the first of them does not
pub has_at_differs : (s : List ℕ) (at : ℕ) (k : List ℕ) → 0 < length k → at < length s → get_or s at 0 ≢ get_or k 0 0 → has_at s at k ≡ false
unfolding has_at part same
has_at_differs s at [] hk hs e = absurd (omega arith)
has_at_differs s at (x ∷ k) hk hs e = rw (drop-cons s at 0 hs, ne_eqb (get_or s at 0) x e)

clash_take : (l a b : List ℕ) → T (clash a b) → take (length a) l ≡ a → take (length b) l ≡ b → ⊥
unfolding clash
clash_take l [] b t p q = t
clash_take l (x ∷ xs) [] t p q = t
clash_take [] (x ∷ xs) (y ∷ ys) t p q = let z : ◌≡◌ {A = ℕ} 0 1 = cc in omega arith
clash_take (z ∷ l) (x ∷ xs) (y ∷ ys) t p q =
    let e : x ≡ y = cc in
    let p' : take (length xs) l ≡ xs = cc in
    let q' : take (length ys) l ≡ ys = cc in
    ⊎_elim (λ d. eqb_no d e) (λ d. clash_take l xs ys d p' q') (or_yes (not (eqb x y)) (clash xs ys) t)

pub has_clash : (s : List ℕ) (at : ℕ) (a b : List ℕ) → T (clash a b) → Has s at a → Has s at b → ⊥
unfolding Has part
has_clash s at a b t p q = clash_take (drop at s) a b t p q
