-- Bytewise order (`before` in specs/Order.antt of `octets`), and the keys of allowed pairs in it. Assumes nothing.
use mathlib.Core.Path.{◌≡◌, refl, sym, ap, ap₂, ◌∙◌, subst}
use mathlib.Core.Logic.{◌⊎◌, inl, inr, ⊎_elim}
use mathlib.Core.Bool.{Bool, true, false, ◌&&◌, ◌||◌}
use mathlib.Core.List.{List, [], ◌∷◌, ◌++◌}
use Prim.Native.Nat.{ℕ, zero, suc, ◌<◌}
use native.Mathlib.Omega.{arith}
use lib.Dec.{ltb, eqb}
use borrow.Author.Tests.{ltb-true, eqb-true, lt-ltb, eq-eqb}
use Rattle.exact.specs.Reads.{AllFrom}
use Rattle.octets.proofs.Tests.{and_left, and_right, and_both, or_elim, no_flag}
use Rattle.entries_spec.specs.Model.{Pair}
use Rattle.entries_spec.specs.Allowed.{PairOk, key_of}
use Rattle.octets.specs.Order.{before}
use Rattle.descriptor_spec.specs.Promises.{text, Less, BytewiseOrder, Each, EachTwo, PairsAscend, PairsDistinct}

-- ---- the order

-- the second of two tests holds
or_right : (a b : Bool) → b ≡ true → (a || b) ≡ true
or_right true b e = refl
or_right false b e = e

-- what stands before has the smaller first byte, or the same one and a rest that stands before
split : (a : ℕ) (x : List ℕ) (b : ℕ) (y : List ℕ) → before (a ∷ x) (b ∷ y) ≡ true → (a < b) ⊎ ((a ≡ b) × (before x y ≡ true))
unfolding before
split a x b y =
    or_elim (ltb a b) (eqb a b && before x y) (λ l. inl (ltb-true a b l))
    (λ e. inr (eqb-true a b (and_left (eqb a b) (before x y) e), and_right (eqb a b) (before x y) e))

-- a smaller first byte decides
smaller : (a : ℕ) (x : List ℕ) (b : ℕ) (y : List ℕ) → a < b → before (a ∷ x) (b ∷ y) ≡ true
unfolding before
smaller a x b y l = rw (lt-ltb a b l)

-- after the same first byte the rest decides
after : (a : ℕ) (x : List ℕ) (b : ℕ) (y : List ℕ) → a ≡ b → before x y ≡ true → before (a ∷ x) (b ∷ y) ≡ true
unfolding before
after a x b y e o = or_right (ltb a b) (eqb a b && before x y) (and_both (eqb a b) (before x y) (eq-eqb a b e) o)

-- nothing stands before the empty list
none_before : (x : List ℕ) → before x [] ≡ true → ⊥
unfolding before
none_before [] e = no_flag e
none_before (a ∷ x) e = no_flag e

-- which stands before all others
pub empty_before : (b : ℕ) (y : List ℕ) → before [] (b ∷ y) ≡ true
unfolding before
empty_before b y = refl

-- no list stands before itself
irreflexive : (x : List ℕ) → before x x ≡ true → ⊥
irreflexive [] e = none_before [] e
irreflexive (a ∷ x) e = ⊎_elim (λ l. omega arith) (λ r. irreflexive x r.1) (split a x a x e)

-- what stands before one that stands before a third stands before the third
transitive : (x y z : List ℕ) → before x y ≡ true → before y z ≡ true → before x z ≡ true
transitive x [] z p q = absurd (none_before x p)
transitive x (b ∷ y) [] p q = absurd (none_before (b ∷ y) q)
transitive [] (b ∷ y) (c ∷ z) p q = empty_before c z
transitive (a ∷ x) (b ∷ y) (c ∷ z) p q =
    ⊎_elim
    (λ l. ⊎_elim (λ m. smaller a x c z (omega arith)) (λ m. smaller a x c z (omega (arith, m.0))) (split b y c z q))
    (λ l. ⊎_elim (λ m. smaller a x c z (omega (arith, l.0))) (λ m. after a x c z (l.0 ∙ m.0) (transitive x y z l.1 m.1))
    (split b y c z q))
    (split a x b y p)

-- ---- in words

-- the two have something in common, after which the one is used up first or has the smaller byte
abbrev Parted : List ℕ → List ℕ → Type 0
Parted x y = (c : List ℕ) × (a : List ℕ) × (b : List ℕ) × (x ≡ c ++ a) × (y ≡ c ++ b) × Less a b

-- one byte more in common
common : (a : ℕ) (x : List ℕ) (b : ℕ) (y : List ℕ) → a ≡ b → Parted x y → Parted (a ∷ x) (b ∷ y)
common a x b y e r =
    (a ∷ r.0, r.1, r.2, ap (λ (l : List ℕ). a ∷ l) r.3, ap₂ (λ (k : ℕ) (l : List ℕ). k ∷ l) (sym e) r.4, r.5)

parts : (x y : List ℕ) → before x y ≡ true → Parted x y
parts x [] e = absurd (none_before x e)
parts [] (b ∷ y) e = ([], [], b ∷ y, refl, refl, tt)
parts (a ∷ x) (b ∷ y) e =
    ⊎_elim {C = Parted (a ∷ x) (b ∷ y)} (λ l. ([], a ∷ x, b ∷ y, refl, refl, l)) (λ r. common a x b y r.0 (parts x y r.1))
    (split a x b y e)

-- and back
less_before : (a b : List ℕ) → Less a b → before a b ≡ true
less_before a [] l = absurd l
less_before [] (k ∷ b) l = empty_before k b
less_before (h ∷ a) (k ∷ b) l = smaller h a k b l

joined : (c a b : List ℕ) → Less a b → before (c ++ a) (c ++ b) ≡ true
joined [] a b l = less_before a b l
joined (k ∷ c) a b l = after k (c ++ a) k (c ++ b) refl (joined c a b l)

pub bytewise_order : BytewiseOrder
bytewise_order x y = (parts x y, λ r. rw (r.3, r.4) (joined r.0 r.1 r.2 r.5))

-- ---- pairs

-- every key of allowed pairs stands after the last one before them
all_after : (last : List ℕ) (ps : List Pair) → AllFrom PairOk key_of last ps → Each (λ (q : Pair). before last (text q.key) ≡ true) ps
all_after last [] a j q l e = absurd (omega arith)
all_after last (p ∷ ps) a zero q l e = subst (λ (r : Pair). before last (text r.key) ≡ true) e a.0.ascends
all_after last (p ∷ ps) a (suc j) q l e =
    transitive last (text p.key) (text q.key) a.0.ascends (all_after (text p.key) ps a.1 j q (omega arith) e)

-- so of two the first stands before the second
pub two_ascend : (last : List ℕ) (ps : List Pair) → AllFrom PairOk key_of last ps
    → EachTwo (λ (p q : Pair). before (text p.key) (text q.key) ≡ true) ps
two_ascend last [] a i j p q l m e f = absurd (omega arith)
two_ascend last (r ∷ ps) a i zero p q l m e f = absurd (omega arith)
two_ascend last (r ∷ ps) a zero (suc j) p q l m e f =
    subst (λ (x : Pair). before (text x.key) (text q.key) ≡ true) e (all_after (text r.key) ps a.1 j q (omega arith) f)
two_ascend last (r ∷ ps) a (suc i) (suc j) p q l m e f = two_ascend (text r.key) ps a.1 i j p q (omega arith) (omega arith) e f

pub pairs_ascend : PairsAscend
pairs_ascend most ps k = two_ascend [] ps k.each

pub pairs_distinct : PairsDistinct
pairs_distinct most ps k i j p q l m e f same =
    irreflexive (text q.key)
    (subst (λ (c : List ℕ). before (text c) (text q.key) ≡ true) same (pairs_ascend most ps k i j p q l m e f))
