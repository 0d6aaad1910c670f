-- Laws of exact readers and of how they are put together (specs/Reads.antt). Assumes nothing.
use mathlib.Core.Path.{◌≡◌, refl, sym, ap, ap₂, ◌∙◌, subst}
use mathlib.Core.Logic.{◌↔◌}
use mathlib.Core.Bool.{Bool, true, false, not}
use mathlib.Core.List.{List, ◌++◌}
use Prim.Native.Nat.{ℕ, ◌+◌, ◌≤◌, ◌<◌}
use native.Mathlib.Omega.{arith}
use lib.ListN.{length, length-append}
use lib.Dec.{T, leb, eqb, le→leb}
use mir.Facts.{no_leb, yes_eqb, no_eqb}
use Rattle.octets.specs.Bytes.{Has, has_at}
use Rattle.exact.specs.Reads.{Got, got, refused, One, Reads, found, lacks, bind, guard}
use Rattle.octets.proofs.TruthLaws.{T_true, T_false}
use Rattle.octets.proofs.BytesLaws.{has_left, has_right, has_join, has_at_yes, yes_has_at}

-- ---- what the code's proofs use of the ways out

pub guard_yes : {R : Type 0} (b : Bool) (o : Got R) → T b → guard b o ≡ o
unfolding guard
guard_yes true o t = refl
guard_yes false o t = absurd t

pub guard_no : {R : Type 0} (b : Bool) (o : Got R) → T (not b) → guard b o ≡ refused
unfolding guard
guard_no true o t = absurd t
guard_no false o t = refl

pub guard_leb : {R : Type 0} (m n : ℕ) (o : Got R) → m ≤ n → guard (leb m n) o ≡ o
guard_leb m n o h = guard_yes (leb m n) o (le→leb m n h)

pub guard_nleb : {R : Type 0} (m n : ℕ) (o : Got R) → n < m → guard (leb m n) o ≡ refused
guard_nleb m n o h = guard_no (leb m n) o (no_leb h)

-- goal by goal: the code took this way
pub took : {R Q : Type 0} {o : Got R} {r : R} {n : ℕ} {q : Got Q} (k : R → ℕ → Got Q) → got r n ≡ o → q ≡ k r n → q ≡ bind o k
unfolding bind
took k e f = f ∙ ap (λ (a : Got _). bind a k) e

pub stopped : {R Q : Type 0} {o : Got R} (k : R → ℕ → Got Q) → refused ≡ o → refused ≡ bind o k
unfolding bind
stopped k e = ap (λ (a : Got _). bind a k) e

pub passed : {R : Type 0} {q o : Got R} (b : Bool) → T b → q ≡ o → q ≡ guard b o
passed b t e = e ∙ sym (guard_yes b _ t)

pub failed : {R : Type 0} (b : Bool) (o : Got R) → T (not b) → refused ≡ guard b o
failed b o t = sym (guard_no b o t)

-- a flag of the code is a test, and true
pub flag_yes : {R : Type 0} {q o : Got R} (b r : Bool) → r ≡ b → r ≡ true → q ≡ o → q ≡ guard b o
flag_yes b r e t f = passed b ((T_true b).1 (sym e ∙ t)) f

-- a flag of the code is a test, and false
pub flag_no : {R : Type 0} (o : Got R) (b r : Bool) → r ≡ b → r ≡ false → refused ≡ guard b o
flag_no o b r e t = failed b o ((T_false b).1 (sym e ∙ t))

pub passed_leb : {R : Type 0} {q o : Got R} (m n : ℕ) → m ≤ n → q ≡ o → q ≡ guard (leb m n) o
passed_leb m n h e = e ∙ sym (guard_leb m n _ h)

pub failed_leb : {R : Type 0} (m n : ℕ) (o : Got R) → n < m → refused ≡ guard (leb m n) o
failed_leb m n o h = sym (guard_nleb m n o h)

pub passed_eqb : {R : Type 0} {q o : Got R} {m n : ℕ} → m ≡ n → q ≡ o → q ≡ guard (eqb m n) o
passed_eqb {m} {n} h e = passed (eqb m n) (yes_eqb h) e

pub failed_eqb : {R : Type 0} {m n : ℕ} (o : Got R) → (m ≡ n → ⊥) → refused ≡ guard (eqb m n) o
failed_eqb {m} {n} o h = failed (eqb m n) o (no_eqb h)

pub bind_got : {R Q : Type 0} (o : Got R) (k : R → ℕ → Got Q) (r : R) (n : ℕ) → got r n ≡ o → bind o k ≡ k r n
unfolding bind
bind_got o k r n e = ap (λ (a : Got _). bind a k) (sym e)

pub bind_refused : {R Q : Type 0} (o : Got R) (k : R → ℕ → Got Q) → refused ≡ o → bind o k ≡ refused
unfolding bind
bind_refused o k e = ap (λ (a : Got _). bind a k) (sym e)

-- ---- what an exact answer says

module _ {X R : Type 0} {s : List ℕ} {at : ℕ} {P : X → Type 0} {enc : X → List ℕ} {view : X → R} where
  pub the_one : {r : R} {n : ℕ} → Reads s at P enc view (got r n) → One s at P enc view r n
  the_one (found x) = x

  -- a value of the right kind at the place is read
  pub complete : {o : Got R} → Reads s at P enc view o → (x : X) → P x → Has s at (enc x) → o ≡ got (view x) (at + length (enc x))
  complete (found a) x p h =
      let e : x ≡ a.val = a.only x p h in
      ap₂ got (a.seen ∙ ap view (sym e)) (a.next ∙ ap (λ (y : X). at + length (enc y)) (sym e))
  complete (lacks f) x p h = absurd (f x p h)

  -- and there is one such value at most
  pub unique : {o : Got R} → Reads s at P enc view o → (x y : X) → P x → P y → Has s at (enc x) → Has s at (enc y) → x ≡ y
  unique (found a) x y p q h k = a.only x p h ∙ sym (a.only y q k)
  unique (lacks f) x y p q h k = absurd (f x p h)

-- the law of a reader whose answer is the value itself, as an equivalence, and back
abbrev pub Law : {X : Type 0} → List ℕ → ℕ → (X → Type 0) → (X → List ℕ) → Got X → Type 0
Law {X} s at P enc o = (x : X) (n : ℕ) → (o ≡ got x n) ↔ (P x × Has s at (enc x) × (n ≡ at + length (enc x)))

pub from_law : {X : Type 0} (s : List ℕ) (at : ℕ) (P : X → Type 0) (enc : X → List ℕ) (o : Got X) → Law s at P enc o
    → Reads s at P enc (λ (x : X). x) o
from_law s at P enc (got r n) law =
    let a = (law r n).0 refl in
    found (record {
      val = r;
      fine = a.0;
      has = a.1;
      seen = refl;
      next = a.2;
      only = λ w p h. let e : got r n ≡ got w (at + length (enc w)) = (law w (at + length (enc w))).1 (p, h, refl) in cc;
    })
from_law s at P enc refused law =
    lacks (λ w p h.
    let e : refused ≡ got w (at + length (enc w)) = (law w (at + length (enc w))).1 (p, h, refl) in
    let z : ◌≡◌ {A = ℕ} 0 1 = cc in
    omega arith)

pub to_law : {X : Type 0} {s : List ℕ} {at : ℕ} {P : X → Type 0} {enc : X → List ℕ} {o : Got X} → Reads s at P enc (λ (x : X). x) o
    → Law s at P enc o
to_law {s} {at} {P} {enc} {o} r x n = (
  λ e.
      let a = the_one (subst (Reads s at P enc (λ y. y)) e r) in
      let q : x ≡ a.val = a.seen in
      (subst P (sym q) a.fine, subst (λ y. Has s at (enc y)) (sym q) a.has, a.next ∙ ap (λ y. at + length (enc y)) (sym q)),
  λ t. complete r x t.0 t.1 ∙ ap (got x) (sym t.2),
)

-- ---- putting exact answers together

-- the same answer seen through other values
pub recast : {X Y R : Type 0} {s : List ℕ} {at : ℕ} {P : X → Type 0} {enc : X → List ℕ} {view : X → R} {o : Got R}
    → Reads s at P enc view o
    → (P₂ : Y → Type 0) (enc₂ : Y → List ℕ) (view₂ : Y → R) (f : X → Y)
    → ((x : X) → P x → Has s at (enc x) → P₂ (f x) × (enc₂ (f x) ≡ enc x) × (view₂ (f x) ≡ view x))
    → ((y : Y) → P₂ y → Has s at (enc₂ y) → (x : X) × P x × (enc x ≡ enc₂ y) × (f x ≡ y))
    → Reads s at P₂ enc₂ view₂ o
recast {s} {at} {enc} (found a) P₂ enc₂ view₂ f to from =
    let t = to a.val a.fine a.has in
    found (record {
      val = f a.val;
      fine = t.0;
      has = subst (Has s at) (sym t.1) a.has;
      seen = a.seen ∙ sym t.2;
      next = a.next ∙ ap (λ (l : List ℕ). at + length l) (sym t.1);
      only = λ y p h.
          let g = from y p h in
          sym g.3 ∙ ap f (a.only g.0 g.1 (subst (Has s at) (sym g.2) h));
    })
recast {s} {at} (lacks no_one) P₂ enc₂ view₂ f to from =
    lacks (λ y p h. let g = from y p h in no_one g.0 g.1 (subst (Has s at) (sym g.2) h))

-- a test, then an answer
pub guarded : {X R : Type 0} {s : List ℕ} {at : ℕ} {P : X → Type 0} {enc : X → List ℕ} {view : X → R} {o : Got R} (b : Bool)
    → (T b → Reads s at P enc view o) → ((x : X) → P x → Has s at (enc x) → T b) → Reads s at P enc view (guard b o)
unfolding guard
guarded true yes' no' = yes' tt
guarded false yes' no' = lacks no'

-- an answer, then another from there
module _ {X Y Q : Type 0} (s : List ℕ) (at : ℕ) (P : X → Type 0) (enc : X → List ℕ)
    (P₂ : X → Y → Type 0) (enc₂ : X → Y → List ℕ) (view₂ : X → Y → Q) (x : X)
    (p : P x) (h : Has s at (enc x)) (u : (w : X) → P w → Has s at (enc w) → w ≡ x) where
  -- what a pair at the place says: its first is x, and its second stands after x
  split_pair : (w : X) (y : Y) → P w → P₂ w y → Has s at (enc w ++ enc₂ w y)
      → (w ≡ x) × P₂ x y × Has s (at + length (enc x)) (enc₂ x y)
  split_pair w y q q₂ k =
      let e : w ≡ x = u w q (has_left s at (enc w) (enc₂ w y) k) in (
        e,
        subst (λ (z : X). P₂ z y) e q₂,
        subst (λ (z : X). Has s (at + length (enc z)) (enc₂ z y)) e (has_right s at (enc w) (enc₂ w y) k),
      )

  after : {o : Got Q} → Reads s (at + length (enc x)) (P₂ x) (enc₂ x) (view₂ x) o
      → Reads s at (λ (v : X × Y). P v.0 × P₂ v.0 v.1) (λ (v : X × Y). enc v.0 ++ enc₂ v.0 v.1)
      (λ (v : X × Y). view₂ v.0 v.1) o
  after (found a) =
      found (record {
        val = (x, a.val);
        fine = (p, a.fine);
        has = has_join s at (enc x) (enc₂ x a.val) h a.has;
        seen = a.seen;
        next = a.next ∙ omega (arith, length-append (enc x) (enc₂ x a.val));
        only = λ w q k.
            let t = split_pair w.0 w.1 q.0 q.1 k in
            ap₂ (λ (b : X) (c : Y). (b, c)) t.0 (a.only w.1 t.1 t.2);
      })
  after (lacks no_one) =
      lacks (λ w q k. let t = split_pair w.0 w.1 q.0 q.1 k in no_one w.1 t.1 t.2)

pub seq : {X Y R Q : Type 0} {s : List ℕ} {at : ℕ} {P : X → Type 0} {enc : X → List ℕ} {view : X → R} {o : Got R}
    {P₂ : X → Y → Type 0} {enc₂ : X → Y → List ℕ} {view₂ : X → Y → Q} (k : R → ℕ → Got Q)
    → Reads s at P enc view o
    → ((x : X) → P x → Has s at (enc x) → Reads s (at + length (enc x)) (P₂ x) (enc₂ x) (view₂ x) (k (view x) (at + length (enc x))))
    → Reads s at (λ (v : X × Y). P v.0 × P₂ v.0 v.1) (λ (v : X × Y). enc v.0 ++ enc₂ v.0 v.1)
    (λ (v : X × Y). view₂ v.0 v.1) (bind o k)
unfolding bind
seq {s} {at} {P} {enc} {view} {P₂} {enc₂} {view₂} k (found {r} {n} a) f =
    after s at P enc P₂ enc₂ view₂ a.val a.fine a.has a.only
    (rw (a.seen, a.next) (f a.val a.fine a.has))
seq {s} {at} {enc} {enc₂} k (lacks no_one) f =
    lacks (λ w q h. no_one w.0 q.0 (has_left s at (enc w.0) (enc₂ w.0 w.1) h))

-- fixed bytes, then an answer from behind them
pub behind : {X R : Type 0} {s : List ℕ} {at : ℕ} {P : X → Type 0} {enc : X → List ℕ} {view : X → R} {o : Got R} (b : List ℕ)
    → Has s at b → Reads s (at + length b) P enc view o → Reads s at P (λ (x : X). b ++ enc x) view o
behind {s} {at} {enc} b h (found a) =
    found (record {
      val = a.val;
      fine = a.fine;
      has = has_join s at b (enc a.val) h a.has;
      seen = a.seen;
      next = a.next ∙ omega (arith, length-append b (enc a.val));
      only = λ w q k. a.only w q (has_right s at b (enc w) k);
    })
behind {s} {at} {enc} b h (lacks no_one) = lacks (λ w q k. no_one w q (has_right s at b (enc w) k))

pub keyed : {X R : Type 0} {s : List ℕ} {at : ℕ} {P : X → Type 0} {enc : X → List ℕ} {view : X → R} {o : Got R} (b : List ℕ)
    → Reads s (at + length b) P enc view o
    → Reads s at P (λ (x : X). b ++ enc x) view (guard (has_at s at b) o)
keyed {s} {at} {enc} b r =
    guarded (has_at s at b) (λ t. behind b (has_at_yes s at b t) r)
    (λ x p h. yes_has_at s at b (has_left s at b (enc x) h))

-- an answer, then a test of what was read, and another form of the answer
pub refine : {X R Q : Type 0} {s : List ℕ} {at : ℕ} {P : X → Type 0} {enc : X → List ℕ} {view : X → R} {o : Got R}
    → Reads s at P enc view o
    → (C : X → Type 0) (view₂ : X → Q) (b : R → ℕ → Bool) (f : R → ℕ → Q)
    → ((x : X) → P x → Has s at (enc x) →
    (T (b (view x) (at + length (enc x))) ↔ C x) × (f (view x) (at + length (enc x)) ≡ view₂ x))
    → Reads s at (λ (x : X). P x × C x) enc view₂ (bind o (λ r n. guard (b r n) (got (f r n) n)))
unfolding bind guard
refine {R} {Q} {s} {at} {P} {enc} {view} (found {r} {n} a) C view₂ b f is =
    let x = a.val in
    rw (a.seen, a.next) (go (b (view x) (at + length (enc x))) (is x a.fine a.has).0)
  where
    go : (c : Bool) → (T c ↔ C a.val) → Reads s at (λ x. P x × C x) enc view₂
        (guard c (got (f (view a.val) (at + length (enc a.val))) (at + length (enc a.val))))
    go true e =
        found (record {
          val = a.val;
          fine = (a.fine, e.0 tt);
          has = a.has;
          seen = (is a.val a.fine a.has).1;
          next = refl;
          only = λ w q k. a.only w q.0 k;
        })
    go false e = lacks (λ w q k. e.1 (subst C (a.only w q.0 k) q.1))
refine (lacks no_one) C view₂ b f is = lacks (λ w q k. no_one w q.0 k)

-- another form of the answer
pub mapped : {X R Q : Type 0} {s : List ℕ} {at : ℕ} {P : X → Type 0} {enc : X → List ℕ} {view : X → R} {o : Got R}
    → Reads s at P enc view o
    → (view₂ : X → Q) (f : R → ℕ → Q)
    → ((x : X) → P x → Has s at (enc x) → f (view x) (at + length (enc x)) ≡ view₂ x)
    → Reads s at P enc view₂ (bind o (λ r n. got (f r n) n))
unfolding bind
mapped {view} (found {r} {n} a) view₂ f is =
    found (record {
      val = a.val;
      fine = a.fine;
      has = a.has;
      seen = ap₂ f a.seen a.next ∙ is a.val a.fine a.has;
      next = a.next;
      only = a.only;
    })
mapped (lacks no_one) view₂ f is = lacks no_one

bind_guard : {R Q : Type 0} (o : Got R) (b : R → ℕ → Bool) (k : R → ℕ → Got Q)
    → bind (bind o (λ r n. guard (b r n) (got r n))) k ≡ bind o (λ r n. guard (b r n) (k r n))
unfolding bind guard
bind_guard (got r n) b k = go (b r n)
  where
    go : (c : Bool) → bind (guard c (got r n)) k ≡ guard c (k r n)
    go true = refl
    go false = refl
bind_guard refused b k = refl

-- an answer, a test of what was read, then another answer from there
pub checked : {X Y R Q : Type 0} {s : List ℕ} {at : ℕ} {P : X → Type 0} {enc : X → List ℕ} {view : X → R} {o : Got R}
    {P₂ : X → Y → Type 0} {enc₂ : X → Y → List ℕ} {view₂ : X → Y → Q} (b : R → ℕ → Bool) (k : R → ℕ → Got Q) (C : X → Type 0)
    → Reads s at P enc view o
    → ((x : X) → P x → Has s at (enc x) → T (b (view x) (at + length (enc x))) ↔ C x)
    → ((x : X) → P x → C x → Has s at (enc x) → Reads s (at + length (enc x)) (P₂ x) (enc₂ x) (view₂ x) (k (view x) (at + length (enc x))))
    → Reads s at (λ (v : X × Y). (P v.0 × C v.0) × P₂ v.0 v.1) (λ (v : X × Y). enc v.0 ++ enc₂ v.0 v.1)
    (λ (v : X × Y). view₂ v.0 v.1) (bind o (λ r n. guard (b r n) (k r n)))
checked {view} {o} b k C r is f =
    rw (← (bind_guard o b k))
    (seq k (refine r C view b (λ r n. r) (λ x p h. (is x p h, refl))) (λ x p h. f x p.0 p.1 h))
