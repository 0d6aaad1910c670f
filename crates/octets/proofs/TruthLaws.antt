-- Tests and what they say: a test as a type and as an equation, and the tests of numbers and bytes. Assumes nothing.
use mathlib.Core.Path.{◌≡◌, refl, sym}
use mathlib.Core.Logic.{◌↔◌}
use mathlib.Core.Bool.{Bool, true, false, not, ◌&&◌, false≢true}
use mathlib.Core.List.{List}
use Prim.Native.Nat.{ℕ, ◌≤◌, ◌<◌}
use lib.Dec.{T, leb, ltb, eqb, leb→le, le→leb, ltb→lt, lt→ltb, eqb→eq}
use mir.Facts.{and_yes, yes_and, yes_eqb}
use Rattle.octets.specs.Bytes.{same}
use Rattle.octets.proofs.BytesLaws.{same_eq, same_refl}

-- two numbers are equal
pub eqb_test : (m n : ℕ) → T (eqb m n) ↔ (m ≡ n)
eqb_test m n = (eqb→eq m n, λ e. yes_eqb e)

-- a number is at most another
pub leb_test : (m n : ℕ) → T (leb m n) ↔ (m ≤ n)
leb_test m n = (leb→le m n, le→leb m n)

-- a number is below another
pub ltb_test : (m n : ℕ) → T (ltb m n) ↔ (m < n)
ltb_test m n = (ltb→lt m n, lt→ltb m n)

-- two lists of bytes are equal
pub same_test : (xs ys : List ℕ) → T (same xs ys) ↔ (xs ≡ ys)
same_test xs ys = (same_eq xs ys, λ e. rw e (same_refl ys))

-- two tests hold both
pub and_test : {A B : Type 0} (a b : Bool) → (T a ↔ A) → (T b ↔ B) → T (a && b) ↔ (A × B)
and_test a b f g = (λ t. let p = and_yes a b t in (f.0 p.0, g.0 p.1), λ q. yes_and a b (f.1 q.0) (g.1 q.1))

-- a test holds exactly where it is true
pub T_true : (b : Bool) → T b ↔ (b ≡ true)
T_true true = (λ t. refl, λ e. tt)
T_true false = (λ t. absurd t, λ e. false≢true e)

-- its negation holds exactly where it is false
pub T_false : (b : Bool) → T (not b) ↔ (b ≡ false)
T_false true = (λ t. absurd t, λ e. false≢true (sym e))
T_false false = (λ t. refl, λ e. tt)
