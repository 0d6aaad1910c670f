-- Laws of what holds of an answer, for each way in which readers are put together (specs/Holds.antt). Assumes nothing.
use mathlib.Core.Path.{◌≡◌, refl, sym, subst}
use mathlib.Core.Bool.{Bool, true, false}
use mathlib.Core.Option.{Option, none, some}
use Prim.Native.Nat.{ℕ, zero, suc}
use lib.Dec.{T}
use Rattle.exact.specs.Reads.{Got, got, refused, bind, guard, opt_at, many}
use Rattle.exact.specs.Holds.{Holds}

-- what holds of an answer holds of what was answered
pub held : {R : Type 0} {o : Got R} {r : R} {n : ℕ} (P : R → ℕ → Type 0) → Holds P o → got r n ≡ o → P r n
held P h e = subst (Holds P) (sym e) h

-- what is known of an answer and of what was answered
pub holds_of : {R : Type 0} (P : R → ℕ → Type 0) (o : Got R) → ((r : R) (n : ℕ) → got r n ≡ o → P r n) → Holds P o
holds_of P (got r n) f = f r n refl
holds_of P refused f = tt

-- what follows from what holds of an answer
pub holds_map : {R : Type 0} (P P₂ : R → ℕ → Type 0) (o : Got R) → Holds P o → ((r : R) (n : ℕ) → P r n → P₂ r n) → Holds P₂ o
holds_map P P₂ (got r n) h f = f r n h
holds_map P P₂ refused h f = tt

-- a reader and then another
pub holds_bind : {R Q : Type 0} (P : R → ℕ → Type 0) (P₂ : Q → ℕ → Type 0) (o : Got R) (k : R → ℕ → Got Q)
    → Holds P o → ((r : R) (n : ℕ) → P r n → Holds P₂ (k r n)) → Holds P₂ (bind o k)
unfolding bind
holds_bind P P₂ (got r n) k h f = f r n h
holds_bind P P₂ refused k h f = tt

-- a reader of which nothing is needed, and then another
pub holds_then : {R Q : Type 0} (P : Q → ℕ → Type 0) (o : Got R) (k : R → ℕ → Got Q) → ((r : R) (n : ℕ) → Holds P (k r n))
    → Holds P (bind o k)
unfolding bind
holds_then P (got r n) k f = f r n
holds_then P refused k f = tt

-- a test and then a reader
pub holds_guard : {R : Type 0} (P : R → ℕ → Type 0) (b : Bool) (o : Got R) → (T b → Holds P o) → Holds P (guard b o)
unfolding guard
holds_guard P true o h = h tt
holds_guard P false o h = tt

-- an optional value
pub holds_opt : {R : Type 0} (P : Option R → ℕ → Type 0) (b : Bool) (o : Got R) (at : ℕ) → P none at → Holds (λ r n. P (some r) n) o
    → Holds P (opt_at b o at)
unfolding opt_at bind
holds_opt P true (got r n) at z h = h
holds_opt P true refused at z h = tt
holds_opt P false o at z h = z

-- elements one after the other, where each keeps I for one more
pub holds_many : {A : Type 0} (I : A → ℕ → Type 0) (step : A → ℕ → Got A)
    → ((a : A) (at : ℕ) → I a at → Holds I (step a at)) → (n : ℕ) (a : A) (at : ℕ) → I a at → Holds I (many step n a at)
unfolding many
holds_many I step each zero a at i = i
holds_many I step each (suc n) a at i = holds_bind I I (step a at) (λ a' at'. many step n a' at') (each a at i)
    (λ a' at' i'. holds_many I step each n a' at' i')

-- the test of its key holds, where an optional value is there
abbrev KeyHeld : {R : Type 0} → Bool → Option R → ℕ → Type 0
KeyHeld b none n = Unit {0}
KeyHeld b (some r) n = T b

-- an optional value is there only where that test holds
opt_held : {R : Type 0} (b : Bool) (o : Got R) (at : ℕ) → Holds (KeyHeld b) (opt_at b o at)
unfolding opt_at bind
opt_held true (got r n) at = tt
opt_held true refused at = tt
opt_held false o at = tt

-- the same of an answer
pub opt_key : {R : Type 0} {r : R} {n : ℕ} (b : Bool) (o : Got R) (at : ℕ) → got (some r) n ≡ opt_at b o at → T b
opt_key b o at e = held (KeyHeld b) (opt_held b o at) e
