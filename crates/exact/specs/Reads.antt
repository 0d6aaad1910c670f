-- What it means that a reader is exact, and the ways in which readers are put together. A reader looks at the bytes of s from a place
-- on. It answers a result and the place after what it read, or it refuses. It is exact for a kind of values when it answers exactly
-- where the encoding of an allowed value of that kind stands, when no other allowed value's encoding stands there, and when its result
-- is what is to be seen of that value.
use Rattle.std.specs.Prelude.{◌≡◌, Bool, true, false, List, [], ◌∷◌, ◌++◌, ℕ, zero, suc, ◌+◌, length}
use Rattle.std.proofs.Math.Option.{Option, none, some}
use Rattle.octets.specs.Bytes.{Has}

-- what a reader answers: a result and the place after what was read, or a refusal
pub data Got (R : Type 0) : Type 0 where
  got : R → ℕ → Got R
  refused : Got R

-- at the place `at` of s stands the encoding of one allowed value and of no other; r is what is seen of it, and n the place after it
pub record One {X R : Type 0} (s : List ℕ) (at : ℕ) (Allowed : X → Type 0) (encode : X → List ℕ) (view : X → R)
    (r : R) (n : ℕ) : Type 0 where
  pub val : X
  pub fine : Allowed val
  pub has : Has s at (encode val)
  pub seen : r ≡ view val
  pub next : n ≡ at + length (encode val)
  pub only : (w : X) → Allowed w → Has s at (encode w) → w ≡ val

-- the answer of a reader at the place `at` of s is exact: a result for the one allowed value that stands there, a refusal where none does
pub data Reads {X R : Type 0} (s : List ℕ) (at : ℕ) (Allowed : X → Type 0) (encode : X → List ℕ) (view : X → R) : Got R → Type 0 where
  found : {r : R} {n : ℕ} → One s at Allowed encode view r n → Reads s at Allowed encode view (got r n)
  lacks : ((w : X) → Allowed w → Has s at (encode w) → ⊥) → Reads s at Allowed encode view refused

-- ---- readers made of readers

-- a reader, and then another from the place after it
unfoldable pub bind : {R Q : Type 0} → Got R → (R → ℕ → Got Q) → Got Q
bind (got r n) k = k r n
bind refused k = refused

-- a test, and then a reader
unfoldable pub guard : {R : Type 0} → Bool → Got R → Got R
guard true o = o
guard false o = refused

-- a reader of an optional value, by the test whether its key stands at the place; absent passes no byte
unfoldable pub opt_at : {R : Type 0} → Bool → Got R → ℕ → Got (Option R)
opt_at true o at = bind o (λ r n. got (some r) n)
opt_at false o at = got none at

-- n elements one after the other, with a state that each reads and changes
unfoldable pub many : {A : Type 0} → (A → ℕ → Got A) → ℕ → A → ℕ → Got A
many step zero a at = got a at
many step (suc n) a at = bind (step a at) (λ a' at'. many step n a' at')

-- ---- encodings made of encodings

-- an optional value: nothing where it is absent, else its key and its encoding
abbrev pub enc_opt : {X : Type 0} → List ℕ → (X → List ℕ) → Option X → List ℕ
enc_opt key encode none = []
enc_opt key encode (some x) = key ++ encode x

-- an optional value is allowed when it is absent or its value is
abbrev pub OptOk : {X : Type 0} → (X → Type 0) → Option X → Type 0
OptOk Allowed none = Unit {0}
OptOk Allowed (some x) = Allowed x

-- what is seen of an optional value
abbrev pub view_opt : {X R : Type 0} → (X → R) → Option X → Option R
view_opt view none = none
view_opt view (some x) = some (view x)

-- the encodings of a list's elements, one after the other
abbrev pub enc_all : {X : Type 0} → (X → List ℕ) → List X → List ℕ
enc_all encode [] = []
enc_all encode (x ∷ xs) = encode x ++ enc_all encode xs

-- each element is allowed after those before it, of which g keeps what counts
abbrev pub AllFrom : {X G : Type 0} → (G → X → Type 0) → (G → X → G) → G → List X → Type 0
AllFrom ok step g [] = Unit {0}
AllFrom ok step g (x ∷ xs) = ok g x × AllFrom ok step (step g x) xs

-- what is seen of a list whose first element stands at the place `at`
abbrev pub view_all : {X A : Type 0} → (X → List ℕ) → (A → X → ℕ → A) → A → ℕ → List X → A
view_all encode view a at [] = a
view_all encode view a at (x ∷ xs) = view_all encode view (view a x at) (at + length (encode x)) xs
