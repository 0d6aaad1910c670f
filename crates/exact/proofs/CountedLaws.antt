-- A counted list of elements, read one after the other with a state (specs/Reads.antt). Assumes nothing.
use mathlib.Core.Path.{◌≡◌, refl, sym, ap, ◌∙◌}
use mathlib.Core.List.{List, [], ◌∷◌, ◌++◌}
use Prim.Native.Nat.{ℕ, zero, suc, ◌+◌, ◌-◌, ◌≤◌, ◌<◌}
use native.Mathlib.Nat.{add-zero}
use native.Mathlib.Omega.{arith}
use lib.ListN.{length, take, get_or, length-append}
use Rattle.octets.specs.Bytes.{Has}
use Rattle.exact.specs.Reads.{Got, got, refused, Reads, found, many, enc_all, AllFrom, view_all}
use Rattle.octets.proofs.BytesLaws.{has_nil, has_left, has_right}
use Rattle.exact.proofs.ReadsLaws.{bind_got, bind_refused, recast, seq}

pub many_zero : {A : Type 0} (step : A → ℕ → Got A) (a : A) (at : ℕ) → many step 0 a at ≡ got a at
unfolding many
many_zero step a at = refl

-- one element of those that are left
pub many_got : {A : Type 0} (step : A → ℕ → Got A) (n : ℕ) (a : A) (at : ℕ) (a' : A) (at' : ℕ) → 0 < n → got a' at' ≡ step a at
    → many step n a at ≡ many step (n - 1) a' at'
unfolding many
many_got step zero a at a' at' h e = absurd (omega arith)
many_got step (suc n) a at a' at' h e =
    let l : suc n - 1 ≡ n = omega arith in
    bind_got (step a at) (λ x y. many step n x y) a' at' e ∙ ap (λ (k : ℕ). many step k a' at') (sym l)

pub many_refused : {A : Type 0} (step : A → ℕ → Got A) (n : ℕ) (a : A) (at : ℕ) → 0 < n → refused ≡ step a at → many step n a at ≡ refused
unfolding many
many_refused step zero a at h e = absurd (omega arith)
many_refused step (suc n) a at h e = bind_refused (step a at) (λ x y. many step n x y) e

-- the same for a loop that has done i of n
pub many_begin : {A : Type 0} (step : A → ℕ → Got A) (n : ℕ) (a : A) (at : ℕ) → many step (n - 0) a at ≡ many step n a at
many_begin step n a at = let e : n - 0 ≡ n = omega arith in ap (λ (k : ℕ). many step k a at) e

pub many_next : {A : Type 0} {a' : A} {at' : ℕ} (step : A → ℕ → Got A) (a : A) (at : ℕ) (n i : ℕ) → i < n → got a' at' ≡ step a at
    → many step (n - i) a at ≡ many step (n - (i + 1)) a' at'
many_next {a'} {at'} step a at n i h e =
    let l : n - i - 1 ≡ n - (i + 1) = omega arith in
    many_got step (n - i) a at a' at' (omega arith) e ∙ ap (λ (k : ℕ). many step k a' at') l

pub many_stop : {A : Type 0} (step : A → ℕ → Got A) (a : A) (at : ℕ) (n i : ℕ) → i < n → refused ≡ step a at
    → refused ≡ many step (n - i) a at
many_stop step a at n i h e = sym (many_refused step (n - i) a at (omega arith) e)

pub many_done : {A : Type 0} (step : A → ℕ → Got A) (n i : ℕ) (a : A) (at : ℕ) → n ≤ i → got a at ≡ many step (n - i) a at
many_done step n i a at h = let e : 0 ≡ n - i = omega arith in sym (many_zero step a at) ∙ ap (λ (k : ℕ). many step k a at) e

module _ {X A G : Type 0} (s : List ℕ) (enc : X → List ℕ) (ok : G → X → Type 0) (step_g : G → X → G) (inv : A → G → Type 0)
    (view : A → X → ℕ → A) (step : A → ℕ → Got A)
    (each : (a : A) (g : G) (at : ℕ) → inv a g → Reads s at (ok g) enc (λ (x : X). view a x at) (step a at))
    (keep : (a : A) (g : G) (at : ℕ) (x : X) → inv a g → ok g x → Has s at (enc x) → inv (view a x at) (step_g g x)) where
  pub counted : (n : ℕ) (a : A) (g : G) (at : ℕ) → inv a g
      → Reads s at (λ (xs : List X). (length xs ≡ n) × AllFrom ok step_g g xs) (enc_all enc) (view_all enc view a at) (many step n a at)
  unfolding many
  counted zero a g at i =
      found {n = at} (record {
        val = [];
        fine = (refl, tt);
        has = has_nil s at;
        seen = refl;
        next = omega arith;
        only = λ w q k. elim w as (λ z. length z ≡ 0 → z ≡ []) [ [] ↦ λ e. refl | x ∷ xs ↦ λ e. absurd (omega arith) ] q.0;
      })
  counted (suc n) a g at i =
      recast
      (seq (λ a' at'. many step n a' at') (each a g at i)
      (λ x p h. counted n (view a x at) (step_g g x) (at + length (enc x)) (keep a g at x i p h)))
      (λ xs. (length xs ≡ suc n) × AllFrom ok step_g g xs) (enc_all enc) (view_all enc view a at) (λ v. v.0 ∷ v.1)
      (λ v p h. ((ap suc p.1.0, (p.0, p.1.1)), refl, refl))
      (λ w. elim w as (λ z. (length z ≡ suc n) × AllFrom ok step_g g z → Has s at (enc_all enc z) → (v : X × List X)
      × (ok g v.0 × ((length v.1 ≡ n) × AllFrom ok step_g (step_g g v.0) v.1))
      × (enc v.0 ++ enc_all enc v.1 ≡ enc_all enc z) × (v.0 ∷ v.1 ≡ z)) [
        | [] ↦ λ p h. absurd (omega (arith, p.0))
        | x ∷ xs ↦ λ p h. ((x, xs), (p.1.0, (omega arith, p.1.1)), refl, refl)
      ])

-- where the i-th element of a list stands
pub all_at : {X : Type 0} (s : List ℕ) (enc : X → List ℕ) (at : ℕ) (xs : List X) (i : ℕ) (d : X) → i < length xs → Has s at (enc_all enc xs)
    → Has s (at + length (enc_all enc (take i xs))) (enc (get_or xs i d))
all_at s enc at [] i d h k = absurd (omega arith)
all_at s enc at (x ∷ xs) zero d h k = rw add-zero (has_left s at (enc x) (enc_all enc xs) k)
all_at s enc at (x ∷ xs) (suc i) d h k =
    let e : at + length (enc x) + length (enc_all enc (take i xs)) ≡ at + length (enc x ++ enc_all enc (take i xs)) =
    omega (arith, length-append (enc x) (enc_all enc (take i xs))) in
    rw e at (all_at s enc (at + length (enc x)) xs i d (omega arith) (has_right s at (enc x) (enc_all enc xs) k))
