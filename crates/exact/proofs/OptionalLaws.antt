-- An optional key with its value, and what follows it (specs/Reads.antt). Assumes nothing.
use mathlib.Core.Path.{◌≡◌, refl, sym, subst}
use mathlib.Core.Bool.{Bool, true, false}
use mathlib.Core.List.{List, ◌++◌, append_assoc}
use mathlib.Core.Option.{Option, none, some}
use Prim.Native.Nat.{ℕ, ◌+◌}
use native.Mathlib.Nat.{add-zero}
use native.Mathlib.Omega.{arith}
use lib.ListN.{length, length-append}
use lib.Dec.{T}
use Rattle.octets.specs.Bytes.{Has, has_at}
use Rattle.exact.specs.Reads.{Got, got, refused, Reads, bind, opt_at, enc_opt, OptOk, view_opt}
use Rattle.octets.proofs.BytesLaws.{has_nil, has_left, has_join, has_at_yes, yes_has_at}
use Rattle.exact.proofs.ReadsLaws.{recast, behind, seq}

bind_some : {R Q : Type 0} (o : Got R) (k : Option R → ℕ → Got Q)
    → bind (bind o (λ r n. got (some r) n)) k ≡ bind o (λ r n. k (some r) n)
unfolding bind
bind_some (got r n) k = refl
bind_some refused k = refl

-- An optional key, its value, and what follows. Absent is a reading only where what follows cannot be taken for the key.
pub optional : {X Y R Q : Type 0} {s : List ℕ} {at : ℕ} {P : X → Type 0} {enc : X → List ℕ} {view : X → R} {o : Got R}
    {P₂ : Option X → Y → Type 0} {enc₂ : Option X → Y → List ℕ} {view₂ : Option X → Y → Q} (k : Option R → ℕ → Got Q) (b : List ℕ)
    → Reads s (at + length b) P enc view o
    → ((x : Option X) → OptOk P x → Has s at (enc_opt b enc x) →
    Reads s (at + length (enc_opt b enc x)) (P₂ x) (enc₂ x) (view₂ x) (k (view_opt view x) (at + length (enc_opt b enc x))))
    → ((y : Y) → P₂ none y → Has s at (enc₂ none y) → Has s at b → ⊥)
    → Reads s at (λ (v : Option X × Y). OptOk P v.0 × P₂ v.0 v.1) (λ (v : Option X × Y). enc_opt b enc v.0 ++ enc₂ v.0 v.1)
    (λ (v : Option X × Y). view₂ v.0 v.1) (bind (opt_at (has_at s at b) o at) k)
unfolding bind opt_at
optional {X} {Y} {R} {Q} {s} {at} {P} {enc} {view} {o} {P₂} {enc₂} {view₂} k b r f apart =
    go (has_at s at b) (has_at_yes s at b) (yes_has_at s at b)
  where
    P' : Option X × Y → Type 0
    P' v = OptOk P v.0 × P₂ v.0 v.1

    enc' : Option X × Y → List ℕ
    enc' v = enc_opt b enc v.0 ++ enc₂ v.0 v.1

    view' : Option X × Y → Q
    view' v = view₂ v.0 v.1

    from_absent : ((h : Has s at b) → ⊥) → (v : Option X × Y) → P' v → Has s at (enc' v)
        → (y : Y) × P₂ none y × (enc₂ none y ≡ enc' v) × (◌≡◌ {A = Option X × Y} (none, y) v)
    from_absent no_key v =
        elim v.0 as (λ x. P' (x, v.1) → Has s at (enc' (x, v.1)) → (y : Y) × P₂ none y × (enc₂ none y ≡ enc' (x, v.1))
        × (◌≡◌ {A = Option X × Y} (none, y) (x, v.1))) [
          | none ↦ λ p h. (v.1, p.1, refl, refl)
          | some x ↦ λ p h. absurd (no_key (has_left s at b (enc x) (has_left s at (b ++ enc x) (enc₂ (some x) v.1) h)))
        ]

    from_present : Has s at b → (v : Option X × Y) → P' v → Has s at (enc' v)
        → (z : X × Y) × (P z.0 × P₂ (some z.0) z.1) × (b ++ (enc z.0 ++ enc₂ (some z.0) z.1) ≡ enc' v)
        × (◌≡◌ {A = Option X × Y} (some z.0, z.1) v)
    from_present key v =
        elim v.0 as (λ x. P' (x, v.1) → Has s at (enc' (x, v.1)) → (z : X × Y) × (P z.0 × P₂ (some z.0) z.1)
        × (b ++ (enc z.0 ++ enc₂ (some z.0) z.1) ≡ enc' (x, v.1)) × (◌≡◌ {A = Option X × Y} (some z.0, z.1) (x, v.1))) [
          | none ↦ λ p h. absurd (apart v.1 p.1 h key)
          | some x ↦ λ p h. ((x, v.1), p, sym (append_assoc b (enc x) (enc₂ (some x) v.1)), refl)
        ]

    go : (c : Bool) → (T c → Has s at b) → (Has s at b → T c) → Reads s at P' enc' view' (bind (opt_at c o at) k)
    go true yes' no' =
        let key : Has s at b = yes' tt in
        rw (bind_some o k)
        (recast
        (behind b key
        (seq (λ r n. k (some r) n) r
        (λ x p h.
        subst (λ (n : ℕ). Reads s n (P₂ (some x)) (enc₂ (some x)) (view₂ (some x)) (k (some (view x)) n))
        (omega (arith, length-append b (enc x)))
        (f (some x) p (has_join s at b (enc x) key h)))))
        P' enc' view' (λ z. (some z.0, z.1))
        (λ z p h. (p, append_assoc b (enc z.0) (enc₂ (some z.0) z.1), refl))
        (from_present key))
    go false yes' no' =
        recast (rw add-zero at (f none tt (has_nil s at)))
        P' enc' view' (λ y. (none, y))
        (λ y p h. ((tt, p), refl, refl))
        (from_absent no')
