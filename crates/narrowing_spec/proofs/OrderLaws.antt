-- The order of narrowing's answers: 21, then 1 and 2, then 19. Assumes nothing.
use Rattle.std.specs.Prelude.{Ok, Err}
use mathlib.Core.Path.{◌≡◌, refl, sym, ap, ◌∙◌, subst}
use mathlib.Core.Logic.{◌↔◌}
use mathlib.Core.Bool.{Bool, true, false, cond, ◌&&◌}
use mathlib.Core.List.{List}
use Rattle.std.specs.Prelude.{Option, None, Some}
use Prim.Native.Nat.{ℕ}
use native.Mathlib.Omega.{arith}
use lib.Dec.{T}
use Rattle.octets.specs.Bytes.{AreBytes}
use Rattle.octets.proofs.Tests.{and_left, and_right, and_both}
use Rattle.descriptor_spec.specs.Model.{Descriptor, encode}
use Rattle.descriptor_spec.specs.Allowed.{Allowed}
use Rattle.descriptor_spec.specs.Reader.{Seen, Answer, read, structure, validity, read_of}
use Rattle.descriptor_spec.specs.View.{descriptor_view}
use Rattle.descriptor_spec.proofs.Laws.{reads_exactly}
use Rattle.narrowing_spec.specs.Narrow.{Narrowing}
use Rattle.narrowing_spec.specs.declared.NarrowingError.TheVariants.{NoParent, Structure, Validity, Constrained, Period}
use Rattle.narrowing_spec.specs.declared.NarrowingError.TheVariants.{NotCovered}
use Rattle.narrowing_spec.specs.Escape.{Rule, first_rule}
use Rattle.narrowing_spec.specs.Narrow.{narrow, compared, under_parent, with_parent, unconstrained, period_within, rules_in, answer_at}
use Rattle.narrowing_spec.specs.Promises.{NoPairs}
use Rattle.narrowing_spec.proofs.NumberLaws.{number}
use Rattle.narrowing_spec.proofs.ReadLaws.{pairs_none}

-- an answer that comes after the constraints
abbrev later : Narrowing → Bool
later (Ok tt) = true
later (Err NoParent) = false
later (Err Structure) = false
later (Err Validity) = false
later (Err Constrained) = false
later (Err Period) = true
later (Err (NotCovered i m k)) = true

abbrev Later : Narrowing → Type 0
Later n = T (later n)

-- the grants answer 0 or 20
grants_later : (qs cs : List Rule) (o : Option ℕ) → Later (answer_at qs cs o)
grants_later qs cs None = tt
grants_later qs cs (Some i) = tt

-- and the period 18
period_later : (b : Bool) (n : Narrowing) → Later n → Later (cond b n (Err Period))
period_later true n l = l
period_later false n l = tt

-- the answer for two that read, after the constraints
abbrev pub after : List ℕ → Seen → List ℕ → Seen → Narrowing
after s v t w = cond (period_within v w) (answer_at (rules_in s v) (rules_in t w) (first_rule (rules_in s v) (rules_in t w))) (Err Period)

-- is such an answer
after_later : (s : List ℕ) (v : Seen) (t : List ℕ) (w : Seen) → Later (after s v t w)
after_later s v t w = period_later (period_within v w) _ (grants_later (rules_in s v) (rules_in t w) (first_rule (rules_in s v) (rules_in t w)))

-- with the constraints, none of 1, 2 and 21 is answered
with_constraints : (b : Bool) (n : Narrowing) → Later n
    → (cond b n (Err Constrained) ≡ Err Structure → ⊥) × (cond b n (Err Constrained) ≡ Err Validity → ⊥) × (cond b n (Err Constrained) ≡ Err NoParent → ⊥)
with_constraints true n l = (λ e. subst Later e l, λ e. subst Later e l, λ e. subst Later e l)
with_constraints false n l = (λ e. omega (arith, number e), λ e. omega (arith, number e), λ e. omega (arith, number e))

-- so it is for two that read
both_read : (s : List ℕ) (v : Seen) (t : List ℕ) (w : Seen)
    → (compared s v t w ≡ Err Structure → ⊥) × (compared s v t w ≡ Err Validity → ⊥) × (compared s v t w ≡ Err NoParent → ⊥)
unfolding compared
both_read s v t w = with_constraints (unconstrained v && unconstrained w) (after s v t w) (after_later s v t w)

-- narrowing begins with the parent
begins : (s t : List ℕ) → narrow s t ≡ with_parent s (read_of s) t
unfolding narrow
begins s t = refl

-- and goes on with the child
pub goes_on : (s t : List ℕ) (v : Seen) → read_of s ≡ read v → narrow s t ≡ under_parent s v t (read_of t)
goes_on s t v e = begins s t ∙ ap (λ (r : Answer). with_parent s r t) e

-- two that read are compared: the constraints come first
pub both_as : (s t : List ℕ) (v w : Seen) → read_of s ≡ read v → read_of t ≡ read w
    → narrow s t ≡ cond (unconstrained v && unconstrained w) (after s v t w) (Err Constrained)
unfolding compared
both_as s t v w e f = goes_on s t v e ∙ ap (under_parent s v t) f

-- the encoding of an allowed descriptor is read as it
pub read_as : (s : List ℕ) (d : Descriptor) → AreBytes s → Allowed d → s ≡ encode d → read_of s ≡ read (descriptor_view 0 d)
read_as s d b a e = (reads_exactly s b (descriptor_view 0 d)).1 (d, a, e, refl)

-- 21 exactly when the parent doesn't read
pub order_parent : (s t : List ℕ) → (narrow s t ≡ Err NoParent) ↔ ((v : Seen) → read_of s ≡ read v → ⊥)
order_parent s t = (λ h v e. under v (read_of t) (sym (goes_on s t v e) ∙ h), λ f. begins s t ∙ go f (read_of s) refl)
  where
    under : (v : Seen) (r : Answer) → under_parent s v t r ≡ Err NoParent → ⊥
    under v (read w) e = (both_read s v t w).2 e
    under v structure e = omega (arith, number e)
    under v validity e = omega (arith, number e)

    go : ((v : Seen) → read_of s ≡ read v → ⊥) → (r : Answer) → read_of s ≡ r → with_parent s r t ≡ Err NoParent
    go f (read v) q = absurd (f v q)
    go f structure q = refl
    go f validity q = refl

-- 1 and 2 exactly when reading the child answers so
pub order_child : (s t : List ℕ) (v : Seen) → read_of s ≡ read v
    → ((narrow s t ≡ Err Structure) ↔ (read_of t ≡ structure)) × ((narrow s t ≡ Err Validity) ↔ (read_of t ≡ validity))
order_child s t v e =
    let u = goes_on s t v e in (
      (λ h. one (read_of t) refl (sym u ∙ h), λ q. u ∙ ap (under_parent s v t) q),
      (λ h. two (read_of t) refl (sym u ∙ h), λ q. u ∙ ap (under_parent s v t) q),
    )
  where
    one : (r : Answer) → read_of t ≡ r → under_parent s v t r ≡ Err Structure → read_of t ≡ structure
    one (read w) q h = absurd ((both_read s v t w).0 h)
    one structure q h = q
    one validity q h = absurd (omega (arith, number h))

    two : (r : Answer) → read_of t ≡ r → under_parent s v t r ≡ Err Validity → read_of t ≡ validity
    two (read w) q h = absurd ((both_read s v t w).1 h)
    two structure q h = absurd (omega (arith, number h))
    two validity q h = q

-- 19 exactly when a constraint pair stands in either
pub order_constrained : (s t : List ℕ) (p c : Descriptor) → AreBytes s → AreBytes t → Allowed p → Allowed c → s ≡ encode p → t ≡ encode c
    → (narrow s t ≡ Err Constrained) ↔ (NoPairs p.payload.grants × NoPairs c.payload.grants → ⊥)
order_constrained s t p c bs bt fp fc es et = (
  λ h n. subst Later
      (sym (e ∙ ap (λ (b : Bool). cond b (after s v t w) (Err Constrained))
      (and_both (unconstrained v) (unconstrained w) ((pairs_none p fp.formed).1 n.0) ((pairs_none c fc.formed).1 n.1))) ∙ h)
      (after_later s v t w),
  λ f. e ∙ ap (λ (b : Bool). cond b (after s v t w) (Err Constrained)) (go f (unconstrained v && unconstrained w) refl),
)
  where
    v : Seen
    v = descriptor_view 0 p

    w : Seen
    w = descriptor_view 0 c

    e : narrow s t ≡ cond (unconstrained v && unconstrained w) (after s v t w) (Err Constrained)
    e = both_as s t v w (read_as s p bs fp es) (read_as t c bt fc et)

    go : (NoPairs p.payload.grants × NoPairs c.payload.grants → ⊥) → (b : Bool) → (unconstrained v && unconstrained w) ≡ b
        → (unconstrained v && unconstrained w) ≡ false
    go f true q = absurd
        (f (
          (pairs_none p fp.formed).0 (and_left (unconstrained v) (unconstrained w) q),
          (pairs_none c fc.formed).0
              (and_right (unconstrained v) (unconstrained w) q),
        ))
    go f false q = q
