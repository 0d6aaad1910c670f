-- What narrowing reads of the encoding of an allowed descriptor: the rules of its grants, and whether it has a constraint pair. Assumes
-- nothing.
use mathlib.Core.Path.{◌≡◌, refl, sym, ◌∙◌}
use mathlib.Core.Logic.{◌↔◌}
use mathlib.Core.Bool.{true}
use mathlib.Core.List.{List, [], ◌∷◌}
use mathlib.Core.Option.{Option, none, some}
use Prim.Native.Nat.{ℕ}
use native.Mathlib.Omega.{arith}
use borrow.Author.Tests.{eqb-true, eq-eqb}
use Rattle.octets.specs.Bytes.{AreBytes}
use Rattle.entries_spec.specs.Model.{Pair, pair_count}
use Rattle.descriptor_spec.specs.Model.{Grant, Descriptor, encode}
use Rattle.descriptor_spec.specs.Allowed.{Formed}
use Rattle.descriptor_spec.specs.View.{descriptor_view}
use Rattle.descriptor_spec.specs.Promises.{pairs_in, constraint_pairs}
use Rattle.descriptor_spec.specs.Laws.{InTurn, no_more, one_more}
use Rattle.descriptor_spec.proofs.Laws.{seen_handed, grants_in_turn}
use Rattle.narrowing_spec.specs.Narrow.{rules_at, rules_in, unconstrained}
use Rattle.narrowing_spec.specs.Laws.{rules_of}
use Rattle.narrowing_spec.specs.Promises.{NoPairs}

-- ---- rules

-- the rules read from a place on are those of the grants that are read from there on
pub turn_rules : {s t : List ℕ} {n at : ℕ} {gs : List Grant} → InTurn s t n at gs → rules_at s n at ≡ rules_of gs
unfolding rules_at
turn_rules (no_more at) = refl
turn_rules (one_more n at next v g gs e f r) = rw (rules_at, e, f.mask, f.pattern, turn_rules r)

-- the rules read of a descriptor are those of its grants
pub rules_in_lem : (d : Descriptor) → AreBytes (encode d) → Formed d → rules_in (encode d) (descriptor_view 0 d) ≡ rules_of d.payload.grants
rules_in_lem d b q = turn_rules (grants_in_turn d b q)

-- ---- constraint pairs

-- the number of pairs by either name
pairs_same : (m : Option (List Pair)) → pairs_in m ≡ pair_count m
pairs_same none = refl
pairs_same (some ps) = refl

-- grants have no pair in all exactly when no grant has one
none_counted : (gs : List Grant) → (constraint_pairs gs ≡ 0) ↔ NoPairs gs
none_counted [] = (λ e. tt, λ h. refl)
none_counted (g ∷ gs) =
    let r = none_counted gs in
    let c = pairs_same g.constraints in
    (λ e. (omega (arith, c, e), r.0 (omega (arith, e))), λ h. omega (arith, c, h.0, r.1 h.1))

-- a descriptor that is read is unconstrained exactly when no grant has a pair
pub pairs_none : (d : Descriptor) → Formed d → (unconstrained (descriptor_view 0 d) ≡ true) ↔ NoPairs d.payload.grants
pairs_none d q =
    let r = none_counted d.payload.grants in
    let c = (seen_handed d q).constraints in
    (λ e. r.0 (sym c ∙ eqb-true _ 0 e), λ h. eq-eqb _ 0 (c ∙ r.1 h))
