-- Where modes and grants that are read lie, and how small their numbers are (specs/Laws.antt). Assumes nothing.
use mathlib.Core.Path.{◌≡◌, sym, ◌∙◌}
use mathlib.Core.Bool.{true, not, false≢true}
use mathlib.Core.List.{List}
use Prim.Native.Nat.{ℕ, ◌+◌, ◌-◌, ◌^◌, ◌/◌, ◌%◌, ◌≤◌, ◌<◌}
use native.Mathlib.Omega.{arith}
use lib.Bits.{or_lt}
use lib.Dec.{eqb, lit<}
use lib.ListN.{length}
use borrow.Author.Tests.{eq-eqb}
use Rattle.octets.specs.Bytes.{has_at}
use Rattle.octets.proofs.Tests.{by_cond}
use Rattle.octets.proofs.TruthLaws.{T_false}
use Rattle.exact.specs.Reads.{Got, got, bind, guard}
use Rattle.exact.specs.Holds.{Holds}
use Rattle.exact.proofs.HoldsLaws.{held, holds_map, holds_bind, holds_guard, holds_many}
use Rattle.resource_spec.specs.Identifier.{levels_place}
use Rattle.resource_spec.proofs.Laws.{pattern_short}
use Rattle.entries_spec.specs.declared.Kind.TheVariants.{Pattern}
use Rattle.entries_spec.specs.Keys.{m_read, m_write, m_execute, m_configure, k_modes, k_grants, k_constraints, k_resource_pattern}
use Rattle.entries_spec.specs.Kinds.{is_kind}
use Rattle.entries_spec.specs.Value.{placed, one_of}
use Rattle.entries_spec.proofs.ValueBounds.{CountTo, count_bounds, keyed_count_bounds, StringTo, keyed_kind_bounds, opt_pairs_on}
use Rattle.descriptor_spec.specs.Model.{mode_names}
use Rattle.descriptor_spec.specs.Reader.{has_mode, mode_at, modes_at, grant_at, Sum, more_at, grants_at}
use Rattle.descriptor_spec.specs.Laws as laws
use Rattle.descriptor_spec.specs.Laws.{MaskTo, GrantIn, MoreIn, GrantsIn}

-- ---- modes

-- a mask with a bit more is below 16 where that is so for a new bit
with_small : (mask bit b next : ℕ) → ((mask / bit % 2 ≡ 1 → ⊥) → mask + bit < 16) → b ≤ next
    → Holds (MaskTo b) (guard (not (eqb (mask / bit % 2) 1)) (got (mask + bit) next))
with_small mask bit b next f l =
    holds_guard (MaskTo b) (not (eqb (mask / bit % 2) 1)) _
    (λ t. (f (λ e. false≢true (sym ((T_false (eqb (mask / bit % 2) 1)).0 t) ∙ eq-eqb (mask / bit % 2) 1 e)), l))

-- so it is for each of the four modes
pub mode_bounds : laws.ModeBounds
unfolding mode_at mode_names one_of bind has_mode
mode_bounds s mask b at h l =
    let P : Got ℕ → Type 0 = λ o. Holds (MaskTo b) (bind o (λ m n. guard (not (has_mode mask m)) (got (mask + 2 ^ m) n))) in
    by_cond P (has_at s at m_read) (λ e. with_small mask 1 b (at + length m_read) (λ f. omega arith) (omega arith)) λ e.
    by_cond P (has_at s at m_write) (λ e. with_small mask 2 b (at + length m_write) (λ f. omega arith) (omega arith)) λ e.
    by_cond P (has_at s at m_execute) (λ e. with_small mask 4 b (at + length m_execute) (λ f. omega arith) (omega arith)) λ e.
    by_cond P (has_at s at m_configure) (λ e. with_small mask 8 b (at + length m_configure) (λ f. omega arith) (omega arith)) λ e. tt

-- the mask of modes is below 16, and they end not before their key does
pub modes_bounds : laws.ModesBounds
unfolding modes_at
modes_bounds s at =
    let b = at + length k_modes in
    holds_bind (CountTo b 1 4) (MaskTo b) _ _ (keyed_count_bounds s at k_modes 4 1 4)
    (λ c n i. holds_many (MaskTo b) (mode_at s) (λ mask m j. mode_bounds s mask b m j.0 j.1) c 0 n (lit< tt, i.2))

-- ---- grants

-- a pattern has at least 46 bytes
pattern_long : (c : List ℕ) → is_kind Pattern c ≡ true → levels_place ≤ length c
unfolding is_kind
pattern_long c e = (pattern_short c e).0

-- a grant's pattern lies within s, its pairs are few, and its mask is small
pub grant_bounds : laws.GrantBounds
unfolding grant_at
grant_bounds s at =
    holds_bind (CountTo at 2 3) (GrantIn s at) _ _ (count_bounds s at 5 2 3)
    (λ c n i.
    holds_bind (MaskTo (n + length k_modes)) (GrantIn s at) _ _ (modes_bounds s n)
    (λ mask m j.
    holds_bind (λ v k. (m ≤ k) × ((placed v).size ≤ 8)) (GrantIn s at) _ _ (opt_pairs_on s m k_constraints 8)
    (λ v k l.
    holds_bind (StringTo s (k + length k_resource_pattern) levels_place) (GrantIn s at) _ _
    (keyed_kind_bounds Pattern levels_place pattern_long s k k_resource_pattern)
    (λ pattern p q. holds_guard (GrantIn s at) _ _
    (λ t. record {
      after = omega (arith, i, j.1, l.0, q.0.after, q.0.ends);
      long = q.1;
      fits =
          omega (arith, q.0.ends, q.0.fits);
      few = l.1;
      small = j.0;
    })))))

-- the pattern of a grant that was read has at least 46 bytes, and ends within s
pub pattern_room : laws.PatternRoom
pattern_room s at g n e = let b = held (GrantIn s at) (grant_bounds s at) e in (b.long, b.fits)

-- one more grant adds at most 8 pairs
pub more_bounds : laws.MoreBounds
unfolding more_at
more_bounds s first sum at =
    holds_bind (GrantIn s at) (MoreIn sum at) _ _ (grant_bounds s at)
    (λ g n i. holds_guard (MoreIn sum at) _ _
    (λ t. record { after = i.after; few = omega (arith, i.few); small = λ h. or_lt 4 sum.mask g.mask h i.small }))

-- the first pattern of grants lies within s, and their mask is below 16
pub grants_bounds : laws.GrantsBounds
unfolding grants_at
grants_bounds s at =
    holds_bind (CountTo (at + length k_grants) 1 256) (GrantsIn s at) _ _ (keyed_count_bounds s at k_grants 4 1 256)
    (λ c n i.
    holds_bind (GrantIn s n) (GrantsIn s at) _ _ (grant_bounds s n)
    (λ g m j.
    let I : Sum → ℕ → Type 0 = λ sum k. (m ≤ k) × (sum.mask < 16) in
    let more = more_at s g.pattern.start in
    holds_bind I (GrantsIn s at) _ _
    (holds_many I more (λ sum k l. holds_map (MoreIn sum k) I (more sum k) (more_bounds s g.pattern.start sum k)
    (λ y p q. (omega (arith, q.after, l.0), q.small l.1)))
    (c - 1) _ m (omega arith, j.small))
    (λ sum k l. record { after = omega (arith, i.2, j.after, l.0); first = omega (arith, j.long, j.fits); small = l.1 })))
