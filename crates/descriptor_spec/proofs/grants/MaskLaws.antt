-- The mask that is read of a descriptor has a mode's bit exactly where a grant names the mode. Assumes nothing.
use mathlib.Core.Path.{◌≡◌, refl, sym, ap, ◌∙◌}
use mathlib.Core.Bool.{Bool, true, false, ◌||◌, or-false}
use mathlib.Core.List.{List, [], ◌∷◌}
use Prim.Native.Nat.{ℕ, ◌+◌, ◌<◌}
use native.Mathlib.Omega.{arith}
use lib.Bits.{bit_or, or_lt}
use lib.Dec.{T, eqb, eqb→eq}
use Rattle.octets.proofs.BitLaws.{or_bit}
use Rattle.entries_spec.specs.Model.{pair_count}
use Rattle.descriptor_spec.specs.Model.{Grant}
use Rattle.descriptor_spec.specs.Allowed.{is_in, GrantOk, All}
use Rattle.descriptor_spec.specs.Modes.{any_has, bit, union_of}
use Rattle.descriptor_spec.specs.Reader.{has_mode, Sum}
use Rattle.descriptor_spec.specs.View.{mask_of, sum_from, grants_view}
use Rattle.descriptor_spec.specs.Laws.{MaskExactly}
use Rattle.descriptor_spec.proofs.grants.ModeLaws.{all_below, all_below_lem, no_marks, mask_exact}

-- one test before two others
or_assoc : (a b c : Bool) → (a || (b || c)) ≡ ((a || b) || c)
or_assoc true b c = refl
or_assoc false b c = refl

-- ---- the union of two masks

-- the union has a mode exactly where one of the two has it
or_has : (a b m : ℕ) → has_mode (bit_or a b) m ≡ (has_mode a m || has_mode b m)
unfolding has_mode
or_has = or_bit

-- ---- the mask of all grants

-- the sum with one more grant
abbrev with_grant : Sum → Grant → Sum
with_grant sum g = record { mask = bit_or sum.mask (mask_of g.modes); pairs = sum.pairs + pair_count g.constraints }

-- the union of a mask and the masks of allowed grants has a mode exactly where the mask has it or a grant names it
sum_has : (sum : Sum) (gs : List Grant) (m : ℕ) → m < 4 → sum.mask < 16 → All GrantOk gs
    → has_mode (sum_from sum gs).mask m ≡ (has_mode sum.mask m || any_has m gs)
sum_has sum [] m h s a = sym (or-false (has_mode sum.mask m))
sum_has sum (g ∷ gs) m h s a =
    let q = mask_exact g.modes a.0.modes in
    sum_has (with_grant sum g) gs m h (or_lt 4 sum.mask (mask_of g.modes) s q.0) a.1
    ∙ ap (λ (t : Bool). t || any_has m gs)
    (or_has sum.mask (mask_of g.modes) m ∙ ap (λ (t : Bool). has_mode sum.mask m || t) (q.1 m h))
    ∙ sym (or_assoc (has_mode sum.mask m) (is_in m g.modes) (any_has m gs))

-- the union has no other bit
sum_small : (sum : Sum) (gs : List Grant) → sum.mask < 16 → All GrantOk gs → (sum_from sum gs).mask < 16
sum_small sum [] s a = s
sum_small sum (g ∷ gs) s a = sum_small (with_grant sum g) gs (or_lt 4 sum.mask (mask_of g.modes) s (mask_exact g.modes a.0.modes).0) a.1

-- the mask that is seen of allowed grants has a mode exactly where one of them names it, and no other bit
pub grants_has : (at : ℕ) (gs : List Grant) → All GrantOk gs
    → ((grants_view at gs).sum.mask < 16) × ((m : ℕ) → m < 4 → has_mode (grants_view at gs).sum.mask m ≡ any_has m gs)
unfolding is_in
grants_has at [] a = (omega arith, λ m h. no_marks.bits m h)
grants_has at (g ∷ gs) a =
    let q = mask_exact g.modes a.0.modes in
    (sum_small _ gs q.0 a.1, λ m h. sum_has _ gs m h q.0 a.1 ∙ ap (λ (t : Bool). t || any_has m gs) (q.1 m h))

-- ---- a mask by its bits

-- a mask below 16 is the sum of its four bits
unfoldable summed : ℕ → Bool
summed a = eqb a (bit (has_mode a 0) 1 + (bit (has_mode a 1) 2 + (bit (has_mode a 2) 4 + bit (has_mode a 3) 8)))

all_summed : T (all_below 16 summed)
unfolding all_below summed has_mode
all_summed = tt

-- so a mask below 16 that has a mode exactly where a grant names it is their union
union_is : (a : ℕ) (gs : List Grant) → a < 16 → ((m : ℕ) → m < 4 → has_mode a m ≡ any_has m gs) → a ≡ union_of gs
unfolding summed
union_is a gs s h =
    let e = eqb→eq a _ (all_below_lem 16 summed all_summed a s) in
    e ∙ rw (h 0 (omega arith), h 1 (omega arith), h 2 (omega arith), h 3 (omega arith))

-- the mask that is seen of allowed grants is their union
pub grants_union : (at : ℕ) (gs : List Grant) → All GrantOk gs → (grants_view at gs).sum.mask ≡ union_of gs
grants_union at gs a = let q = grants_has at gs a in union_is (grants_view at gs).sum.mask gs q.0 q.1

pub mask_exactly : MaskExactly
mask_exactly g a =
    let q = mask_exact g.modes a.modes in
    (union_is (mask_of g.modes) (g ∷ []) q.0 (λ m h. q.1 m h ∙ sym (or-false (is_in m g.modes))), q.1)
