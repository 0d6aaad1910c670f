-- Laws of the search for the grant that is picked (specs/Decision.antt of `request_spec`), in the code's own form. Assumes nothing.
use Rattle.std.proofs.Common.{◌≡◌, ℕ, suc, ◌+◌, ◌-◌, ◌/◌, ◌^◌, ◌<◌, ◌≤◌, Bool, true, false, cond, ◌&&◌, None, Some, List, take, drop, refl, sym, ap, ◌∙◌, arith, nat_eq, eqb, Option}
use mathlib.Core.Bool.{and_assoc}
use borrow.Author.Tests.{eq-eqb, ne_eqb}
use Rattle.std.specs.Int.Bits.{bit_and}
use Rattle.std.proofs.lemmas.Nat.{and_mask}
use Rattle.octets.proofs.PartLaws.{lent_later}
use Rattle.exact.specs.Reads.{got, refused}
use Rattle.resource_spec.specs.Identifier.{levels_place}
use Rattle.resource_spec.specs.Text.{levels_match, levels_named, yes_with}
use Rattle.descriptor_spec.specs.Reader.{has_mode, GrantSeen, grant_at}
use Rattle.descriptor_spec.proofs.Laws.{pattern_room}
use Rattle.resource.specs.Code.{answer_of}
use Rattle.request_spec.specs.Decision.{Matched, picked_at, serves, names_of, picked_with, pick_from}
use Rattle.request.specs.Code.{eligible, serving, picked_of}

module _ (mask pairs mode : ℕ) where
  -- a grant is eligible by the bit of the mode and the number of its pairs
  eligible_is : eligible mask pairs mode ≡ (nat_eq (bit_and (mask / 2 ^ mode) 1) 1 && nat_eq pairs 0)
  unfolding eligible has_mode
  eligible_is = ap (λ (x : ℕ). nat_eq x 1 && nat_eq pairs 0) (sym (and_mask (mask / 2 ^ mode) 1))

  -- where the bit is set, by the number of its pairs
  pub eligible_bit : bit_and (mask / 2 ^ mode) 1 ≡ 1 → nat_eq pairs 0 ≡ eligible mask pairs mode
  eligible_bit h = sym (eligible_is ∙ rw (eq-eqb (bit_and (mask / 2 ^ mode) 1) 1 h))

  -- else it is not
  pub eligible_not : (bit_and (mask / 2 ^ mode) 1 ≡ 1 → ⊥) → nat_eq (bit_and (mask / 2 ^ mode) 1) 1 ≡ eligible mask pairs mode
  eligible_not h = ne_eqb (bit_and (mask / 2 ^ mode) 1) 1 h ∙ sym (eligible_is ∙ rw (ne_eqb (bit_and (mask / 2 ^ mode) 1) 1 h))

-- ---- the levels of a grant

-- the levels of a pattern that stands at a place, as the code lends them
abbrev pub lent_levels : List ℕ → ℕ → ℕ → List ℕ
lent_levels s start len = take ((start + len) - (start + levels_place)) (drop (start + levels_place) s)

-- the grant i with its mask, where its levels p match those of r
abbrev pub found_of : List ℕ → List ℕ → ℕ → ℕ → Matched
found_of p r i mask = cond (levels_match p r) (picked_at i mask (levels_named p r)) None

-- levels that do not match
pub found_none : (p r : List ℕ) (i mask : ℕ) → levels_match p r ≡ false → None ≡ found_of p r i mask
found_none p r i mask e = sym (rw e)

-- a grant that is eligible is picked where its levels match, by the names among them
abbrev pub picked_by : ℕ → ℕ → Option ℕ → Matched
picked_by i mask (Some names) = picked_at i mask names
picked_by i mask None = None

-- so is a grant, by whether it is eligible and by its levels, as the code lends them
pub serving_is : (s r : List ℕ) (mode i : ℕ) (g : GrantSeen) → serving s r mode i g
    ≡ cond (eligible g.mask g.pairs mode) (picked_by i g.mask (answer_of (lent_levels s g.pattern.start g.pattern.len) r)) None
unfolding serving serves names_of eligible
serving_is s r mode i g =
    let l = lent_levels s g.pattern.start g.pattern.len in
    rw (← lent_later s g.pattern.start g.pattern.len levels_place, ← and_assoc (has_mode g.mask mode) (eqb g.pairs 0) (levels_match l r))
    (go (has_mode g.mask mode && eqb g.pairs 0) (levels_match l r) (levels_named l r))
  where
    go : (e t : Bool) (n : ℕ) → cond (e && t) (picked_at i g.mask n) None ≡ cond e (picked_by i g.mask (yes_with t n)) None
    go true true n = refl
    go true false n = refl
    go false t n = refl

-- ---- the search

-- what is picked after a grant
picked_serving : (b r : List ℕ) (mode i : ℕ) (g : GrantSeen) (best : Matched)
    → picked_with (serves b r mode g) best i g.mask (names_of b r g) ≡ picked_of best (serving b r mode i g)
unfolding serving
picked_serving b r mode i g best = go (serves b r mode g)
  where
    go : (t : Bool) → picked_with t best i g.mask (names_of b r g) ≡ picked_of best (cond t (picked_at i g.mask (names_of b r g)) None)
    go true = refl
    go false = refl

-- before the first grant all are left
pub pick_begin : (s r : List ℕ) (mode count at : ℕ) → pick_from s r mode count at 0 None ≡ pick_from s r mode (count - 0) at 0 None
pick_begin s r mode count at = let k : count ≡ count - 0 = omega arith in ap (λ (n : ℕ). pick_from s r mode n at 0 None) k

module _ (s r : List ℕ) (mode count at i : ℕ) (best : Matched) where
  -- where none is left, what was picked before stays
  pub pick_done : count ≤ i → pick_from s r mode (count - i) at i best ≡ best
  unfolding pick_from
  pick_done h = let k : count - i ≡ 0 = omega arith in ap (λ (n : ℕ). pick_from s r mode n at i best) k

  module _ (h : i < count) where
    -- where one is left, it is read
    one_left : count - i ≡ suc (count - (i + 1))
    one_left = omega arith

    -- where it does not read, what was picked before stays
    pub pick_stop : grant_at s at ≡ refused → pick_from s r mode (count - i) at i best ≡ best
    unfolding pick_from
    pick_stop e = rw (one_left, pick_from, e)

    -- else it is picked, or what was picked before stays
    pub pick_next : {g : GrantSeen} {next : ℕ} → grant_at s at ≡ got g next
        → pick_from s r mode (count - i) at i best
        ≡ pick_from s r mode (count - (i + 1)) next (i + 1) (picked_of best (serving s r mode i g))
    unfolding pick_from
    pick_next {g} {next} e = rw (one_left, pick_from, e) (ap (pick_from s r mode (count - (i + 1)) next (i + 1)) (picked_serving s r mode i g best))

-- the laws of the search
pub ruleset pick_laws = (pick_begin, pick_done, pick_stop, pick_next, pattern_room)
