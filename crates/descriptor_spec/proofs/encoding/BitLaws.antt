-- The modes by their numbers and names, and the mask of grants (specs/Modes.antt). Assumes nothing.
use mathlib.Core.Path.{◌≡◌, refl, ap, ap₂, ◌∙◌}
use mathlib.Core.Bool.{Bool, true, false, cond, ◌||◌}
use mathlib.Core.List.{List, [], ◌∷◌}
use Prim.Native.Nat.{ℕ, ◌+◌}
use lib.Dec.{eqb}
use Rattle.cbor_item_spec.specs.Encoding.{head}
use Rattle.entries_spec.specs.Keys.{m_read, m_write, m_execute, m_configure}
use Rattle.descriptor_spec.specs.Model.{mode_names, Grant, enc_mode}
use Rattle.descriptor_spec.specs.Allowed.{is_in}
use Rattle.descriptor_spec.specs.Modes.{any_has, bit}
use Rattle.descriptor_spec.specs.View.{mask_from}
use Rattle.descriptor_spec.specs.Promises.{among, one_has, ModesFixed}

-- the two tests for one of some modes agree
in_among : (m : ℕ) (ms : List ℕ) → is_in m ms ≡ among m ms
unfolding is_in
in_among m [] = refl
in_among m (n ∷ ms) = ap (λ (t : Bool). eqb m n || t) (in_among m ms)

-- so do those for a mode that one of some grants has
any_one : (m : ℕ) (gs : List Grant) → any_has m gs ≡ one_has m gs
any_one m [] = refl
any_one m (g ∷ gs) = ap₂ (λ (t u : Bool). t || u) (in_among m g.modes) (any_one m gs)

-- what a mode adds to a mask
bit_cond : (t : Bool) (n : ℕ) → bit t n ≡ cond t n 0
bit_cond true n = refl
bit_cond false n = refl

-- what a mode adds to the mask of grants
bit_one : (m n : ℕ) (gs : List Grant) → bit (any_has m gs) n ≡ cond (one_has m gs) n 0
bit_one m n gs = ap (λ (t : Bool). bit t n) (any_one m gs) ∙ bit_cond (one_has m gs) n

pub modes_fixed : ModesFixed
unfolding head enc_mode mode_names mask_from m_read m_write m_execute m_configure
modes_fixed = (
  refl,
  refl,
  refl,
  refl,
  refl,
  refl,
  refl,
  refl,
  λ gs. ap₂ ◌+◌ (bit_one 0 1 gs) (ap₂ ◌+◌ (bit_one 1 2 gs) (ap₂ ◌+◌ (bit_one 2 4 gs) (bit_one 3 8 gs))),
)
