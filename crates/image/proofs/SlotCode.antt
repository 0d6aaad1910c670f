-- Laws of the slots that the ids of the rows mark (specs/Code.antt): where the slot of an id is not marked, no row before has the id.
-- Assumes nothing.
use mathlib.Core.Path.{◌≡◌, refl, sym, ap, ◌∙◌}
use mathlib.Core.Bool.{Bool, true, false, false≢true}
use mathlib.Core.List.{List}
use Prim.Native.Nat.{ℕ, zero, suc, ◌+◌, ◌%◌, ◌≤◌, ◌<◌}
use native.Mathlib.Omega.{arith}
use lib.ListN.{length, get_or, set, length-set}
use lib.Seq.{get_or-set_same, get_or-set_other}
use lib.Dec.{eqb}
use borrow.Author.Tests.{eqb-true, eqb-false}
use Rattle.octets.specs.Number.{number_at, number_in}
use Rattle.octets.proofs.NumberLaws.{number_in_lem, number_part}
use Rattle.octets.proofs.SameLaws.{not_same}
use Rattle.descriptor_spec.specs.Allowed.{id_size}
use Rattle.image_spec.specs.declared.layout.Layout.{Layout}
use Rattle.image_spec.specs.Layout.{row_place, LayoutOk}
use Rattle.image_spec.specs.Check.{row_id, id_among}
use Rattle.image.specs.Code.{slots, slot_at}
use Rattle.image.proofs.RowsCode.{row_inside}

-- rows with one id have one slot
same_slot : (s : List ℕ) (r q : ℕ) → r + id_size ≤ length s → q + id_size ≤ length s → row_id s r ≡ row_id s q → slot_at s r ≡ slot_at s q
unfolding slot_at
same_slot s r q h k e =
    let low : (p : ℕ) → p + id_size ≤ length s → number_in s (p + 8) 8 ≡ number_at (row_id s p) 8 8
    = λ p i. number_in_lem s (p + 8) 8 (omega arith) (omega arith) ∙ sym (number_part s p id_size 8 8 (omega arith)) in
    ap (λ (n : ℕ). n % slots) (low r h ∙ ap (λ (x : List ℕ). number_at x 8 8) e ∙ sym (low q k))

-- a slot is one of the slots
pub slot_below : (s : List ℕ) (r : ℕ) → slot_at s r < slots
unfolding slot_at
slot_below s r = omega arith

-- so is one that the code reads
pub slot_of_below : (s : List ℕ) (r k : ℕ) → k ≡ slot_at s r → k < slots
slot_of_below s r k e = omega (arith, slot_below s r)

-- a slot that is marked stays so where a slot is marked
mark_stays : (seen : List Bool) (k m : ℕ) → k < length seen → get_or seen m false ≡ true → get_or (set seen k true) m false ≡ true
mark_stays seen k m h e = go (eqb m k) refl
  where
    go : (t : Bool) → eqb m k ≡ t → get_or (set seen k true) m false ≡ true
    go true f = ap (λ (x : ℕ). get_or (set seen k true) x false) (eqb-true m k f) ∙ get_or-set_same seen k true false h
    go false f = get_or-set_other seen k m true false (eqb-false m k f) ∙ e

module _ (l : Layout) where
  -- an id that each of the first n rows differs from is in none of them
  id_absent : (s id : List ℕ) (n : ℕ) → ((j : ℕ) → j < n → row_id s (row_place l j) ≡ id → ⊥) → id_among l s id n ≡ false
  unfolding id_among
  id_absent s id zero h = refl
  id_absent s id (suc n) h =
      rw (not_same (row_id s (row_place l n)) id (h n (omega arith)), id_among) (id_absent s id n (λ j k. h j (omega arith)))

  -- the slot of each of the first i rows is marked
  pub record Marked (s : List ℕ) (i : ℕ) (seen : List Bool) : Type 0 where
    pub size : length seen ≡ slots
    pub marked : (j : ℕ) → j < i → get_or seen (slot_at s (row_place l j)) false ≡ true

  -- before the first row none is
  pub marked_begin : (s : List ℕ) (seen : List Bool) → length seen ≡ slots → Marked s 0 seen
  marked_begin s seen e = record { size = e; marked = λ j h. absurd (omega arith) }

  -- with the slot of row i marked, the slots of one row more are
  pub marked_more : (s : List ℕ) (i r k : ℕ) (seen : List Bool) → Marked s i seen → r ≡ row_place l i → k ≡ slot_at s r
      → Marked s (i + 1) (set seen k true)
  marked_more s i r k seen m place e =
      let mine : k ≡ slot_at s (row_place l i) = e ∙ ap (slot_at s) place in
      let below : k < length seen = omega (arith, m.size, slot_below s (row_place l i), mine) in
      record {
        size = simp length-set m.size;
        marked = λ j h. go j h (eqb j i) refl mine below;
      }
    where
      go : (j : ℕ) → j < i + 1 → (t : Bool) → eqb j i ≡ t → k ≡ slot_at s (row_place l i) → k < length seen
          → get_or (set seen k true) (slot_at s (row_place l j)) false ≡ true
      go j h true f mine below =
          ap (λ (x : ℕ). get_or (set seen k true) (slot_at s (row_place l x)) false) (eqb-true j i f)
          ∙ ap (λ (x : ℕ). get_or (set seen k true) x false) (sym mine)
          ∙ get_or-set_same seen k true false below
      go j h false f mine below =
          mark_stays seen k (slot_at s (row_place l j)) below (m.marked j (omega (arith, eqb-false j i f)))

  -- where the slot of row i is not marked, none of the rows before has its id
  pub marked_fresh : LayoutOk l → (s : List ℕ) (i n r k : ℕ) (seen : List Bool) → Marked s i seen → i < n → row_place l n ≤ length s
      → r ≡ row_place l i → k ≡ slot_at s r → get_or seen k false ≡ false → id_among l s (row_id s (row_place l i)) i ≡ false
  marked_fresh ok s i n r k seen m h room place e f =
      id_absent s (row_id s (row_place l i)) i
      (λ j b g. false≢true (sym f ∙ ap (λ (x : ℕ). get_or seen x false)
      (e ∙ ap (slot_at s) place ∙ sym (same_slot s (row_place l j) (row_place l i)
      (row_inside l ok j n (row_place l j) (length s) (omega arith) refl room)
      (row_inside l ok i n (row_place l i) (length s) h refl room) g))
      ∙ m.marked j b))
