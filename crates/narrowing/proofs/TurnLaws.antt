-- The grants of a descriptor that reads, one after the other, and how many rules they are. Assumes nothing.
use mathlib.Core.Path.{◌≡◌, refl, sym, ap, subst}
use mathlib.Core.List.{List}
use Prim.Native.Nat.{ℕ, suc}
use lib.ListN.{length}
use Rattle.resource_spec.specs.Identifier.{terminal_size}
use Rattle.octets.specs.Bytes.{AreBytes, part}
use Rattle.descriptor_spec.specs.Model.{Grant, Descriptor, encode}
use Rattle.descriptor_spec.specs.Reader.{Seen, read, read_of}
use Rattle.descriptor_spec.specs.View.{descriptor_view}
use Rattle.descriptor_spec.specs.Laws.{InTurn, no_more, one_more}
use Rattle.descriptor_spec.proofs.Laws.{reads_exactly, seen_handed, grants_in_turn}
use Rattle.narrowing_spec.specs.Laws.{rules_of}

-- there are as many rules as grants in turn
pub turn_count : {s t : List ℕ} {n at : ℕ} {gs : List Grant} → InTurn s t n at gs → length (rules_of gs) ≡ n
turn_count (no_more at) = refl
turn_count (one_more n at next v g gs e f r) = ap suc (turn_count r)

-- the grants gs, of the terminal t, are read in turn of a descriptor that was read from s
abbrev TurnIn : List ℕ → List ℕ → Seen → List Grant → Type 0
TurnIn s t v gs = InTurn s t v.payload.grants.count v.payload.grants.start gs

-- there are such grants for the terminal id that stands there
pub read_turn : (s : List ℕ) (v : Seen) → AreBytes s → read_of s ≡ read v
    → (gs : List Grant) × TurnIn s (part s v.payload.terminal terminal_size) v gs
read_turn s v b e =
    let r = (reads_exactly s b v).0 e in
    let d : Descriptor = r.0 in
    let gs : List Grant = d.payload.grants in
    let turn : (x : List ℕ) (w : Seen) → Type 0 = λ x w. TurnIn x (part x w.payload.terminal terminal_size) w gs in
    let here : turn (encode d) (descriptor_view 0 d)
    = subst (λ (t : List ℕ). TurnIn (encode d) t (descriptor_view 0 d) gs) (sym (seen_handed d r.1.formed).terminal)
    (grants_in_turn d (subst AreBytes r.2 b) r.1.formed) in
    (gs, subst (turn s) (sym r.3) (subst (λ (x : List ℕ). turn x (descriptor_view 0 d)) (sym r.2) here))
