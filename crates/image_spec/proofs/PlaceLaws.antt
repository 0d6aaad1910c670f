-- The body with an id and its place in the list (specs/Laws.antt, `BodyWithExactlyFor`). Assumes nothing.
use mathlib.Core.Path.{◌≡◌, refl, sym, ap, ◌∙◌}
use mathlib.Core.Bool.{Bool, true, false, ◌||◌, false≢true}
use mathlib.Core.List.{List, [], ◌∷◌, ◌++◌}
use mathlib.Core.Option.{Option, some}
use Prim.Native.Nat.{ℕ, zero, suc, ◌<◌}
use native.Mathlib.Omega.{arith}
use lib.ListN.{length, get_or}
use Rattle.octets.specs.Bytes.{same}
use Rattle.octets.proofs.SameLaws.{same_equal, equal_same}
use Rattle.octets.proofs.OptionLaws.{some_same, none_some}
use Rattle.octets.proofs.Tests.{or_true}
use Rattle.exact.specs.Reads.{AllFrom}
use Rattle.image_spec.specs.declared.layout.Layout.{Layout}
use Rattle.image_spec.specs.Image.{Row, row_of, id_of, has_id, BodyOk, seen_with, body_with}
use Rattle.image_spec.specs.Laws.{BodyWithExactlyFor}
use Rattle.image_spec.proofs.ListLaws.{has_snoc, rest_new, with_first, with_rest}

-- a body at a place of the list is one of those that have its id
pub has_place : (bs : List Row) (i : ℕ) (b : List ℕ) → i < length bs → (get_or bs i (row_of [])).body ≡ b → has_id (id_of b) bs ≡ true
unfolding has_id
has_place [] i b h e = absurd (omega arith)
has_place (x ∷ bs) zero b h e = ap (λ (t : Bool). t || has_id (id_of b) bs) (equal_same (id_of x.body) (id_of b) (ap id_of e))
has_place (x ∷ bs) (suc i) b h e = ap (λ (t : Bool). same (id_of x.body) (id_of b) || t) (has_place bs i b (omega arith) e)
    ∙ or_true (same (id_of x.body) (id_of b))

-- where the ids differ it is the one with its id
place_with : (seen bs : List Row) (i : ℕ) (b : List ℕ) → AllFrom BodyOk seen_with seen bs → i < length bs → (get_or bs i (row_of [])).body ≡ b
    → body_with (id_of b) bs ≡ some b
place_with seen [] i b a h e = absurd (omega arith)
place_with seen (x ∷ bs) zero b a h e = (with_first (id_of b) x bs (equal_same (id_of x.body) (id_of b) (ap id_of e))).0 ∙ ap some e
place_with seen (x ∷ bs) (suc i) b a h e = go (same (id_of x.body) (id_of b)) refl
    (place_with (seen ++ (x ∷ [])) bs i b a.1 (omega arith) e)
  where
    go : (t : Bool) → same (id_of x.body) (id_of b) ≡ t → body_with (id_of b) bs ≡ some b → body_with (id_of b) (x ∷ bs) ≡ some b
    go true f k =
        let before : has_id (id_of b) (seen ++ (x ∷ [])) ≡ true
        = has_snoc (id_of b) seen x ∙ ap (λ (t : Bool). has_id (id_of b) seen || t) f ∙ or_true (has_id (id_of b) seen) in
        absurd (false≢true (sym (rest_new (id_of b) (seen ++ (x ∷ [])) bs a.1 before) ∙ has_place bs i b (omega arith) e))
    go false f k = (with_rest (id_of b) x bs f).0 ∙ k

-- the body with an id has it, and stands at a place of the list
with_place : (id : List ℕ) (bs : List Row) (b : List ℕ) → body_with id bs ≡ some b
    → (id_of b ≡ id) × ((i : ℕ) × (i < length bs) × ((get_or bs i (row_of [])).body ≡ b))
unfolding body_with
with_place id [] b e = absurd (none_some b e)
with_place id (x ∷ bs) b e = go (same (id_of x.body) id) refl e (with_place id bs b)
  where
    go : (t : Bool) → same (id_of x.body) id ≡ t
        → elim t as (λ t. Option (List ℕ)) [ true ↦ some x.body | false ↦ body_with id bs ] ≡ some b
        → (body_with id bs ≡ some b → (id_of b ≡ id) × ((i : ℕ) × (i < length bs) × ((get_or bs i (row_of [])).body ≡ b)))
        → (id_of b ≡ id) × ((i : ℕ) × (i < length (x ∷ bs)) × ((get_or (x ∷ bs) i (row_of [])).body ≡ b))
    go true t f k = let y = some_same x.body b f in (ap id_of (sym y) ∙ same_equal (id_of x.body) id t, (0, omega arith, y))
    go false t f k = let w = k f in (w.0, (suc w.1.0, omega (arith, w.1.1), w.1.2))

-- `BodyWithExactlyFor`
pub body_with_exactly : (l : Layout) → BodyWithExactlyFor l
body_with_exactly l id bs b o = (
  with_place id bs b,
  λ w. ap (λ (x : List ℕ). body_with x bs) (sym w.0) ∙ place_with [] bs w.1.0 b o.each w.1.1 w.1.2,
)
