-- The body that a check finds for an id, over the list of bodies, and that it is the one with the id (specs/Check.antt). Assumes nothing.
use Rattle.std.specs.Prelude.{Ok, Err, Some, None}
use Rattle.image_spec.specs.Check.{held_body, Held, held_with}
use mathlib.Core.Path.{◌≡◌, refl, sym, ap, ◌∙◌, subst}
use mathlib.Core.Bool.{Bool, true, false}
use mathlib.Core.List.{List, [], ◌∷◌, ◌++◌}
use mathlib.Core.Option.{none, some}
use Prim.Native.Nat.{ℕ, suc, ◌+◌, ◌≤◌, ◌<◌}
use native.Mathlib.Omega.{arith}
use lib.ListN.{length, get_or}
use Rattle.octets.specs.Bytes.{part, Has, same}
use Rattle.exact.specs.Reads.{AllFrom}
use Rattle.octets.proofs.BytesLaws.{has_left, has_right, has_part, has_fits}
use Rattle.descriptor_spec.specs.declared.Fields.{Fields}
use Rattle.descriptor_spec.specs.Reading.{Reading}
use Rattle.descriptor_spec.specs.declared.ReadError.TheVariants.{Structure, Validity}
use Rattle.image_spec.specs.declared.layout.Layout.{Layout}
use Rattle.image_spec.specs.Layout.{row_place}
use Rattle.image_spec.specs.Image.{Row, row_of, reading, id_of, joined, has_id, BodyOk, seen_with, body_with}
use Rattle.image_spec.specs.Laws.{HeldIs}
use Rattle.image_spec.proofs.BodyLaws.{read_in}
use Rattle.octets.proofs.Tests.{or_true, or_no_left, or_no_right}
use Rattle.image_spec.proofs.ListLaws.{read_is, has_snoc, rest_new, with_first, with_rest}

-- ---- what is held

-- what is held after a body of n bytes at a place, that of row i, of which reading says so
abbrev pub held_after : Bool → Held → ℕ → ℕ → ℕ → Reading → Held
held_after hit h i at n (Ok f) = held_with hit h i at n f
held_after hit h i at n (Err Structure) = h
held_after hit h i at n (Err Validity) = h

-- what is held after bodies that lie back to back from a place on, those of row i and the following
unfoldable pub held_from : List ℕ → ℕ → ℕ → Held → List Row → Held
held_from id i at h [] = h
held_from id i at h (b ∷ bs) = held_from id (i + 1) (at + length b.body)
    (held_after (same (id_of b.body) id) h i at (length b.body) (reading b.body)) bs

-- what is held of the bodies of an image
unfoldable pub held_in : Layout → List ℕ → List Row → Held
held_in l id bs = held_from id 0 (row_place l (length bs)) None bs

-- ---- it is the body with the id

-- of the rows from row i on, row `row` has the body of `len` bytes at `at` in s, of which f was read, and it is the one with the id
record HeldRow (s id : List ℕ) (i : ℕ) (rs : List Row) (row at len : ℕ) (f : Fields) : Type 0 where
  which : body_with id rs ≡ some (part s at len)
  inside : at + len ≤ length s
  reads : reading (part s at len) ≡ Ok f
  index : ℕ
  below : index < length rs
  place : row ≡ i + index
  there : (get_or rs index (row_of [])).body ≡ part s at len

-- what is held of the rows from row i on is the body with the id, or none has it
abbrev HeldOf : List ℕ → List ℕ → ℕ → List Row → Held → Type 0
HeldOf s id i rs None = body_with id rs ≡ none
HeldOf s id i rs (Some b) = HeldRow s id i rs b.row b.at b.len b.fields

-- after a body that reads, with the id or not
held_hit : (id : List ℕ) (i at : ℕ) (h : Held) (b : Row) (bs : List Row) (f : Fields) (t : Bool) → reading b.body ≡ Ok f
    → same (id_of b.body) id ≡ t
    → held_from id i at h (b ∷ bs) ≡ held_from id (i + 1) (at + length b.body) (held_with t h i at (length b.body) f) bs
unfolding held_from
held_hit id i at h b bs f t e u = rw (e, u)

-- bodies of which none has the id change nothing
held_none : (id : List ℕ) (i at : ℕ) (h : Held) (bs : List Row) → has_id id bs ≡ false → held_from id i at h bs ≡ h
unfolding held_from has_id
held_none id i at h [] u = refl
held_none id i at h (b ∷ bs) u =
    let e : same (id_of b.body) id ≡ false = or_no_left (same (id_of b.body) id) (has_id id bs) u in
    ap (λ (t : Bool). held_from id (i + 1) (at + length b.body) (held_after t h i at (length b.body) (reading b.body)) bs) e
    ∙ ap (λ (g : Held). held_from id (i + 1) (at + length b.body) g bs) (passed (reading b.body))
    ∙ held_none id (i + 1) (at + length b.body) h bs (or_no_right (same (id_of b.body) id) (has_id id bs) u)
  where
    passed : (r : Reading) → held_after false h i at (length b.body) r ≡ h
    passed (Ok f) = refl
    passed (Err Structure) = refl
    passed (Err Validity) = refl

-- where the first body has another id, what is held of the rest is held of all
held_rest : (s id : List ℕ) (i : ℕ) (b : Row) (bs : List Row) (h : Held) → same (id_of b.body) id ≡ false
    → HeldOf s id (i + 1) bs h → HeldOf s id i (b ∷ bs) h
held_rest s id i b bs None e k = (with_rest id b bs e).0 ∙ k
held_rest s id i b bs (Some x) e k = record {
  which = (with_rest id b bs e).0 ∙ k.which;
  inside = k.inside;
  reads = k.reads;
  index = suc k.index;
  below = omega (arith, k.below);
  place = omega (arith, k.place);
  there = k.there;
}

-- a first body with the id is held
held_first : (s id : List ℕ) (i at : ℕ) (b : Row) (bs : List Row) (f : Fields) → Has s at b.body → reading b.body ≡ Ok f
    → same (id_of b.body) id ≡ true
    → HeldRow s id i (b ∷ bs) i at (length b.body) f
held_first s id i at b bs f h e u =
    let p : part s at (length b.body) ≡ b.body = has_part s at b.body h in
    record {
      which = (with_first id b bs u).0 ∙ ap some (sym p);
      inside = has_fits s at b.body (read_in b.body f e).filled h;
      reads = ap reading p ∙ e;
      index = 0;
      below = omega arith;
      place = omega arith;
      there = sym p;
    }

-- what is held of bodies that stand back to back from a place on is the one with the id
held_of : (s id : List ℕ) (i at : ℕ) (seen bs : List Row) → AllFrom BodyOk seen_with seen bs → Has s at (joined bs)
    → HeldOf s id i bs (held_from id i at None bs)
unfolding held_from joined body_with
held_of s id i at seen [] a h = refl
held_of s id i at seen (b ∷ bs) a h =
    let r = read_is b.body a.0.reads in
    go (same (id_of b.body) id) refl r.0 r.1
    (held_of s id (i + 1) (at + length b.body) (seen ++ (b ∷ [])) bs a.1 (has_right s at b.body (joined bs) h))
  where
    go : (t : Bool) → same (id_of b.body) id ≡ t → (f : Fields) → reading b.body ≡ Ok f
        → HeldOf s id (i + 1) bs (held_from id (i + 1) (at + length b.body) None bs)
        → HeldOf s id i (b ∷ bs) (held_from id i at None (b ∷ bs))
    go true e f u k =
        let m : has_id id (seen ++ (b ∷ [])) ≡ true = has_snoc id seen b ∙ rw e (or_true (has_id id seen)) in
        let w : held_from id i at None (b ∷ bs) ≡ held_body i at (length b.body) f
        = held_hit id i at None b bs f true u e ∙ held_none id (i + 1) (at + length b.body) (held_body i at (length b.body) f) bs
        (rest_new id (seen ++ (b ∷ [])) bs a.1 m) in
        subst (HeldOf s id i (b ∷ bs)) (sym w) (held_first s id i at b bs f (has_left s at b.body (joined bs) h) u e)
    go false e f u k = subst (HeldOf s id i (b ∷ bs)) (sym (held_hit id i at None b bs f false u e))
        (held_rest s id i b bs (held_from id (i + 1) (at + length b.body) None bs) e k)

-- the same of all rows, in the words of the laws
pub held_is : (s id : List ℕ) (at : ℕ) (bs : List Row) → AllFrom BodyOk seen_with [] bs → Has s at (joined bs)
    → HeldIs s id bs (held_from id 0 at None bs)
held_is s id at bs a h = go (held_from id 0 at None bs) (held_of s id 0 at [] bs a h)
  where
    go : (g : Held) → HeldOf s id 0 bs g → HeldIs s id bs g
    go None k = k
    go (Some b) k =
        let e : b.row ≡ k.index = omega (arith, k.place) in
        record {
          which = k.which;
          inside = k.inside;
          reads = k.reads;
          below = omega (arith, k.below);
          there = ap (λ (n : ℕ). (get_or bs n (row_of [])).body) e ∙ k.there;
        }
