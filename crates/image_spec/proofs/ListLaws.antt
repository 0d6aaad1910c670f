-- Laws of lists of bodies (specs/Image.antt): which ids they have, which body has an id, and one body more. Assumes nothing.
use mathlib.Core.Path.{◌≡◌, refl, sym, ap, ◌∙◌, subst}
use mathlib.Core.Bool.{Bool, true, false, ◌||◌, false≢true, or-false}
use mathlib.Core.List.{List, [], ◌∷◌, ◌++◌, append_assoc, append-nil}
use mathlib.Core.Option.{Option, none, some}
use Prim.Native.Nat.{ℕ, ◌*◌, ◌≤◌}
use native.Mathlib.Omega.{arith}
use lib.ListN.{length, length-append}
use Rattle.octets.specs.Bytes.{same}
use Rattle.exact.specs.Reads.{AllFrom}
use Rattle.octets.proofs.SameLaws.{same_equal}
use Rattle.octets.proofs.OptionLaws.{none_some}
use Rattle.octets.proofs.Tests.{or_assoc}
use Rattle.descriptor_spec.specs.declared.Fields.{Fields}
use Rattle.descriptor_spec.specs.Reading.{Reading}
use Rattle.std.specs.Prelude.{Ok, Err}
use Rattle.descriptor_spec.specs.declared.ReadError.TheVariants.{Structure, Validity}
use Rattle.image_spec.specs.Image.{Row, reading, is_read, id_of, joined, has_id, BodyOk, seen_with, Every, body_with}
use Rattle.image_spec.proofs.BodyLaws.{read_in}

-- ---- a body that reads

-- of a body that reads something was read
pub read_is : (b : List ℕ) → is_read (reading b) ≡ true → (f : Fields) × (reading b ≡ Ok f)
read_is b t = go (reading b) t
  where
    go : (r : Reading) → is_read r ≡ true → (f : Fields) × (r ≡ Ok f)
    go (Ok f) e = (f, refl)
    go (Err Structure) e = absurd (false≢true e)
    go (Err Validity) e = absurd (false≢true e)

-- a body of which something was read reads
pub is_read_lem : (b : List ℕ) (f : Fields) → reading b ≡ Ok f → is_read (reading b) ≡ true
is_read_lem b f e = ap is_read e

-- bodies that read have at most 32768 bytes each
pub joined_short : (seen bs : List Row) → AllFrom BodyOk seen_with seen bs → length (joined bs) ≤ 32768 * length bs
unfolding joined
joined_short seen [] a = omega arith
joined_short seen (b ∷ bs) a =
    let r = read_is b.body a.0.reads in
    omega (arith, length-append b.body (joined bs), (read_in b.body r.0 r.1).short, joined_short (seen ++ (b ∷ [])) bs a.1)

-- ---- ids

-- the ids of the bodies and one more
pub has_snoc : (id : List ℕ) (bs : List Row) (b : Row) → has_id id (bs ++ (b ∷ [])) ≡ (has_id id bs || same (id_of b.body) id)
unfolding has_id
has_snoc id [] b = or-false (same (id_of b.body) id)
has_snoc id (x ∷ bs) b = ap (λ (t : Bool). same (id_of x.body) id || t) (has_snoc id bs b)
    ∙ or_assoc (same (id_of x.body) id) (has_id id bs) (same (id_of b.body) id)

-- an id that a body before has, none of the bodies has
pub rest_new : (id : List ℕ) (seen bs : List Row) → AllFrom BodyOk seen_with seen bs → has_id id seen ≡ true → has_id id bs ≡ false
unfolding has_id
rest_new id seen [] a h = refl
rest_new id seen (b ∷ bs) a h =
    let more : has_id id (seen ++ (b ∷ [])) ≡ true = has_snoc id seen b ∙ ap (λ (t : Bool). t || same (id_of b.body) id) h in
    go (same (id_of b.body) id) refl (rest_new id (seen ++ (b ∷ [])) bs a.1 more)
  where
    go : (t : Bool) → same (id_of b.body) id ≡ t → has_id id bs ≡ false → (t || has_id id bs) ≡ false
    go true e r = absurd (false≢true (sym a.0.new ∙ ap (λ (x : List ℕ). has_id x seen) (same_equal (id_of b.body) id e) ∙ h))
    go false e r = r

-- bodies and one more that is allowed after them are allowed
pub each_snoc : (seen bs : List Row) (b : Row) → AllFrom BodyOk seen_with seen bs → BodyOk (seen ++ bs) b
    → AllFrom BodyOk seen_with seen (bs ++ (b ∷ []))
each_snoc seen [] b a o = (subst (λ (l : List Row). BodyOk l b) (append-nil seen) o, tt)
each_snoc seen (x ∷ bs) b a o =
    (a.0, each_snoc (seen ++ (x ∷ [])) bs b a.1 (subst (λ (l : List Row). BodyOk l b) (sym (append_assoc seen (x ∷ []) bs)) o))

-- what is so of each row and of one more is so of them together
pub every_snoc : (P : Row → Type 0) (bs : List Row) (b : Row) → Every P bs → P b → Every P (bs ++ (b ∷ []))
every_snoc P [] b a p = (p, tt)
every_snoc P (x ∷ bs) b a p = (a.0, every_snoc P bs b a.1 p)

-- ---- the body with an id

-- after one more body its id finds it, where it found none before
pub with_new : (id : List ℕ) (bs : List Row) (b : Row) → body_with id bs ≡ none → same (id_of b.body) id ≡ true
    → body_with id (bs ++ (b ∷ [])) ≡ some b.body
unfolding body_with
with_new id [] b h e = rw (e, body_with)
with_new id (x ∷ bs) b h e = go (same (id_of x.body) id) h (with_new id bs b)
  where
    go : (t : Bool) → ◌≡◌ {A = Option (List ℕ)} (elim t as (λ t. Option (List ℕ)) [ true ↦ some x.body | false ↦ body_with id bs ]) none
        → (body_with id bs ≡ none → same (id_of b.body) id ≡ true → body_with id (bs ++ (b ∷ [])) ≡ some b.body)
        → elim t as (λ t. Option (List ℕ)) [ true ↦ some x.body | false ↦ body_with id (bs ++ (b ∷ [])) ] ≡ some b.body
    go true h r = absurd (none_some x.body (sym h))
    go false h r = r h e

-- any other id finds what it found before
pub with_other : (id : List ℕ) (bs : List Row) (b : Row) → same (id_of b.body) id ≡ false → body_with id (bs ++ (b ∷ [])) ≡ body_with id bs
unfolding body_with
with_other id [] b e = rw (e, body_with)
with_other id (x ∷ bs) b e = ap
    (λ (o : Option (List ℕ)). elim (same (id_of x.body) id) as (λ t. Option (List ℕ)) [ true ↦ some x.body | false ↦ o ])
    (with_other id bs b e)

-- the first body is found by its id
pub with_first : (id : List ℕ) (b : Row) (bs : List Row) → same (id_of b.body) id ≡ true
    → (body_with id (b ∷ bs) ≡ some b.body) × (has_id id (b ∷ bs) ≡ true)
unfolding body_with has_id
with_first id b bs e = (rw (e, body_with), rw e)

-- by another id the rest is searched
pub with_rest : (id : List ℕ) (b : Row) (bs : List Row) → same (id_of b.body) id ≡ false
    → (body_with id (b ∷ bs) ≡ body_with id bs) × (has_id id (b ∷ bs) ≡ has_id id bs)
unfolding body_with has_id
with_rest id b bs e = (rw (e, body_with), rw e)
