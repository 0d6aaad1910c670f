-- A body that reads is the encoding of a descriptor, of which its row has the id and the modes. Assumes nothing.
use mathlib.Core.Path.{◌≡◌, refl, ap, ap₂, ◌∙◌}
use mathlib.Core.Bool.{true, false≢true}
use mathlib.Core.List.{List}
use Prim.Native.Nat.{ℕ}
use native.Mathlib.Omega.{arith}
use Rattle.octets.specs.Bytes.{part}
use Rattle.descriptor_spec.specs.Reading.{Reading}
use Rattle.std.specs.Prelude.{Ok, Err}
use Rattle.descriptor_spec.specs.declared.ReadError.TheVariants.{Structure, Validity}
use Rattle.descriptor_spec.specs.Model.{Descriptor, encode}
use Rattle.descriptor_spec.specs.Allowed.{Formed, id_size}
use Rattle.descriptor_spec.specs.Modes.{union_of}
use Rattle.descriptor_spec.specs.Reader.{Seen, Answer, read, structure, validity, read_of}
use Rattle.descriptor_spec.specs.Numbers.{number_of}
use Rattle.descriptor_spec.specs.View.{descriptor_view}
use Rattle.descriptor_spec.specs.Code.{fields_of, reading_of}
use Rattle.descriptor_spec.proofs.Laws.{reads_exactly, seen_handed}
use Rattle.image_spec.specs.Image.{reading, is_read, id_of, modes_of}
use Rattle.image_spec.specs.Promises.{RowOfBody, answer_of}
use Rattle.image_spec.specs.Laws.{BodyRead, EncodingRead}
use Rattle.image_spec.proofs.RowLaws.{id_read, modes_read}

-- of a body that reads something was seen
seen_of_lem : (b : List ℕ) → is_read (reading b) ≡ true → (v : Seen) × (read_of b ≡ read v)
unfolding reading
seen_of_lem b t = go (read_of b) t
  where
    go : (a : Answer) → is_read (reading_of a) ≡ true → (v : Seen) × (a ≡ read v)
    go (read v) e = (v, refl)
    go structure e = absurd (false≢true e)
    go validity e = absurd (false≢true e)

-- the id and the modes of the encoding of an allowed descriptor are the descriptor's
seen_row : (b : List ℕ) (v : Seen) (d : Descriptor) → Formed d → read_of b ≡ read v → b ≡ encode d → v ≡ descriptor_view 0 d
    → (id_of b ≡ d.payload.id) × (modes_of b ≡ union_of d.payload.grants)
unfolding reading
seen_row b v d q e i j =
    let r = ap reading_of e in (
      id_read b (fields_of v) r ∙ ap₂ (λ (x : List ℕ) (u : Seen). part x u.payload.id id_size) i j ∙ (seen_handed d q).id,
      modes_read b (fields_of v) r ∙ ap (λ (u : Seen). u.payload.grants.sum.mask) j ∙ (seen_handed d q).mask,
    )

-- `BodyRead`
pub body_read : BodyRead
body_read b bytes t =
    let v = seen_of_lem b t in
    let x = (reads_exactly b bytes v.0).0 v.1 in
    let y = seen_row b v.0 x.0 x.1.formed v.1 x.2 x.3 in
    (x.0, x.1, x.2, y.0, y.1)

-- `EncodingRead`
pub encoding_read : EncodingRead
unfolding reading
encoding_read d bytes a =
    let v : Seen = descriptor_view 0 d in
    let e : read_of (encode d) ≡ read v = (reads_exactly (encode d) bytes v).1 (d, a, refl, refl) in
    (fields_of v, ap reading_of e, refl, (seen_row (encode d) v d a.formed e refl refl).0, refl)

-- ---- by the number of the reading

-- a body that is read is read with 0
pub read_zero : (b : List ℕ) → is_read (reading b) ≡ true → answer_of b ≡ 0
unfolding reading
read_zero b t = go (reading_of (read_of b)) t
  where
    go : (r : Reading) → is_read r ≡ true → number_of r ≡ 0
    go (Ok f) e = refl
    go (Err Structure) e = absurd (false≢true e)
    go (Err Validity) e = absurd (false≢true e)

-- a body that is read with 0 is read
pub zero_read : (b : List ℕ) → answer_of b ≡ 0 → is_read (reading b) ≡ true
unfolding reading
zero_read b t = go (reading_of (read_of b)) t
  where
    go : (r : Reading) → number_of r ≡ 0 → is_read r ≡ true
    go (Ok f) e = refl
    go (Err Structure) e = absurd (omega arith)
    go (Err Validity) e = absurd (omega arith)

-- `RowOfBody`
pub row_of_body : RowOfBody
row_of_body b bytes e = body_read b bytes (zero_read b e)
