-- What bytes hold under an id (specs/Promises.antt): always one of the three, and which body has the id. Assumes nothing.
use Rattle.std.specs.Prelude.{Some, None}
use Rattle.image_spec.specs.Check.{contents, Held, ImageCheck, layout_of}
use mathlib.Core.Path.{◌≡◌, refl, sym, ap, ◌∙◌, subst}
use mathlib.Core.List.{List}
use mathlib.Core.Option.{none, some}
use Prim.Native.Nat.{ℕ}
use Rattle.octets.specs.Bytes.{AreBytes, part}
use Rattle.descriptor_spec.specs.declared.Fields.{Fields}
use Rattle.descriptor_spec.specs.Model.{Descriptor, encode}
use Rattle.descriptor_spec.specs.Allowed.{Allowed}
use Rattle.image_spec.specs.Image.{Row, body_with, is_read}
use Rattle.image_spec.specs.Image.{RowsOk}
use Rattle.image_spec.specs.declared.layout.Layout.{Layout}
use Rattle.image_spec.specs.Readable.{Holds, check_of, rows_held}
use Rattle.image_spec.specs.Laws.{HeldBody, HeldIs}
use Rattle.image_spec.proofs.Laws.{named_ok, body_read, encoding_read, body_with_exactly, check_tells, check_says, check_unsound}
use Rattle.octets.proofs.PartLaws.{part_bytes}
use Rattle.octets.proofs.OptionLaws.{none_some}
use Rattle.request_spec.specs.Promises.{Stored, bad_image, not_held, held, Among, Under, AllStored}

-- the body with the id of a descriptor that is held is its encoding
pub held_found : (s id : List ℕ) (d : Descriptor) (u : Under s id (held d)) → body_with id u.0 ≡ some (encode d)
held_found s id d u =
    let a : Among u.0 id d = u.2 in
    (body_with_exactly (layout_of s) id u.0 (encode d) u.1.rows).1
    ((encoding_read d a.bytes a.allowed).3 ∙ a.named, (a.place, a.inside, a.there))

-- a descriptor whose encoding is the body with an id is held under it
pub found_among : (l : Layout) (id : List ℕ) (bs : List Row) (d : Descriptor) → RowsOk l bs → Allowed d → AreBytes (encode d)
    → body_with id bs ≡ some (encode d) → Among bs id d
found_among l id bs d o a b e =
    let w = (body_with_exactly l id bs (encode d) o).0 e in
    record { allowed = a; bytes = b; named = sym (encoding_read d b a).3 ∙ w.0; place = w.1.0; inside = w.1.1; there = w.1.2 }

-- a body that a check notes in bytes is the encoding of a descriptor with the id
body_among : (s id : List ℕ) (bs : List Row) (row at len : ℕ) (f : Fields) → AreBytes s → RowsOk (layout_of s) bs → HeldBody s id bs row at len f
    → (d : Descriptor) × Among bs id d
body_among s id bs row at len f b o h =
    let bytes : AreBytes (part s at len) = part_bytes s at len b in
    let r = body_read (part s at len) bytes (ap is_read h.reads) in
    (r.0, found_among (layout_of s) id bs r.0 o r.1 (subst AreBytes r.2 bytes) (h.which ∙ ap some r.2))

-- where no descriptor with the id is held, no body has it
pub none_found : (s id : List ℕ) (u : Under s id not_held) → body_with id u.0 ≡ none
none_found s id u = let w = check_tells (layout_of s) (named_ok s) s id u.0 u.1 in go w.0 w.2
  where
    go : (k : Held) → HeldIs s id u.0 k → body_with id u.0 ≡ none
    go None i = i
    go (Some x) i = let r = body_among s id u.0 x.row x.at x.len x.fields u.2 u.1.rows i in absurd (u.3 r.0 r.1)

-- bytes that are no image are called unsound
pub unsound : (s id : List ℕ) → Under s id bad_image → check_of s id ≡ None
unsound s id u = (check_unsound (layout_of s) (named_ok s) s id u.0).1 u.1

-- where no body has the id, no descriptor with it is held
none_among : (s id : List ℕ) (bs : List Row) → Holds s bs → body_with id bs ≡ none → (d : Descriptor) → Among bs id d → ⊥
none_among s id bs h e d a = none_some (encode d) (sym e ∙ held_found s id d (bs, h, a))

-- `AllStored`
pub all_stored : AllStored
all_stored s id b = go (check_of s id) refl
  where
    in_sound : (n end : ℕ) (h : Held) → check_of s id ≡ contents n end h → (x : Stored) × Under s id x
    in_sound n end None e =
        let w = check_says (layout_of s) (named_ok s) s id b n end None e in
        (not_held, (rows_held s, w.holds, b, none_among s id (rows_held s) w.holds w.held))
    in_sound n end (Some x) e =
        let w = check_says (layout_of s) (named_ok s) s id b n end (Some x) e in
        let r = body_among s id (rows_held s) x.row x.at x.len x.fields b w.holds.rows w.held in
        (held r.0, (rows_held s, w.holds, r.1))

    go : (v : ImageCheck) → check_of s id ≡ v → (x : Stored) × Under s id x
    go None e = (bad_image, (b, (check_unsound (layout_of s) (named_ok s) s id b).0 e))
    go (Some v) e = in_sound v.rows v.end v.held e
