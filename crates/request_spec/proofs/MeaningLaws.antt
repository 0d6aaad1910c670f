-- A request for a descriptor that a sound image holds is decided on that descriptor (specs/Meaning.antt). Assumes nothing.
use mathlib.Core.Path.{◌≡◌, refl, sym, ap, ap₂, ◌∙◌}
use mathlib.Core.Bool.{Bool, true, false}
use mathlib.Core.List.{List}
use mathlib.Core.Option.{some}
use Prim.Native.Nat.{ℕ, ◌<◌}
use native.Mathlib.Omega.{arith}
use Rattle.octets.specs.Bytes.{AreBytes}
use Rattle.resource_spec.specs.Text.{resource_ok, path_of}
use Rattle.descriptor_spec.specs.declared.Fields.{Fields}
use Rattle.std.specs.Prelude.{Ok, None}
use Rattle.descriptor_spec.specs.Model.{Descriptor, encode}
use Rattle.descriptor_spec.specs.Allowed.{Formed, Allowed}
use Rattle.descriptor_spec.specs.View.{descriptor_view}
use Rattle.descriptor_spec.specs.Code.{fields_of, reading_of}
use Rattle.descriptor_spec.proofs.Laws.{reads_exactly, seen_handed}
use Rattle.image_spec.specs.Image.{Row, reading, body_with}
use Rattle.image_spec.specs.Readable.{Holds}
use Rattle.request_spec.specs.Decision.{Matched}
use Rattle.request_spec.specs.Request.{Request, well_formed}
use Rattle.request_spec.specs.Decision.{Facts, facts_of, matched_on, decision_of}
use Rattle.request_spec.specs.Meaning.{pick_serving, facts_of_descriptor, decided_for}
use Rattle.request_spec.proofs.HeldLaws.{decided_by, malformed_first, decided_on_body}
use Rattle.request_spec.proofs.ArgumentLaws.{formed_mode, formed_resource}
use Rattle.request_spec.proofs.GrantLaws.{matched_agree}

-- what well-formed arguments say of the mode and the resource id
pub well_formed_lem : (q : Request) → well_formed q ≡ true → (q.mode < 4) × (resource_ok q.resource ≡ true)
well_formed_lem q e = (omega (arith, formed_mode q e), formed_resource q e)

-- the encoding of an allowed descriptor is read, and what is read is the descriptor's
pub reading_encode : (d : Descriptor) → AreBytes (encode d) → Allowed d → reading (encode d) ≡ Ok (fields_of (descriptor_view 0 d))
unfolding reading
reading_encode d b o = ap reading_of ((reads_exactly (encode d) b (descriptor_view 0 d)).1 (d, o, refl, refl))

-- the facts that are read of the encoding of a formed descriptor are the descriptor's
facts_agree : (d : Descriptor) → Formed d → facts_of (encode d) (fields_of (descriptor_view 0 d)) ≡ facts_of_descriptor d
facts_agree d q =
    ap₂ (λ (f t : List ℕ). record { not_before = d.payload.not_before; not_after = d.payload.not_after; fay = f; terminal = t })
    (seen_handed d q).fay (seen_handed d q).terminal

-- a request for a descriptor that a sound image holds is decided on that descriptor, with the meaning of matching
pub decided_on_descriptor : (s : List ℕ) (q : Request) (bs : List Row) (d : Descriptor) → Holds s bs → AreBytes (encode d) → Allowed d
    → body_with q.id bs ≡ some (encode d) → decision_of s q ≡ decided_for q d
unfolding decided_for
decided_on_descriptor s q bs d h b o e =
    decided_on_body s q bs (encode d) f h e (reading_encode d b o)
    ∙ ap (λ (x : Facts). decided_by q true true x found) (facts_agree d o.formed) ∙ go (well_formed q) refl
  where
    f : Fields
    f = fields_of (descriptor_view 0 d)

    found : Matched
    found = matched_on (encode d) f q.resource q.mode

    facts : Facts
    facts = facts_of_descriptor d

    mine : Matched
    mine = pick_serving d.payload.grants q.mode (path_of q.resource) 0 None

    go : (t : Bool) → well_formed q ≡ t → decided_by q true true facts found ≡ decided_by q true true facts mine
    go true w = let k = well_formed_lem q w in ap (decided_by q true true facts)
        (matched_agree d q.resource q.mode b o.formed k.1 k.0)
    go false w = malformed_first q true true facts found _ w ∙ sym (malformed_first q true true facts mine _ w)
