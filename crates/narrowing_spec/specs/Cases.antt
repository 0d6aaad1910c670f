-- Document 01's marked cases, as one table.
use Rattle.std.specs.Prelude.{◌≡◌, List, [], ◌∷◌, ◌++◌, ℕ, replicate}
use Rattle.std.proofs.Math.Option.{none}
use Rattle.cbor_item_spec.specs.Promises.{MarkedItems}
use Rattle.resource_spec.specs.Characters.{codes}
use Rattle.resource_spec.specs.Promises.{T, MarkedMatching}
use Rattle.descriptor_spec.specs.Model.{Grant, encode}
use Rattle.narrowing_spec.specs.declared.NarrowingNumbers.{NarrowingNumbers}
use Rattle.narrowing_spec.specs.Narrow.{narrow, numbers_of}
use Rattle.narrowing_spec.specs.Promises.{answer_only, read_answer}

-- grants of read on the patterns T and p, for each p
abbrev pub reads : List (List ℕ) → List Grant
reads [] = []
reads (p ∷ ps) = record { modes = 0 ∷ []; constraints = none; pattern = T ++ p } ∷ reads ps

-- the bytes of a descriptor that grants read on the patterns T and p, for each p
abbrev pub granting : List (List ℕ) → List ℕ
granting ps =
    encode
    (record {
      payload =
          record {
            grants = reads ps;
            metadata = none;
            issued_at = 1000;
            issuer = codes "uni";
            not_after = 3000;
            grantor = none;
            not_before = 2000;
            terminal = T;
            id = 0 ∷ 1 ∷ 2 ∷ 3 ∷ 4 ∷ 5 ∷ 6 ∷ 7 ∷ 8 ∷ 9 ∷ 10 ∷ 11 ∷ 12 ∷ 13 ∷ 14 ∷ 15 ∷ [];
            fay = codes "fay:01927b34-7e21-7c4d-a89f-1234567890ab";
          };
      signature = record { key_id = codes "k1"; algorithm = 0; value = replicate 64 0 };
    })

-- what narrowing answers of a child under a parent, each with read on these patterns
abbrev pub narrowed : List (List ℕ) → List (List ℕ) → NarrowingNumbers
narrowed parent child = numbers_of (narrow (granting parent) (granting child))

-- the marked cases of narrowing: all of these read; under T/a/* the child T/a/** gets 20 with levels 2, under T/a/* and T/a/*/** it
-- gets 0, under T/a/*/** alone 20 with levels 1
abbrev pub MarkedNarrowing : Type 0
MarkedNarrowing =
    (read_answer (granting (codes "/a/*" ∷ [])) ≡ 0)
    × (read_answer (granting (codes "/a/*" ∷ codes "/a/*/**" ∷ [])) ≡ 0)
    × (read_answer (granting (codes "/a/*/**" ∷ [])) ≡ 0)
    × (read_answer (granting (codes "/a/**" ∷ [])) ≡ 0)
    × (narrowed (codes "/a/*" ∷ []) (codes "/a/**" ∷ []) ≡ record { answer = 20; grant = 0; mode = 0; levels = 2 })
    × (narrowed (codes "/a/*" ∷ codes "/a/*/**" ∷ []) (codes "/a/**" ∷ []) ≡ answer_only 0)
    × (narrowed (codes "/a/*/**" ∷ []) (codes "/a/**" ∷ []) ≡ record { answer = 20; grant = 0; mode = 0; levels = 1 })

-- the marked cases of items, of matching and of narrowing
abbrev pub MarkedCases : Type 0
MarkedCases = MarkedItems × MarkedMatching × MarkedNarrowing
