-- What is known of a body that reads: it is short, its identifiers lie in it, and its mask is below 16. Assumes nothing.
use Rattle.descriptor_spec.specs.Reading.{Reading}
use mathlib.Core.Path.{◌≡◌, refl, subst}
use mathlib.Core.List.{List}
use mathlib.Core.Option.{Option, none, some}
use Prim.Native.Nat.{ℕ, ◌-◌}
use native.Mathlib.Omega.{arith}
use lib.Dec.{leb}
use Rattle.octets.proofs.Tests.{by_cond}
use Rattle.descriptor_spec.specs.declared.Fields.{Fields}
use Rattle.std.specs.Prelude.{Ok}
use Rattle.descriptor_spec.specs.Allowed.{longest_period}
use Rattle.descriptor_spec.specs.Reader.{Seen, Answer, read, structure, validity, formed_in, by_period, read_of}
use Rattle.descriptor_spec.specs.Code.{fields_of, reading_of}
use Rattle.descriptor_spec.proofs.Laws.{formed_bounds}
use Rattle.image_spec.specs.Image.{reading}
use Rattle.image_spec.specs.Laws.{BodyIn, ReadIn}

-- it is known of an answer that is a reading
abbrev AnswerIn : List ℕ → Answer → Type 0
AnswerIn b (read v) = BodyIn b (fields_of v)
AnswerIn b structure = Unit {0}
AnswerIn b validity = Unit {0}

answer_in_lem : (b : List ℕ) → AnswerIn b (read_of b)
unfolding read_of
answer_in_lem b = go (formed_in b) refl
  where
    go : (o : Option Seen) → formed_in b ≡ o → AnswerIn b (by_period o)
    go (some v) e =
        let h = formed_bounds b v e in
        let p = h.1 in
        by_cond (AnswerIn b) (leb (v.payload.not_after - v.payload.not_before) longest_period)
        (λ f. record {
          short = h.0;
          filled = omega (arith, p.id);
          id = p.id;
          fay = p.fay;
          terminal = p.terminal;
          mask = p.small;
        })
        (λ f. tt)
    go none e = tt

-- the fields of equal readings are equal
read_same : (f g : Fields) → ◌≡◌ {A = Reading} (Ok f) (Ok g) → f ≡ g
read_same f g e = cc

-- `ReadIn`
pub read_in : ReadIn
unfolding reading
read_in b f e = go (read_of b) (answer_in_lem b) e
  where
    go : (a : Answer) → AnswerIn b a → reading_of a ≡ Ok f → BodyIn b f
    go (read v) h e = subst (BodyIn b) (read_same (fields_of v) f e) h
    go structure h e = absurd (let z : ◌≡◌ {A = ℕ} 0 1 = cc in omega arith)
    go validity h e = absurd (let z : ◌≡◌ {A = ℕ} 0 1 = cc in omega arith)
