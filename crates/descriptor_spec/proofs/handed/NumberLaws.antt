-- The numbers of an answer: which answer has which number, and the zeros of a refusal. Assumes nothing.
use mathlib.Core.Path.{◌≡◌, refl, ap}
use Prim.Native.Nat.{ℕ}
use native.Mathlib.Omega.{arith}
use Rattle.descriptor_spec.specs.Reader.{Seen, Answer, read, structure, validity, read_of}
use Rattle.descriptor_spec.specs.View.{descriptor_view}
use Rattle.descriptor_spec.specs.Code.{reading_of}
use Rattle.descriptor_spec.specs.Numbers.{numbers_of}
use Rattle.descriptor_spec.specs.Promises.{AnsweredExactly, refusal, RefusalZero}
use Rattle.descriptor_spec.specs.Laws.{NumberTells}
use Rattle.descriptor_spec.proofs.whole.AnswerLaws.{reads_exactly, validity_exactly, structure_exactly}

-- ---- which answer has which number

-- the number of an answer
abbrev number_in : Answer → ℕ
number_in a = (numbers_of (reading_of a)).answer

-- 0 is that of what was read
was_read : (a : Answer) → number_in a ≡ 0 → (v : Seen) × (a ≡ read v)
was_read (read v) e = (v, refl)
was_read structure e = absurd (omega arith)
was_read validity e = absurd (omega arith)

-- 1 is that of bytes that are no encoding
was_structure : (a : Answer) → number_in a ≡ 1 → a ≡ structure
was_structure (read v) e = absurd (omega arith)
was_structure structure e = refl
was_structure validity e = absurd (omega arith)

-- 2 is that of a descriptor that is too long valid
was_validity : (a : Answer) → number_in a ≡ 2 → a ≡ validity
was_validity (read v) e = absurd (omega arith)
was_validity structure e = absurd (omega arith)
was_validity validity e = refl

pub number_tells : NumberTells
number_tells s =
    record {
      done = (was_read (read_of s), λ r. ap number_in r.1);
      structure = (was_structure (read_of s), λ e. ap number_in e);
      validity = (was_validity (read_of s), λ e. ap number_in e);
    }

pub answered_exactly : AnsweredExactly
answered_exactly s bs =
    let n = number_tells s in
    record {
      done = (
        λ e. let w = n.done.0 e in let x = (reads_exactly s bs w.0).0 w.1 in (x.0, x.1, x.2),
        λ x. n.done.1 (descriptor_view 0 x.0, (reads_exactly s bs (descriptor_view 0 x.0)).1 (x.0, x.1, x.2, refl)),
      );
      structure = (λ e. (structure_exactly s bs).0 (n.structure.0 e), λ f. n.structure.1 ((structure_exactly s bs).1 f));
      validity = (λ e. (validity_exactly s bs).0 (n.validity.0 e), λ x. n.validity.1 ((validity_exactly s bs).1 x));
    }

-- ---- the zeros of a refusal

zeros : (a : Answer) → ((numbers_of (reading_of a)).answer ≡ 0 → ⊥) → numbers_of (reading_of a) ≡ refusal (numbers_of (reading_of a)).answer
zeros (read v) f = absurd (f refl)
zeros structure f = refl
zeros validity f = refl

pub refusal_zero : RefusalZero
refusal_zero s f = zeros (read_of s) f
