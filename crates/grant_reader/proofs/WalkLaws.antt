-- Laws of the walk over grants (specs/Code.antt): where it begins, one step of it, and where it stays. Assumes nothing.
use Rattle.std.specs.Prelude.{◌≡◌, ℕ, zero, suc, ◌+◌, ◌-◌, ◌<◌, ◌≤◌, List, length}
use mathlib.Core.Path.{refl, sym, ap, ◌∙◌}
use native.Mathlib.Omega.{arith}
use Rattle.exact.specs.Reads.{Got, got, refused}
use Rattle.descriptor_spec.specs.Reading.{Reading}
use Rattle.std.specs.Prelude.{Ok, Err}
use Rattle.descriptor_spec.specs.declared.GrantNumbers.{GrantNumbers}
use Rattle.descriptor_spec.specs.Code.{reading_of}
use Rattle.descriptor_spec.specs.Numbers.{grant_numbers}
use Rattle.descriptor_spec.specs.Reader.{GrantSeen, Seen, Answer, read, structure, validity, read_of, grant_at}
use Rattle.grant_reader.specs.Code.{start_in, start_of, next_in, place_after, place_from, nth_of}
use Rattle.grant_reader.specs.Promises.{no_grant, NoneStays}

-- ---- where the walk begins

-- the place of the first grant in what the code reads of a descriptor; the end of s where it reads nothing
abbrev pub first_in : List ℕ → Reading → ℕ
first_in s (Ok f) = f.first
first_in s (Err e) = length s

-- it is where the walk begins
first_start : (s : List ℕ) (a : Answer) → first_in s (reading_of a) ≡ start_in s a
first_start s (read v) = refl
first_start s structure = refl
first_start s validity = refl

-- the code's answer tells where the walk begins
pub starts : (s : List ℕ) {r x : Reading} → r ≡ reading_of (read_of s) → r ≡ x → first_in s x ≡ start_of s
unfolding start_of
starts s e f = ap (first_in s) (sym f ∙ e) ∙ first_start s (read_of s)

-- where a descriptor is read, the walk begins at its first grant
pub start_read : (s : List ℕ) (v : Seen) → read_of s ≡ read v → start_of s ≡ v.payload.grants.start
unfolding start_of
start_read s v e = ap (start_in s) e

-- an answer that is no descriptor makes the walk begin at the end
start_none : (s : List ℕ) (a : Answer) → ((v : Seen) → a ≡ read v → ⊥) → start_in s a ≡ length s
start_none s (read v) f = absurd (f v refl)
start_none s structure f = refl
start_none s validity f = refl

-- where none is read, the walk begins at the end
pub start_unread : (s : List ℕ) → ((v : Seen) → read_of s ≡ read v → ⊥) → start_of s ≡ length s
unfolding start_of
start_unread s f = start_none s (read_of s) f

-- ---- one step

-- after a grant the walk goes on behind it
pub after_got : (s : List ℕ) (at next : ℕ) (g : GrantSeen) → got g next ≡ grant_at s at → place_after s at ≡ next
unfolding place_after
after_got s at next g e = ap (next_in at) (sym e)

-- where there is no grant it stays
pub after_none : (s : List ℕ) (at : ℕ) → refused ≡ grant_at s at → place_after s at ≡ at
unfolding place_after
after_none s at e = ap (next_in at) (sym e)

-- the place after one grant more
from_next : (s : List ℕ) (at n : ℕ) → place_from s at (suc n) ≡ place_from s (place_after s at) n
unfolding place_from
from_next s at n = refl

-- no grant is passed
pub from_here : (s : List ℕ) (at n : ℕ) → n ≤ 0 → place_from s at n ≡ at
unfolding place_from
from_here s at zero l = refl
from_here s at (suc n) l = absurd (omega arith)

-- a grant is passed, and one less is left
pub from_step : (s : List ℕ) (at next n : ℕ) (g : GrantSeen) → 0 < n → got g next ≡ grant_at s at
    → place_from s at n ≡ place_from s next (n - 1)
from_step s at next zero g l e = absurd (omega arith)
from_step s at next (suc n) g l e =
    let less : suc n - 1 ≡ n = omega arith in
    rw less (from_next s at n ∙ ap (λ (p : ℕ). place_from s p n) (after_got s at next g e))

-- some grants are passed, and then others
pub from_both : (s : List ℕ) (at m n : ℕ) → place_from s at (m + n) ≡ place_from s (place_from s at m) n
unfolding place_from
from_both s at zero n = let none : 0 + n ≡ n = omega arith in rw none
from_both s at (suc m) n = let more : suc m + n ≡ suc (m + n) = omega arith in rw more (from_both s (place_after s at) m n)

-- ---- where there is no grant

-- the walk stays where there is no grant
stays : (s : List ℕ) (at : ℕ) → refused ≡ grant_at s at → (n : ℕ) → place_from s at n ≡ at
unfolding place_from
stays s at e zero = refl
stays s at e (suc n) = ap (λ (p : ℕ). place_from s p n) (after_none s at e) ∙ stays s at e n

-- and there is none still
pub refused_stays : (s : List ℕ) (at : ℕ) → grant_at s at ≡ refused → (n : ℕ) → grant_at s (place_from s at n) ≡ refused
refused_stays s at e n = ap (grant_at s) (stays s at (sym e) n) ∙ e

-- the zeros are those of no grant
none_refused : (o : Got GrantSeen) → grant_numbers o ≡ no_grant → o ≡ refused
none_refused (got g next) e = absurd (omega (arith, ap (λ (n : GrantNumbers). n.found) e))
none_refused refused e = refl

pub none_stays : NoneStays
none_stays s at e n =
    let r = none_refused (grant_at s at) e in
    (stays s at (sym r) n, ap grant_numbers (refused_stays s at r n))

-- ---- the grant with an index

-- it is the one at the place after as many others
pub nth_at : (s : List ℕ) (n : ℕ) → nth_of s n ≡ grant_at s (place_from s (start_of s) n)
unfolding nth_of
nth_at s n = refl

-- from the place where the walk begins
pub nth_from : (s : List ℕ) (n : ℕ) {at : ℕ} → at ≡ start_of s → nth_of s n ≡ grant_at s (place_from s at n)
nth_from s n e = rw e (nth_at s n)
