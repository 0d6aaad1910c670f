-- Where the walk over the grants of an encoded descriptor stands, and what it gives there. Assumes nothing.
use Rattle.std.specs.Prelude.{◌≡◌, ℕ, zero, suc, ◌+◌, ◌-◌, ◌<◌, ◌≤◌, List, [], ◌∷◌, length, get_or}
use mathlib.Core.Path.{refl, sym, ap, ◌∙◌, subst}
use native.Mathlib.Nat.{add-zero}
use native.Mathlib.Omega.{arith}
use Rattle.octets.specs.Bytes.{AreBytes}
use Rattle.exact.specs.Reads.{Got}
use Rattle.descriptor_spec.specs.Model.{Descriptor, encode}
use Rattle.descriptor_spec.specs.Allowed.{Formed, Allowed}
use Rattle.descriptor_spec.specs.Reader.{GrantSeen, Answer, grant_at}
use Rattle.descriptor_spec.specs.Code.{reading_of}
use Rattle.descriptor_spec.specs.View.{descriptor_view, grant_place}
use Rattle.descriptor_spec.specs.Numbers.{numbers_of, grant_numbers}
use Rattle.descriptor_spec.specs.Promises.{GrantHandedBack}
use Rattle.descriptor_spec.proofs.Laws.{reads_exactly, grants_walk, grants_end}
use Rattle.descriptor_spec.proofs.Promises.{grant_handed}
use Rattle.grant_reader.specs.Code.{start_of, place_after, place_from}
use Rattle.grant_reader.specs.Promises.{ReaderPlaces, EachInTurn, NonePast, NoneUnread}
use Rattle.grant_reader.proofs.WalkLaws.{start_read, start_unread, after_got, from_both, refused_stays, none_stays, nth_at}
use Rattle.grant_reader.proofs.EndLaws.{end_none}

-- there is an i-th
nth_there : {X : Type 0} (xs : List X) (i : ℕ) → i < length xs → (x : X) × (get_or xs i x ≡ x)
nth_there [] i l = absurd (omega arith)
nth_there (x ∷ xs) zero l = (x, refl)
nth_there (x ∷ xs) (suc i) l = nth_there xs i (omega arith)

-- from the i-th grant the walk goes to the next
step_place : (d : Descriptor) → AreBytes (encode d) → Formed d → (i : ℕ) → i < length d.payload.grants
    → place_after (encode d) (grant_place d i) ≡ grant_place d (i + 1)
step_place d bs q i l =
    let g = nth_there d.payload.grants i l in
    after_got (encode d) _ _ _ (sym (grants_walk d bs q i g.0 l g.1))

-- from the i-th grant the walk is n grants later at the n-th after it
from_place : (d : Descriptor) → AreBytes (encode d) → Formed d → (n i : ℕ) → i + n ≤ length d.payload.grants
    → place_from (encode d) (grant_place d i) n ≡ grant_place d (i + n)
unfolding place_from
from_place d bs q zero i l = ap (grant_place d) (sym (add-zero i))
from_place d bs q (suc n) i l =
    let more : i + 1 + n ≡ i + suc n = omega arith in
    ap (λ (p : ℕ). place_from (encode d) p n) (step_place d bs q i (omega arith)) ∙ from_place d bs q n (i + 1) (omega arith)
    ∙ ap (grant_place d) more

-- the walk begins at the first grant
start_place : (d : Descriptor) → AreBytes (encode d) → Allowed d → start_of (encode d) ≡ grant_place d 0
start_place d bs a =
    start_read (encode d) (descriptor_view 0 d) ((reads_exactly (encode d) bs (descriptor_view 0 d)).1 (d, a, refl, refl)) ∙ sym (add-zero _)

-- after i grants it stands at the i-th
pub reader_places : ReaderPlaces
reader_places d bs a i l =
    let all : i ≡ 0 + i = omega arith in
    ap (λ (p : ℕ). place_from (encode d) p i) (start_place d bs a) ∙ from_place d bs a.formed i 0 (omega arith)
    ∙ ap (grant_place d) (sym all)

-- and gives what stands there
pub each_in_turn : EachInTurn
each_in_turn d bs a i g l e =
    let same = nth_at (encode d) i ∙ ap (grant_at (encode d)) (reader_places d bs a i (omega arith)) in
    subst (λ (o : Got GrantSeen). GrantHandedBack (encode d) g (grant_numbers o)) (sym same) (grant_handed d bs a.formed i g l e)

-- behind the last it gives none
pub none_past : NonePast
none_past d bs a i l =
    let s : List ℕ = encode d in
    let n : ℕ = length d.payload.grants in
    let both : i ≡ n + (i - n) = omega arith in
    let end : place_from s (start_of s) i ≡ place_from s (grant_place d n) (i - n)
    = ap (place_from s (start_of s)) both ∙ from_both s (start_of s) n (i - n)
    ∙ ap (λ (p : ℕ). place_from s p (i - n)) (reader_places d bs a n (omega arith)) in
    ap grant_numbers (nth_at s i ∙ ap (grant_at s) end) ∙ (none_stays s (grant_place d n) (grants_end d bs a.formed) (i - n)).1

-- of bytes that are not read it gives none
pub none_unread : NoneUnread
none_unread s f i =
    let unread = start_unread s (λ v e. f (ap (λ (a : Answer). (numbers_of (reading_of a)).answer) e)) in
    ap grant_numbers (nth_at s i ∙ ap (λ (p : ℕ). grant_at s (place_from s p i)) unread ∙ refused_stays s (length s) (end_none s) i)
