-- Laws of bytes moved down, the first first (specs/Write.antt). Assumes nothing.
use mathlib.Core.Path.{◌≡◌, refl, sym, ap, ◌∙◌}
use mathlib.Core.Bool.{◌&&◌}
use mathlib.Core.List.{List, ◌++◌}
use Prim.Native.Nat.{ℕ, ◌+◌, ◌-◌, ◌≤◌, ◌<◌}
use native.Mathlib.Omega.{arith}
use lib.ListN.{length, take, drop, get_or, set, take-append-drop}
use lib.Seq.{get_or-drop, get_or-take, drop-paste, drop-drop}
use lib.Dec.{leb}
use Rattle.std.proofs.lemmas.Bool.Decides.{nat_tests}
use borrow.Author.Tests.{leb-true}
use Rattle.octets.specs.Bytes.{part, Has}
use Rattle.octets.specs.Write.{over, lowered, moved_down}
use Rattle.octets.proofs.Tests.{by_cond, and_left, and_right}
use Rattle.octets.proofs.BytesLaws.{part_has, has_part}
use Rattle.octets.proofs.OverLaws.{over_length, written, written_none, written_more, written_all}

-- bytes that are there are moved
pub down_fits : (d : List ℕ) (from to n : ℕ) → to ≤ from → from + n ≤ length d → moved_down d from to n ≡ lowered d from to n
unfolding moved_down
down_fits d from to n h l = grind (arith, nat_tests)

-- bytes that are not there are not moved
pub down_short : (d : List ℕ) (from to n : ℕ) → length d < from + n → moved_down d from to n ≡ d
unfolding moved_down
down_short d from to n h = grind (arith, nat_tests)

-- bytes that are moved to their own place change nothing
lowered_same : (d : List ℕ) (at n : ℕ) → at + n ≤ length d → lowered d at at n ≡ d
unfolding lowered over part
lowered_same d at n l =
    let m : length (take n (drop at d)) ≡ n = (part_has d at n l).1 in
    ap (λ (k : ℕ). take at d ++ (take n (drop at d) ++ drop (at + k) d)) m
    ∙ ap (λ (x : List ℕ). take at d ++ (take n (drop at d) ++ x)) (sym (drop-drop n at d))
    ∙ ap (λ (x : List ℕ). take at d ++ x) (take-append-drop n (drop at d))
    ∙ take-append-drop at d

-- nothing is moved up, and what would be moved to its own place changes nothing
pub down_not : (d : List ℕ) (from to n : ℕ) → from ≤ to → moved_down d from to n ≡ d
unfolding moved_down
down_not d from to n h =
    by_cond (λ (x : List ℕ). x ≡ d) (leb to from && leb (from + n) (length d))
    (λ e.
    let g : to ≤ from = leb-true to from (and_left (leb to from) (leb (from + n) (length d)) e) in
    let l : from + n ≤ length d = leb-true (from + n) (length d) (and_right (leb to from) (leb (from + n) (length d)) e) in
    let s : to ≡ from = omega arith in
    ap (λ (k : ℕ). lowered d from k n) s ∙ lowered_same d from n l)
    (λ e. refl)

-- the length is kept, whether bytes are moved or not
pub down_length : (d : List ℕ) (from to n : ℕ) → length (moved_down d from to n) ≡ length d
unfolding moved_down lowered
down_length d from to n =
    by_cond (λ (x : List ℕ). length x ≡ length d) (leb to from && leb (from + n) (length d))
    (λ e.
    let h : to ≤ from = leb-true to from (and_left (leb to from) (leb (from + n) (length d)) e) in
    let l : from + n ≤ length d = leb-true (from + n) (length d) (and_right (leb to from) (leb (from + n) (length d)) e) in
    over_length d to (part d from n) (omega (arith, (part_has d from n l).1)))
    (λ e. refl)

-- bytes that stand at a place are written over their new place
pub down_has : (d : List ℕ) (from to : ℕ) (s : List ℕ) (n : ℕ) → length s ≡ n → to ≤ from → from + n ≤ length d → Has d from s
    → moved_down d from to n ≡ over d to s
unfolding lowered
down_has d from to s n e h l k = down_fits d from to n h l ∙ ap (over d to) (ap (part d from) (sym e) ∙ has_part d from s k)

-- ---- a loop that moves bytes down, the first first

-- d after i turns: the first i of the n bytes at `from` are written from `to` on
unfoldable pub lowering : List ℕ → ℕ → ℕ → ℕ → ℕ → List ℕ
lowering d from to n i = written d to (part d from n) i

-- before the first turn nothing is moved
pub lowering_none : (d : List ℕ) (from to n : ℕ) → d ≡ lowering d from to n 0
unfolding lowering
lowering_none d from to n = written_none d to (part d from n)

-- a byte after those that were written is the old one
written_later : (d : List ℕ) (to : ℕ) (s : List ℕ) (i p : ℕ) → to ≤ length d → i ≤ length s → to + i ≤ p
    → get_or (written d to s i) p 0 ≡ get_or d p 0
unfolding written
written_later d to s i p h l k =
    let e : (to + i) + (p - (to + i)) ≡ p = omega arith in
    ap (λ (q : ℕ). get_or (written d to s i) q 0) (sym e)
    ∙ sym (get_or-drop (to + i) (written d to s i) (p - (to + i)) 0)
    ∙ ap (λ (x : List ℕ). get_or x (p - (to + i)) 0) (drop-paste d to s i h l)
    ∙ get_or-drop (to + i) d (p - (to + i)) 0
    ∙ ap (λ (q : ℕ). get_or d q 0) e

-- a byte of a part
part_get_d : (d : List ℕ) (from n i : ℕ) → i < n → get_or (part d from n) i 0 ≡ get_or d (from + i) 0
unfolding part
part_get_d d from n i h = get_or-take n (drop from d) i 0 h ∙ get_or-drop from d i 0

-- one byte more is moved: since its new place is not after its old one, the byte that is read is still the old one
pub lowering_more : (d : List ℕ) (from to n i : ℕ) → to ≤ from → from + n ≤ length d → i < n
    → set (lowering d from to n i) (to + i) (get_or (lowering d from to n i) (from + i) 0) ≡ lowering d from to n (i + 1)
unfolding lowering
lowering_more d from to n i h l k =
    let s : List ℕ = part d from n in
    let m : length s ≡ n = (part_has d from n l).1 in
    let g : get_or (written d to s i) (from + i) 0 ≡ get_or s i 0
    = written_later d to s i (from + i) (omega arith) (omega arith) (omega arith) ∙ sym (part_get_d d from n i k) in
    ap (λ (v : ℕ). set (written d to s i) (to + i) v) g ∙ written_more d to s i (omega arith) (omega arith)

-- after the last turn all of it is moved
pub lowering_all : (d : List ℕ) (from to n i : ℕ) → from + n ≤ length d → i ≡ n → lowering d from to n i ≡ lowered d from to n
unfolding lowering lowered
lowering_all d from to n i l e = written_all d to (part d from n) i (e ∙ sym (part_has d from n l).1)
