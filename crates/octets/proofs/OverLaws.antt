-- Laws of what a write leaves of bytes (specs/Write.antt). Assumes nothing.
use mathlib.Core.Path.{◌≡◌, refl, sym, ap, ap₂, ◌∙◌}
use mathlib.Core.List.{List, [], ◌∷◌, ◌++◌, append_assoc}
use Prim.Native.Nat.{ℕ, zero, suc, ◌+◌, ◌-◌, ◌≤◌, ◌<◌}
use native.Mathlib.Omega.{arith}
use native.Mathlib.Numerals.{add-one, sub-one}
use native.Mathlib.Nat.{add-zero}
use lib.Dec.{leb}
use lib.ListN.{get_or-append, length, take, drop, get_or, set, length-append, length-take, length-drop, take-append-drop}
use lib.Seq.{set_at, get_or-take, take-append-le, drop-append-le, take-add, drop-drop, take_at, drop_at, take-take, length-take-le}
use lib.Seq.{append_snoc, take-suc, drop-cons, paste, paste-zero, paste-suc, take-length}
use Rattle.std.proofs.lemmas.Bool.Decides.{nat_tests}
use borrow.Author.Tests.{leb-true}
use borrow.Rule.Slice.PartMut.{put_mid}
use Rattle.octets.specs.Bytes.{part, Has}
use Rattle.octets.proofs.Tests.{by_cond}
use Rattle.octets.specs.Write.{over, put_at, moved, moved_up}

-- ---- one write

-- a write keeps the length
pub over_length : (d : List ℕ) (at : ℕ) (s : List ℕ) → at + length s ≤ length d → length (over d at s) ≡ length d
unfolding over
over_length d at s h = simp (length-append, length-take, length-drop) (omega arith)

-- no byte written changes nothing
pub over_nil : (d : List ℕ) (at : ℕ) → over d at [] ≡ d
unfolding over
over_nil d at = rw add-zero (take-append-drop at d)

-- what was written stands at its place
pub over_has : (d : List ℕ) (at : ℕ) (s : List ℕ) → at + length s ≤ length d → Has (over d at s) at s
unfolding over Has part
over_has d at s h =
    ap (take (length s)) (drop_at (take at d) (s ++ drop (at + length s) d) at (length-take-le at d (omega arith)))
    ∙ take_at s (drop (at + length s) d) (length s) refl

-- a part before the place stays
pub over_before : (d : List ℕ) (at : ℕ) (s : List ℕ) (p n : ℕ) → at + length s ≤ length d → p + n ≤ at → part (over d at s) p n ≡ part d p n
unfolding over part
over_before d at s p n h l =
    let e : p + (at - p) ≡ at = omega arith in
    let t : take at d ≡ take p d ++ take (at - p) (drop p d) = ap (λ (k : ℕ). take k d) (sym e) ∙ take-add p (at - p) d in
    let u : drop p (take at d) ≡ take (at - p) (drop p d) =
    ap (drop p) t ∙ drop_at (take p d) (take (at - p) (drop p d)) p (length-take-le p d (omega arith)) in
    let v : length (drop p (take at d)) ≡ at - p = simp (length-drop, length-take) (omega arith) in
    ap (take n) (drop-append-le p (take at d) (s ++ drop (at + length s) d) (simp length-take (omega arith)))
    ∙ take-append-le n (drop p (take at d)) (s ++ drop (at + length s) d) (omega arith)
    ∙ ap (take n) u
    ∙ take-take n (at - p) (drop p d) (omega arith)

-- what follows the written bytes stays
pub over_after : (d : List ℕ) (at : ℕ) (s : List ℕ) (p : ℕ) → at + length s ≤ length d → at + length s ≤ p → drop p (over d at s) ≡ drop p d
unfolding over
over_after d at s p h l =
    let e : (at + length s) + (p - (at + length s)) ≡ p = omega arith in
    let k : length (take at d ++ s) ≡ at + length s = simp (length-append, length-take) (omega arith) in
    ap (λ (m : ℕ). drop m (take at d ++ (s ++ drop (at + length s) d))) (sym e)
    ∙ sym (drop-drop (p - (at + length s)) (at + length s) (take at d ++ (s ++ drop (at + length s) d)))
    ∙ ap (drop (p - (at + length s)))
    (ap (drop (at + length s)) (sym (append_assoc (take at d) s (drop (at + length s) d)))
    ∙ drop_at (take at d ++ s) (drop (at + length s) d) (at + length s) k)
    ∙ drop-drop (p - (at + length s)) (at + length s) d
    ∙ ap (λ (m : ℕ). drop m d) e

-- bytes that stand before the place still stand there
pub over_keeps : (d : List ℕ) (at : ℕ) (s : List ℕ) (p : ℕ) (t : List ℕ) → at + length s ≤ length d → p + length t ≤ at → Has d p t
    → Has (over d at s) p t
unfolding Has
over_keeps d at s p t h l k = over_before d at s p (length t) h l ∙ k

-- a list is what it has at its front and what follows that
pub has_front : (d s : List ℕ) → Has d 0 s → d ≡ s ++ drop (length s) d
unfolding Has part
has_front d s h = sym (take-append-drop (length s) d) ∙ ap (λ (x : List ℕ). x ++ drop (length s) d) h

-- a byte before the place stays
pub over_get_d : (d : List ℕ) (at : ℕ) (s : List ℕ) (p : ℕ) → at ≤ length d → p < at → get_or (over d at s) p 0 ≡ get_or d p 0
unfolding over
over_get_d d at s p h l = get_or-append (take at d) (s ++ drop (at + length s) d) 0 p (simp length-take (omega arith))
    ∙ get_or-take at d p 0 l

-- ---- one write after another

-- a byte set just before what was written is written with it
pub over_cons : (d : List ℕ) (at : ℕ) (s : List ℕ) (x : ℕ) → at < length d → set (over d (suc at) s) at x ≡ over d at (x ∷ s)
unfolding over
over_cons d at s x h =
    let rest : List ℕ = s ++ drop (suc at + length s) d in
    let e : suc at + length s ≡ at + suc (length s) = omega arith in
    ap (λ (l : List ℕ). set (l ++ rest) at x) (take-suc d at 0 h)
    ∙ ap (λ (l : List ℕ). set l at x) (append_snoc (take at d) (get_or d at 0) rest)
    ∙ set_at (take at d) (get_or d at 0) rest x at (length-take-le at d (omega arith))
    ∙ ap (λ (k : ℕ). take at d ++ (x ∷ (s ++ drop k d))) e

-- the definition of `over`, as an equation
over_open : (d : List ℕ) (at : ℕ) (s : List ℕ) → over d at s ≡ take at d ++ (s ++ drop (at + length s) d)
unfolding over
over_open d at s = refl

-- up to the end of what was written, a write gives the bytes before the place and then s
over_front : (d : List ℕ) (at : ℕ) (s : List ℕ) → length (take at d ++ s) ≡ at + length s
    → take (at + length s) (over d at s) ≡ take at d ++ s
over_front d at s e =
    ap (take (at + length s)) (over_open d at s ∙ sym (append_assoc (take at d) s (drop (at + length s) d)))
    ∙ take_at (take at d ++ s) (drop (at + length s) d) (at + length s) e

-- one piece written right after another is the two written together
pub over_append : (d : List ℕ) (at : ℕ) (s t : List ℕ) → at + length s ≤ length d
    → over (over d at s) (at + length s) t ≡ over d at (s ++ t)
over_append d at s t h =
    let e : length (take at d ++ s) ≡ at + length s = simp (length-append, length-take) (omega arith) in
    let front : take (at + length s) (over d at s) ≡ take at d ++ s = over_front d at s e in
    let back : drop (at + length s + length t) (over d at s) ≡ drop (at + length s + length t) d =
    over_after d at s (at + length s + length t) (omega arith) (omega arith) in
    let n : at + length s + length t ≡ at + length (s ++ t) = omega (arith, length-append s t) in
    over_open (over d at s) (at + length s) t
    ∙ ap₂ (λ (x y : List ℕ). x ++ (t ++ y)) front (back ∙ ap (λ (k : ℕ). drop k d) n)
    ∙ append_assoc (take at d) s (t ++ drop (at + length (s ++ t)) d)
    ∙ ap (λ (x : List ℕ). take at d ++ x) (sym (append_assoc s t (drop (at + length (s ++ t)) d)))
    ∙ sym (over_open d at (s ++ t))

-- ---- what a write leaves alone

-- d' is d but for the bytes from `from` up to `to`
pub record Kept (d d' : List ℕ) (from to : ℕ) : Type 0 where
  pub long : length d' ≡ length d
  pub before : (p : ℕ) (t : List ℕ) → p + length t ≤ from → Has d p t → Has d' p t
  pub after : (p : ℕ) → to ≤ p → drop p d' ≡ drop p d

-- bytes that stand after the changed ones still stand there
pub kept_has : (d d' : List ℕ) (from to p : ℕ) (t : List ℕ) → Kept d d' from to → to ≤ p → Has d p t → Has d' p t
unfolding Has part
kept_has d d' from to p t k l h = ap (take (length t)) (k.after p l) ∙ h

-- a write changes its own bytes only
pub kept_over : (d : List ℕ) (at : ℕ) (s : List ℕ) → at + length s ≤ length d → Kept d (over d at s) at (at + length s)
kept_over d at s h = record {
  long = over_length d at s h;
  before = λ p t l k. over_keeps d at s p t h l k;
  after = λ p l. over_after d at s p h l;
}

-- what is not written is kept
pub kept_self : (d : List ℕ) (from to : ℕ) → Kept d d from to
kept_self d from to = record { long = refl; before = λ p t l k. k; after = λ p l. refl }

-- two changes within the same bounds are one
pub kept_join : (d d' d'' : List ℕ) (from to from' to' a b : ℕ) → Kept d d' from to → Kept d' d'' from' to'
    → a ≤ from → a ≤ from' → to ≤ b → to' ≤ b → Kept d d'' a b
kept_join d d' d'' from to from' to' a b k l h i j m = record {
  long = l.long ∙ k.long;
  before = λ p t w x. l.before p t (omega arith) (k.before p t (omega arith) x);
  after = λ p w. l.after p (omega arith) ∙ k.after p (omega arith);
}

-- ---- a write where it fits

-- what fits is written
pub put_fits : (d : List ℕ) (at : ℕ) (s : List ℕ) → at + length s ≤ length d → put_at d at s ≡ over d at s
unfolding put_at
put_fits d at s h = grind (arith, nat_tests)

-- what does not fit is not written
pub put_not : (d : List ℕ) (at : ℕ) (s : List ℕ) → length d < at + length s → put_at d at s ≡ d
unfolding put_at
put_not d at s h = grind (arith, nat_tests)

-- what is copied over the part of its length is written
pub put_copied : (d : List ℕ) (at : ℕ) (s r : List ℕ) → at + length s ≤ length d → r ≡ s → put_mid at (at + length s - at) d r ≡ put_at d at s
put_copied d at s r h e =
    let k : at + length s - at ≡ length s = omega arith in
    rw (e, k) (ap (λ (x : List ℕ). take at d ++ (s ++ x)) (drop-drop (length s) at d) ∙ sym (over_open d at s) ∙ sym (put_fits d at s h))

-- the length is kept, whether s fits or not
pub put_length : (d : List ℕ) (at : ℕ) (s : List ℕ) → length (put_at d at s) ≡ length d
unfolding put_at
put_length d at s =
    by_cond (λ (x : List ℕ). length x ≡ length d) (leb (at + length s) (length d))
    (λ e. over_length d at s (leb-true (at + length s) (length d) e)) (λ e. refl)

-- ---- a loop that writes

-- d with the first i bytes of s written over it from `at` on
unfoldable pub written : List ℕ → ℕ → List ℕ → ℕ → List ℕ
written d at s i = paste d at s i

-- before the first byte nothing is written
pub written_none : (d : List ℕ) (at : ℕ) (s : List ℕ) → d ≡ written d at s 0
unfolding written
written_none d at s = paste-zero d at s

-- one byte more is written
pub written_more : (d : List ℕ) (at : ℕ) (s : List ℕ) (i : ℕ) → at + i < length d → i < length s
    → set (written d at s i) (at + i) (get_or s i 0) ≡ written d at s (i + 1)
unfolding written
written_more d at s i h k = paste-suc d at s i 0 h k ∙ ap (paste d at s) (sym (add-one i))

-- after the last byte the whole of s is written
pub written_all : (d : List ℕ) (at : ℕ) (s : List ℕ) (i : ℕ) → i ≡ length s → written d at s i ≡ over d at s
unfolding written over
written_all d at s i e =
    ap (paste d at s) e
    ∙ ap (λ (x : List ℕ). take at d ++ x ++ drop (at + length s) d) (take-length s)
    ∙ append_assoc (take at d) s (drop (at + length s) d)

-- ---- bytes moved up

-- bytes that are there and fit are moved
pub moved_fits : (d : List ℕ) (from to by : ℕ) → from ≤ to → to + by ≤ length d → moved_up d from to by ≡ moved d from to by
unfolding moved_up
moved_fits d from to by h l = grind (arith, nat_tests)

-- where `to` is before `from` nothing is moved
pub moved_no_bytes : (d : List ℕ) (from to by : ℕ) → to < from → moved_up d from to by ≡ d
unfolding moved_up
moved_no_bytes d from to by h = grind (arith, nat_tests)

-- where there is no room nothing is moved
pub moved_no_room : (d : List ℕ) (from to by : ℕ) → length d < to + by → moved_up d from to by ≡ d
unfolding moved_up
moved_no_room d from to by h = grind (arith, nat_tests)

-- ---- a loop that moves bytes up, the last first

-- before the first turn nothing is moved
pub moved_none : (d : List ℕ) (to by : ℕ) → d ≡ moved d to to by
unfolding moved part
moved_none d to by = let e : to - to ≡ 0 = omega arith in rw e (sym (over_nil d (to + by)))

-- one byte more is moved, with the place named by its successor
moved_suc : (d : List ℕ) (j to by : ℕ) → j < to → to + by ≤ length d
    → set (moved d (suc j) to by) (j + by) (get_or (moved d (suc j) to by) j 0) ≡ moved d j to by
unfolding moved part
moved_suc d j to by h l =
    let e : suc j + by ≡ suc (j + by) = omega arith in
    let n : to - j ≡ suc (to - suc j) = omega arith in
    let s : List ℕ = take (to - suc j) (drop (suc j) d) in
    let g : get_or (over d (suc j + by) s) j 0 ≡ get_or d j 0 = over_get_d d (suc j + by) s j (omega arith) (omega arith) in
    let c : take (to - j) (drop j d) ≡ get_or d j 0 ∷ s = ap₂ (λ (k : ℕ) (x : List ℕ). take k x) n (drop-cons d j 0 (omega arith)) in
    ap (λ (v : ℕ). set (over d (suc j + by) s) (j + by) v) g
    ∙ ap (λ (k : ℕ). set (over d k s) (j + by) (get_or d j 0)) e
    ∙ over_cons d (j + by) s (get_or d j 0) (omega arith)
    ∙ ap (over d (j + by)) (sym c)

-- one byte more is moved: the byte before those that were moved is still the old one
pub moved_more : (d : List ℕ) (i to by : ℕ) → 0 < i → i ≤ to → to + by ≤ length d
    → set (moved d i to by) ((i - 1) + by) (get_or (moved d i to by) (i - 1) 0) ≡ moved d (i - 1) to by
moved_more d zero to by p h l = absurd (omega arith)
moved_more d (suc j) to by p h l = rw (sub-one (suc j)) (moved_suc d j to by (omega arith) l)
