-- What the code's proofs of narrowing use: the bytes of what was read, the tests of `compared`, and the steps of the search through the
-- child's grants. Assumes nothing.
use mathlib.Core.Path.{◌≡◌, refl, sym, ap, ap₂, ◌∙◌, subst}
use mathlib.Core.Bool.{Bool, true, false, not, cond, ◌&&◌, ◌||◌}
use mathlib.Core.List.{List}
use Prim.Native.Nat.{ℕ, suc, ◌+◌, ◌-◌, ◌≤◌, ◌<◌}
use native.Mathlib.Omega.{arith}
use lib.ListN.{length, take, drop, length-take, length-drop}
use lib.Dec.{eqb, ltb}
use borrow.Author.Tests.{eq-eqb}
use Rattle.time.proofs.Laws.{not_before}
use Rattle.resource_spec.specs.Identifier.{levels_place, terminal_size}
use Rattle.octets.specs.Bytes as cbor
use Rattle.octets.specs.Bytes.{AreBytes, part}
use Rattle.exact.specs.Reads.{got, refused}
use Rattle.descriptor_spec.specs.declared.Fields.{Fields}
use Rattle.descriptor_spec.specs.Reading.{Reading}
use Rattle.descriptor_spec.specs.declared.ReadError.{ReadError}
use Rattle.descriptor_spec.specs.declared.ReadError.TheVariants as reading
use Rattle.descriptor_spec.specs.Model.{Descriptor}
use Rattle.descriptor_spec.specs.Allowed.{Allowed}
use Rattle.descriptor_spec.specs.Reader.{GrantSeen, grant_at, Seen, Answer, read, structure, validity, read_of}
use Rattle.descriptor_spec.specs.Code.{fields_of, reading_of}
use Rattle.descriptor_spec.specs.Numbers.{numbers_of, number_of}
use Rattle.descriptor_spec.specs.Promises.{DescriptorHanded}
use Rattle.descriptor_spec.proofs.Promises.{answered_exactly, hands_back}
use Rattle.resource_spec.proofs.Laws.{terminal_length}
use Rattle.octets.proofs.PartLaws.{lent_later, lent_part}
use Rattle.octets.proofs.SameLaws.{pointwise_same}
use Rattle.std.specs.Cmp.Lexicographic.{pointwise}
use Rattle.std.specs.Ordering.{is_lt, nat_cmp}
use Rattle.std.proofs.lemmas.Bool.Decides.{nat_tests}
use Rattle.std.proofs.Common.{Option, Some, None, Ok, Err}
use Rattle.narrowing_spec.specs.declared.NarrowingError.{NarrowingError}
use Rattle.narrowing_spec.specs.declared.NarrowingError.TheVariants.{NoParent, Structure, Validity, Constrained, Period, NotCovered}
use Rattle.narrowing.specs.declared.search.Escape.{Escape}
use Rattle.narrowing.specs.Code.{below, escape_in, or_next, compared_in, first_in}
use Rattle.narrowing_spec.specs.Narrow.{Narrowing, compared, with_parent, under_parent, narrow}
use Rattle.narrowing.proofs.AgreeLaws.{scan_agrees}

-- ---- both descriptors

-- the code's tests are those of the definition
tests_agree : (a b c d : Bool) (x y : Narrowing) → x ≡ y
    → cond (not a || not b) (Err Constrained) (cond (c || d) (Err Period) x) ≡ cond (a && b) (cond (not c && not d) y (Err Period)) (Err Constrained)
tests_agree false b c d x y e = refl
tests_agree true false c d x y e = refl
tests_agree true true true d x y e = refl
tests_agree true true false true x y e = refl
tests_agree true true false false x y e = e

-- comparing two descriptors that were read in their bytes answers what comparing them does
compared_agrees : (s t : List ℕ) (v w : Seen) → AreBytes s → AreBytes t → read_of s ≡ read v → read_of t ≡ read w
    → compared_in s (fields_of v) t (fields_of w) ≡ compared s v t w
unfolding compared_in compared
compared_agrees s t v w bs bt e f =
    let p = v.payload in
    let q = w.payload in
    rw (not_before p.not_before q.not_before, not_before q.not_after p.not_after)
    (tests_agree (eqb p.grants.sum.pairs 0) (eqb q.grants.sum.pairs 0) (ltb q.not_before p.not_before)
    (ltb p.not_after q.not_after) _ _ (scan_agrees s t v w bs bt e f))

-- ---- what was read

-- the fields of an answer; v on a refusal
abbrev fields_in : Fields → Reading → Fields
fields_in v (Ok f) = f
fields_in v (Err e) = v

-- what is seen where the fields v were read
abbrev SeenAs : List ℕ → Fields → Type 0
SeenAs s v = (x : Seen) × (read_of s ≡ read x) × (v ≡ fields_of x)

-- fields that were read are those of what is seen
seen_as : (s : List ℕ) (v : Fields) → Ok v ≡ reading_of (read_of s) → SeenAs s v
seen_as s v e = go (read_of s) refl e
  where
    go : (a : Answer) → read_of s ≡ a → Ok v ≡ reading_of a → SeenAs s v
    go (read x) f r = (x, f, ap (fields_in v) r)
    go structure f r = absurd (omega (arith, ap number_of r))
    go validity f r = absurd (omega (arith, ap number_of r))

-- a part that is as long as it should be lies within s
part_in : (s : List ℕ) (at n : ℕ) → 0 < n → length (part s at n) ≡ n → at + n ≤ length s
unfolding part
part_in s at n h e = let i = sym (length-take n (drop at s)) ∙ e in let j = length-drop at s in omega (arith, i, j)

-- fields that were read are an allowed descriptor's, number by number
fields_handed : (s : List ℕ) (v : Fields) → AreBytes s → Ok v ≡ reading_of (read_of s)
    → (d : Descriptor) × Allowed d × DescriptorHanded s d (numbers_of (Ok v))
fields_handed s v b e =
    let r = (answered_exactly s b).done.0 (sym (ap number_of e)) in
    (r.0, r.1, subst (λ (a : Reading). DescriptorHanded s r.0 (numbers_of a)) (sym e) (hands_back s b r.0 r.1 r.2))

-- the terminal id lies within s
pub terminal_room : (s : List ℕ) (v : Fields) → AreBytes s → Ok v ≡ reading_of (read_of s) → v.terminal + terminal_size ≤ length s
terminal_room s v b e =
    let r = fields_handed s v b e in
    part_in s v.terminal terminal_size (omega arith)
    (ap length r.2.terminal ∙ terminal_length r.0.payload.terminal r.1.formed.payload.terminal)

-- and there are at most 256 grants
pub grants_few : (s : List ℕ) (v : Fields) → AreBytes s → Ok v ≡ reading_of (read_of s) → v.grants ≤ 256
grants_few s v b e = let r = fields_handed s v b e in omega (arith, r.2.grants, r.1.formed.payload.most)

-- ---- narrowing

-- both read
pub narrow_both : (s t : List ℕ) (v w : Fields) → AreBytes s → AreBytes t → Ok v ≡ reading_of (read_of s)
    → Ok w ≡ reading_of (read_of t)
    → compared_in s v t w ≡ narrow s t
unfolding narrow
narrow_both s t v w bs bt e f =
    let x = seen_as s v e in
    let y = seen_as t w f in
    ap₂ (λ (a b : Fields). compared_in s a t b) x.2 y.2 ∙ compared_agrees s t x.0 y.0 bs bt x.1 y.1
    ∙ sym (ap (λ (a : Answer). with_parent s a t) x.1 ∙ ap (under_parent s x.0 t) y.1)

-- why a child is refused that does not read
abbrev child_error : ReadError → NarrowingError
child_error reading.Structure = Structure
child_error reading.Validity = Validity

-- the child is refused
pub narrow_child : (s t : List ℕ) (v : Fields) (e : ReadError) → Ok v ≡ reading_of (read_of s) → Err e ≡ reading_of (read_of t)
    → Err (child_error e) ≡ narrow s t
unfolding narrow
narrow_child s t v e f g = let x = seen_as s v f in sym (ap (λ (a : Answer). with_parent s a t) x.1 ∙ go (read_of t) g)
  where
    go : (a : Answer) → Err e ≡ reading_of a → under_parent s (seen_as s v f).0 t a ≡ Err (child_error e)
    go (read y) r = cc
    go structure r = let h : e ≡ reading.Structure = cc in rw h
    go validity r = let h : e ≡ reading.Validity = cc in rw h

-- the parent is refused
pub narrow_no_parent : (s t : List ℕ) (e : ReadError) → Err e ≡ reading_of (read_of s) → Err NoParent ≡ narrow s t
unfolding narrow
narrow_no_parent s t e f = go (read_of s) f
  where
    go : (a : Answer) → Err e ≡ reading_of a → Err NoParent ≡ with_parent s a t
    go (read y) g = cc
    go structure g = refl
    go validity g = refl

-- ---- the tests of `compared`

-- two without a constraint pair, the child's period within the parent's
pub compared_first : (s : List ℕ) (v : Fields) (t : List ℕ) (w : Fields) {shared : Bool} → v.constraints ≡ 0 → w.constraints ≡ 0
    → false ≡ is_lt (nat_cmp w.not_before.0 v.not_before.0)
    → false ≡ is_lt (nat_cmp v.not_after.0 w.not_after.0)
    → shared ≡ pointwise eqb (take (v.terminal + terminal_size - v.terminal) (drop v.terminal s))
    (take (w.terminal + terminal_size - w.terminal) (drop w.terminal t))
    → first_in s v.first v.grants shared t 0 w.grants w.first ≡ compared_in s v t w
unfolding compared_in
compared_first s v t w {shared} a b c d e =
    let begins : ltb w.not_before.0 v.not_before.0 ≡ false = grind (arith, nat_tests) in
    let ends : ltb v.not_after.0 w.not_after.0 ≡ false = grind (arith, nat_tests) in
    let same_id : shared ≡ cbor.same (part s v.terminal terminal_size) (part t w.terminal terminal_size) =
    e ∙ pointwise_same _ _ ∙ ap₂ cbor.same (lent_part s v.terminal terminal_size) (lent_part t w.terminal terminal_size) in
    rw (eq-eqb _ _ a, eq-eqb _ _ b, begins, ends, same_id)

-- ---- the search through the child's grants

-- the levels of a pattern, as the code lends them
abbrev pub lent : List ℕ → GrantSeen → List ℕ
lent s g = take (g.pattern.start + g.pattern.len - (g.pattern.start + levels_place)) (drop (g.pattern.start + levels_place) s)

-- they are those below the terminal id
lent_below : (s : List ℕ) (g : GrantSeen) → lent s g ≡ below s g.pattern
lent_below s g = lent_later s g.pattern.start g.pattern.len levels_place

module _ (s : List ℕ) (at count : ℕ) (shared : Bool) (t : List ℕ) (i n here : ℕ) where
  -- one grant that was read
  first_one : {g : GrantSeen} {next : ℕ} → i < n → got g next ≡ grant_at t here
      → or_next i (escape_in s at count shared (lent t g) g.mask) (first_in s at count shared t (i + 1) (n - (i + 1)) next)
      ≡ first_in s at count shared t i (n - i) here
  unfolding first_in
  first_one {g} {next} h e =
      let l : n - i ≡ suc (n - (i + 1)) = omega arith in
      ap (λ (p : List ℕ). or_next i (escape_in s at count shared p g.mask) (first_in s at count shared t (i + 1) (n - (i + 1)) next))
      (lent_below t g)
      ∙ rw (l, first_in, ← e)

  -- a grant by which a path escapes
  pub first_hit : {g : GrantSeen} {next : ℕ} {x : Escape} → i < n → got g next ≡ grant_at t here
      → Some x ≡ escape_in s at count shared (lent t g) g.mask
      → Err (NotCovered i x.mode x.levels) ≡ first_in s at count shared t i (n - i) here
  first_hit {next = next} h e f = ap (λ (r : Option Escape). or_next i r (first_in s at count shared t (i + 1) (n - (i + 1)) next)) f ∙ first_one h e

  -- a grant by which none does
  pub first_next : {g : GrantSeen} {next : ℕ} → i < n → got g next ≡ grant_at t here → None
      ≡ escape_in s at count shared (lent t g) g.mask
      → first_in s at count shared t (i + 1) (n - (i + 1)) next ≡ first_in s at count shared t i (n - i) here
  first_next {next = next} h e f = ap (λ (r : Option Escape). or_next i r (first_in s at count shared t (i + 1) (n - (i + 1)) next)) f ∙ first_one h e

  -- no grant
  pub first_none : i < n → refused ≡ grant_at t here → Ok tt ≡ first_in s at count shared t i (n - i) here
  unfolding first_in
  first_none h e =
      let l : n - i ≡ suc (n - (i + 1)) = omega arith in
      rw (l, first_in, ← e)

  -- the last was read
  pub first_done : n ≤ i → Ok tt ≡ first_in s at count shared t i (n - i) here
  unfolding first_in
  first_done h =
      let l : n - i ≡ 0 = omega arith in
      rw l
