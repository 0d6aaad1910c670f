-- What the rows of the revocation list do to a request (specs/Promises.antt). Assumes nothing.
use Rattle.std.specs.Prelude.{Err, Some, None}
use Rattle.image_spec.specs.Check.{contents, Held, ImageCheck}
use mathlib.Core.Path.{◌≡◌, refl, sym, ap, ap₂, ◌∙◌, subst}
use mathlib.Core.Logic.{◌⊎◌, inl, inr}
use mathlib.Core.Bool.{Bool, true, false, not, ◌&&◌, ◌||◌}
use mathlib.Core.List.{List, ◌++◌}
use Prim.Native.Nat.{ℕ, ◌/◌, ◌%◌, ◌^◌, ◌≤◌}
use native.Mathlib.Omega.{arith}
use lib.ListN.{length, length-append}
use lib.Dec.{leb}
use borrow.Author.Tests.{le-leb, lt-leb}
use Rattle.octets.specs.Bytes.{part, same}
use Rattle.octets.specs.Number.{number_at}
use Rattle.octets.proofs.Tests.{and_left, and_right, and_both, and_false, or_false}
use Rattle.time.specs.declared.Milliseconds.{Milliseconds}
use Rattle.descriptor_spec.specs.Model.{Descriptor}
use Rattle.revocation_spec.specs.Revocation.{is_revoked, revocations_of}
use Rattle.revocation_spec.proofs.Promises.{revoked_exactly, row_more, later_revoked}
use Rattle.steps.specs.Order.{or_else, in_order}
use Rattle.steps.specs.Laws.{passes_by}
use Rattle.steps.proofs.Laws.{not_by}
use Rattle.image_spec.specs.Readable.{check_of}
use Rattle.request_spec.specs.Decision.{Decision}
use Rattle.request_spec.specs.declared.Refusal.TheVariants as answers
use Rattle.request_spec.specs.Decision.{Matched}
use Rattle.request_spec.specs.Request.{Request, seconds_of, arguments_ok, well_formed, revoked_now, lease_for}
use Rattle.request_spec.specs.Decision.{Facts, revocation_steps, descriptor_steps, key_steps, lease_steps, later_steps, steps_by}
use Rattle.request_spec.specs.Decision.{granted_by, decision_of, numbers_of}
use Rattle.request_spec.specs.Promises.{Stored, bad_image, not_held, held, Under, refusal, formed_before, formed, steps_for, granted_for}
use Rattle.request_spec.specs.Promises.{RevokedRefused}
use Rattle.request_spec.specs.Promises.{with_revoked, RowMoreRefuses, EarlyRowWaits, at_clock, StaysRevoked}
use Rattle.request_spec.proofs.HeldLaws.{decided_by, decided_in, decided_in_lem}
use Rattle.request_spec.proofs.UnderLaws.{all_stored}
use Rattle.request_spec.proofs.NumberLaws.{answer_of, decided_exactly, granted_zero}
use Rattle.request_spec.proofs.BoundaryLaws.{not_answered, answered}

-- ---- step 8

module _ (s : List ℕ) (q : Request) (d : Descriptor) (u : Under s q.id (held d)) where
  -- where the arguments are well formed and a row revokes the id, the answer is 8
  revoked_answered : formed q ≡ true → revoked_now q ≡ true → numbers_of (decision_of s q) ≡ refusal 8
  revoked_answered w l = answered s q d u 8 (λ e. omega arith) (λ e. omega arith) (rw (w, l))

  -- and where it is 8 the arguments are well formed
  answered_formed : (t : Bool) → formed q ≡ t → numbers_of (decision_of s q) ≡ refusal 8 → formed q ≡ true
  unfolding in_order or_else
  answered_formed true w e = w
  answered_formed false w e =
      let other : in_order (steps_for q (held d)) (granted_for q (held d)) ≡ refusal 15 = rw w in
      let z : ◌≡◌ {A = ℕ} 8 15 = ap answer_of (sym e ∙ decided_exactly s q (held d) u ∙ other) in
      absurd (omega (arith, z))

  -- and a row revokes the id
  answered_revoked : (t : Bool) → revoked_now q ≡ t → numbers_of (decision_of s q) ≡ refusal 8 → revoked_now q ≡ true
  answered_revoked true l e = l
  answered_revoked false l e = absurd (not_answered s q d u 8 (λ z. omega (arith, z)) (ap (λ (b : Bool). not b && true) l) (ap answer_of e))

-- `RevokedRefused`
pub revoked_refused : RevokedRefused
revoked_refused s q d u = (
  λ e. (
    answered_formed s q d u (formed q) refl e,
    (revoked_exactly (revocations_of q.revoked) q.id (seconds_of q)).0 (answered_revoked s q d u (revoked_now q) refl e),
  ),
  λ p. revoked_answered s q d u p.0 ((revoked_exactly (revocations_of q.revoked) q.id (seconds_of q)).1 p.1),
)

-- ---- a later clock

-- what has no step of the number 8 is not answered 8
never_eight : (s : List ℕ) (q : Request) (x : Stored) → Under s q.id x → passes_by answer_of 8 (steps_for q x) ≡ true
    → numbers_of (decision_of s q) ≡ refusal 8 → ⊥
never_eight s q x u k e =
    let z = sym (ap answer_of (decided_exactly s q x u)) ∙ ap answer_of e in
    let o : ◌≡◌ {A = ℕ} 0 8 = sym (granted_zero q x) ∙ sym (ap answer_of (not_by answer_of 8 (steps_for q x) (granted_for q x) k z).1) ∙ z in
    omega (arith, o)

-- well-formed arguments are so at each clock that is not above 2^53
later_formed : (q : Request) (later : Milliseconds) → later.0 ≤ 2 ^ 53 → formed q ≡ true → formed (at_clock q later) ≡ true
later_formed q later k w =
    and_both (formed_before q) _ (and_left (formed_before q) _ w)
    (and_both (leb later.0 (2 ^ 53)) _ (le-leb later.0 (2 ^ 53) k)
    (and_right (leb q.clock.0 (2 ^ 53)) _ (and_right (formed_before q) _ w)))

-- by what the image holds
stays : (s : List ℕ) (q : Request) (later : Milliseconds) (x : Stored) → Under s q.id x → q.clock.0 ≤ later.0 → later.0 ≤ 2 ^ 53
    → numbers_of (decision_of s q) ≡ refusal 8 → numbers_of (decision_of s (at_clock q later)) ≡ refusal 8
stays s q later bad_image u h k e = absurd (never_eight s q bad_image u refl e)
stays s q later not_held u h k e = absurd (never_eight s q not_held u refl e)
stays s q later (held d) u h k e =
    let w : formed q ≡ true = answered_formed s q d u (formed q) refl e in
    revoked_answered s (at_clock q later) d u (later_formed q later k w)
    (later_revoked (revocations_of q.revoked) q.id (seconds_of q) (later.0 / 1000) (omega arith)
    (answered_revoked s q d u (revoked_now q) refl e))

-- `StaysRevoked`
pub stays_revoked : StaysRevoked
stays_revoked s q later b h l e = let k = all_stored s q.id b in stays s q later k.0 k.1 h l e

-- ---- a row more

-- the decision by its first four steps and what the others come to
abbrev behind : Bool → Bool → Bool → Bool → Decision → Decision
behind formed sound there revoked r =
    or_else formed (Err answers.Malformed)
    (or_else sound (Err answers.BadImage) (or_else there (Err answers.NotFound) (or_else (not revoked) (Err answers.Revoked) r)))

-- what the steps after the revocation list come to
abbrev rest_of : Request → Facts → Matched → Decision
rest_of q x m =
    in_order (descriptor_steps x q.fay q.terminal (seconds_of q) m
    ++ (key_steps q.verdict q.window (seconds_of q) ++ lease_steps (lease_for q) q.clock.0)) (granted_by q (lease_for q) x m)

-- the two are the decision
decided_behind : (q : Request) (sound there : Bool) (x : Facts) (m : Matched)
    → decided_by q sound there x m ≡ behind (well_formed q) sound there (revoked_now q) (rest_of q x m)
unfolding steps_by later_steps revocation_steps in_order
decided_behind q sound there x m = refl

-- one more reason for 8 leaves the decision or makes it 8
one_more : (w sound there l t : Bool) (r : Decision)
    → (behind w sound there (l || t) r ≡ behind w sound there l r) ⊎ (behind w sound there (l || t) r ≡ (Err answers.Revoked))
unfolding or_else
one_more false sound there l t r = inl refl
one_more true false there l t r = inl refl
one_more true true false l t r = inl refl
one_more true true true true t r = inl refl
one_more true true true false true r = inr refl
one_more true true true false false r = inl refl

-- the steps after it do not look at the list
rest_alike : (q : Request) (l : List ℕ) (x : Facts) (m : Matched) → rest_of (with_revoked q l) x m ≡ rest_of q x m
unfolding granted_by
rest_alike q l x (Some p) = refl
rest_alike q l x None = refl

-- the decision on a request with the list l
decided_with : (q : Request) (l : List ℕ) (sound there : Bool) (x : Facts) (m : Matched)
    → decided_by (with_revoked q l) sound there x m
    ≡ behind (well_formed (with_revoked q l)) sound there (revoked_now (with_revoked q l)) (rest_of q x m)
decided_with q l sound there x m =
    decided_behind (with_revoked q l) sound there x m
    ∙ ap (behind (well_formed (with_revoked q l)) sound there (revoked_now (with_revoked q l))) (rest_alike q l x m)

-- what holds of the decisions with two lists by their steps holds of any image
of_image : (P : Decision → Decision → Type 0) (q : Request) (l l' : List ℕ)
    → ((sound there : Bool) (x : Facts) (m : Matched)
    → P (decided_by (with_revoked q l') sound there x m) (decided_by (with_revoked q l) sound there x m))
    → (s : List ℕ) → P (decision_of s (with_revoked q l')) (decision_of s (with_revoked q l))
of_image P q l l' k s =
    let v = check_of s q.id in
    subst (λ (a : Decision). P a (decision_of s (with_revoked q l))) (sym (decided_in_lem s (with_revoked q l') v refl))
    (subst (P (decided_in s (with_revoked q l') v)) (sym (decided_in_lem s (with_revoked q l) v refl)) (go v))
  where
    held : (n end : ℕ) (h : Held)
        → P (decided_in s (with_revoked q l') (contents n end h)) (decided_in s (with_revoked q l) (contents n end h))
    held n end (Some b) = k true true _ _
    held n end None = k true false _ _

    go : (v : ImageCheck) → P (decided_in s (with_revoked q l') v) (decided_in s (with_revoked q l) v)
    go (Some v) = held v.rows v.end v.held
    go None = k false false _ _

-- a decision is another one, or 8
abbrev SameOrRevoked : Decision → Decision → Type 0
SameOrRevoked a b = (a ≡ b) ⊎ (a ≡ (Err answers.Revoked))

module _ (q : Request) (l l' : List ℕ) (w : well_formed (with_revoked q l') ≡ well_formed (with_revoked q l)) where
  -- where the second list has one more reason for 8
  more_decided : (t : Bool) → revoked_now (with_revoked q l') ≡ (revoked_now (with_revoked q l) || t) → (s : List ℕ)
      → SameOrRevoked (decision_of s (with_revoked q l')) (decision_of s (with_revoked q l))
  more_decided t e = of_image SameOrRevoked q l l'
      (λ sound there x m.
      let more : decided_by (with_revoked q l') sound there x m
      ≡ behind (well_formed (with_revoked q l)) sound there (revoked_now (with_revoked q l) || t) (rest_of q x m)
      = decided_with q l' sound there x m ∙ ap₂ (λ (c d : Bool). behind c sound there d (rest_of q x m)) w e in
      elim (one_more (well_formed (with_revoked q l)) sound there (revoked_now (with_revoked q l)) t (rest_of q x m)) [
        | inl a ↦ inl (more ∙ a ∙ sym (decided_with q l sound there x m))
        | inr a ↦ inr (more ∙ a)
      ])

  -- where it has no other
  alike_decided : revoked_now (with_revoked q l') ≡ revoked_now (with_revoked q l) → (s : List ℕ)
      → decision_of s (with_revoked q l') ≡ decision_of s (with_revoked q l)
  alike_decided e = of_image (λ a b. a ≡ b) q l l'
      (λ sound there x m.
      decided_with q l' sound there x m
      ∙ ap₂ (λ (c d : Bool). behind c sound there d (rest_of q x m)) w e
      ∙ sym (decided_with q l sound there x m))

module _ (q : Request) (before row after : List ℕ) (h : length before % 24 ≡ 0) (k : length row ≡ 24) where
  -- a list with a row more is well formed where it is without it
  formed_more : well_formed (with_revoked q (before ++ (row ++ after))) ≡ well_formed (with_revoked q (before ++ after))
  unfolding well_formed arguments_ok
  formed_more =
      let e : length (before ++ (row ++ after)) % 24 ≡ length (before ++ after) % 24 = simp length-append (omega arith) in
      rw e

-- `RowMoreRefuses`
pub row_more_refuses : RowMoreRefuses
row_more_refuses s q before row after h k =
    elim (more_decided q (before ++ after) (before ++ (row ++ after)) (formed_more q before row after h k) _
    (row_more before row after q.id (seconds_of q) h k) s) [
      | inl a ↦ inl (ap numbers_of a)
      | inr a ↦ inr (ap numbers_of a)
    ]

-- `EarlyRowWaits`
pub early_row_waits : EarlyRowWaits
early_row_waits s q before row after h k l =
    let none : (same (part row 0 16) q.id && leb (number_at row 16 8) (seconds_of q)) ≡ false
    = ap (λ (b : Bool). same (part row 0 16) q.id && b) (lt-leb (number_at row 16 8) (seconds_of q) l)
    ∙ and_false (same (part row 0 16) q.id) in
    ap numbers_of (alike_decided q (before ++ after) (before ++ (row ++ after)) (formed_more q before row after h k)
    (row_more before row after q.id (seconds_of q) h k
    ∙ ap (λ (b : Bool). is_revoked (revocations_of (before ++ after)) q.id (seconds_of q) || b) none
    ∙ or_false (is_revoked (revocations_of (before ++ after)) q.id (seconds_of q))) s)
