-- What the lease table does to a request (specs/Promises.antt). Assumes nothing.
use mathlib.Core.Path.{◌≡◌, refl, sym, ap, ap₂, ◌∙◌, subst}
use mathlib.Core.Bool.{Bool, true, false, not, ◌&&◌, and-true, false≢true}
use mathlib.Core.List.{List, [], ◌∷◌, ◌++◌}
use Prim.Native.Nat.{ℕ, ◌+◌, ◌^◌, ◌≤◌, ◌<◌}
use native.Mathlib.Omega.{arith}
use lib.IntN.{ℤ, pos, ◌-ℤ◌}
use lib.Signed.{◌≤ℤ◌, ◌<ℤ◌}
use lib.Dec.{leb, ltb}
use borrow.Author.Tests.{le-leb, ltb-true, ltb-false, not-true, not-false}
use Rattle.std.proofs.Common.{Option, None, Some}
use Rattle.octets.proofs.Tests.{and_left}
use Rattle.descriptor_spec.specs.Model.{Descriptor}
use Rattle.lease_spec.specs.declared.Lease.{Lease}
use Rattle.lease_spec.specs.Table.{rows_of, lease_under, table_ok}
use Rattle.lease_spec.specs.Promises.{active_end, stale_end}
use Rattle.lease_spec.proofs.Promises.{margin_exact, margin_sign}
use Rattle.steps.specs.Order.{Step, step, or_else, in_order, AllPass}
use Rattle.steps.specs.Laws.{passes_by}
use Rattle.steps.proofs.Laws.{order_append, passed_end, passed_by, not_by}
use Rattle.request_spec.specs.declared.DecisionNumbers.{DecisionNumbers}
use Rattle.request_spec.specs.Request.{Request}
use Rattle.request_spec.specs.Decision.{decision_of, numbers_of}
use Rattle.request_spec.specs.Promises.{Stored, bad_image, not_held, held, Under, refusal, stale_with, formed_before, formed, lease_for}
use Rattle.request_spec.specs.Promises.{where_leased, margin_at, lease_steps, steps_with, steps_for, granted_with, granted_for}
use Rattle.request_spec.specs.Promises.{WithoutLease, GrantMargin, StaleMargin, with_leases, OtherLeases}
use Rattle.request_spec.proofs.NumberLaws.{answer_of, decided_exactly, granted_exactly}
use Rattle.request_spec.proofs.UnderLaws.{all_stored}

-- ---- the answer by whether the arguments are well formed and by the lease

-- the numbers that a request is answered, by the two things that a lease table says
abbrev pub answer_with : Request → Stored → Bool → Option Lease → DecisionNumbers
answer_with q bad_image ok lease = in_order (steps_with ok q bad_image) (refusal 0)
answer_with q not_held ok lease = in_order (steps_with ok q not_held) (refusal 0)
answer_with q (held d) ok lease =
    in_order (steps_with ok q (held d) ++ lease_steps lease q.clock.0) (granted_with (margin_at lease q.clock.0) q (held d))

-- they are the numbers of the decision
answer_with_lem : (s : List ℕ) (q : Request) (x : Stored) → Under s q.id x
    → numbers_of (decision_of s q) ≡ answer_with q x (formed q) (lease_for q)
answer_with_lem s q bad_image u = decided_exactly s q bad_image u
answer_with_lem s q not_held u = decided_exactly s q not_held u
answer_with_lem s q (held d) u = decided_exactly s q (held d) u

-- with another lease table nothing else is another
table_alike : (q : Request) (t : List ℕ) (x : Stored) (ok : Bool) (lease : Option Lease)
    → answer_with (with_leases q t) x ok lease ≡ answer_with q x ok lease
table_alike q t bad_image ok lease = refl
table_alike q t not_held ok lease = refl
table_alike q t (held d) ok lease = refl

-- a lease table does not make arguments malformed
table_formed : (q : Request) → table_ok q.leases ≡ true → formed q ≡ (formed_before q && leb q.clock.0 (2 ^ 53))
table_formed q t =
    ap (λ (b : Bool). formed_before q && (leb q.clock.0 (2 ^ 53) && b)) t
    ∙ ap (λ (b : Bool). formed_before q && b) (and-true (leb q.clock.0 (2 ^ 53)))

-- ---- a request without a lease

-- without a lease the lease's steps pass
without : (q : Request) (x : Stored) (ok : Bool) → answer_with q x ok None ≡ in_order (steps_with ok q x) (granted_with (pos 0) q x)
unfolding in_order or_else
without q bad_image ok = refl
without q not_held ok = refl
without q (held d) ok = order_append (steps_with ok q (held d)) (lease_steps None q.clock.0) (granted_with (pos 0) q (held d))

-- `WithoutLease`
pub without_lease : WithoutLease
without_lease s q x u h t e =
    let ok : formed q ≡ formed_before q =
    table_formed q t ∙ ap (λ (b : Bool). formed_before q && b) (le-leb q.clock.0 (2 ^ 53) h) ∙ and-true (formed_before q) in
    answer_with_lem s q x u ∙ ap₂ (answer_with q x) ok e ∙ without q x (formed_before q)

-- with a lease table the answer is by its lease alone
pub answer_table : (s : List ℕ) (q : Request) (t : List ℕ) (x : Stored) → Under s q.id x → table_ok t ≡ true
    → numbers_of (decision_of s (with_leases q t))
    ≡ answer_with q x (formed_before q && leb q.clock.0 (2 ^ 53)) (lease_under (rows_of t) q.id)
answer_table s q t x u h =
    answer_with_lem s (with_leases q t) x u
    ∙ table_alike q t x (formed (with_leases q t)) (lease_for (with_leases q t))
    ∙ ap (λ (ok : Bool). answer_with q x ok (lease_under (rows_of t) q.id)) (table_formed (with_leases q t) h)

-- `OtherLeases`
pub other_leases : OtherLeases
other_leases s q t u b h k e =
    let x = all_stored s q.id b in
    answer_table s q t x.0 x.1 h
    ∙ ap (answer_with q x.0 (formed_before q && leb q.clock.0 (2 ^ 53))) e
    ∙ sym (answer_table s q u x.0 x.1 k)

-- ---- the four steps of a lease

-- four steps with the lease's numbers
abbrev pub four : Bool → Bool → Bool → Bool → ℤ → List (Step DecisionNumbers)
four a b c d m = step a (refusal 26) ∷ step b (refusal 23) ∷ step c (stale_with m) ∷ step d (refusal 25) ∷ []

-- where they are answered 24 the first two pass and the third does not
pub four_stale : (a b c d : Bool) (m : ℤ) (g : DecisionNumbers) → g.answer ≡ 0 → (in_order (four a b c d m) g).answer ≡ 24
    → (in_order (four a b c d m) g ≡ stale_with m) × (a ≡ true) × (b ≡ true) × (c ≡ false)
unfolding in_order or_else
four_stale false b c d m g z e = absurd (omega (arith, e))
four_stale true false c d m g z e = absurd (omega (arith, e))
four_stale true true false d m g z e = (refl, refl, refl, refl)
four_stale true true true false m g z e = absurd (omega (arith, e))
four_stale true true true true m g z e = absurd (omega (arith, z, e))

-- ---- the margins

-- the tests of a lease at a clock: revoked, future, stale, expired
abbrev pub live : Option Lease → Bool
live lease = where_leased lease (λ l. not l.revoked)

abbrev pub synced : Option Lease → ℕ → Bool
synced lease n = where_leased lease (λ l. not (ltb (n + l.skew.0) l.last_sync.0))

abbrev pub fresh : Option Lease → ℕ → Bool
fresh lease n = where_leased lease (λ l. not (ltb (active_end l) n && leb n (stale_end l)))

abbrev pub lasting : Option Lease → ℕ → Bool
lasting lease n = where_leased lease (λ l. not (ltb (stale_end l) n))

-- the active time of a stale lease has passed
pub not_fresh : (l : Lease) (n : ℕ) → fresh (Some l) n ≡ false → active_end l < n
not_fresh l n e =
    ltb-true (active_end l) n (and_left (ltb (active_end l) n) _ (not-false (ltb (active_end l) n && leb n (stale_end l)) e))

-- a lease that is neither stale nor expired is within its active time
within_active : (l : Lease) (n : ℕ) → fresh (Some l) n ≡ true → lasting (Some l) n ≡ true → n ≤ active_end l
within_active l n f g =
    let last = ltb-false (stale_end l) n (not-true (ltb (stale_end l) n) g) in
    go (ltb (active_end l) n) refl (not-true (ltb (active_end l) n && leb n (stale_end l)) f) (le-leb n (stale_end l) last)
  where
    go : (b : Bool) → ltb (active_end l) n ≡ b → (b && leb n (stale_end l)) ≡ false → leb n (stale_end l) ≡ true → n ≤ active_end l
    go true e f g = absurd (false≢true (sym f ∙ g))
    go false e f g = ltb-false (active_end l) n e

-- the margin of a grant on a descriptor that is held
grant_margin_held : (q : Request) (d : Descriptor) → AllPass (steps_for q (held d))
    → (lease_for q ≡ None → margin_at (lease_for q) q.clock.0 ≡ pos 0)
    × ((l : Lease) → lease_for q ≡ Some l
    → (margin_at (lease_for q) q.clock.0 ≡ pos (active_end l) -ℤ pos q.clock.0)
    × (pos 0 ≤ℤ margin_at (lease_for q) q.clock.0))
grant_margin_held q d a = (λ e. ap (λ (x : Option Lease). margin_at x n) e, λ l e. (ap (λ (x : Option Lease). margin_at x n) e, sign l e))
  where
    n : ℕ
    n = q.clock.0

    sign : (l : Lease) → lease_for q ≡ Some l → pos 0 ≤ℤ margin_at (lease_for q) n
    sign l e =
        let f : fresh (Some l) n ≡ true =
        ap (λ (x : Option Lease). fresh x n) (sym e) ∙ and_left _ true (passed_by answer_of 24 (steps_for q (held d)) a) in
        let g : lasting (Some l) n ≡ true =
        ap (λ (x : Option Lease). lasting x n) (sym e) ∙ and_left _ true (passed_by answer_of 25 (steps_for q (held d)) a) in
        subst (λ (m : ℤ). pos 0 ≤ℤ m) ((margin_exact l n).0 ∙ ap (λ (x : Option Lease). margin_at x n) (sym e))
        ((margin_sign l n).1.1 (within_active l n f g))

-- `GrantMargin`
pub grant_margin : GrantMargin
grant_margin s q b z = go (all_stored s q.id b).0 (all_stored s q.id b).1
  where
    Margins : ℤ → Type 0
    Margins m = (lease_for q ≡ None → m ≡ pos 0)
        × ((l : Lease) → lease_for q ≡ Some l → (m ≡ pos (active_end l) -ℤ pos q.clock.0) × (pos 0 ≤ℤ m))

    go : (x : Stored) → Under s q.id x → Margins (numbers_of (decision_of s q)).margin
    go bad_image u = absurd (false≢true (passed_by answer_of 16 (steps_for q bad_image) ((granted_exactly s q bad_image u).0 z)))
    go not_held u = absurd (false≢true (passed_by answer_of 7 (steps_for q not_held) ((granted_exactly s q not_held u).0 z)))
    go (held d) u =
        let a = (granted_exactly s q (held d) u).0 z in
        let e = decided_exactly s q (held d) u ∙ passed_end (steps_for q (held d)) (granted_for q (held d)) a in
        subst Margins (sym (ap (λ (r : DecisionNumbers). r.margin) e)) (grant_margin_held q d a)

-- where no step has the number of a refusal, the answer is another one
never : (s : List ℕ) (q : Request) (x : Stored) (n : ℕ) → Under s q.id x → (0 ≡ n → ⊥) → passes_by answer_of n (steps_for q x) ≡ true
    → (granted_for q x).answer ≡ 0 → (numbers_of (decision_of s q)).answer ≡ n → ⊥
never s q x n u other k z e =
    let f = sym (ap answer_of (decided_exactly s q x u)) ∙ e in
    other (sym z ∙ sym (ap answer_of (not_by answer_of n (steps_for q x) (granted_for q x) k f).1) ∙ f)

-- the lease's steps on a descriptor that is held, and what follows them
abbrev pub behind : Request → Descriptor → Option Lease → DecisionNumbers
behind q d lease = in_order (lease_steps lease q.clock.0) (granted_with (margin_at lease q.clock.0) q (held d))

-- an answer that the steps up to the signature do not have is that of the lease's steps, and those pass
pub behind_signature : (q : Request) (d : Descriptor) (ok : Bool) (lease : Option Lease) (n : ℕ)
    → passes_by answer_of n (steps_with ok q (held d)) ≡ true → (answer_with q (held d) ok lease).answer ≡ n
    → AllPass (steps_with ok q (held d)) × (answer_with q (held d) ok lease ≡ behind q d lease)
behind_signature q d ok lease n k e =
    let steps : List (Step DecisionNumbers) = steps_with ok q (held d) in
    let joined = order_append steps (lease_steps lease q.clock.0) (granted_with (margin_at lease q.clock.0) q (held d)) in
    let w = not_by answer_of n steps (behind q d lease) k (sym (ap answer_of joined) ∙ e) in
    (w.0, joined ∙ w.1)

-- `StaleMargin`
pub stale_margin : StaleMargin
stale_margin s q b z = go (all_stored s q.id b).0 (all_stored s q.id b).1
  where
    Stale : DecisionNumbers → Type 0
    Stale r = (l : Lease) × (lease_for q ≡ Some l) × (r ≡ stale_with (pos (active_end l) -ℤ pos q.clock.0)) × (r.margin <ℤ pos 0)

    of_lease : (d : Descriptor) (lease : Option Lease) → lease_for q ≡ lease → (behind q d lease).answer ≡ 24 → Stale (behind q d lease)
    of_lease d None e f = absurd (false≢true (sym (four_stale true true true true (pos 0) (granted_with (pos 0) q (held d)) refl f).3))
    of_lease d (Some l) e f =
        let n : ℕ = q.clock.0 in
        let w = four_stale (live (Some l)) (synced (Some l) n) (fresh (Some l) n) (lasting (Some l) n) (margin_at (Some l) n)
        (granted_with (margin_at (Some l) n) q (held d)) refl f in
        let below : (pos (active_end l) -ℤ pos n) <ℤ pos 0 =
        subst (λ (m : ℤ). m <ℤ pos 0) (margin_exact l n).0 ((margin_sign l n).2.1 (not_fresh l n w.3)) in
        (l, e, w.0, subst (λ (r : DecisionNumbers). r.margin <ℤ pos 0) (sym w.0) below)

    go : (x : Stored) → Under s q.id x → Stale (numbers_of (decision_of s q))
    go bad_image u = absurd (never s q bad_image 24 u (λ e. omega (arith, e)) refl refl z)
    go not_held u = absurd (never s q not_held 24 u (λ e. omega (arith, e)) refl refl z)
    go (held d) u =
        let a = answer_with_lem s q (held d) u in
        let w = behind_signature q d (formed q) (lease_for q) 24 refl (sym (ap answer_of a) ∙ z) in
        subst Stale (sym (a ∙ w.1)) (of_lease d (lease_for q) refl (sym (ap answer_of (a ∙ w.1)) ∙ z))
