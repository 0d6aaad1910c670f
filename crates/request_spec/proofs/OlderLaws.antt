-- A request whose lease has an older sync (specs/Promises.antt). Assumes nothing.
use mathlib.Core.Path.{◌≡◌, refl, sym, ap, ◌∙◌, subst}
use mathlib.Core.Logic.{◌⊎◌, inl, inr}
use mathlib.Core.Bool.{Bool, true, false, not, cond, ◌&&◌, false≢true}
use mathlib.Core.List.{List, [], ◌∷◌, ◌++◌}
use Prim.Native.Nat.{ℕ, ◌+◌, ◌^◌, ◌≤◌, ◌<◌}
use native.Mathlib.Omega.{arith}
use lib.IntN.{ℤ}
use lib.Dec.{leb, ltb}
use borrow.Author.Tests.{le-leb, lt-ltb, le-ltb, ltb-true, ltb-false, not-true, not-false}
use Rattle.std.proofs.Common.{Option, Some}
use Rattle.octets.specs.Bytes.{same}
use Rattle.octets.proofs.Tests.{and_false}
use Rattle.descriptor_spec.specs.Model.{Descriptor}
use Rattle.lease_spec.specs.declared.Lease.{Lease}
use Rattle.lease_spec.specs.Table.{Row, lease_under, table_bytes}
use Rattle.lease_spec.specs.Promises.{active_end, stale_end, with_sync, row_with_sync, AreRows}
use Rattle.lease_spec.proofs.Promises.{rows_back}
use Rattle.lease_spec.proofs.Laws.{bytes_table, older_rows}
use Rattle.steps.specs.Order.{Step, or_else, in_order, AllPass}
use Rattle.steps.proofs.Laws.{order_append, passed_end}
use Rattle.request_spec.specs.declared.DecisionNumbers.{DecisionNumbers}
use Rattle.request_spec.specs.Request.{Request}
use Rattle.request_spec.specs.Decision.{decision_of, numbers_of}
use Rattle.request_spec.specs.Promises.{Stored, bad_image, not_held, held, Under, formed_before, margin_at, lease_steps, steps_with}
use Rattle.request_spec.specs.Promises.{granted_with, with_leases, StaleOrExpired, OlderSyncRefused}
use Rattle.request_spec.proofs.NumberLaws.{answer_of}
use Rattle.request_spec.proofs.UnderLaws.{all_stored}
use Rattle.request_spec.proofs.LeaseLaws.{answer_with, answer_table, four, four_stale, live, synced, fresh, lasting}
use Rattle.request_spec.proofs.LeaseLaws.{not_fresh, behind, behind_signature}

-- ---- the four steps of a lease

-- where they are answered 25 the first two pass and the last does not
four_expired : (a b c d : Bool) (m : ℤ) (g : DecisionNumbers) → g.answer ≡ 0 → (in_order (four a b c d m) g).answer ≡ 25
    → (a ≡ true) × (b ≡ true) × (d ≡ false)
unfolding in_order or_else
four_expired false b c d m g z e = absurd (omega (arith, e))
four_expired true false c d m g z e = absurd (omega (arith, e))
four_expired true true false d m g z e = absurd (omega (arith, e))
four_expired true true true false m g z e = (refl, refl, refl)
four_expired true true true true m g z e = absurd (omega (arith, z, e))

-- where the first two pass and the last or the last but one does not, they are answered 24 or 25
four_late : (a b c d : Bool) (m : ℤ) (g : DecisionNumbers) → a ≡ true → b ≡ true → (c && d) ≡ false
    → StaleOrExpired (in_order (four a b c d m) g)
unfolding in_order or_else
four_late a b false d m g p q r = rw (p, q) (inl refl)
four_late a b true false m g p q r = rw (p, q) (inr refl)
four_late a b true true m g p q r = absurd (false≢true (sym r))

-- ---- an older sync

-- the lease under an id stays, or it is that of the row
under_older : (before after : List Row) (r : Row) (older : ℕ) (id : List ℕ)
    → (lease_under (before ++ (r ∷ after)) id ≡ lease_under (before ++ (row_with_sync r older ∷ after)) id)
    ⊎ ((lease_under (before ++ (r ∷ after)) id ≡ Some r.lease)
    × (lease_under (before ++ (row_with_sync r older ∷ after)) id ≡ Some (with_sync r.lease older)))
unfolding lease_under
under_older [] after r older id = go (same r.id id)
  where
    go : (b : Bool)
        → (cond b (Some r.lease) (lease_under after id) ≡ cond b (Some (with_sync r.lease older)) (lease_under after id))
        ⊎ ((cond b (Some r.lease) (lease_under after id) ≡ Some r.lease)
        × (cond b (Some (with_sync r.lease older)) (lease_under after id) ≡ Some (with_sync r.lease older)))
    go true = inr (refl, refl)
    go false = inl refl
under_older (x ∷ before) after r older id = go (same x.id id) (under_older before after r older id)
  where
    now : Option Lease
    now = lease_under (before ++ (r ∷ after)) id

    then : Option Lease
    then = lease_under (before ++ (row_with_sync r older ∷ after)) id

    go : (b : Bool) → (now ≡ then) ⊎ ((now ≡ Some r.lease) × (then ≡ Some (with_sync r.lease older)))
        → (cond b (Some x.lease) now ≡ cond b (Some x.lease) then)
        ⊎ ((cond b (Some x.lease) now ≡ Some r.lease) × (cond b (Some x.lease) then ≡ Some (with_sync r.lease older)))
    go true k = inl refl
    go false k = k

module _ (q : Request) (d : Descriptor) where
  -- a lease whose steps are answered 24 or 25 is not revoked, and its active time has passed
  late_past : (l : Lease) → StaleOrExpired (behind q d (Some l)) → (l.revoked ≡ false) × (active_end l < q.clock.0)
  late_past l (inl e) =
      let n : ℕ = q.clock.0 in
      let w = four_stale (live (Some l)) (synced (Some l) n) (fresh (Some l) n) (lasting (Some l) n) (margin_at (Some l) n)
      (granted_with (margin_at (Some l) n) q (held d)) refl e in
      (not-true l.revoked w.1, not_fresh l n w.3)
  late_past l (inr e) =
      let n : ℕ = q.clock.0 in
      let w = four_expired (live (Some l)) (synced (Some l) n) (fresh (Some l) n) (lasting (Some l) n) (margin_at (Some l) n)
      (granted_with (margin_at (Some l) n) q (held d)) refl e in (
        not-true l.revoked w.0,
        omega (arith, ltb-true (stale_end l) n (not-false (ltb (stale_end l) n) w.2)),
      )

  -- and one of which that is so is answered 24 or 25
  past_late : (l : Lease) → l.revoked ≡ false → active_end l < q.clock.0 → StaleOrExpired (behind q d (Some l))
  past_late l r h =
      let n : ℕ = q.clock.0 in
      four_late (live (Some l)) (synced (Some l) n) (fresh (Some l) n) (lasting (Some l) n) (margin_at (Some l) n)
      (granted_with (margin_at (Some l) n) q (held d))
      (ap not r) (ap not (le-ltb (n + l.skew.0) l.last_sync.0 (omega arith)))
      (go (ltb (stale_end l) n) refl (lt-ltb (active_end l) n h))
    where
      go : (b : Bool) → ltb (stale_end l) q.clock.0 ≡ b → ltb (active_end l) q.clock.0 ≡ true
          → (not (ltb (active_end l) q.clock.0 && leb q.clock.0 (stale_end l)) && not (ltb (stale_end l) q.clock.0)) ≡ false
      go true e k = rw e (and_false (not (ltb (active_end l) q.clock.0 && leb q.clock.0 (stale_end l))))
      go false e k = rw (k, le-leb q.clock.0 (stale_end l) (ltb-false (stale_end l) q.clock.0 e))

  -- so it stays with an older sync
  older_late : (l : Lease) (older : ℕ) → older ≤ l.last_sync.0 → StaleOrExpired (behind q d (Some l))
      → StaleOrExpired (behind q d (Some (with_sync l older)))
  older_late l older h f = let w = late_past l f in past_late (with_sync l older) w.0 (omega (arith, w.1))

  -- where the steps up to the signature have neither number, 24 and 25 are the lease's
  late_behind : (ok : Bool) (lease : Option Lease) → StaleOrExpired (answer_with q (held d) ok lease)
      → AllPass (steps_with ok q (held d)) × StaleOrExpired (behind q d lease)
  late_behind ok lease (inl e) =
      let w = behind_signature q d ok lease 24 refl e in (w.0, inl (sym (ap answer_of w.1) ∙ e))
  late_behind ok lease (inr e) =
      let w = behind_signature q d ok lease 25 refl e in (w.0, inr (sym (ap answer_of w.1) ∙ e))

  -- and where those steps pass, the lease's are the answer
  behind_late : (ok : Bool) (lease : Option Lease) → AllPass (steps_with ok q (held d)) → StaleOrExpired (behind q d lease)
      → StaleOrExpired (answer_with q (held d) ok lease)
  behind_late ok lease a f =
      let steps : List (Step DecisionNumbers) = steps_with ok q (held d) in
      let joined = order_append steps (lease_steps lease q.clock.0) (granted_with (margin_at lease q.clock.0) q (held d)) in
      subst StaleOrExpired (sym (joined ∙ passed_end steps (behind q d lease) a)) f

-- the answers with two leases, of which the second is the first or has an older sync
older_answers : (q : Request) (x : Stored) (ok : Bool) (one two : Option Lease) (l : Lease) (older : ℕ) → older ≤ l.last_sync.0
    → (one ≡ two) ⊎ ((one ≡ Some l) × (two ≡ Some (with_sync l older)))
    → StaleOrExpired (answer_with q x ok one) → StaleOrExpired (answer_with q x ok two)
older_answers q bad_image ok one two l older h k f = f
older_answers q not_held ok one two l older h k f = f
older_answers q (held d) ok one two l older h (inl e) f = subst (λ (y : Option Lease). StaleOrExpired (answer_with q (held d) ok y)) e f
older_answers q (held d) ok one two l older h (inr e) f =
    let w = late_behind q d ok one f in
    behind_late q d ok two w.0 (subst (λ (y : Option Lease). StaleOrExpired (behind q d y)) (sym e.1)
    (older_late q d l older h (subst (λ (y : Option Lease). StaleOrExpired (behind q d y)) e.0 w.1)))

-- with the bytes of rows the answer is by the lease that they have
answer_rows : (s : List ℕ) (q : Request) (x : Stored) (rs : List Row) → Under s q.id x → AreRows rs
    → numbers_of (decision_of s (with_leases q (table_bytes rs)))
    ≡ answer_with q x (formed_before q && leb q.clock.0 (2 ^ 53)) (lease_under rs q.id)
answer_rows s q x rs u a =
    answer_table s q (table_bytes rs) x u (bytes_table rs a)
    ∙ ap (λ (ys : List Row). answer_with q x (formed_before q && leb q.clock.0 (2 ^ 53)) (lease_under ys q.id)) (rows_back rs a)

-- `OlderSyncRefused`
pub older_sync_refused : OlderSyncRefused
older_sync_refused s q before after r older b a h f =
    let x = all_stored s q.id b in
    let one : List Row = before ++ (r ∷ after) in
    let two : List Row = before ++ (row_with_sync r older ∷ after) in
    subst StaleOrExpired (sym (answer_rows s q x.0 two x.1 (older_rows before after r older a h)))
    (older_answers q x.0 (formed_before q && leb q.clock.0 (2 ^ 53)) (lease_under one q.id) (lease_under two q.id) r.lease
    older h (under_older before after r older q.id) (subst StaleOrExpired (answer_rows s q x.0 one x.1 a) f))
