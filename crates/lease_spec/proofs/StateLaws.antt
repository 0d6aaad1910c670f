-- The state of a lease: exactly when it has each, with an older sync and at a later clock (specs/Lease.antt). Assumes nothing.
use mathlib.Core.Path.{◌≡◌, refl, sym, ap, ◌∙◌, subst}
use mathlib.Core.Bool.{Bool, true, false, ◌&&◌}
use Prim.Native.Nat.{ℕ, ◌+◌, ◌^◌, ◌≤◌, ◌<◌}
use native.Mathlib.Omega.{arith}
use lib.Dec.{leb, ltb}
use borrow.Author.Tests.{ltb-true, ltb-false, leb-true, leb-false, lt-ltb, le-ltb, le-leb, lt-leb}
use Rattle.std.proofs.Common.{Option, None, Some}
use Rattle.std.proofs.lemmas.Option.{same_Some, none-some}
use Rattle.std.proofs.lemmas.Bool.Decides.{nat_tests}
use Rattle.octets.proofs.Tests.{by_cond, and_left, and_right}
use Rattle.lease_spec.specs.declared.Lease.{Lease}
use Rattle.lease_spec.specs.declared.LeaseState.{LeaseState}
use Rattle.lease_spec.specs.declared.LeaseState.TheVariants as states
use Rattle.lease_spec.specs.Lease.{latest, lease_ok, clock_ok, last_active, last_stale, is_future, margin_of}
use Rattle.lease_spec.specs.Lease.{state_within, state_of}
use Rattle.lease_spec.specs.Promises.{Within, active_end, stale_end, StateExactly, OutsideExactly, StaleOrExpired, with_sync}
use Rattle.lease_spec.specs.Promises.{OlderSync, LaterClock}
use Rattle.lease_spec.proofs.MarginLaws.{below_sub, sub_most, active_end_lem, stale_end_lem}

-- ---- the limits

-- a lease whose numbers pass the tests is within the limits
pub ok_within : (l : Lease) → lease_ok l ≡ true → Within l
unfolding lease_ok
ok_within l e = record {
  sync = grind (arith, nat_tests);
  ttl = grind (arith, nat_tests);
  grace = grind (arith, nat_tests);
  skew = grind (arith, nat_tests);
  tolerance = grind (arith, nat_tests);
}

-- and one that is within them passes
pub within_ok : (l : Lease) → Within l → lease_ok l ≡ true
unfolding lease_ok
within_ok l w = grind (arith, nat_tests, w.sync, w.ttl, w.grace, w.skew, w.tolerance)

-- where the tests of the lease and of the clock hold both are within the limits
tests_within : (l : Lease) (n : ℕ) → (lease_ok l && clock_ok n) ≡ true → Within l × (n ≤ 2 ^ 53)
unfolding clock_ok
tests_within l n e =
    (ok_within l (and_left (lease_ok l) (leb n latest) e), leb-true n latest (and_right (lease_ok l) (leb n latest) e))

-- where both are, the tests of the state tell
state_within_lem : (l : Lease) (n : ℕ) → Within l → n ≤ 2 ^ 53 → state_of l n ≡ Some (state_within l n)
unfolding state_of clock_ok
state_within_lem l n w h = rw (within_ok l w, le-leb n latest h)

-- ---- each state exactly

-- what is so where the state is x, of a lease within the limits
abbrev Says : Lease → ℕ → LeaseState → Type 0
Says l n states.Revoked = l.revoked ≡ true
Says l n states.Future = (l.revoked ≡ false) × (n + l.skew.0 < l.last_sync.0)
Says l n (states.Active m) = (l.revoked ≡ false) × (l.last_sync.0 ≤ n + l.skew.0) × (n ≤ active_end l) × (margin_of l n ≡ m)
Says l n (states.Stale m) = (l.revoked ≡ false) × (active_end l < n) × (n ≤ stale_end l) × (margin_of l n ≡ m)
Says l n states.Expired = (l.revoked ≡ false) × (stale_end l < n)

-- it is so of the state that is told
says : (l : Lease) (n : ℕ) → Says l n (state_within l n)
unfolding state_within is_future
says l n = by_cond (Says l n) l.revoked (λ r. r) (λ r.
    by_cond (Says l n) (ltb (n + l.skew.0) l.last_sync.0) (λ f. (r, ltb-true (n + l.skew.0) l.last_sync.0 f)) (λ f.
    by_cond (Says l n) (leb n (last_active l))
    (λ a. (r, ltb-false (n + l.skew.0) l.last_sync.0 f, omega (arith, leb-true n (last_active l) a, active_end_lem l), refl)) (λ a.
    by_cond (Says l n) (leb n (last_stale l))
    (λ s. (r, omega (arith, leb-false n (last_active l) a, active_end_lem l), omega (arith, leb-true n (last_stale l) s, stale_end_lem l), refl))
    (λ s. (r, omega (arith, leb-false n (last_stale l) s, stale_end_lem l))))))

module _ (l : Lease) (n : ℕ) where
  -- a revoked lease
  is_revoked_lem : l.revoked ≡ true → state_within l n ≡ states.Revoked
  unfolding state_within
  is_revoked_lem r = rw r

  -- a lease whose last sync lies too far after the clock
  is_future_lem : l.revoked ≡ false → n + l.skew.0 < l.last_sync.0 → state_within l n ≡ states.Future
  unfolding state_within is_future
  is_future_lem r f = rw (lt-ltb (n + l.skew.0) l.last_sync.0 f, r)

  -- a lease up to its last active millisecond
  is_active : l.revoked ≡ false → l.last_sync.0 ≤ n + l.skew.0 → n ≤ active_end l → state_within l n ≡ states.Active (margin_of l n)
  unfolding state_within is_future
  is_active r f a =
      let h : n ≤ last_active l = omega (arith, active_end_lem l) in
      rw (le-ltb (n + l.skew.0) l.last_sync.0 f, le-leb n (last_active l) h, r)

  -- a lease after it, up to its last stale millisecond
  is_stale : l.revoked ≡ false → active_end l < n → n ≤ stale_end l → state_within l n ≡ states.Stale (margin_of l n)
  unfolding state_within is_future
  is_stale r a s =
      let h : last_active l < n = omega (arith, active_end_lem l) in
      let k : n ≤ last_stale l = omega (arith, stale_end_lem l) in
      rw (le-ltb (n + l.skew.0) l.last_sync.0 (omega arith), lt-leb n (last_active l) h, le-leb n (last_stale l) k, r)

  -- a lease after that
  is_expired_lem : l.revoked ≡ false → stale_end l < n → state_within l n ≡ states.Expired
  unfolding state_within is_future
  is_expired_lem r s =
      let h : last_active l < n = omega (arith, active_end_lem l) in
      let k : last_stale l < n = omega (arith, stale_end_lem l) in
      rw (le-ltb (n + l.skew.0) l.last_sync.0 (omega arith), lt-leb n (last_active l) h, lt-leb n (last_stale l) k, r)

-- `StateExactly`
pub state_exactly : StateExactly
state_exactly l n w h =
    let e = state_within_lem l n w h in
    let told : (x : LeaseState) → state_of l n ≡ Some x → Says l n x
    = λ x i. subst (Says l n) (same_Some (state_within l n) x (sym e ∙ i)) (says l n) in
    let sync = l.last_sync.0 in
    let skew = l.skew.0 in
    record {
      revoked = (told states.Revoked, λ r. e ∙ ap Some (is_revoked_lem l n r));
      future = (
        λ i. let p = told states.Future i in (p.0, (below_sub n sync skew).1 p.1),
        λ p. e ∙ ap Some (is_future_lem l n p.0 ((below_sub n sync skew).0 p.1)),
      );
      active = λ m. (
        λ i. let p = told (states.Active m) i in (p.0, (sub_most sync skew n).1 p.1, p.2, p.3),
        λ p. e ∙ ap Some (is_active l n p.0 ((sub_most sync skew n).0 p.1) p.2 ∙ ap states.Active p.3),
      );
      stale = λ m. (told (states.Stale m), λ p. e ∙ ap Some (is_stale l n p.0 p.1 p.2 ∙ ap states.Stale p.3));
      expired = (told states.Expired, λ p. e ∙ ap Some (is_expired_lem l n p.0 p.1));
    }

-- where the lease or the clock is outside the limits no state is told
not_within : (l : Lease) (n : ℕ) → (Within l × (n ≤ 2 ^ 53) → ⊥) → state_of l n ≡ None
unfolding state_of
not_within l n h = by_cond (λ (x : Option LeaseState). x ≡ None) (lease_ok l && clock_ok n)
    (λ e. absurd (h (tests_within l n e))) (λ e. refl)

-- `OutsideExactly`
pub outside_exactly : OutsideExactly
outside_exactly l n = (
  λ e p. none-some (state_within l n) (sym e ∙ state_within_lem l n p.0 p.1),
  not_within l n,
)

-- ---- stale and expired leases

-- a lease that has late is within the limits, not revoked, and past its last active millisecond
record Late (l : Lease) (n : ℕ) : Type 0 where
  pub within : Within l
  pub clock : n ≤ 2 ^ 53
  pub current : l.revoked ≡ false
  pub past : active_end l < n

-- it is so where the state is stale or expired
late_is : (l : Lease) (n : ℕ) → StaleOrExpired (state_of l n) → Late l n
unfolding state_of
late_is l n = by_cond (λ (x : Option LeaseState). StaleOrExpired x → Late l n) (lease_ok l && clock_ok n)
    (λ e. let p = tests_within l n e in go (state_within l n) (says l n) p.0 p.1) (λ e f. absurd f)
  where
    go : (x : LeaseState) → Says l n x → Within l → n ≤ 2 ^ 53 → StaleOrExpired (Some x) → Late l n
    go states.Revoked s w h f = absurd f
    go states.Future s w h f = absurd f
    go (states.Active m) s w h f = absurd f
    go (states.Stale m) s w h f = record { within = w; clock = h; current = s.0; past = s.1 }
    go states.Expired s w h f = record { within = w; clock = h; current = s.0; past = omega (arith, s.1) }

-- and the state is one of the two where it is so
is_late : (l : Lease) (n : ℕ) → Late l n → StaleOrExpired (state_of l n)
is_late l n f = rw (state_within_lem l n f.within f.clock) (go (leb n (stale_end l)) refl)
  where
    go : (t : Bool) → leb n (stale_end l) ≡ t → StaleOrExpired (Some (state_within l n))
    go true e = rw (is_stale l n f.current f.past (leb-true n (stale_end l) e)) tt
    go false e = rw (is_expired_lem l n f.current (leb-false n (stale_end l) e)) tt

-- `OlderSync`
pub older_sync : OlderSync
older_sync l n older h e =
    let f = late_is l n e in
    let w = f.within in
    let sync : older ≤ 2 ^ 53 = omega (arith, w.sync) in
    is_late (with_sync l older) n (record {
      within = record { sync = sync; ttl = w.ttl; grace = w.grace; skew = w.skew; tolerance = w.tolerance };
      clock = f.clock;
      current = f.current;
      past = omega (arith, f.past);
    })

-- `LaterClock`
pub later_clock : LaterClock
later_clock l n later h k e =
    let f = late_is l n e in
    is_late l later (record { within = f.within; clock = k; current = f.current; past = omega (arith, f.past) })
