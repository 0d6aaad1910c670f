-- The image after a request (specs/After.antt, specs/Promises.antt). Assumes nothing.
use Rattle.std.specs.Prelude.{Ok, Err, Some, None}
use Rattle.image_spec.specs.Check.{contents, held_body, Held, ImageCheck, is_sound, is_held, layout_of}
use mathlib.Core.Path.{◌≡◌, refl, sym, ap, ◌∙◌, subst}
use mathlib.Core.Logic.{◌⊎◌, inl, inr, ⊎_elim}
use mathlib.Core.Bool.{Bool, true, false, cond, ◌&&◌, false≢true}
use mathlib.Core.List.{List, []}
use Prim.Native.Nat.{ℕ, ◌+◌, ◌*◌, ◌^◌, ◌≤◌, ◌<◌}
use native.Mathlib.Omega.{arith}
use lib.ListN.{length, take, drop, get_or}
use lib.Dec.{leb, ltb}
use borrow.Author.Tests.{leb-true}
use Rattle.octets.specs.Bytes.{part}
use Rattle.octets.specs.Number.{big_endian, number_in}
use Rattle.octets.specs.Write.{put_at}
use Rattle.octets.proofs.SameLaws.{equal_same, not_same}
use Rattle.octets.proofs.OverLaws.{over_length, over_before, over_after}
use Rattle.octets.proofs.NumberLaws.{length_big_endian}
use Rattle.octets.proofs.Tests.{by_cond, and_left, and_right}
use Rattle.descriptor_spec.specs.declared.Fields.{Fields}
use Rattle.lease_spec.specs.Lease.{latest, clock_ok}
use Rattle.lease_spec.specs.Table.{table_ok}
use Rattle.steps.specs.Order.{or_else, in_order}
use Rattle.image_spec.specs.declared.layout.Layout.{Layout}
use Rattle.image_spec.specs.Layout.{edition2, row_place, place_within}
use Rattle.image_spec.specs.Image.{Row, row_of, id_of, image_of}
use Rattle.image_spec.specs.Image as image
use Rattle.image_spec.specs.Close.{with_rows}
use Rattle.image_spec.specs.Touch.{touched, raised_at, touched_at, after_touch}
use Rattle.image_spec.specs.Upgrade.{after_upgrade}
use Rattle.image_spec.specs.Readable.{Holds, check_of, rows_held}
use Rattle.image_spec.specs.Laws.{HeldBody, HeldIs}
use Rattle.image_spec.proofs.Laws.{edition2_ok, named_ok, header_names, place_within_lem, check_tells, check_says, body_with_exactly}
use Rattle.image_spec.proofs.Laws.{touched_bodies, after_touch2, after_touch1}
use Rattle.image_spec.proofs.Promises.{readable_exactly, upgrade_exactly}
use Rattle.request_spec.specs.Decision.{Decision}
use Rattle.request_spec.specs.declared.Refusal.TheVariants as answers
use Rattle.request_spec.specs.declared.DecisionNumbers.{DecisionNumbers}
use Rattle.request_spec.specs.Request.{Request, arguments_ok, well_formed}
use Rattle.request_spec.specs.Decision.{facts_in, matched_in, decision_of, numbers_of}
use Rattle.request_spec.specs.After.{is_granted, used_in, used_by, after_request}
use Rattle.request_spec.specs.Promises.{seconds_of, formed, not_held, steps_with, granted_for, TouchedExactly, RefusalKeeps, Grant1Keeps}
use Rattle.request_spec.specs.Promises.{Grant2Touches, GrantChanges8, MomentsDecideNothing, UpgradeDecides}
use Rattle.request_spec.proofs.HeldLaws.{decided_in_lem, malformed_first, missing_by, decided_on_none}
use Rattle.request_spec.proofs.StoredLaws.{readable, found_alike}
use Rattle.request_spec.proofs.NumberLaws.{missing_numbers}

-- ---- a granted request

-- a decision is granted exactly when its number is 0
granted_number : (a : Decision) → (is_granted a ≡ true) ⊎ ((is_granted a ≡ false) × ((numbers_of a).answer ≡ 0 → ⊥))
granted_number (Ok g) = inl refl
granted_number (Err answers.Malformed) = inr (refl, λ e. omega arith)
granted_number (Err answers.BadImage) = inr (refl, λ e. omega arith)
granted_number (Err answers.NotFound) = inr (refl, λ e. omega arith)
granted_number (Err answers.Revoked) = inr (refl, λ e. omega arith)
granted_number (Err answers.NotYetValid) = inr (refl, λ e. omega arith)
granted_number (Err answers.Expired) = inr (refl, λ e. omega arith)
granted_number (Err answers.SubjectMismatch) = inr (refl, λ e. omega arith)
granted_number (Err answers.TerminalMismatch) = inr (refl, λ e. omega arith)
granted_number (Err answers.Insufficient) = inr (refl, λ e. omega arith)
granted_number (Err answers.KeyInvalid) = inr (refl, λ e. omega arith)
granted_number (Err answers.BadSignature) = inr (refl, λ e. omega arith)
granted_number (Err answers.LeaseRevoked) = inr (refl, λ e. omega arith)
granted_number (Err answers.LeaseFuture) = inr (refl, λ e. omega arith)
granted_number (Err (answers.LeaseStale m)) = inr (refl, λ e. omega arith)
granted_number (Err answers.LeaseExpired) = inr (refl, λ e. omega arith)

-- a granted decision has the number 0
granted_zero : (a : Decision) → is_granted a ≡ true → (numbers_of a).answer ≡ 0
granted_zero (Ok g) e = refl
granted_zero (Err answers.Malformed) e = absurd (false≢true e)
granted_zero (Err answers.BadImage) e = absurd (false≢true e)
granted_zero (Err answers.NotFound) e = absurd (false≢true e)
granted_zero (Err answers.Revoked) e = absurd (false≢true e)
granted_zero (Err answers.NotYetValid) e = absurd (false≢true e)
granted_zero (Err answers.Expired) e = absurd (false≢true e)
granted_zero (Err answers.SubjectMismatch) e = absurd (false≢true e)
granted_zero (Err answers.TerminalMismatch) e = absurd (false≢true e)
granted_zero (Err answers.Insufficient) e = absurd (false≢true e)
granted_zero (Err answers.KeyInvalid) e = absurd (false≢true e)
granted_zero (Err answers.BadSignature) e = absurd (false≢true e)
granted_zero (Err answers.LeaseRevoked) e = absurd (false≢true e)
granted_zero (Err answers.LeaseFuture) e = absurd (false≢true e)
granted_zero (Err (answers.LeaseStale m)) e = absurd (false≢true e)
granted_zero (Err answers.LeaseExpired) e = absurd (false≢true e)

-- what is so after a request, by whether it is granted
by_grant : (P : List ℕ → Type 0) (s : List ℕ) (q : Request) → P s
    → ((numbers_of (decision_of s q)).answer ≡ 0 → P (used_by s (seconds_of q) (check_of s q.id))) → P (after_request s q)
unfolding after_request
by_grant P s q kept used = go (is_granted (decision_of s q)) refl
  where
    go : (t : Bool) → is_granted (decision_of s q) ≡ t → P (cond t (used_by s (seconds_of q) (check_of s q.id)) s)
    go true e = used (granted_zero (decision_of s q) e)
    go false e = kept

-- `RefusalKeeps`
pub refusal_keeps : RefusalKeeps
refusal_keeps s q other = by_grant (λ (x : List ℕ). x ≡ s) s q refl (λ e. absurd (other e))

-- the image after a request whose number is 0
after_granted : (s : List ℕ) (q : Request) → (numbers_of (decision_of s q)).answer ≡ 0
    → after_request s q ≡ used_by s (seconds_of q) (check_of s q.id)
unfolding after_request
after_granted s q z =
    ⊎_elim {C = cond (is_granted (decision_of s q)) (used_by s (seconds_of q) (check_of s q.id)) s ≡ used_by s (seconds_of q) (check_of s q.id)}
    (λ e. ap (λ (t : Bool). cond t (used_by s (seconds_of q) (check_of s q.id)) s) e) (λ e. absurd (e.1 z))
    (granted_number (decision_of s q))

-- ---- `TouchedExactly`

pub touched_exactly : TouchedExactly
unfolding touched
touched_exactly id t = (
  refl,
  λ r rs e. rw (equal_same (id_of r.body) id e, touched),
  λ r rs e. rw (not_same (id_of r.body) id e, touched),
)

-- ---- an image of edition 1

-- `Grant1Keeps`
pub grant1_keeps : Grant1Keeps
grant1_keeps s q rs h = by_grant (λ (x : List ℕ). x ≡ s) s q refl (λ z. go (check_of s q.id))
  where
    held : (x : Held) → used_in s (seconds_of q) x ≡ s
    held (Some b) = after_touch1 s rs b.row (seconds_of q) h
    held None = refl

    go : (v : ImageCheck) → used_by s (seconds_of q) v ≡ s
    go (Some v) = held v.held
    go None = refl

-- ---- an image of edition 2

-- arguments that are not well formed are not granted
granted_formed : (s : List ℕ) (q : Request) → (numbers_of (decision_of s q)).answer ≡ 0 → well_formed q ≡ true
granted_formed s q z = go (well_formed q) refl
  where
    go : (t : Bool) → well_formed q ≡ t → t ≡ true
    go true e = refl
    go false e =
        let v : ImageCheck = check_of s q.id in
        let m : decision_of s q ≡ (Err answers.Malformed)
        = decided_in_lem s q v refl ∙ malformed_first q (is_sound v) (is_held v) (facts_in s v) (matched_in s q v) _ e in
        absurd (omega (arith, sym (ap (λ (a : Decision). (numbers_of a).answer) m) ∙ z))

-- the clock of a granted request in seconds is a number of 64 bits
granted_clock : (s : List ℕ) (q : Request) → (numbers_of (decision_of s q)).answer ≡ 0 → seconds_of q < 2 ^ 64
unfolding well_formed clock_ok
granted_clock s q z =
    let w : (arguments_ok q && (leb q.clock.0 latest && table_ok q.leases)) ≡ true = granted_formed s q z in
    let c : q.clock.0 ≤ latest
    = leb-true q.clock.0 latest (and_left (leb q.clock.0 latest) (table_ok q.leases)
    (and_right (arguments_ok q) (leb q.clock.0 latest && table_ok q.leases) w)) in
    omega arith

-- a request for an id that is not held is not granted
missing_refused : (q : Request) → (numbers_of (missing_by q)).answer ≡ 0 → ⊥
unfolding in_order or_else
missing_refused q z = go (formed q) (sym (ap (λ (n : DecisionNumbers). n.answer) (missing_numbers q)) ∙ z)
  where
    go : (t : Bool) → (in_order (steps_with t q not_held) (granted_for q not_held)).answer ≡ 0 → ⊥
    go true e = omega arith
    go false e = omega arith

-- the row of a granted request: its place in the list, and that it has the id
record Used (s : List ℕ) (q : Request) (rs : List Row) : Type 0 where
  row : ℕ
  below : row < length rs
  named : id_of (get_or rs row (row_of [])).body ≡ q.id
  after : used_by s (seconds_of q) (check_of s q.id) ≡ after_touch s row (seconds_of q)

-- the row that the check notes has the id
row_named : (s id : List ℕ) (rs : List Row) (row at len : ℕ) (f : Fields) → Holds s rs → HeldBody s id rs row at len f
    → id_of (get_or rs row (row_of [])).body ≡ id
row_named s id rs row at len f h k =
    ap id_of k.there ∙ ((body_with_exactly (layout_of s) id rs (part s at len) h.rows).0 k.which).0

-- there is one
granted_row : (s : List ℕ) (q : Request) (rs : List Row) → Holds s rs → (numbers_of (decision_of s q)).answer ≡ 0 → Used s q rs
granted_row s q rs h z = let w = check_tells (layout_of s) (named_ok s) s q.id rs h in go w.0 w.1 w.2
  where
    go : (x : Held) → check_of s q.id ≡ contents (length rs) (length (image_of (layout_of s) rs)) x → HeldIs s q.id rs x → Used s q rs
    go None e k =
        absurd (missing_refused q (sym (ap (λ (a : Decision). (numbers_of a).answer) (decided_on_none s q rs h k)) ∙ z))
    go (Some b) e k = record {
      row = b.row;
      below = k.below;
      named = row_named s q.id rs b.row b.at b.len b.fields h k;
      after = ap (used_by s (seconds_of q)) e;
    }

-- `Grant2Touches`
pub grant2_touches : Grant2Touches
unfolding with_rows
grant2_touches s q rs h z =
    let u : Used s q rs = granted_row s q rs (readable s rs h) z in
    let e : after_request s q ≡ after_touch s u.row (seconds_of q) = after_granted s q z ∙ u.after in
    let t = after_touch2 s rs u.row q.id (seconds_of q) h u.below (equal_same (id_of (get_or rs u.row (row_of [])).body) q.id
    u.named) (granted_clock s q z) in
    (e ∙ t.0, subst (λ (x : List ℕ). image.Holds edition2 x (touched q.id (seconds_of q) rs)) (sym e) t.1)

-- ---- the 8 bytes

-- x is s but for the n bytes from p on
abbrev Frame : List ℕ → ℕ → ℕ → List ℕ → Type 0
Frame s p n x = (length x ≡ length s) × (take p x ≡ take p s) × (drop (p + n) x ≡ drop (p + n) s)

-- it is so where n bytes are written there
put_frame : (s : List ℕ) (p : ℕ) (x : List ℕ) → Frame s p (length x) (put_at s p x)
unfolding put_at part
put_frame s p x =
    by_cond (Frame s p (length x)) (leb (p + length x) (length s))
    (λ e. let fit : p + length x ≤ length s = leb-true (p + length x) (length s) e in
    (over_length s p x fit, over_before s p x 0 p fit (omega arith), over_after s p x (p + length x) fit (omega arith)))
    (λ e. (refl, refl, refl))

-- and where a moment is raised
raised_frame : (s : List ℕ) (i t : ℕ) → i ≤ 1024 → Frame s (8 + 40 * i + 32) 8 (touched_at edition2 s i t)
unfolding touched_at raised_at row_place
raised_frame s i t few =
    let r : place_within edition2 i ≡ 8 + 40 * i = place_within_lem edition2 edition2_ok i few in
    subst (λ (p : ℕ). Frame s (8 + 40 * i + 32) 8
    (cond (leb (p + 40) (length s)) (cond (ltb (number_in s (p + 32) 8) t) (put_at s (p + 32) (big_endian 8 t)) s) s)) (sym r)
    (by_cond (Frame s (8 + 40 * i + 32) 8) (leb (8 + 40 * i + 40) (length s))
    (λ e. by_cond (Frame s (8 + 40 * i + 32) 8) (ltb (number_in s (8 + 40 * i + 32) 8) t)
    (λ f. subst (λ (n : ℕ). Frame s (8 + 40 * i + 32) n (put_at s (8 + 40 * i + 32) (big_endian 8 t))) (length_big_endian 8 t)
    (put_frame s (8 + 40 * i + 32) (big_endian 8 t)))
    (λ f. (refl, refl, refl)))
    (λ e. (refl, refl, refl)))

-- `GrantChanges8`
pub grant_changes8 : GrantChanges8
unfolding after_touch
grant_changes8 s q rs h z =
    let u : Used s q rs = granted_row s q rs (readable s rs h) z in
    let i : ℕ = u.row in
    let e : after_request s q ≡ touched_at edition2 s i (seconds_of q)
    = after_granted s q z ∙ u.after ∙ ap (λ (l : Layout). touched_at l s i (seconds_of q)) (header_names.1 s rs h) in (
      i,
      u.below,
      u.named,
      subst (Frame s (8 + 40 * i + 32) 8) (sym e)
          (raised_frame s i (seconds_of q) (omega (arith, u.below, h.rows.few))),
    )

-- ---- the moments decide nothing

-- `MomentsDecideNothing`
pub moments_decide_nothing : MomentsDecideNothing
moments_decide_nothing s q p bytes =
    by_grant (λ (x : List ℕ). numbers_of (decision_of x p) ≡ numbers_of (decision_of s p)) s q refl (λ z. go z (check_of s q.id) refl)
  where
    same_answers : (numbers_of (decision_of s q)).answer ≡ 0 → (row at len n end : ℕ) (f : Fields)
        → check_of s q.id ≡ contents n end (held_body row at len f)
        → numbers_of (decision_of (after_touch s row (seconds_of q)) p) ≡ numbers_of (decision_of s p)
    same_answers z row at len n end f e =
        let w = check_says (layout_of s) (named_ok s) s q.id bytes n end (held_body row at len f) e in
        let rs : List Row = rows_held s in
        let after : List ℕ = after_touch s row (seconds_of q) in
        ⊎_elim {C = numbers_of (decision_of after p) ≡ numbers_of (decision_of s p)}
        (λ h. ap (λ (x : List ℕ). numbers_of (decision_of x p)) (after_touch1 s rs row (seconds_of q) h))
        (λ h. let t = after_touch2 s rs row q.id (seconds_of q) h w.held.below
        (equal_same (id_of (get_or rs row (row_of [])).body) q.id (row_named s q.id rs row at len f w.holds w.held))
        (granted_clock s q z) in
        ap numbers_of (found_alike s after p rs (touched q.id (seconds_of q) rs) w.holds
        (readable after (touched q.id (seconds_of q) rs) t.1) (touched_bodies q.id p.id (seconds_of q) rs).0))
        ((readable_exactly s rs).0 w.holds)

    in_sound : (numbers_of (decision_of s q)).answer ≡ 0 → (n end : ℕ) (h : Held) → check_of s q.id ≡ contents n end h
        → numbers_of (decision_of (used_in s (seconds_of q) h) p) ≡ numbers_of (decision_of s p)
    in_sound z n end (Some b) e = same_answers z b.row b.at b.len n end b.fields e
    in_sound z n end None e = refl

    go : (numbers_of (decision_of s q)).answer ≡ 0 → (v : ImageCheck) → check_of s q.id ≡ v
        → numbers_of (decision_of (used_by s (seconds_of q) v) p) ≡ numbers_of (decision_of s p)
    go z (Some v) e = in_sound z v.rows v.end v.held e
    go z None e = refl

-- ---- an image turned into edition 2

-- `UpgradeDecides`
pub upgrade_decides : UpgradeDecides
upgrade_decides old d q rs h room =
    let w = upgrade_exactly.upgraded old d rs h room in
    ap numbers_of (found_alike old (after_upgrade old d) q rs rs ((readable_exactly old rs).1 (inl h))
    (readable (after_upgrade old d) rs w.2) refl)
