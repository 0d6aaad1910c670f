-- Laws of the steps of a request on a body (specs/Decision.antt of `request_spec`, specs/Code.antt), in the code's own form. Assumes nothing.
use Rattle.std.proofs.Common.{◌≡◌, ℕ, ◌+◌, ◌-◌, Bool, true, false, Option, None, Some, Err, List, ◌++◌, length, take, drop, refl, sym, ap, ◌∙◌}
use mathlib.Core.Bool.{false≢true}
use Rattle.std.specs.Option.{ok_or}
use Rattle.resource_spec.specs.Identifier.{levels_place, terminal_size}
use Rattle.resource_spec.proofs.Laws.{resource_short, resource_starless}
use Rattle.resource_spec.specs.Text.{resource_ok}
use Rattle.octets.specs.Scan.{without}
use Rattle.octets.specs.Bytes.{part, same}
use Rattle.octets.proofs.PartLaws.{part_to_end, lent_part}
use Rattle.descriptor_spec.specs.declared.Fields.{Fields}
use Rattle.time.proofs.Laws.{lt_is, le_is}
use Rattle.time.specs.Time.{whole_seconds, plus_at_most}
use Rattle.lease_spec.specs.declared.Lease.{Lease}
use Rattle.lease_spec.specs.Lease.{clock_ok}
use Rattle.steps.specs.Order.{Step, or_else, in_order}
use Rattle.steps.specs.Laws.{mapped}
use Rattle.steps.proofs.Laws.{same_end, order_append, order_staged, passed_by}
use Rattle.request_spec.specs.declared.Picked.{Picked}
use Rattle.request_spec.specs.declared.Refusal.TheVariants as answers
use Rattle.request_spec.specs.Request.{Request, seconds_of, revoked_now}
use Rattle.request_spec.specs.Decision.{Decision, Matched, is_matched, revocation_steps, descriptor_steps, key_steps, lease_steps, later_steps, granted_by}
use Rattle.request_spec.specs.Decision.{facts_of, pick_from, matched_on, decided_on, numbers_of}
use Rattle.request.specs.Code.{LeaseFits, Stage, applies, refused, stage_of, applies_with, applicability_of, margin_by, granted_with}
use Rattle.request.proofs.LeasedCode.{lease_decides}

-- the code compares a part that it lends
pub lent_same : (s t : List ℕ) (at n : ℕ) {b : Bool} → b ≡ same (take (at + n - at) (drop at s)) t → same (part s at n) t ≡ b
lent_same s t at n e = ap (λ (x : List ℕ). same x t) (sym (lent_part s at n)) ∙ sym e

-- ---- the grant that is picked

module _ (b : List ℕ) (f : Fields) (resource : List ℕ) (mode : ℕ) {t : Bool}
    (e : t ≡ same (take (f.terminal + terminal_size - f.terminal) (drop f.terminal b)) (take terminal_size resource)) where
  -- none serves where the resource is another terminal's
  pub matched_other : t ≡ false → None ≡ matched_on b f resource mode
  unfolding matched_on
  matched_other g = sym (rw (lent_same b (take terminal_size resource) f.terminal terminal_size e ∙ g))

  -- else the search tells
  pub matched_picked : t ≡ true → {m : Matched} → m
      ≡ pick_from b (take (length resource - levels_place) (drop levels_place resource)) mode f.grants
      f.first 0 None
      → m ≡ matched_on b f resource mode
  unfolding matched_on
  matched_picked g h =
      h
      ∙ ap (λ (r : List ℕ). pick_from b r mode f.grants f.first 0 None) (part_to_end resource levels_place)
      ∙ sym (rw (lent_same b (take terminal_size resource) f.terminal terminal_size e ∙ g))

-- the levels of a resource, as the code lends them, have no "*"
pub levels_starless : (r : List ℕ) → resource_ok r ≡ true → without 42 (take (length r - levels_place) (drop levels_place r)) ≡ true
levels_starless r e = ap (without 42) (part_to_end r levels_place) ∙ resource_starless r e

-- the laws of the grant that is picked
pub ruleset match_laws = (matched_other, matched_picked, levels_starless, resource_short)

-- ---- the stages

-- the number of an answer
abbrev answer_of : Decision → ℕ
answer_of x = (numbers_of x).answer

-- where the steps before pass, the grant that is picked tells
pub stage_picked : (m : Matched) → stage_of (ok_or m answers.Insufficient)
    ≡ or_else (is_matched m) (refused (Err answers.Insufficient)) (applies_with m)
unfolding or_else
stage_picked (Some p) = refl
stage_picked None = refl

-- the laws of the steps 9 to 13
pub ruleset descriptor_laws = (stage_picked, lt_is, le_is)

-- what follows a stage: its refusal, or what is decided with the grant that serves
abbrev after_stage : (Picked → Decision) → Stage → Decision
after_stage k (applies p) = k p
after_stage k (refused answer) = answer

module _ (q : Request) (lease : Option Lease) (b : List ℕ) (f : Fields) where
  -- what is decided with a grant that serves, by the key, the signature and the lease
  abbrev signed_with : Picked → Decision
  signed_with p =
      in_order (key_steps q.verdict q.window (seconds_of q))
      (granted_with p (plus_at_most (whole_seconds q.clock) q.session f.not_after) (margin_by lease q.clock.0))

  -- the steps 9 to 13, by the grant that is picked
  abbrev stages_of : Matched → List (Step Decision)
  stages_of m = descriptor_steps (facts_of b f) q.fay q.terminal (seconds_of q) m

  -- those steps and what follows them
  descriptor_steps_lem : (m : Matched) (k : Picked → Decision) (r : Decision)
      → ((p : Picked) → m ≡ Some p → r ≡ k p)
      → after_stage k (in_order (mapped refused (stages_of m)) (applies_with m)) ≡ in_order (stages_of m) r
  unfolding descriptor_steps
  descriptor_steps_lem (Some p) k r h =
      let steps = stages_of (Some p) in
      order_staged refused (after_stage k) (λ x. refl) steps (applies p) ∙ ap (in_order steps) (sym (h p refl))
  descriptor_steps_lem None k r h =
      order_staged refused (after_stage k) (λ x. refl) (stages_of None) (refused (Err answers.Insufficient))
      ∙ same_end (stages_of None) (Err answers.Insufficient) r
      (λ a. absurd (false≢true (passed_by answer_of 13 (stages_of None) a)))

  -- the steps of the key and of the lease, and what is granted
  abbrev rest_with : Matched → Decision
  rest_with m =
      in_order (key_steps q.verdict q.window (seconds_of q))
      (in_order (lease_steps lease q.clock.0) (granted_by q lease (facts_of b f) m))

  module _ (fits : LeaseFits lease) (ok : clock_ok q.clock.0 ≡ true) where
    -- with a grant that serves they are what is decided with it
    rest_signed : (p : Picked) → rest_with (Some p) ≡ signed_with p
    unfolding granted_by plus_at_most
    rest_signed p = ap (in_order (key_steps q.verdict q.window (seconds_of q)))
        (sym (lease_decides p (plus_at_most (whole_seconds q.clock) q.session f.not_after) lease q.clock.0 fits ok))

    module _ (e : revoked_now q ≡ false) where
      -- what is decided on a body that is not revoked, by the stage
      on_stage : after_stage signed_with (applicability_of b f q.fay q.terminal q.resource q.mode (seconds_of q))
          ≡ decided_on q lease b f
      unfolding decided_on later_steps revocation_steps applicability_of in_order or_else
      on_stage =
          let m = matched_on b f q.resource q.mode in
          let ks = key_steps q.verdict q.window (seconds_of q) in
          let ls = lease_steps lease q.clock.0 in
          let g = granted_by q lease (facts_of b f) m in
          descriptor_steps_lem m signed_with (rest_with m) (λ p i. ap rest_with i ∙ rest_signed p)
          ∙ sym (rw e (order_append (stages_of m) (ks ++ ls) g ∙ ap (in_order (stages_of m)) (order_append ks ls g)))

      -- where a grant serves, what the key, the signature and the lease come to is decided
      pub on_applies : (p : Picked) {x : Decision} → applies p ≡ applicability_of b f q.fay q.terminal q.resource q.mode (seconds_of q)
          → x ≡ signed_with p → x ≡ decided_on q lease b f
      on_applies p a h = h ∙ ap (after_stage signed_with) a ∙ on_stage

      -- else the refusal is
      pub on_refused : (x : Decision) → refused x ≡ applicability_of b f q.fay q.terminal q.resource q.mode (seconds_of q)
          → x ≡ decided_on q lease b f
      on_refused x a = ap (after_stage signed_with) a ∙ on_stage

  -- what is decided on a body that is revoked
  pub on_revoked : revoked_now q ≡ true → Err answers.Revoked ≡ decided_on q lease b f
  unfolding decided_on later_steps revocation_steps in_order or_else
  on_revoked e = sym (rw e)
