-- What the check of the image and the steps on the body that is held say of the decision (specs/Decision.antt of `request_spec`,
-- specs/Code.antt), in the code's own form. Assumes nothing.
use Rattle.std.proofs.Common.{◌≡◌, ℕ, ◌+◌, ◌-◌, ◌≤◌, Option, None, Some, Err, List, length, take, drop, refl, sym, ap, ◌∙◌, subst}
use Rattle.octets.specs.Bytes.{AreBytes, part}
use Rattle.octets.proofs.PartLaws.{lent_part}
use Rattle.lease_spec.specs.declared.Lease.{Lease}
use Rattle.steps.specs.Order.{or_else, in_order}
use Rattle.steps.specs.Laws.{passes, fails}
use Rattle.steps.proofs.Laws.{decided}
use Rattle.image_spec.specs.declared.Contents.{Contents}
use Rattle.image_spec.specs.declared.StoredBody.{StoredBody}
use Rattle.image_spec.specs.Check.{ImageCheck, layout_of, is_sound, is_held}
use Rattle.image_spec.specs.Readable.{check_of}
use Rattle.image_spec.specs.Laws.{HeldFits, CheckFits}
use Rattle.image_spec.proofs.Laws.{named_ok, read_in, check_inside}
use Rattle.request_spec.specs.declared.Refusal.{Refusal}
use Rattle.request_spec.specs.declared.Refusal.TheVariants as answers
use Rattle.request_spec.specs.Request.{Request, lease_for}
use Rattle.request_spec.specs.Decision.{Decision, steps_by, granted_by, decided_on, facts_in, matched_in, steps_of, decision_of}
use Rattle.request_spec.specs.After.{used_in, used_by}
use Rattle.image_spec.specs.Touch.{after_touch}
use Rattle.request.specs.Code.{checked_of, BodyFits}
use Rattle.request.proofs.ArgumentCode.{Formed, not_formed}

-- ---- the body that is held

-- the bytes that the code lends of the image for a body
abbrev pub lent_body : List ℕ → StoredBody → List ℕ
lent_body s b = take (b.at + b.len - b.at) (drop b.at s)

module _ (s id : List ℕ) (v : Contents) (b : StoredBody) (bytes : AreBytes s) (e : Some v ≡ check_of s id) (h : v.held ≡ Some b) where
  -- what is known of the body
  known : HeldFits s (Some b)
  known = subst (HeldFits s) h (subst (CheckFits s) (sym e) (check_inside (layout_of s) (named_ok s) s id bytes)).1

  -- it lies in the image
  pub held_inside : b.at + b.len ≤ length s
  held_inside = known.0

  -- its identifiers lie in what the code lends of the image
  pub held_fits : BodyFits (lent_body s b) b.fields
  held_fits =
      let r = read_in (part s b.at b.len) b.fields known.1 in
      subst (λ (x : List ℕ). BodyFits x b.fields) (sym (lent_part s b.at b.len)) (record { fay = r.fay; terminal = r.terminal })

-- ---- all steps

module _ (s : List ℕ) (q : Request) where
  -- the decision by a check
  abbrev decision_by : ImageCheck → Decision
  decision_by v =
      in_order (steps_by q (is_sound v) (is_held v) (facts_in s v) (matched_in s q v)) (granted_by q (lease_for q) (facts_in s v) (matched_in s q v))

  -- what the steps come to, by the image's check, is the decision
  by_check : {v : ImageCheck} → v ≡ check_of s q.id → decision_by v ≡ decision_of s q
  unfolding decision_of steps_of
  by_check e = ap decision_by e

  -- malformed arguments are refused first
  pub decide_malformed : {x : Refusal} → Err x ≡ checked_of q → Err x ≡ decision_of s q
  unfolding steps_by
  decide_malformed e = let n = not_formed q e in rw n.1 (decided (fails n.0) ∙ by_check refl)

  module _ {lease : Option Lease} (w : Formed q lease) where
    -- then an image that is not sound
    pub decide_unsound : None ≡ check_of s q.id → Err answers.BadImage ≡ decision_of s q
    unfolding steps_by
    decide_unsound e = decided (passes w.well (fails refl)) ∙ by_check e

    module _ {v : Contents} (e : Some v ≡ check_of s q.id) where
      -- then an id that is not held
      held_none : v.held ≡ None → decision_by (Some v) ≡ Err answers.NotFound
      unfolding steps_by in_order or_else
      held_none h = rw (h, w.well)

      pub decide_missing : v.held ≡ None → Err answers.NotFound ≡ decision_of s q
      decide_missing h = sym (held_none h) ∙ by_check e

      module _ {b : StoredBody} (h : v.held ≡ Some b) where
        -- where the id is held, the steps on its body are left
        held_steps : decision_by (Some v) ≡ decided_on q (lease_for q) (part s b.at b.len) b.fields
        unfolding steps_by decided_on in_order or_else
        held_steps = rw (h, w.well)

        -- they decide, with the lease that was found
        pub decide_body : {x : Decision} → x ≡ decided_on q lease (lent_body s b) b.fields → x ≡ decision_of s q
        decide_body k =
            k ∙ ap (λ (y : Option Lease). decided_on q y (lent_body s b) b.fields) w.found
            ∙ ap (λ (x : List ℕ). decided_on q (lease_for q) x b.fields) (lent_part s b.at b.len) ∙ sym held_steps ∙ by_check e

        -- and a grant uses the row that is held
        pub used_row : (t : ℕ) → after_touch s b.row t ≡ used_by s t (check_of s q.id)
        used_row t = sym (ap (used_in s t) h) ∙ ap (used_by s t) e
