-- What the code leaves of the image is the image after the request (specs/After.antt of `request_spec`). Assumes nothing.
use Rattle.std.proofs.Common.{◌≡◌, ℕ, Bool, true, false, cond, List, Ok, Err, sym, ap, ◌∙◌}
use Rattle.time.specs.declared.Seconds.{Seconds}
use Rattle.time.specs.Time.{whole_seconds}
use Rattle.image_spec.specs.Touch.{after_touch}
use Rattle.image_spec.specs.Readable.{check_of}
use Rattle.request_spec.specs.declared.Granted.{Granted}
use Rattle.request_spec.specs.declared.Refusal.{Refusal}
use Rattle.request_spec.specs.Request.{Request, seconds_of}
use Rattle.request_spec.specs.Decision.{decision_of}
use Rattle.request_spec.specs.After.{is_granted, used_by, after_request}
use Rattle.request.specs.Code.{ExaminedAs}

module _ (s : List ℕ) (q : Request) where
  -- the image after a request that is not granted, and after one that is
  after_by_lem : (t : Bool) → is_granted (decision_of s q) ≡ t
      → after_request s q ≡ cond t (used_by s (seconds_of q) (check_of s q.id)) s
  unfolding after_request
  after_by_lem t e = ap (λ (b : Bool). cond b (used_by s (seconds_of q) (check_of s q.id)) s) e

  -- a refusal leaves the image
  pub after_refused : {r : Refusal} → ExaminedAs s q (Err r) → (Err r ≡ decision_of s q) × (s ≡ after_request s q)
  after_refused k = (k, sym (after_by_lem false (sym (ap is_granted k))))

  -- a grant raises the moment of the row that is held
  pub after_granted : (row : ℕ) {g : Granted} {t : Seconds} {d : List ℕ} → ExaminedAs s q (Ok (row, g)) → t ≡ whole_seconds q.clock
      → d ≡ after_touch s row t.0 → (Ok g ≡ decision_of s q) × (d ≡ after_request s q)
  after_granted row k f h = (
    k.0,
    h ∙ ap (λ (x : Seconds). after_touch s row x.0) f ∙ k.1 (seconds_of q) ∙ sym (after_by_lem true (sym (ap is_granted k.0))),
  )
