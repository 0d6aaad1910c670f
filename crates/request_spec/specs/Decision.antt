-- The decision of a request, as the code takes it: the steps in the papers' order. These definitions compute. A reader of the
-- promises does not need this page.
use Rattle.std.specs.Prelude.{Bool, true, false, not, cond, ◌&&◌, Option, None, Some, List, [], ◌∷◌, ◌++◌, ℕ, zero, suc, ◌+◌, ◌-◌, min, take, drop, pos, leb, ltb, eqb}
use Rattle.resource_spec.specs.Identifier.{fay_size, levels_place, terminal_size}
use Rattle.octets.specs.Bytes.{part, same}
use Rattle.exact.specs.Reads.{got, refused}
use Rattle.resource_spec.specs.Text.{levels_match, levels_named}
use Rattle.descriptor_spec.specs.declared.Fields.{Fields}
use Rattle.descriptor_spec.specs.Reader.{has_mode, GrantSeen, grant_at}
use Rattle.time.specs.declared.Margin.{Margin}
use Rattle.time.specs.declared.Seconds.{Seconds}
use Rattle.time.specs.Time.{seconds}
use Rattle.steps.specs.declared.Window.{Window}
use Rattle.steps.specs.Order.{Step, step, in_order}
use Rattle.steps.specs.Key.{bad, no_key, is_that, key_open}
use Rattle.lease_spec.specs.declared.Lease.{Lease}
use Rattle.lease_spec.specs.Lease.{last_active, last_stale, is_future, margin_of}
use Rattle.image_spec.specs.Check.{Held, ImageCheck, is_sound, is_held}
use Rattle.image_spec.specs.Readable.{check_of}
use Rattle.request_spec.specs.declared.Granted.{Granted}
use Rattle.request_spec.specs.declared.Refusal.{Refusal}
use Rattle.request_spec.specs.declared.DecisionNumbers.{DecisionNumbers}
use Rattle.std.specs.Prelude.{Option as Option, Result, Ok, Err, Some, None}
use Rattle.request_spec.specs.declared.Refusal.TheVariants as answers
use Rattle.request_spec.specs.declared.Picked.{Picked}
use Rattle.request_spec.specs.Request.{Request, seconds_of, well_formed, revoked_now, lease_for}

-- ---- what is answered

-- the decision: what is granted, or the refusal of the first step that fails
abbrev pub Decision : Type 0
Decision = Result Granted Refusal

-- the grant that is picked, or none
abbrev pub Matched : Type 0
Matched = Option Picked

-- a grant's place, its mask and how many levels it matches by equal names
abbrev pub picked_at : ℕ → ℕ → ℕ → Matched
picked_at grant mask names = Some (record { grant = grant; mask = mask; names = names })

-- ---- the steps

-- what the steps look at in a descriptor: not_before, not_after, the subject's fay id and the terminal id
pub record Facts : Type 0 where
  pub not_before : ℕ
  pub not_after : ℕ
  pub fay : List ℕ
  pub terminal : List ℕ

-- a grant serves the request
abbrev pub is_matched : Matched → Bool
is_matched (Some p) = true
is_matched None = false

-- 8: the id is revoked now
unfoldable pub revocation_steps : Request → List (Step Decision)
revocation_steps q = step (not (revoked_now q)) (Err answers.Revoked) ∷ []

-- 9 to 13: the descriptor's period, its subject, its terminal, and a grant that serves
unfoldable pub descriptor_steps : Facts → List ℕ → List ℕ → ℕ → Matched → List (Step Decision)
descriptor_steps x fay terminal clock m =
    step (leb x.not_before clock) (Err answers.NotYetValid)
    ∷ step (ltb clock x.not_after) (Err answers.Expired)
    ∷ step (same x.fay fay) (Err answers.SubjectMismatch)
    ∷ step (same x.terminal terminal) (Err answers.TerminalMismatch)
    ∷ step (is_matched m) (Err answers.Insufficient)
    ∷ []

-- 14 and 4: the key and the signature
unfoldable pub key_steps : ℕ → Window → ℕ → List (Step Decision)
key_steps verdict window clock =
    step (not (is_that verdict no_key) && key_open window clock) (Err answers.KeyInvalid)
    ∷ step (not (is_that verdict bad)) (Err answers.BadSignature)
    ∷ []

-- a test of the lease, where there is one; without a lease it passes
abbrev pub where_leased : Option Lease → (Lease → Bool) → Bool
where_leased None test = true
where_leased (Some l) test = test l

-- the margin of the lease, and 0 without one
abbrev pub margin_for : Option Lease → ℕ → Margin
margin_for None n = record { 0 = pos 0 }
margin_for (Some l) n = margin_of l n

-- 26, 23, 24 and 25: the lease is revoked, future, stale or expired at the clock n
unfoldable pub lease_steps : Option Lease → ℕ → List (Step Decision)
lease_steps lease n =
    step (where_leased lease (λ l. not l.revoked)) (Err answers.LeaseRevoked)
    ∷ step (where_leased lease (λ l. not (is_future l n))) (Err answers.LeaseFuture)
    ∷ step (where_leased lease (λ l. not (ltb (last_active l) n && leb n (last_stale l)))) (Err (answers.LeaseStale (margin_for lease n)))
    ∷ step (where_leased lease (λ l. not (ltb (last_stale l) n))) (Err answers.LeaseExpired)
    ∷ []

-- the steps on a descriptor that was found, by its lease, its facts and the grant that is picked
unfoldable pub later_steps : Request → Option Lease → Facts → Matched → List (Step Decision)
later_steps q lease x m =
    revocation_steps q
    ++ (descriptor_steps x q.fay q.terminal (seconds_of q) m
    ++ (key_steps q.verdict q.window (seconds_of q) ++ lease_steps lease q.clock.0))

-- all steps: the arguments, the image, that the id is held, and those
unfoldable pub steps_by : Request → Bool → Bool → Facts → Matched → List (Step Decision)
steps_by q sound held x m =
    step (well_formed q) (Err answers.Malformed)
    ∷ step sound (Err answers.BadImage)
    ∷ step held (Err answers.NotFound)
    ∷ later_steps q (lease_for q) x m

-- what is granted: the grant's place, its mask, the session's end, the smaller of not_after and the clock and the session length
-- together; and the margin of the lease
abbrev pub granted_on : Request → Option Lease → Facts → Picked → Granted
granted_on q lease x p = record {
  grant = p.grant;
  mask = p.mask;
  end = seconds (min x.not_after (seconds_of q + q.session.0));
  margin = margin_for lease q.clock.0;
}

-- granted, where a grant is picked
unfoldable pub granted_by : Request → Option Lease → Facts → Matched → Decision
granted_by q lease x (Some p) = Ok (granted_on q lease x p)
granted_by q lease x None = Err answers.Insufficient

-- ---- from the bytes of an image

-- the facts of a body of which f was read
abbrev pub facts_of : List ℕ → Fields → Facts
facts_of b f = record {
  not_before = f.not_before.0;
  not_after = f.not_after.0;
  fay = part b f.fay fay_size;
  terminal =
      part b f.terminal terminal_size;
}

-- a grant that was seen in b serves: it has the mode, no constraint pair, and its levels match those of the resource
unfoldable pub serves : List ℕ → List ℕ → ℕ → GrantSeen → Bool
serves b r mode g = has_mode g.mask mode &&
    (eqb g.pairs 0 && levels_match (part b (g.pattern.start + levels_place) (g.pattern.len - levels_place)) r)

-- how many levels of the resource it matches by equal names
unfoldable pub names_of : List ℕ → List ℕ → GrantSeen → ℕ
names_of b r g = levels_named (part b (g.pattern.start + levels_place) (g.pattern.len - levels_place)) r

-- of the grant that was picked before and one after it that serves: the one that matches more levels by equal names, the earlier on a tie
abbrev pub more_exact : Matched → ℕ → ℕ → ℕ → Matched
more_exact None i mask names = picked_at i mask names
more_exact (Some p) i mask names = cond (ltb p.names names) (picked_at i mask names) (Some p)

-- what is picked after a grant, by whether it serves
abbrev pub picked_with : Bool → Matched → ℕ → ℕ → ℕ → Matched
picked_with true best i mask names = more_exact best i mask names
picked_with false best i mask names = best

-- what is picked of the n grants from a place of b on, of which i came before and of those best was picked
unfoldable pub pick_from : List ℕ → List ℕ → ℕ → ℕ → ℕ → ℕ → Matched → Matched
pick_from b r mode zero at i best = best
pick_from b r mode (suc n) at i best = elim (grant_at b at) [
  | got g next ↦ pick_from b r mode n next (i + 1) (picked_with (serves b r mode g) best i g.mask (names_of b r g))
  | refused ↦ best
]

-- the grant of a body that is picked; none where the resource is another terminal's
unfoldable pub matched_on : List ℕ → Fields → List ℕ → ℕ → Matched
matched_on b f resource mode =
    cond (same (part b f.terminal terminal_size) (take terminal_size resource))
    (pick_from b (drop levels_place resource) mode f.grants f.first 0 None) None

-- the decision on a body of which f was read, and which has that lease
unfoldable pub decided_on : Request → Option Lease → List ℕ → Fields → Decision
decided_on q lease b f =
    let x = facts_of b f in
    let m = matched_on b f q.resource q.mode in
    in_order (later_steps q lease x m) (granted_by q lease x m)

-- the facts where no body was found
abbrev pub no_facts : Facts
no_facts = record { not_before = 0; not_after = 0; fay = []; terminal = [] }

-- the facts of the body that is held
abbrev pub facts_held : List ℕ → Held → Facts
facts_held s (Some b) = facts_of (part s b.at b.len) b.fields
facts_held s None = no_facts

-- the facts of the body that was found
abbrev pub facts_in : List ℕ → ImageCheck → Facts
facts_in s (Some v) = facts_held s v.held
facts_in s None = no_facts

-- the grant that is picked of the body that is held
abbrev pub matched_held : List ℕ → Request → Held → Matched
matched_held s q (Some b) = matched_on (part s b.at b.len) b.fields q.resource q.mode
matched_held s q None = None

-- of the body that was found
abbrev pub matched_in : List ℕ → Request → ImageCheck → Matched
matched_in s q (Some v) = matched_held s q v.held
matched_in s q None = None

-- the steps of a request to the image s
unfoldable pub steps_of : List ℕ → Request → List (Step Decision)
steps_of s q = let v = check_of s q.id in steps_by q (is_sound v) (is_held v) (facts_in s v) (matched_in s q v)

-- the decision: the first failing step's refusal, or granted
unfoldable pub decision_of : List ℕ → Request → Decision
decision_of s q = let v = check_of s q.id in in_order (steps_of s q) (granted_by q (lease_for q) (facts_in s v) (matched_in s q v))

-- ---- the papers' numbers

-- a refusal's other numbers are 0, but for the margin of 24
abbrev pub refusal : ℕ → DecisionNumbers
refusal n = record { answer = n; grant = 0; mask = 0; session_end = 0; margin = pos 0 }

-- 24: stale, with the margin
abbrev pub stale_with : Margin → DecisionNumbers
stale_with m = record { answer = 24; grant = 0; mask = 0; session_end = 0; margin = m.0 }

-- 0: what is granted
abbrev pub granted_numbers : ℕ → ℕ → Seconds → Margin → DecisionNumbers
granted_numbers grant mask end m = record { answer = 0; grant = grant; mask = mask; session_end = end.0; margin = m.0 }

-- the answer, and its numbers
abbrev pub numbers_of : Decision → DecisionNumbers
numbers_of (Ok g) = granted_numbers g.grant g.mask g.end g.margin
numbers_of (Err answers.Malformed) = refusal 15
numbers_of (Err answers.BadImage) = refusal 16
numbers_of (Err answers.NotFound) = refusal 7
numbers_of (Err answers.Revoked) = refusal 8
numbers_of (Err answers.NotYetValid) = refusal 9
numbers_of (Err answers.Expired) = refusal 10
numbers_of (Err answers.SubjectMismatch) = refusal 11
numbers_of (Err answers.TerminalMismatch) = refusal 12
numbers_of (Err answers.Insufficient) = refusal 13
numbers_of (Err answers.KeyInvalid) = refusal 14
numbers_of (Err answers.BadSignature) = refusal 4
numbers_of (Err answers.LeaseRevoked) = refusal 26
numbers_of (Err answers.LeaseFuture) = refusal 23
numbers_of (Err (answers.LeaseStale m)) = stale_with m
numbers_of (Err answers.LeaseExpired) = refusal 25
