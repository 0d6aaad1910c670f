-- What is promised of requests, and nothing else. Each statement `NameOfIt` is proved in proofs/Promises.antt as `name_of_it`.
use Rattle.std.specs.Prelude.{◌≡◌, ◌↔◌, ◌⊎◌, Bool, true, false, not, cond, ◌&&◌, ◌||◌, Option, None, Some, List, [], ◌∷◌, ◌++◌, ℕ, ◌+◌, ◌/◌, ◌%◌, ◌*◌, ◌^◌, ◌≤◌, ◌<◌, min, max, length, take, drop, get_or, ℤ, pos, ◌-ℤ◌, ◌≤ℤ◌, ◌<ℤ◌, leb, ltb, eqb}
use Rattle.std.specs.Option.{option_map_or}
use Rattle.octets.specs.Bytes.{AreBytes, same}
use Rattle.octets.specs.Number.{number_at}
use Rattle.resource_spec.specs.Identifier.{is_fay, is_terminal}
use Rattle.resource_spec.specs.Pattern.{Path, admits, names_matched}
use Rattle.resource_spec.specs.Text.{is_resource, path_of, pattern_of}
use Rattle.entries_spec.specs.Model.{pair_count}
use Rattle.descriptor_spec.specs.Model.{Grant, Descriptor, encode}
use Rattle.descriptor_spec.specs.Allowed.{is_in, Allowed}
use Rattle.descriptor_spec.specs.Modes.{union_of}
use Rattle.revocation_spec.specs.declared.Revocation.{Revocation}
use Rattle.revocation_spec.specs.Revocation.{is_revoked, revocations_of}
use Rattle.revocation_spec.specs.Promises.{IsRow}
use Rattle.lease_spec.specs.declared.Lease.{Lease}
use Rattle.lease_spec.specs.Table.{Row as LeaseRow, table_bytes, rows_of, lease_under, table_ok}
use Rattle.lease_spec.specs.Promises.{active_end, stale_end, row_with_sync, AreRows}
use Rattle.time.specs.declared.Seconds.{Seconds}
use Rattle.time.specs.declared.Milliseconds.{Milliseconds}
use Rattle.steps.specs.declared.Window.{Window}
use Rattle.steps.specs.Order.{Step, step, in_order, AllPass, FirstFails}
use Rattle.image_spec.specs.Layout.{edition1, edition2}
use Rattle.image_spec.specs.Image.{Row, row_of, id_of}
use Rattle.image_spec.specs.Image as image
use Rattle.image_spec.specs.Touch.{touched}
use Rattle.image_spec.specs.Upgrade.{after_upgrade}
use Rattle.image_spec.specs.Readable.{Holds}
use Rattle.submission_spec.specs.Submission.{submitted, after_of, number_of}
use Rattle.submission_spec.specs.Promises.{AreVersion7}
use Rattle.request_spec.specs.declared.DecisionNumbers.{DecisionNumbers}
use Rattle.request_spec.specs.Request.{Request, request_of}
use Rattle.request_spec.specs.Decision.{decision_of, numbers_of}
use Rattle.request_spec.specs.After.{after_request}

-- ---- the arguments

-- the arguments of the call, in its order
abbrev pub ArgumentsInOrder : Type 0
ArgumentsInOrder = (id fay terminal resource : List ℕ) (mode : ℕ) (clock : Milliseconds) (session : Seconds) (revoked leases : List ℕ)
    (verdict : ℕ) (window : Window)
    → request_of id fay terminal resource mode clock session revoked leases verdict window
    ≡ record {
      id = id;
      fay = fay;
      terminal = terminal;
      resource = resource;
      mode = mode;
      clock = clock;
      session = session;
      revoked = revoked;
      leases = leases;
      verdict = verdict;
      window = window;
    }

-- ---- what an image holds under an id

-- the image is bad; it is sound and the id is not held; the id is held, with this descriptor
pub data Stored : Type 0 where
  bad_image : Stored
  not_held : Stored
  held : Descriptor → Stored

-- the body of one of the rows is the encoding of the allowed descriptor d, and d has the id
pub record Among (rs : List Row) (id : List ℕ) (d : Descriptor) : Type 0 where
  pub allowed : Allowed d
  pub bytes : AreBytes (encode d)
  pub named : d.payload.id ≡ id
  pub place : ℕ
  pub inside : place < length rs
  pub there : (get_or rs place (row_of [])).body ≡ encode d

-- what the bytes s hold under the id, in edition 1 or 2: they are the image of no list of rows; or of rows of which none has the id; or of rows of which
-- that of d has it
abbrev pub Under : List ℕ → List ℕ → Stored → Type 0
Under s id bad_image = AreBytes s × ((rs : List Row) → Holds s rs → ⊥)
Under s id not_held = (rs : List Row) × Holds s rs × AreBytes s × ((d : Descriptor) → Among rs id d → ⊥)
Under s id (held d) = (rs : List Row) × Holds s rs × Among rs id d

-- any bytes hold one of the three under any id
abbrev pub AllStored : Type 0
AllStored = (s id : List ℕ) → AreBytes s → (x : Stored) × Under s id x

-- ---- the steps in the papers' order, with their numbers

-- the clock in seconds, called now below: the milliseconds divided by 1,000, rounded down
abbrev pub seconds_of : Request → ℕ
seconds_of q = q.clock.0 / 1000

-- a refusal's other numbers are 0
abbrev pub refusal : ℕ → DecisionNumbers
refusal n = record { answer = n; grant = 0; mask = 0; session_end = 0; margin = pos 0 }

-- but for 24, which has a margin
abbrev pub stale_with : ℤ → DecisionNumbers
stale_with margin = record { answer = 24; grant = 0; mask = 0; session_end = 0; margin = margin }

-- the arguments but for the clock and the lease table are well formed: the verdict is not above 2, the mode not above 3, the id 16 bytes;
-- the fay, terminal and resource ids are well formed, the last at most 256 bytes; the revocation list is a multiple of 24
abbrev pub formed_before : Request → Bool
formed_before q =
    leb q.verdict 2
    && (leb q.mode 3
    && (eqb (length q.id) 16
    && (is_fay q.fay
    && (is_terminal q.terminal && ((leb (length q.resource) 256 && is_resource q.resource) && eqb (length q.revoked % 24) 0)))))

-- the arguments are well formed: those, the clock is not above 2^53, and the bytes of the lease table are one
abbrev pub formed : Request → Bool
formed q = formed_before q && (leb q.clock.0 (2 ^ 53) && table_ok q.leases)

-- a grant serves: it has the mode, a matching pattern and no constraint pair
abbrev pub grant_serves : Grant → ℕ → Path → Bool
grant_serves g m x = is_in m g.modes && (admits (pattern_of g.pattern) x && eqb (pair_count g.constraints) 0)

-- some grant serves
abbrev pub some_serves : List Grant → ℕ → Path → Bool
some_serves [] m x = false
some_serves (g ∷ gs) m x = grant_serves g m x || some_serves gs m x

-- the key is valid: not before valid_from and, where there is a valid_until, not after it
abbrev pub key_valid : Window → ℕ → Bool
key_valid window clock = leb window.from.0 clock && option_map_or (λ until. leb clock until.0) window.until true

-- the steps up to the signature where the descriptor d is held under the id, by whether the arguments are well formed, and whether a
-- grant is found in step 13
abbrev pub steps_on : Bool → Request → Descriptor → Bool → List (Step DecisionNumbers)
steps_on ok q d found =
    step ok (refusal 15)
    ∷ step true (refusal 16)
    ∷ step true (refusal 7)
    ∷ step (not (is_revoked (revocations_of q.revoked) q.id (seconds_of q))) (refusal 8)
    ∷ step (leb d.payload.not_before (seconds_of q)) (refusal 9)
    ∷ step (ltb (seconds_of q) d.payload.not_after) (refusal 10)
    ∷ step (same d.payload.fay q.fay) (refusal 11)
    ∷ step (same d.payload.terminal q.terminal) (refusal 12)
    ∷ step found (refusal 13)
    ∷ step (not (eqb q.verdict 2) && key_valid q.window (seconds_of q)) (refusal 14)
    ∷ step (not (eqb q.verdict 1)) (refusal 4)
    ∷ []

-- the steps up to the signature, by what the image holds under the id
abbrev pub steps_with : Bool → Request → Stored → List (Step DecisionNumbers)
steps_with ok q bad_image = step ok (refusal 15) ∷ step false (refusal 16) ∷ []
steps_with ok q not_held = step ok (refusal 15) ∷ step true (refusal 16) ∷ step false (refusal 7) ∷ []
steps_with ok q (held d) = steps_on ok q d (some_serves d.payload.grants q.mode (path_of q.resource))

-- the lease that the lease table has under the id
abbrev pub lease_for : Request → Option Lease
lease_for q = lease_under (rows_of q.leases) q.id

-- a test of the lease; an id without a lease passes
abbrev pub where_leased : Option Lease → (Lease → Bool) → Bool
where_leased None test = true
where_leased (Some l) test = test l

-- the margin L + T + E − N of the lease at the clock N; 0 without a lease
abbrev pub margin_at : Option Lease → ℕ → ℤ
margin_at None n = pos 0
margin_at (Some l) n = pos (active_end l) -ℤ pos n

-- the lease's steps at the clock N: 26 where it is revoked, 23 where N < L − D, 24 where L + T + E < N ≤ L + T + G + E, 25 where
-- N > L + T + G + E
abbrev pub lease_steps : Option Lease → ℕ → List (Step DecisionNumbers)
lease_steps lease n =
    step (where_leased lease (λ l. not l.revoked)) (refusal 26)
    ∷ step (where_leased lease (λ l. not (ltb (n + l.skew.0) l.last_sync.0))) (refusal 23)
    ∷ step (where_leased lease (λ l. not (ltb (active_end l) n && leb n (stale_end l)))) (stale_with (margin_at lease n))
    ∷ step (where_leased lease (λ l. not (ltb (stale_end l) n))) (refusal 25)
    ∷ []

-- the steps, by what the image holds under the id: the lease's follow the signature's
abbrev pub steps_for : Request → Stored → List (Step DecisionNumbers)
steps_for q bad_image = steps_with (formed q) q bad_image
steps_for q not_held = steps_with (formed q) q not_held
steps_for q (held d) = steps_with (formed q) q (held d) ++ lease_steps (lease_for q) q.clock.0

-- how many levels of a path a grant matches by equal names
abbrev pub grant_names : Grant → Path → ℕ
grant_names g x = names_matched (pattern_of g.pattern) x

-- the most such levels that one of the grants has which serve
abbrev pub most_names : List Grant → ℕ → Path → ℕ
most_names [] m x = 0
most_names (g ∷ gs) m x = max (cond (grant_serves g m x) (grant_names g x) 0) (most_names gs m x)

-- a grant serves, and has n such levels
abbrev pub serves_with : ℕ → ℕ → Path → Grant → Bool
serves_with n m x g = grant_serves g m x && eqb (grant_names g x) n

-- the place of the first grant that passes a test, counted from 0
abbrev pub first_place : (Grant → Bool) → List Grant → ℕ
first_place test [] = 0
first_place test (g ∷ gs) = cond (test g) 0 (first_place test gs + 1)

-- its mask
abbrev pub first_mask : (Grant → Bool) → List Grant → ℕ
first_mask test [] = 0
first_mask test (g ∷ gs) = cond (test g) (union_of (g ∷ [])) (first_mask test gs)

-- the grant that is picked is the first that serves and has the most
abbrev pub is_picked : List Grant → ℕ → Path → Grant → Bool
is_picked gs m x = serves_with (most_names gs m x) m x

-- granted: that grant's place, its mask, the session's end, the smaller of not_after and now + the host's session length, and a margin;
-- where the id is not held a step fails, and nothing is granted
abbrev pub granted_with : ℤ → Request → Stored → DecisionNumbers
granted_with margin q bad_image = refusal 0
granted_with margin q not_held = refusal 0
granted_with margin q (held d) =
    record {
      answer = 0;
      grant = first_place (is_picked d.payload.grants q.mode (path_of q.resource)) d.payload.grants;
      mask = first_mask (is_picked d.payload.grants q.mode (path_of q.resource)) d.payload.grants;
      session_end = min d.payload.not_after (seconds_of q + q.session.0);
      margin = margin;
    }

-- granted, with the margin of the lease
abbrev pub granted_for : Request → Stored → DecisionNumbers
granted_for q x = granted_with (margin_at (lease_for q) q.clock.0) q x

-- the numbers that a request is answered, by what the image holds under the id
abbrev pub answer_for : Request → Stored → DecisionNumbers
answer_for q x = in_order (steps_for q x) (granted_for q x)

-- ---- the order of the steps

-- a request is answered the refusal of the first step that fails, or granted, by what the image holds under the id
abbrev pub DecidedExactly : Type 0
DecidedExactly = (s : List ℕ) (q : Request) (x : Stored) → Under s q.id x → numbers_of (decision_of s q) ≡ answer_for q x

-- the answer is 0 exactly when every step passes
abbrev pub GrantedExactly : Type 0
GrantedExactly = (s : List ℕ) (q : Request) (x : Stored) → Under s q.id x → ((numbers_of (decision_of s q)).answer ≡ 0)
    ↔ AllPass (steps_for q x)

-- and other numbers exactly when they are those of the first step that fails
abbrev pub RefusedExactly : Type 0
RefusedExactly = (s : List ℕ) (q : Request) (x : Stored) (r : DecisionNumbers) → Under s q.id x → (r.answer ≡ 0 → ⊥)
    → (numbers_of (decision_of s q) ≡ r) ↔ FirstFails (steps_for q x) r

-- whatever the image is, the other numbers of a refusal but 24 are 0
abbrev pub RefusalsZero : Type 0
RefusalsZero = (s : List ℕ) (q : Request) → ((numbers_of (decision_of s q)).answer ≡ 0 → ⊥) → ((numbers_of (decision_of s q)).answer ≡ 24 → ⊥)
    → numbers_of (decision_of s q) ≡ refusal (numbers_of (decision_of s q)).answer

-- an image whose image edition is another than 1 and 2, or whose mode edition is another than 1, grants nothing; it is answered 16, where the
-- arguments are well formed
abbrev pub EditionsRefused : Type 0
EditionsRefused = (s : List ℕ) (q : Request)
    → ((number_at s 0 2 ≡ 1 → ⊥) × (number_at s 0 2 ≡ 2 → ⊥)) ⊎ (number_at s 2 2 ≡ 1 → ⊥)
    → ((numbers_of (decision_of s q)).answer ≡ 0 → ⊥) × (formed q ≡ true → numbers_of (decision_of s q) ≡ refusal 16)

-- ---- what is granted

-- the grant h of gs at the place j serves
pub record ServesAt (gs : List Grant) (m : ℕ) (x : Path) (j : ℕ) (h : Grant) : Type 0 where
  pub place : j < length gs
  pub there : get_or gs j h ≡ h
  pub serves : grant_serves h m x ≡ true

-- the grant g of gs at the place i is picked: it serves; none that serves matches more levels by equal names; none before it that serves
-- matches as many
pub record Picked (gs : List Grant) (m : ℕ) (x : Path) (i : ℕ) (g : Grant) : Type 0 where
  pub serves : ServesAt gs m x i g
  pub most : (j : ℕ) (h : Grant) → ServesAt gs m x j h → grant_names h x ≤ grant_names g x
  pub first : (j : ℕ) (h : Grant) → ServesAt gs m x j h → j < i → grant_names h x < grant_names g x

-- at most one place is picked
abbrev pub PickedOnce : Type 0
PickedOnce = (gs : List Grant) (m : ℕ) (x : Path) (i j : ℕ) (g h : Grant) → Picked gs m x i g → Picked gs m x j h → i ≡ j

-- where the answer is 0 a descriptor is held under the id, and the numbers are the place of its grant that is picked, that grant's
-- mask, and the smaller of not_after and now + the host's session length
abbrev pub GrantedGives : Type 0
GrantedGives = (s : List ℕ) (q : Request) → AreBytes s → (numbers_of (decision_of s q)).answer ≡ 0
    → (d : Descriptor) × Under s q.id (held d)
    × ((g : Grant) × Picked d.payload.grants q.mode (path_of q.resource) (numbers_of (decision_of s q)).grant g
    × ((numbers_of (decision_of s q)).mask ≡ union_of (g ∷ [])))
    × ((numbers_of (decision_of s q)).session_end ≡ min d.payload.not_after (seconds_of q + q.session.0))

-- ---- the image after a request

-- the row with the id was used at the moment: its last-used moment is the larger of the two; the others are as they were
abbrev pub TouchedExactly : Type 0
TouchedExactly = (id : List ℕ) (t : ℕ)
    → (touched id t [] ≡ [])
    × ((r : Row) (rs : List Row) → id_of r.body ≡ id → touched id t (r ∷ rs) ≡ record { body = r.body; used = max r.used t } ∷ rs)
    × ((r : Row) (rs : List Row) → (id_of r.body ≡ id → ⊥) → touched id t (r ∷ rs) ≡ r ∷ touched id t rs)

-- a request that is not granted leaves every byte as it was
abbrev pub RefusalKeeps : Type 0
RefusalKeeps = (s : List ℕ) (q : Request) → ((numbers_of (decision_of s q)).answer ≡ 0 → ⊥) → after_request s q ≡ s

-- so does one that is granted on an image of edition 1
abbrev pub Grant1Keeps : Type 0
Grant1Keeps = (s : List ℕ) (q : Request) (rs : List Row) → image.Holds edition1 s rs → after_request s q ≡ s

-- one that is granted on an image of edition 2 leaves the image of the same rows, but that the one with the id was used now; and beyond it
-- what stood there
abbrev pub Grant2Touches : Type 0
Grant2Touches = (s : List ℕ) (q : Request) (rs : List Row) → image.Holds edition2 s rs → (numbers_of (decision_of s q)).answer ≡ 0
    → let after = image.image_of edition2 (touched q.id (seconds_of q) rs) in
    (after_request s q ≡ after ++ drop (length after) s)
    × image.Holds edition2 (after_request s q) (touched q.id (seconds_of q) rs)

-- it changes the 8 bytes of that row's last-used moment and nothing else: what stands before them and after them stays
abbrev pub GrantChanges8 : Type 0
GrantChanges8 = (s : List ℕ) (q : Request) (rs : List Row) → image.Holds edition2 s rs → (numbers_of (decision_of s q)).answer ≡ 0
    → (i : ℕ) × (i < length rs) × (id_of (get_or rs i (row_of [])).body ≡ q.id)
    × (let p = 8 + 40 * i + 32 in
    (length (after_request s q) ≡ length s) × (take p (after_request s q) ≡ take p s) × (drop (p + 8) (after_request s q) ≡ drop (p + 8) s))

-- the last-used moments decide nothing: after a request every request is answered what it was answered before it
abbrev pub MomentsDecideNothing : Type 0
MomentsDecideNothing = (s : List ℕ) (q p : Request) → AreBytes s
    → numbers_of (decision_of (after_request s q) p) ≡ numbers_of (decision_of s p)

-- ---- an image turned into edition 2

-- an image of edition 1 and the image of edition 2 that it is turned into answer every request alike
abbrev pub UpgradeDecides : Type 0
UpgradeDecides = (old d : List ℕ) (q : Request) (rs : List Row) → image.Holds edition1 old rs
    → length (image.image_of edition2 rs) ≤ length d
    → numbers_of (decision_of (after_upgrade old d) q) ≡ numbers_of (decision_of old q)

-- ---- document 01's rule, which document 02 amends

-- the place of the first grant that serves, counted from i, or none
abbrev pub first_serving : List Grant → ℕ → Path → ℕ → Option ℕ
first_serving [] m x i = None
first_serving (g ∷ gs) m x i = cond (grant_serves g m x) (Some i) (first_serving gs m x (i + 1))

-- there is one
abbrev pub is_there : Option ℕ → Bool
is_there None = false
is_there (Some i) = true

-- the answer under that rule
abbrev pub answer_before : Request → Stored → ℕ
answer_before q bad_image = (answer_for q bad_image).answer
answer_before q not_held = (answer_for q not_held).answer
answer_before q (held d) =
    (in_order (steps_on (formed q) q d (is_there (first_serving d.payload.grants q.mode (path_of q.resource) 0))
    ++ lease_steps (lease_for q) q.clock.0) (refusal 0)).answer

-- a request is answered the number that it was answered under that rule; so it is granted exactly when it was
abbrev pub AnsweredAsBefore : Type 0
AnsweredAsBefore = (s : List ℕ) (q : Request) (x : Stored) → Under s q.id x → (numbers_of (decision_of s q)).answer ≡ answer_before q x

-- ---- the revocation list: rows of an id and a moment

-- a request for a descriptor that is held is answered 8 exactly when its arguments are well formed and there is a row in the list that
-- has the id, and whose moment is not after now
abbrev pub RevokedRefused : Type 0
RevokedRefused = (s : List ℕ) (q : Request) (d : Descriptor) → Under s q.id (held d)
    → (numbers_of (decision_of s q) ≡ refusal 8)
    ↔ ((formed q ≡ true)
    × ((r : Revocation) × IsRow r (revocations_of q.revoked) × (r.id ≡ q.id) × (r.moment ≤ seconds_of q)))

-- the same request with another revocation list
abbrev pub with_revoked : Request → List ℕ → Request
with_revoked q revoked =
    request_of q.id q.fay q.terminal q.resource q.mode q.clock q.session revoked q.leases q.verdict q.window

-- a row more, wherever it stands among the others, leaves the answer or makes it 8; so it never turns a refusal into a grant
abbrev pub RowMoreRefuses : Type 0
RowMoreRefuses = (s : List ℕ) (q : Request) (before row after : List ℕ) → length before % 24 ≡ 0 → length row ≡ 24
    → (numbers_of (decision_of s (with_revoked q (before ++ (row ++ after)))) ≡ numbers_of (decision_of s (with_revoked q (before ++ after))))
    ⊎ (numbers_of (decision_of s (with_revoked q (before ++ (row ++ after)))) ≡ refusal 8)

-- a row whose moment is after now leaves the answer
abbrev pub EarlyRowWaits : Type 0
EarlyRowWaits = (s : List ℕ) (q : Request) (before row after : List ℕ) → length before % 24 ≡ 0 → length row ≡ 24
    → seconds_of q < number_at row 16 8
    → numbers_of (decision_of s (with_revoked q (before ++ (row ++ after)))) ≡ numbers_of (decision_of s (with_revoked q (before ++ after)))

-- the same request at another clock
abbrev pub at_clock : Request → Milliseconds → Request
at_clock q clock =
    request_of q.id q.fay q.terminal q.resource q.mode clock q.session q.revoked q.leases q.verdict q.window

-- a request that is answered 8 is answered 8 at each later clock that is not above 2^53
abbrev pub StaysRevoked : Type 0
StaysRevoked = (s : List ℕ) (q : Request) (later : Milliseconds) → AreBytes s → q.clock.0 ≤ later.0 → later.0 ≤ 2 ^ 53
    → numbers_of (decision_of s q) ≡ refusal 8
    → numbers_of (decision_of s (at_clock q later)) ≡ refusal 8

-- ---- leases

-- a request for an id without a lease is answered as it was before there were leases: the steps up to the signature, at the clock in
-- seconds, and margin 0; where the clock is not above 2^53 and the bytes of the lease table are one
abbrev pub WithoutLease : Type 0
WithoutLease = (s : List ℕ) (q : Request) (x : Stored) → Under s q.id x → q.clock.0 ≤ 2 ^ 53 → table_ok q.leases ≡ true
    → lease_for q ≡ None → numbers_of (decision_of s q) ≡ in_order (steps_with (formed_before q) q x) (granted_with (pos 0) q x)

-- the margin of a grant: 0 without a lease; with a lease L + T + E − N, which is not below zero
abbrev pub GrantMargin : Type 0
GrantMargin = (s : List ℕ) (q : Request) → AreBytes s → (numbers_of (decision_of s q)).answer ≡ 0
    → (lease_for q ≡ None → (numbers_of (decision_of s q)).margin ≡ pos 0)
    × ((l : Lease) → lease_for q ≡ Some l
    → ((numbers_of (decision_of s q)).margin ≡ pos (active_end l) -ℤ pos q.clock.0) × (pos 0 ≤ℤ (numbers_of (decision_of s q)).margin))

-- the answer 24 has the margin of the lease, which is below zero, and its other numbers are 0
abbrev pub StaleMargin : Type 0
StaleMargin = (s : List ℕ) (q : Request) → AreBytes s → (numbers_of (decision_of s q)).answer ≡ 24
    → (l : Lease) × (lease_for q ≡ Some l) × (numbers_of (decision_of s q) ≡ stale_with (pos (active_end l) -ℤ pos q.clock.0))
    × ((numbers_of (decision_of s q)).margin <ℤ pos 0)

-- the same request with another lease table
abbrev pub with_leases : Request → List ℕ → Request
with_leases q leases =
    request_of q.id q.fay q.terminal q.resource q.mode q.clock q.session q.revoked leases q.verdict q.window

-- the rows of other ids matter to no request: two lease tables that have the same lease under its id decide it alike
abbrev pub OtherLeases : Type 0
OtherLeases = (s : List ℕ) (q : Request) (t u : List ℕ) → AreBytes s → table_ok t ≡ true → table_ok u ≡ true
    → lease_under (rows_of t) q.id ≡ lease_under (rows_of u) q.id
    → numbers_of (decision_of s (with_leases q t)) ≡ numbers_of (decision_of s (with_leases q u))

-- the answer is 24 or 25
abbrev pub StaleOrExpired : DecisionNumbers → Type 0
StaleOrExpired r = (r.answer ≡ 24) ⊎ (r.answer ≡ 25)

-- where a row's last sync is an older one, a request that was answered 24 or 25 is answered 24 or 25; so it is not granted
abbrev pub OlderSyncRefused : Type 0
OlderSyncRefused = (s : List ℕ) (q : Request) (before after : List LeaseRow) (r : LeaseRow) (older : ℕ) → AreBytes s
    → AreRows (before ++ (r ∷ after)) → older ≤ r.lease.last_sync.0
    → StaleOrExpired (numbers_of (decision_of s (with_leases q (table_bytes (before ++ (r ∷ after))))))
    → StaleOrExpired (numbers_of (decision_of s
    (with_leases q (table_bytes (before ++ (row_with_sync r older ∷ after))))))

-- ---- both sides of not_before and not_after

-- now = not_before is answered neither 9 nor 10; one second before it 9 is answered, where the steps before pass
abbrev pub BeginBoundary : Type 0
BeginBoundary = (s : List ℕ) (q : Request) (d : Descriptor) → Under s q.id (held d)
    → (seconds_of q ≡ d.payload.not_before → ((numbers_of (decision_of s q)).answer ≡ 9 → ⊥) × ((numbers_of (decision_of s q)).answer ≡ 10 → ⊥))
    × (seconds_of q + 1 ≡ d.payload.not_before → formed q ≡ true → is_revoked (revocations_of q.revoked) q.id (seconds_of q) ≡ false
    → numbers_of (decision_of s q) ≡ refusal 9)

-- one second before not_after is answered neither 9 nor 10; now = not_after is answered 10, where the steps before pass
abbrev pub EndBoundary : Type 0
EndBoundary = (s : List ℕ) (q : Request) (d : Descriptor) → Under s q.id (held d)
    → (seconds_of q + 1 ≡ d.payload.not_after
    → ((numbers_of (decision_of s q)).answer ≡ 9 → ⊥) × ((numbers_of (decision_of s q)).answer ≡ 10 → ⊥))
    × (seconds_of q ≡ d.payload.not_after → formed q ≡ true → is_revoked (revocations_of q.revoked) q.id (seconds_of q) ≡ false
    → numbers_of (decision_of s q) ≡ refusal 10)

-- ---- with submission

-- what was submitted with the answer 0 is the encoding of an allowed descriptor with ids of version 7, and after it a request for its id is
-- decided on that very descriptor
abbrev pub StoredDecided : Type 0
StoredDecided = (d b : List ℕ) (clock verdict : ℕ) (window : Window) → clock < 2 ^ 64 → AreBytes d → AreBytes b
    → number_of (submitted d b clock verdict window) ≡ 0
    → (c : Descriptor) × Allowed c × AreVersion7 c × (b ≡ encode c)
    × ((q : Request) → q.id ≡ c.payload.id
    → Under (after_of d b clock verdict window) q.id (held c)
    × (numbers_of (decision_of (after_of d b clock verdict window) q) ≡ answer_for q (held c)))

-- after a submission, whatever it answered, a request for an id that what was submitted does not have is answered as before it; or the
-- descriptor that was held under that id was expired at the submission, and was removed: then as one that is not held
abbrev pub OthersDecided : Type 0
OthersDecided = (d b : List ℕ) (clock verdict : ℕ) (window : Window) (q : Request) → clock < 2 ^ 64 → AreBytes d → AreBytes b
    → ((c : Descriptor) → Allowed c → b ≡ encode c → q.id ≡ c.payload.id → ⊥)
    → let after = after_of d b clock verdict window in
    (numbers_of (decision_of after q) ≡ numbers_of (decision_of d q))
    ⊎ ((c : Descriptor) × Under d q.id (held c) × (c.payload.not_after ≤ clock) × (numbers_of (decision_of after q) ≡ answer_for q not_held))

-- Whatever ids a descriptor has that is held from before: after every submission, whatever it answered, a request for it is decided on it as it
-- was; or it was expired at the submission, and was removed: then as one that is not held.
abbrev pub HeldDecided : Type 0
HeldDecided = (d b : List ℕ) (clock verdict : ℕ) (window : Window) (q : Request) (c : Descriptor) → clock < 2 ^ 64 → AreBytes d → AreBytes b
    → Under d q.id (held c)
    → let after = after_of d b clock verdict window in
    (numbers_of (decision_of after q) ≡ answer_for q (held c))
    ⊎ ((c.payload.not_after ≤ clock) × (numbers_of (decision_of after q) ≡ answer_for q not_held))
