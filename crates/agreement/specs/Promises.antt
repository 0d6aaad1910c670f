-- What is promised of narrowing and requests together, and nothing else: one meaning of "admits". Each statement `NameOfIt` is proved
-- in proofs/Promises.antt as `name_of_it`.
use Rattle.std.specs.Prelude.{◌≡◌, ◌↔◌, cond, List, [], ◌∷◌, ℕ}
use Rattle.octets.specs.Bytes.{AreBytes}
use Rattle.resource_spec.specs.Characters.{one_of}
use Rattle.resource_spec.specs.Text.{path_of}
use Rattle.descriptor_spec.specs.Model.{Descriptor, encode}
use Rattle.descriptor_spec.specs.Allowed.{Allowed}
use Rattle.steps.specs.Order.{Step, AllPass}
use Rattle.request_spec.specs.declared.DecisionNumbers.{DecisionNumbers}
use Rattle.request_spec.specs.Request.{Request}
use Rattle.request_spec.specs.Decision.{decision_of, numbers_of}
use Rattle.request_spec.specs.Promises.{held, Under, seconds_of, steps_for}
use Rattle.narrowing_spec.specs.Meaning.{Admits}
use Rattle.narrowing_spec.specs.Narrow.{narrow, numbers_of as narrow_numbers}
use Rattle.narrowing_spec.specs.Promises.{NoPairs, answer_only}

-- the steps of a list that have one of the numbers
abbrev pub numbered : List ℕ → List (Step DecisionNumbers) → List (Step DecisionNumbers)
numbered ns [] = []
numbered ns (s ∷ steps) = cond (one_of s.refusal.answer ns) (s ∷ numbered ns steps) (numbered ns steps)

-- steps 9, 10 and 13 of a request on the descriptor d pass
abbrev pub Serves : Request → Descriptor → Type 0
Serves q d = AllPass (numbered (9 ∷ 10 ∷ 13 ∷ []) (steps_for q (held d)))

-- the other steps pass
abbrev pub OthersPass : Request → Descriptor → Type 0
OthersPass q d = AllPass (numbered (15 ∷ 16 ∷ 7 ∷ 8 ∷ 11 ∷ 12 ∷ 14 ∷ 4 ∷ 26 ∷ 23 ∷ 24 ∷ 25 ∷ []) (steps_for q (held d)))

-- for a descriptor without constraint pairs, steps 9, 10 and 13 pass exactly when it admits the request's moment, path and mode together
abbrev pub StepsAdmit : Type 0
StepsAdmit = (q : Request) (d : Descriptor) → NoPairs d.payload.grants
    → Serves q d ↔ Admits d (seconds_of q) (path_of q.resource) q.mode

-- where the other steps pass, a request for such a descriptor is answered 0 exactly when the descriptor admits its moment, path and
-- mode together
abbrev pub GrantedAdmits : Type 0
GrantedAdmits = (s : List ℕ) (q : Request) (d : Descriptor) → Under s q.id (held d) → NoPairs d.payload.grants → OthersPass q d
    → ((numbers_of (decision_of s q)).answer ≡ 0) ↔ Admits d (seconds_of q) (path_of q.resource) q.mode

-- r asks for the moment, the path and the mode that q asks for
pub record AsksSame (q r : Request) : Type 0 where
  pub clock : seconds_of r ≡ seconds_of q
  pub resource : r.resource ≡ q.resource
  pub mode : r.mode ≡ q.mode

-- the child is accepted under the parent, both being descriptors that read
pub record AcceptedUnder (parent child : Descriptor) : Type 0 where
  pub parent_bytes : AreBytes (encode parent)
  pub parent_allowed : Allowed parent
  pub child_bytes : AreBytes (encode child)
  pub child_allowed : Allowed child
  pub accepted : narrow_numbers (narrow (encode parent) (encode child)) ≡ answer_only 0

-- what is granted on an accepted child, steps 9, 10 and 13 let pass on the parent
abbrev pub AcceptedServes : Type 0
AcceptedServes = (s : List ℕ) (q r : Request) (parent child : Descriptor) → AcceptedUnder parent child → Under s q.id (held child)
    → (numbers_of (decision_of s q)).answer ≡ 0 → AsksSame q r → Serves r parent

-- so that an image that holds the parent grants it, where the other steps pass
abbrev pub AcceptedGrants : Type 0
AcceptedGrants = (s t : List ℕ) (q r : Request) (parent child : Descriptor) → AcceptedUnder parent child → Under s q.id (held child)
    → (numbers_of (decision_of s q)).answer ≡ 0 → AsksSame q r → Under t r.id (held parent) → OthersPass r parent
    → (numbers_of (decision_of t r)).answer ≡ 0
