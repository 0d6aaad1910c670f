-- The promises of specs/Promises.antt, each from its law. Assumes nothing.
use mathlib.Core.Path.{◌≡◌, refl}
use mathlib.Core.List.{List, [], ◌∷◌}
use Prim.Native.Nat.{ℕ}
use Rattle.resource_spec.specs.Text.{path_of}
use Rattle.descriptor_spec.specs.Model.{Descriptor}
use Rattle.request_spec.specs.Request.{Request}
use Rattle.request_spec.specs.Promises.{held, seconds_of, steps_for}
use Rattle.request_spec.proofs.Promises.{granted_exactly}
use Rattle.narrowing_spec.specs.Meaning.{Admits}
use Rattle.agreement.specs.Promises.{StepsAdmit, GrantedAdmits, AcceptedServes, AcceptedGrants}
use Rattle.agreement.proofs.AdmitLaws as laws

pub steps_admit : StepsAdmit
steps_admit = laws.steps_admit

-- the numbers of the steps that say what a descriptor admits, and of the others
abbrev theirs : List ℕ
theirs = 9 ∷ 10 ∷ 13 ∷ []

abbrev others : List ℕ
others = 15 ∷ 16 ∷ 7 ∷ 8 ∷ 11 ∷ 12 ∷ 14 ∷ 4 ∷ 26 ∷ 23 ∷ 24 ∷ 25 ∷ []

pub granted_admits : GrantedAdmits
granted_admits s q d u n o =
    let x = granted_exactly s q (held d) u in (
      λ e. (laws.steps_admit q d n).0 (laws.some_pass theirs (steps_for q (held d)) (x.0 e)),
      λ a. x.1 (laws.all_pass_lem theirs others (steps_for q (held d)) refl ((laws.steps_admit q d n).1 a) o),
    )

-- the moment, the path and the mode of a request that asks the same
same_asked : (q r : Request) (d : Descriptor) → seconds_of r ≡ seconds_of q → r.resource ≡ q.resource → r.mode ≡ q.mode
    → Admits d (seconds_of q) (path_of q.resource) q.mode → Admits d (seconds_of r) (path_of r.resource) r.mode
same_asked q r d c x m a = rw (c, x, m) a

pub accepted_serves : AcceptedServes
accepted_serves s q r parent child a u e same =
    let n = laws.none_accepted parent child a in
    let p = (granted_exactly s q (held child) u).0 e in
    let admitted = (laws.steps_admit q child n.1).0 (laws.some_pass theirs (steps_for q (held child)) p) in
    let inside = laws.inside_accepted parent child a (seconds_of q) (path_of q.resource) q.mode (laws.path_formed q p.0) admitted in
    (laws.steps_admit r parent n.0).1 (same_asked q r parent same.clock same.resource same.mode inside)

pub accepted_grants : AcceptedGrants
accepted_grants s t q r parent child a u e same v o =
    let n = laws.none_accepted parent child a in
    let p = accepted_serves s q r parent child a u e same in
    (granted_admits t r parent v n.0 o).1 ((laws.steps_admit r parent n.0).0 p)
