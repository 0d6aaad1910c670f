-- Narrowing of a child under a parent, in document 01's order, from the bytes of both. These definitions compute.
-- A reader of the promises does not need this page.
use Rattle.std.specs.Prelude.{Bool, cond, ◌&&◌, List, [], ◌∷◌, ℕ, zero, suc, eqb, leb, Result, Ok, Err}
use Rattle.std.specs.Prelude.{Option, None, Some}
use Rattle.octets.specs.Bytes.{part}
use Rattle.exact.specs.Reads.{got, refused}
use Rattle.resource_spec.specs.Text.{pattern_of}
use Rattle.descriptor_spec.specs.Reader.{GrantSeen, grant_at, Seen, Answer, read, structure, validity, read_of}
use Rattle.narrowing_spec.specs.declared.NarrowingError.{NarrowingError}
use Rattle.narrowing_spec.specs.declared.NarrowingNumbers.{NarrowingNumbers}
use Rattle.narrowing_spec.specs.declared.NarrowingError.TheVariants.{NoParent, Structure, Validity, Constrained, Period}
use Rattle.narrowing_spec.specs.declared.NarrowingError.TheVariants.{NotCovered}
use Rattle.narrowing_spec.specs.Escape.{Rule, fewest_names, lowest_mode, rule_at, first_rule, or_zero}

-- what narrowing answers: that the child is accepted, or the refusal
abbrev pub Narrowing : Type 0
Narrowing = Result (Unit {0}) NarrowingError

-- the rule of a grant that was seen in s
abbrev pub rule_of : List ℕ → GrantSeen → Rule
rule_of s g = record { mask = g.mask; pattern = pattern_of (part s g.pattern.start g.pattern.len) }

-- the rules of the n grants from a place of s on
unfoldable pub rules_at : List ℕ → ℕ → ℕ → List Rule
rules_at s zero at = []
rules_at s (suc n) at = elim (grant_at s at) [ got g next ↦ rule_of s g ∷ rules_at s n next | refused ↦ [] ]

-- the rules of a descriptor that was read from s
abbrev pub rules_in : List ℕ → Seen → List Rule
rules_in s v = rules_at s v.payload.grants.count v.payload.grants.start

-- a descriptor that was read has no constraint pair
abbrev pub unconstrained : Seen → Bool
unconstrained v = eqb v.payload.grants.sum.pairs 0

-- the period of w, [not_before, not_after), lies within that of v
abbrev pub period_within : Seen → Seen → Bool
period_within v w = leb v.payload.not_before w.payload.not_before
    && leb w.payload.not_after v.payload.not_after

-- the answer by the first rule by which a path escapes: 20 with its place, the lowest mode and the fewest names; 0 where there is none
abbrev pub answer_at : List Rule → List Rule → Option ℕ → Narrowing
answer_at qs cs None = Ok tt
answer_at qs cs (Some i) =
    let g = rule_at cs i in
    let m = or_zero (lowest_mode qs g) in
    Err (NotCovered i m (or_zero (fewest_names qs g m)))

-- both read: 19, then 18, then 20, else 0
unfoldable pub compared : List ℕ → Seen → List ℕ → Seen → Narrowing
compared s v t w =
    cond (unconstrained v && unconstrained w)
    (cond (period_within v w) (answer_at (rules_in s v) (rules_in t w) (first_rule (rules_in s v) (rules_in t w))) (Err Period))
    (Err Constrained)

-- the parent reads: then the child decides
abbrev pub under_parent : List ℕ → Seen → List ℕ → Answer → Narrowing
under_parent s v t (read w) = compared s v t w
under_parent s v t structure = Err Structure
under_parent s v t validity = Err Validity

-- 21: the parent doesn't read
abbrev pub with_parent : List ℕ → Answer → List ℕ → Narrowing
with_parent s (read v) t = under_parent s v t (read_of t)
with_parent s structure t = Err NoParent
with_parent s validity t = Err NoParent

-- narrowing of the child t under the parent s
unfoldable pub narrow : List ℕ → List ℕ → Narrowing
narrow s t = with_parent s (read_of s) t

-- an answer whose other numbers are 0
abbrev pub plain : ℕ → NarrowingNumbers
plain n = record { answer = n; grant = 0; mode = 0; levels = 0 }

-- document 01's answer and numbers; the other numbers are 0 but for 20
abbrev pub numbers_of : Narrowing → NarrowingNumbers
numbers_of (Ok tt) = plain 0
numbers_of (Err NoParent) = plain 21
numbers_of (Err Structure) = plain 1
numbers_of (Err Validity) = plain 2
numbers_of (Err Constrained) = plain 19
numbers_of (Err Period) = plain 18
numbers_of (Err (NotCovered grant mode levels)) = record { answer = 20; grant = grant; mode = mode; levels = levels }
