-- A reader of the promises does not need this page.
-- Readers of single values at a place, and of values after their keys: a number under a head, a string of a kind, a name of a table.
-- These definitions compute: the code answers what they say.
use Rattle.std.specs.Prelude.{Option, Some, None, unwrap_or, Bool, true, false, cond, ◌&&◌, List, [], ◌∷◌, ℕ, suc, ◌+◌, length, eqb}
use Rattle.octets.specs.Bytes.{part, has_at}
use Rattle.octets.specs.Span.{Span}
use Rattle.exact.specs.Reads.{Got, got, refused, bind, guard}
use Rattle.cbor_item_spec.specs.Head.{head_at, span_at}
use Rattle.entries_spec.specs.declared.Kind.{Kind}
use Rattle.entries_spec.specs.declared.Place.{Place}
use Rattle.entries_spec.specs.Kinds.{within, major_of, is_kind}

-- ---- single values

-- a number from lo to hi, length or count, under a head of the major type
unfoldable pub count_at : List ℕ → ℕ → ℕ → ℕ → ℕ → Got ℕ
count_at s at major lo hi = bind (head_at s at) (λ h n. guard (eqb h.major major && within lo hi h.number) (got h.number n))

-- a time: any unsigned integer
abbrev pub time_at : List ℕ → ℕ → Got ℕ
time_at s at = count_at s at 0 0 18446744073709551615

-- a string of a major type whose content passes a test
unfoldable pub string_at : ℕ → (List ℕ → Bool) → List ℕ → ℕ → Got Span
string_at major test s at = bind (span_at s at major) (λ c n. guard (test (part s c.start c.len)) (got c n))

-- a string of a kind
unfoldable pub kind_at : Kind → List ℕ → ℕ → Got Span
kind_at kind s at = string_at (major_of kind) (is_kind kind) s at

-- the number, from i on, of the first entry of a table that stands at the place
unfoldable pub one_of : List ℕ → ℕ → ℕ → List (List ℕ) → Got ℕ
one_of s at i [] = refused
one_of s at i (k ∷ ks) = cond (has_at s at k) (got i (at + length k)) (one_of s at (suc i) ks)

-- ---- values after their keys

-- a value after its key
abbrev pub keyed_at : {R : Type 0} → List ℕ → ℕ → List ℕ → (ℕ → Got R) → Got R
keyed_at s at key value = guard (has_at s at key) (value (at + length key))

-- what is seen of an optional value: its place and its size, where it is there
abbrev pub Optional : Type 0
Optional = Option Place

-- of one that is absent
abbrev pub absent : Optional
absent = None

-- and of one that is there: its place, and the length of a string's content or the number of a map's pairs
abbrev pub present : ℕ → ℕ → Optional
present at n = Some (record { at = at; size = n })

-- 1 where a value is there, else 0
abbrev pub flag : Optional → ℕ
flag (Some p) = 1
flag None = 0

-- the place and the size of a value; 0 and 0 where it is absent
abbrev pub placed : Optional → Place
placed v = unwrap_or v (record { at = 0; size = 0 })

-- a value that is optional, by the test whether its key stands at the place; absent passes no byte
unfoldable pub or_absent : Bool → Got Optional → ℕ → Got Optional
or_absent true value at = value
or_absent false value at = got absent at

-- an optional string of a kind after its key
unfoldable pub opt_kind_at : List ℕ → ℕ → List ℕ → Kind → Got Optional
opt_kind_at s at key kind = or_absent (has_at s at key) (bind (kind_at kind s (at + length key)) (λ c n. got (present c.start c.len) n)) at
