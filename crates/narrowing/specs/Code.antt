-- What the code's inner functions answer as they walk the grants of both descriptors. A reader of the promises does not need this page:
-- the laws in proofs/ tie it to Escape.antt and Narrow.antt.
use Rattle.std.specs.Prelude.{◌≡◌, Bool, true, false, not, cond, ◌&&◌, ◌||◌, List, ℕ, zero, suc, ◌+◌, ◌-◌, ◌≤◌, ◌<◌, length, get_or, replicate, eqb, leb, ltb}
use Rattle.std.specs.Prelude.{Option, Some, None, Ok, Err, MatchOption, IfSome}
use Rattle.std.specs.Prelude.{Option, None, Some}
use Rattle.resource_spec.specs.Identifier.{levels_place, terminal_size}
use Rattle.octets.specs.Bytes.{part, same}
use Rattle.std.specs.Int.Bits.{bit_or}
use Rattle.exact.specs.Reads.{got, refused}
use Rattle.octets.specs.Span.{Span}
use Rattle.resource_spec.specs.Level.{levels}
use Rattle.resource_spec.specs.Pattern.{ends_deep}
use Rattle.resource_spec.specs.Text.{levels_of}
use Rattle.descriptor_spec.specs.declared.Fields.{Fields}
use Rattle.descriptor_spec.specs.Reader.{has_mode, grant_at}
use Rattle.descriptor_spec.specs.Modes.{mode_count}
use Rattle.narrowing_spec.specs.declared.NarrowingError.TheVariants.{Constrained, Period, NotCovered}
use Rattle.narrowing_spec.specs.Narrow.{Narrowing}
use Rattle.narrowing.specs.declared.search.Escape.{Escape}
use Rattle.narrowing.specs.declared.search.Row.{Row}
use Rattle.narrowing_spec.specs.Escape.{least}
use Rattle.narrowing.specs.Range.{Range, most, text_range, marked}

-- the levels of a pattern's part of s: what follows the terminal id and "/"
abbrev pub below : List ℕ → Span → List ℕ
below s c = part s (c.start + levels_place) (c.len - levels_place)

-- the masks after the n grants from a place of s on were marked
unfoldable pub marked_at : List ℕ → List ℕ → List ℕ → ℕ → ℕ → List ℕ
marked_at s p d zero at = d
marked_at s p d (suc n) at =
    elim (grant_at s at) [ got g next ↦ marked_at s p (marked 0 d (text_range (below s g.pattern) p) g.mask) n next | refused ↦ d ]

-- the row i of a table of grants; past the end one of nothing
abbrev pub row_at : List Row → ℕ → Row
row_at t i = get_or t i (record { start = 0; end = 0; mask = 0 })

-- the levels of a row, of grants of s
abbrev pub row_levels : List ℕ → Row → List ℕ
row_levels s r = part s r.start (r.end - r.start)

-- the masks after a row was marked
unfoldable pub row_marked : List ℕ → Row → List ℕ → List ℕ → List ℕ
row_marked s r p d = marked 0 d (text_range (row_levels s r) p) r.mask

-- the masks after the first n rows were marked
unfoldable pub marked_rows : List ℕ → List Row → List ℕ → List ℕ → ℕ → List ℕ
marked_rows s t p d zero = d
marked_rows s t p d (suc i) = row_marked s (row_at t i) p (marked_rows s t p d i)

-- the levels of a row lie in s
abbrev pub RowIn : List ℕ → Row → Type 0
RowIn s r = (r.start ≤ r.end) × (r.end ≤ length s)

-- those of each row of the table do
abbrev pub InPlace : List ℕ → List Row → Type 0
InPlace s t = (i : ℕ) → i < length t → RowIn s (row_at t i)

-- marking the rows of t is marking the `count` grants from a place of s on
pub record Filled (s : List ℕ) (t : List Row) (count at : ℕ) : Type 0 where
  pub places : InPlace s t
  pub marks : (p d : List ℕ) → marked_rows s t p d (length t) ≡ marked_at s p d count at

-- the mask marked for k names lacks the mode
abbrev pub lacks_at : List ℕ → ℕ → ℕ → Bool
lacks_at d m k = not (has_mode (get_or d k 0) m)

-- a mode with its number of names
abbrev pub at_mode : ℕ → ℕ → Escape
at_mode m k = record { mode = m; levels = k }

-- that, or what the next modes have
abbrev pub found_at : ℕ → Option ℕ → Option Escape → Option Escape
found_at m None rest = rest
found_at m (Some k) rest = Some (at_mode m k)

-- the first, of the n modes from m on that the mask has, in which a path escapes with a number of names from `from` on and below `to`
unfoldable pub lowest_from : List ℕ → ℕ → ℕ → ℕ → ℕ → ℕ → Option Escape
lowest_from d mask from to m zero = None
lowest_from d mask from to m (suc n) =
    elim (has_mode mask m) [
      | true ↦ found_at m (least (lacks_at d m) from (to - from)) (lowest_from d mask from to (m + 1) n)
      | false ↦ lowest_from d mask from to (m + 1) n
    ]

-- the first of all modes, with each number of names that can be taken: from 1 on where the levels end with "**", which `deep` says, else 0
unfoldable pub lowest_in : Bool → List ℕ → ℕ → Option Escape
lowest_in deep d mask = cond deep (lowest_from d mask 1 most 0 mode_count) (lowest_from d mask 0 1 0 mode_count)

-- no mode is marked
abbrev pub zeros : List ℕ
zeros = replicate most 0

-- how a path escapes by a grant with the levels p and the mask, under the `count` grants from a place of s on; `shared` where the terminal
-- id is theirs
unfoldable pub escape_in : List ℕ → ℕ → ℕ → Bool → List ℕ → ℕ → Option Escape
escape_in s at count shared p mask = lowest_in (ends_deep (levels_of (levels p))) (cond shared (marked_at s p zeros count at) zeros) mask

-- r is how a path escapes under the grants, any number from any place of s on, whose rows t has
abbrev pub EscapeOf : List ℕ → List Row → Bool → List ℕ → ℕ → Option Escape → Type 0
EscapeOf s t shared p mask r = (count at : ℕ) → Filled s t count at → r ≡ escape_in s at count shared p mask

-- a range has every number of names that "**" can take; without "**" it has 0
abbrev pub full_range : Range → Bool → Bool
full_range r true = leb r.start 1 && leb most r.end
full_range r false = eqb r.start 0 && ltb 0 r.end

-- the grant of a row has all modes of the mask, and covers the levels p with each number of names; `deep` where these end with "**"
unfoldable pub row_covers : List ℕ → Row → List ℕ → ℕ → Bool → Bool
row_covers s r p mask deep = cond (eqb (bit_or r.mask mask) r.mask) (full_range (text_range (row_levels s r) p) deep) false

-- a row that is answered is one of the table, and its grant alone covers a grant with the levels p and the mask
abbrev pub AloneOf : List ℕ → List Row → List ℕ → ℕ → Bool → Option ℕ → Type 0
AloneOf s t p mask deep r = IfSome r (λ i. (i < length t) × (row_covers s (row_at t i) p mask deep ≡ true))

-- the modes of a row, where its grant covers the levels p with each number of names, else none
unfoldable pub full_modes : List ℕ → Row → List ℕ → Bool → ℕ
full_modes s r p deep = cond (full_range (text_range (row_levels s r) p) deep) r.mask 0

-- where a row is answered, no path escapes by a grant with the levels p and the mask; where none is, the masks e tell of an escape what the
-- masks with all rows marked do
abbrev pub MarkedOf : List ℕ → List Row → List ℕ → List ℕ → ℕ → Bool → Option ℕ → List ℕ → Type 0
MarkedOf s t p d mask deep r e =
    MatchOption r (lowest_in deep e mask ≡ lowest_in deep (marked_rows s t p d (length t)) mask)
    (λ i. None ≡ lowest_in deep (marked_rows s t p d (length t)) mask)

-- an escape by the grant at i, or what the next grants have
abbrev pub or_next : ℕ → Option Escape → Narrowing → Narrowing
or_next i (Some e) rest = Err (NotCovered i e.mode e.levels)
or_next i None rest = rest

-- the first, of the n grants from a place of t on, of which i came before, by which a path escapes
unfoldable pub first_in : List ℕ → ℕ → ℕ → Bool → List ℕ → ℕ → ℕ → ℕ → Narrowing
first_in s at count shared t i zero from = Ok tt
first_in s at count shared t i (suc n) from =
    elim (grant_at t from) [
      | got g next ↦ or_next i (escape_in s at count shared (below t g.pattern) g.mask) (first_in s at count shared t (i + 1) n next)
      | refused ↦ Ok tt
    ]

-- r is the answer under the grants, any number from any place of s on, whose rows t has
abbrev pub FirstOf : List ℕ → List Row → Bool → List ℕ → ℕ → ℕ → Narrowing → Type 0
FirstOf s t shared u grants from r = (count at : ℕ) → Filled s t count at → r ≡ first_in s at count shared u 0 grants from

-- both read: 19, then 18, then 20, else accepted
unfoldable pub compared_in : List ℕ → Fields → List ℕ → Fields → Narrowing
compared_in s v t w =
    cond (not (eqb v.constraints 0) || not (eqb w.constraints 0)) (Err Constrained)
    (cond (ltb w.not_before.0 v.not_before.0 || ltb v.not_after.0 w.not_after.0) (Err Period)
    (first_in s v.first v.grants (same (part s v.terminal terminal_size) (part t w.terminal terminal_size)) t 0 w.grants
    w.first))
