-- For which numbers of names one pattern covers another, as a range that the code reads off the two texts, and the masks that are marked
-- for each number. A reader of the promises does not need this page.
use Rattle.std.specs.Prelude.{Bool, cond, ◌&&◌, List, [], ◌∷◌, ℕ, suc, ◌+◌, leb, ltb}
use Rattle.std.specs.Int.Bits.{bit_or}
use Rattle.octets.specs.Bytes.{same}
use Rattle.resource_spec.specs.Level.{levels}
use Rattle.resource_spec.specs.Pattern.{Levels, done, deep, name, star}
use Rattle.resource_spec.specs.Text.{levels_of}
use Rattle.std.specs.declared.ops.Range.{Range as RangeOf}

-- a range of numbers
abbrev pub Range : Type 0
Range = RangeOf ℕ

-- the numbers from lo on and below hi
abbrev pub range : ℕ → ℕ → Range
range lo hi = record { start = lo; end = hi }

-- k is one of them
abbrev pub in_range : Range → ℕ → Bool
in_range r k = leb r.start k && ltb k r.end

-- more names than any parent pattern of 256 bytes has levels
abbrev pub most : ℕ
most = 128

-- how many names that q does not have q matches, after e were taken
abbrev pub fresh_range : ℕ → Levels → Range
fresh_range e done = range e (e + 1)
fresh_range e deep = range (e + 1) most
fresh_range e (name n q) = range 0 0
fresh_range e (star q) = fresh_range (e + 1) q

-- with how many names for the "**" of p q covers p; without "**" there are none to take, and any range with 0 says yes
abbrev pub cover_range : Levels → Levels → Range
cover_range done done = range 0 1
cover_range deep done = range 0 0
cover_range (name m q) done = range 0 0
cover_range (star q) done = range 0 0
cover_range done deep = range 0 0
cover_range deep deep = range 0 most
cover_range (name m q) deep = fresh_range 0 (name m q)
cover_range (star q) deep = fresh_range 0 (star q)
cover_range done (name n p) = range 0 0
cover_range deep (name n p) = range 0 most
cover_range (name m q) (name n p) = cond (same m n) (cover_range q p) (range 0 0)
cover_range (star q) (name n p) = cover_range q p
cover_range done (star p) = range 0 0
cover_range deep (star p) = range 0 most
cover_range (name m q) (star p) = range 0 0
cover_range (star q) (star p) = cover_range q p

-- the same of two texts of levels
unfoldable pub text_range : List ℕ → List ℕ → Range
text_range q p = cover_range (levels_of (levels q)) (levels_of (levels p))

-- the mask joined to the masks at the numbers of a range, of a list whose first stands for the number k
unfoldable pub marked : ℕ → List ℕ → Range → ℕ → List ℕ
marked k [] r mask = []
marked k (x ∷ xs) r mask = cond (in_range r k) (bit_or x mask) x ∷ marked (suc k) xs r mask
