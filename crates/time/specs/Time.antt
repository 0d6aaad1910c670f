-- Units of time and what leads from one to the other. Document 02, §4: milliseconds and seconds must not be mixable by accident.
use Rattle.std.specs.Prelude.{ℕ, ◌+◌, ◌-◌, ◌*◌, ◌/◌, min, pos, ◌-ℤ◌}
use Rattle.time.specs.declared.Seconds.{Seconds}
use Rattle.time.specs.declared.Milliseconds.{Milliseconds}
use Rattle.time.specs.declared.Margin.{Margin}

-- so many seconds
abbrev pub seconds : ℕ → Seconds
seconds n = record { 0 = n }

-- so many milliseconds
abbrev pub milliseconds : ℕ → Milliseconds
milliseconds n = record { 0 = n }

-- a second has 1,000 milliseconds
abbrev pub per_second : ℕ
per_second = 1000

-- the most that 64 bits hold: 2^64 − 1
abbrev pub most_held : ℕ
most_held = 18446744073709551615

-- the whole seconds of milliseconds, rounded down
abbrev pub whole_seconds : Milliseconds → Seconds
whole_seconds t = seconds (t.0 / per_second)

-- seconds in milliseconds, or the most that 64 bits hold where that is less
unfoldable pub in_milliseconds : Seconds → Milliseconds
in_milliseconds t = milliseconds (min (t.0 * per_second) most_held)

-- the smaller of an end and a sum
unfoldable pub plus_at_most : Seconds → Seconds → Seconds → Seconds
plus_at_most t more end = seconds (min end.0 (t.0 + more.0))

-- the sum of two numbers of milliseconds, or the most that 64 bits hold where that is less
unfoldable pub sum_held : Milliseconds → Milliseconds → Milliseconds
sum_held t more = milliseconds (min (t.0 + more.0) most_held)

-- the most that a margin has, either way: 2^63 − 1
abbrev pub most_margin : ℕ
most_margin = 9223372036854775807

-- how long it is from a moment to an end, and at most the most either way: how far the end lies ahead less how far it lies back, of which
-- one is zero
unfoldable pub margin_between : Milliseconds → Milliseconds → Margin
margin_between t end = record { 0 = pos (min (end.0 - t.0) most_margin) -ℤ pos (min (t.0 - end.0) most_margin) }
