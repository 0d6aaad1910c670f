-- What is promised of units of time, and nothing else. Each statement `NameOfIt` is proved in proofs/Promises.antt as `name_of_it`.
use Rattle.std.specs.Prelude.{◌≡◌, ◌+◌, ◌*◌, ◌≤◌, ◌<◌, ◌^◌, min, pos, ◌-ℤ◌}
use Rattle.time.specs.declared.Seconds.{Seconds}
use Rattle.time.specs.declared.Milliseconds.{Milliseconds}
use Rattle.time.specs.Time.{whole_seconds, in_milliseconds, plus_at_most, sum_held, margin_between}

-- 1,000 times the whole seconds are not more than the milliseconds, and with one second more they would be
abbrev pub RoundedDown : Type 0
RoundedDown = (t : Milliseconds) → ((whole_seconds t).0 * 1000 ≤ t.0) × (t.0 < ((whole_seconds t).0 + 1) * 1000)

-- seconds have 1,000 times as many milliseconds, where 64 bits hold that; else it is the most that they hold
abbrev pub ScaledExactly : Type 0
ScaledExactly = (t : Seconds) → (t.0 * 1000 < 2 ^ 64 → (in_milliseconds t).0 ≡ t.0 * 1000)
    × (2 ^ 64 ≤ t.0 * 1000 → (in_milliseconds t).0 + 1 ≡ 2 ^ 64)

-- so seconds below 2^32 have 1,000 times as many
abbrev pub SmallScaled : Type 0
SmallScaled = (t : Seconds) → t.0 < 2 ^ 32 → (in_milliseconds t).0 ≡ 1000 * t.0

-- seconds in milliseconds and back are the same seconds, where 64 bits hold them
abbrev pub ThereAndBack : Type 0
ThereAndBack = (t : Seconds) → t.0 * 1000 < 2 ^ 64 → whole_seconds (in_milliseconds t) ≡ t

-- a sum of seconds that is cut at an end is the smaller of the two
abbrev pub CutExactly : Type 0
CutExactly = (t more end : Seconds) → (plus_at_most t more end).0 ≡ min end.0 (t.0 + more.0)

-- milliseconds are added, where 64 bits hold the sum; else it is the most that they hold
abbrev pub SumExactly : Type 0
SumExactly = (t more : Milliseconds) → (t.0 + more.0 < 2 ^ 64 → (sum_held t more).0 ≡ t.0 + more.0)
    × (2 ^ 64 ≤ t.0 + more.0 → (sum_held t more).0 + 1 ≡ 2 ^ 64)

-- how long it is from a moment to an end is their difference, where that is below 2^63 either way; else it is 2^63 − 1 that way
abbrev pub UntilExactly : Type 0
UntilExactly = (t end : Milliseconds)
    → (end.0 < t.0 + 2 ^ 63 → t.0 < end.0 + 2 ^ 63 → (margin_between t end).0 ≡ pos end.0 -ℤ pos t.0)
    × (t.0 + 2 ^ 63 ≤ end.0 → (margin_between t end).0 ≡ pos 9223372036854775807)
    × (end.0 + 2 ^ 63 ≤ t.0 → (margin_between t end).0 ≡ pos 0 -ℤ pos 9223372036854775807)
