-- What is promised of the byte interface itself. What its calls answer is promised by the crates that its contracts cite.
use Rattle.std.specs.Prelude.{◌≡◌, ◌↔◌, ◌⊎◌, true, ℕ, ◌≤◌}
use Rattle.steps.specs.Key.{key_open}
use Rattle.cap.specs.Numbers.{window_of}

-- the clock is in the key's window exactly when it is not before valid_from and, unless has_valid_until is 0, not after valid_until
abbrev pub WindowExactly : Type 0
WindowExactly = (from has until clock : ℕ) → (key_open (window_of from has until) clock ≡ true)
    ↔ ((from ≤ clock) × ((has ≡ 0) ⊎ (clock ≤ until)))
