-- Spans of bytes: a place and a length.
use Rattle.std.specs.Prelude.{cond, List, ℕ, ◌-◌, length, ltb}

-- some bytes by the place where they start, and their number
pub record Span : Type 0 where
  pub start : ℕ
  pub len : ℕ

-- the span from a place on, of a length
abbrev pub span_of : ℕ → ℕ → Span
span_of at n = record { start = at; len = n }

-- the n bytes from `start` on where s has them, else none at the start
unfoldable pub inside : List ℕ → ℕ → ℕ → Span
inside s start n = cond (ltb (length s) start) (span_of 0 0) (cond (ltb (length s - start) n) (span_of 0 0) (span_of start n))
