-- What the crates above stand on: where heads and strings end, and the test for UTF-8 character by character. A reader of the promises does
-- not need this page.
use Rattle.std.specs.Prelude.{◌≡◌, false, cond, ◌&&◌, List, ◌∷◌, ℕ, ◌+◌, ◌≤◌, ◌<◌, length, drop}
use Rattle.octets.specs.Span.{Span}
use Rattle.exact.specs.Holds.{Holds}
use Rattle.cbor_item_spec.specs.Head.{Head, head_at, span_in, span_at}
use Rattle.cbor_item_spec.specs.Utf8.{tail, second3, second4, char_length, char_at, is_utf8}

-- a head that begins at `at` and ends before n, within s
pub record HeadTo (s : List ℕ) (at : ℕ) (h : Head) (n : ℕ) : Type 0 where
  pub after : at < n
  pub fits : n ≤ length s

-- a string that begins at or after `at`, ends before n and lies within s
pub record SpanTo (s : List ℕ) (at : ℕ) (c : Span) (n : ℕ) : Type 0 where
  pub after : at ≤ c.start
  pub ends : n ≡ c.start + c.len
  pub fits : n ≤ length s

-- every head that is answered is such a head
abbrev pub HeadsEnd : Type 0
HeadsEnd = (s : List ℕ) (at : ℕ) → Holds (HeadTo s at) (head_at s at)

-- the content that is answered of a string is such a string
abbrev pub ContentsEnd : Type 0
ContentsEnd = (s : List ℕ) (start n : ℕ) → start ≤ length s → Holds (SpanTo s start) (span_in s start n)

-- every string that is answered is such a string
abbrev pub SpansEnd : Type 0
SpansEnd = (s : List ℕ) (at major : ℕ) → Holds (SpanTo s at) (span_at s at major)

-- how long the character is that begins with four bytes, by the first of them
pub record LengthByFirst (a b c d : ℕ) : Type 0 where
  pub below_80 : a < 0x80 → char_length a b c d ≡ 1
  pub below_C2 : 0x80 ≤ a → a < 0xC2 → char_length a b c d ≡ 0
  pub below_E0 : 0xC2 ≤ a → a < 0xE0 → char_length a b c d ≡ cond (tail b) 2 0
  pub below_F0 : 0xE0 ≤ a → a < 0xF0 → char_length a b c d ≡ cond (second3 a b && tail c) 3 0
  pub below_F5 : 0xF0 ≤ a → a < 0xF5 → char_length a b c d ≡ cond (second4 a b && (tail c && tail d)) 4 0
  pub above_F4 : 0xF5 ≤ a → char_length a b c d ≡ 0

-- it is so for any four
abbrev pub LengthsByFirst : Type 0
LengthsByFirst = (a b c d : ℕ) → LengthByFirst a b c d

-- a character ends within the list
abbrev pub CharFits : Type 0
CharFits = (t : List ℕ) (i : ℕ) → i < length t → i + char_at t i ≤ length t

-- where no character stands at i, what is left from i on is not UTF-8
abbrev pub CharStops : Type 0
CharStops = (t : List ℕ) (i : ℕ) → i < length t → char_at t i ≡ 0 → is_utf8 (drop i t) ≡ false

-- where a character of n bytes stands at i, what follows it decides
abbrev pub CharSteps : Type 0
CharSteps = (t : List ℕ) (i n : ℕ) → i < length t → char_at t i ≡ n → (n ≡ 0 → ⊥) → is_utf8 (drop i t) ≡ is_utf8 (drop (i + n) t)

-- a byte below 128 is a character
abbrev pub LowFirst : Type 0
LowFirst = (x : ℕ) (l : List ℕ) → x < 0x80 → is_utf8 (x ∷ l) ≡ is_utf8 l
