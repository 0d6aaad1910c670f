-- A reader of the promises does not need this page.
-- The kinds of strings that stand in the maps of source 002: text or byte string of lo to hi bytes, terminal id, fay id, and pattern.
use Rattle.std.specs.Prelude.{Bool, ◌&&◌, List, ℕ, length, leb}
use Rattle.cbor_item_spec.specs.Utf8.{is_utf8}
use Rattle.resource_spec.specs.Identifier.{is_fay, is_terminal}
use Rattle.resource_spec.specs.Text.{pattern_ok}
use Rattle.entries_spec.specs.declared.Kind.{Kind}
use Rattle.entries_spec.specs.declared.Kind.TheVariants.{Text, Bytes, Terminal, Fay, Pattern}

-- n is a number from lo to hi
abbrev pub within : ℕ → ℕ → ℕ → Bool
within lo hi n = leb lo n && leb n hi

-- the major type of a kind: 2 for byte strings, 3 for texts
abbrev pub major_of : Kind → ℕ
major_of (Text lo hi) = 3
major_of (Bytes lo hi) = 2
major_of Terminal = 3
major_of Fay = 3
major_of Pattern = 3

-- the bytes are the content of a string of the kind; an identifier or a pattern is ASCII
unfoldable pub is_kind : Kind → List ℕ → Bool
is_kind (Text lo hi) c = within lo hi (length c) && is_utf8 c
is_kind (Bytes lo hi) c = within lo hi (length c)
is_kind Terminal c = is_terminal c
is_kind Fay c = is_fay c
is_kind Pattern c = pattern_ok c
