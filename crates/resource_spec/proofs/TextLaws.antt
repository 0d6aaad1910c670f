-- Laws of texts that begin with a terminal id (specs/Text.antt): its 45 bytes and "/" are their first level. Assumes nothing.
use mathlib.Core.Path.{◌≡◌, refl, ap, ◌∙◌}
use mathlib.Core.Bool.{Bool, true, false}
use mathlib.Core.List.{List, [], ◌∷◌, ◌++◌}
use Prim.Native.Nat.{ℕ, suc}
use native.Mathlib.Omega.{arith}
use lib.ListN.{length, drop, take, length-append}
use lib.Seq.{split_at, get_or_at, take_at}
use lib.Dec.{leb}
use borrow.Author.Tests.{leb-true}
use Rattle.resource_spec.specs.Identifier.{Slot, fits, has_form, is_fay, is_terminal, uuid_form, fay_form, terminal_form, levels_place}
use Rattle.resource_spec.specs.Identifier.{terminal_size}
use Rattle.resource_spec.specs.Level.{levels, levels_ok}
use Rattle.resource_spec.specs.Text.{well_formed, is_resource, is_pattern, longest_text, resource_ok, pattern_ok, path_of, pattern_of}
use Rattle.resource_spec.specs.Text.{levels_match, levels_named}
use Rattle.resource_spec.specs.Laws.{Parted, last, more, Begins, WellBegins, BeginsWell}
use Rattle.resource_spec.specs.Laws.{TerminalLength, FayLength, PatternShort, ResourceShort, PatternTerminal, PatternLevels}
use Rattle.resource_spec.specs.Laws.{AdmitsText, NamesText}
use Rattle.octets.proofs.Tests.{and_left, and_right, no_flag}
use Rattle.resource_spec.proofs.WithoutLaws.{terminal_slashless}
use Rattle.resource_spec.proofs.LevelLaws.{levels_one, levels_more, parted}

-- ---- forms

-- a text that has a form has its length
form_length : (f : List Slot) (c : List ℕ) → has_form f c ≡ true → length c ≡ length f
unfolding has_form
form_length [] [] e = refl
form_length [] (b ∷ bs) e = no_flag e
form_length (x ∷ f) [] e = no_flag e
form_length (x ∷ f) (b ∷ bs) e = ap suc (form_length f bs (and_right (fits x b) (has_form f bs) e))

-- a terminal id has 45 bytes
pub terminal_long : TerminalLength
unfolding is_terminal terminal_form uuid_form
terminal_long c e = form_length terminal_form c e

-- a fay id has 40 bytes
pub fay_long : FayLength
unfolding is_fay fay_form uuid_form
fay_long c e = form_length fay_form c e

-- ---- a text that begins with a terminal id

-- a well-formed text that is parted begins with one
parted_begins : (wild : Bool) {s : List ℕ} → Parted s → well_formed wild (levels s) ≡ true → Begins s
unfolding levels_ok
parted_begins wild (last l h) e =
    no_flag (and_right (is_terminal l) false (rw (levels_one l h) at e))
parted_begins wild (more l t h) e =
    let id : is_terminal l ≡ true = and_left (is_terminal l) (levels_ok wild (levels t)) (rw (levels_more l t h) at e) in
    let size : length l ≡ terminal_size = terminal_long l id in
    record {
      long = omega (arith, length-append l (47 ∷ t));
      slash = get_or_at l 47 t 0 terminal_size size;
      terminal = ap is_terminal (take_at l (47 ∷ t) terminal_size size) ∙ id;
    }

-- a well-formed text begins with one
pub well_begins : WellBegins
well_begins wild s e = parted_begins wild (parted s) e

module _ (s : List ℕ) (b : Begins s) where
  -- it is 45 bytes, "/" and more
  split_text : s ≡ take terminal_size s ++ (47 ∷ drop levels_place s)
  split_text = split_at s terminal_size 0 b.long ∙ ap (λ (c : ℕ). take terminal_size s ++ (c ∷ drop levels_place s)) b.slash

  -- its first level is its first 45 bytes, and the others are those of the text below
  begins_levels : levels s ≡ take terminal_size s ∷ levels (drop levels_place s)
  begins_levels = ap levels split_text
      ∙ levels_more (take terminal_size s) (drop levels_place s) (terminal_slashless (take terminal_size s) b.terminal)

-- whether it is well formed is decided by the levels below
pub begins_well : BeginsWell
begins_well wild s b = rw (begins_levels s b, b.terminal)

-- ---- a pattern and a resource id

-- a pattern begins with a terminal id
pub pattern_begins : (p : List ℕ) → pattern_ok p ≡ true → Begins p
unfolding pattern_ok is_pattern
pattern_begins p e = well_begins true p (and_right (leb (length p) longest_text) (is_pattern p) e)

-- so does a resource id
pub resource_begins : (r : List ℕ) → resource_ok r ≡ true → Begins r
unfolding resource_ok is_resource
resource_begins r e = well_begins false r (and_right (leb (length r) longest_text) (is_resource r) e)

-- a pattern has 46 to 256 bytes
pub pattern_sized : PatternShort
unfolding pattern_ok
pattern_sized p e = ((pattern_begins p e).long, leb-true (length p) longest_text (and_left (leb (length p) longest_text) (is_pattern p) e))

-- so has a resource id
pub resource_sized : ResourceShort
unfolding resource_ok
resource_sized r e = ((resource_begins r e).long, leb-true (length r) longest_text (and_left (leb (length r) longest_text) (is_resource r) e))

-- the first 45 bytes of a pattern are a terminal id
pub pattern_id : PatternTerminal
pattern_id p e = (pattern_begins p e).terminal

-- the levels of a pattern are its first 45 bytes and the levels of what follows the 46th
pub pattern_parts : PatternLevels
pattern_parts p e = begins_levels p (pattern_begins p e)

-- a pattern matches a path exactly where the first 45 bytes of their texts are the same and the levels below match
pub admits_parts : AdmitsText
unfolding pattern_of path_of levels_match
admits_parts p r e f = rw (begins_levels p (pattern_begins p e), begins_levels r (resource_begins r f))

-- how many levels are matched by equal names is told by the texts below
pub names_parts : NamesText
unfolding pattern_of path_of levels_named
names_parts p r e f = rw (begins_levels p (pattern_begins p e), begins_levels r (resource_begins r f))
