-- What is promised of narrowing, and nothing else: demand 3, in document 01's order and numbers. Each statement `NameOfIt` is proved in
-- proofs/Promises.antt as `name_of_it`.
use Rattle.std.specs.Prelude.{◌≡◌, ◌↔◌, List, [], ◌∷◌, ℕ, ◌≤◌, ◌<◌, length, get_or}
use Rattle.std.proofs.Math.Option.{none}
use Rattle.octets.specs.Bytes.{AreBytes}
use Rattle.resource_spec.specs.Pattern.{Path, IsPath}
use Rattle.entries_spec.specs.Model.{pair_count}
use Rattle.descriptor_spec.specs.Model.{Grant, Descriptor, encode}
use Rattle.descriptor_spec.specs.Allowed.{Allowed}
use Rattle.descriptor_spec.specs.Reader.{read_of}
use Rattle.descriptor_spec.specs.Code.{reading_of}
use Rattle.descriptor_spec.specs.Numbers.{numbers_of as read_numbers}
use Rattle.narrowing_spec.specs.declared.NarrowingNumbers.{NarrowingNumbers}
use Rattle.narrowing_spec.specs.Meaning.{Admits, Escapes, taken_by}
use Rattle.narrowing_spec.specs.Narrow.{narrow, numbers_of}

-- an answer whose other numbers are 0
abbrev pub answer_only : ℕ → NarrowingNumbers
answer_only n = record { answer = n; grant = 0; mode = 0; levels = 0 }

-- the answer of reading a byte string
abbrev pub read_answer : List ℕ → ℕ
read_answer s = (read_numbers (reading_of (read_of s))).answer

-- ---- 21, 1 and 2: the parent, then the child

-- 21 exactly when the parent doesn't read
abbrev pub NoParentExactly : Type 0
NoParentExactly = (s t : List ℕ) → (numbers_of (narrow s t) ≡ answer_only 21) ↔ (read_answer s ≡ 0 → ⊥)

-- under a parent that reads, 1 and 2 exactly when reading the child answers so
abbrev pub ChildExactly : Type 0
ChildExactly =
    (s t : List ℕ) → read_answer s ≡ 0
    → ((numbers_of (narrow s t) ≡ answer_only 1) ↔ (read_answer t ≡ 1)) × ((numbers_of (narrow s t) ≡ answer_only 2) ↔ (read_answer t ≡ 2))

-- ---- 19: a constraint pair

-- no grant has a constraint pair
abbrev pub NoPairs : List Grant → Type 0
NoPairs [] = Unit {0}
NoPairs (g ∷ gs) = (pair_count g.constraints ≡ 0) × NoPairs gs

-- where both read, 19 exactly when a constraint pair stands in either
abbrev pub ConstrainedExactly : Type 0
ConstrainedExactly =
    (s t : List ℕ) (parent child : Descriptor) → AreBytes s → AreBytes t → Allowed parent → Allowed child → s ≡ encode parent
    → t ≡ encode child
    → (numbers_of (narrow s t) ≡ answer_only 19) ↔ (NoPairs parent.payload.grants × NoPairs child.payload.grants → ⊥)

-- a byte string that reads, as the descriptor d, with no constraint pair
pub record ReadAs (s : List ℕ) (d : Descriptor) : Type 0 where
  pub bytes : AreBytes s
  pub allowed : Allowed d
  pub encoded : s ≡ encode d
  pub plain : NoPairs d.payload.grants

-- ---- 18: the period

-- the child's period lies within the parent's
abbrev pub PeriodInside : Descriptor → Descriptor → Type 0
PeriodInside parent child = (parent.payload.not_before ≤ child.payload.not_before)
    × (child.payload.not_after ≤ parent.payload.not_after)

-- 18 exactly when the child's period does not lie within the parent's
abbrev pub PeriodExactly : Type 0
PeriodExactly =
    (s t : List ℕ) (parent child : Descriptor) → ReadAs s parent → ReadAs t child → (numbers_of (narrow s t) ≡ answer_only 18)
    ↔ (PeriodInside parent child → ⊥)

-- ---- 20: a path that escapes

-- the grant at a place
abbrev pub grant_of : Descriptor → ℕ → Grant
grant_of d i = get_or d.payload.grants i (record { modes = []; constraints = none; pattern = [] })

-- no path escapes by the child's grant in the mode
abbrev pub NoEscape : Descriptor → Grant → ℕ → Type 0
NoEscape parent g m = (x : Path) → IsPath x → Escapes parent.payload.grants g m x → ⊥

-- i is the place of the child's first grant by which some path escapes in some mode, m the lowest mode in which one does by that grant,
-- and k the fewest names that the grant's "**" takes in any path that escapes by it in that mode: some path has that many, and none has
-- fewer
pub record FirstEscape (parent child : Descriptor) (i m k : ℕ) : Type 0 where
  pub place : i < length child.payload.grants
  pub mode : m < 4
  pub first : (j : ℕ) → j < i → (n : ℕ) → NoEscape parent (grant_of child j) n
  pub lowest : (n : ℕ) → n < m → NoEscape parent (grant_of child i) n
  pub attained : (x : Path) × IsPath x × Escapes parent.payload.grants (grant_of child i) m x × (taken_by (grant_of child i) x ≡ k)
  pub fewest : (x : Path) → IsPath x → Escapes parent.payload.grants (grant_of child i) m x → k ≤ taken_by (grant_of child i) x

-- 20 with grant place, mode and levels exactly when the period lies within and these are the numbers of the first escape
abbrev pub EscapeExactly : Type 0
EscapeExactly =
    (s t : List ℕ) (parent child : Descriptor) (i m k : ℕ) → ReadAs s parent → ReadAs t child
    → (numbers_of (narrow s t) ≡ record { answer = 20; grant = i; mode = m; levels = k })
    ↔ (PeriodInside parent child × FirstEscape parent child i m k)

-- ---- 0: accepted

-- every moment, path and mode that the child admits together the parent admits together
abbrev pub Inside : Descriptor → Descriptor → Type 0
Inside parent child = (moment : ℕ) (x : Path) (m : ℕ) → IsPath x → Admits child moment x m → Admits parent moment x m

-- 0 exactly when the child is inside the parent
abbrev pub AcceptedExactly : Type 0
AcceptedExactly =
    (s t : List ℕ) (parent child : Descriptor) → ReadAs s parent → ReadAs t child → (numbers_of (narrow s t) ≡ answer_only 0)
    ↔ Inside parent child

-- a chain of acceptances from the bytes s to the bytes t
pub data Chain : List ℕ → List ℕ → Type 0 where
  one : {s t : List ℕ} → numbers_of (narrow s t) ≡ answer_only 0 → Chain s t
  more : {s t u : List ℕ} → AreBytes t → numbers_of (narrow s t) ≡ answer_only 0 → Chain t u → Chain s u

-- down a chain of acceptances the last admits nothing that the first doesn't
abbrev pub ChainInside : Type 0
ChainInside = (s t : List ℕ) (first last : Descriptor) → ReadAs s first → ReadAs t last → Chain s t → Inside first last
