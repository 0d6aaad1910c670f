-- What document 01 allows, "Descriptor bytes": every written limit. Nothing of places or of reading. A reader of the promises does not
-- need this page: `AllowedExactly` of `descriptor_spec` has each limit with its number.
use Rattle.std.specs.Prelude.{◌≡◌, Bool, true, false, ◌||◌, List, [], ◌∷◌, ℕ, ◌-◌, ◌≤◌, ◌<◌, length, take, eqb}
use Rattle.exact.specs.Reads.{OptOk, AllFrom}
use Rattle.resource_spec.specs.Identifier.{is_fay, is_terminal, terminal_size}
use Rattle.resource_spec.specs.Text.{pattern_ok}
use Rattle.entries_spec.specs.Allowed.{TextOk, TimeOk, PairsOk, SignatureOk}
use Rattle.descriptor_spec.specs.Model.{Grant, Payload, Descriptor, encode}

-- m is one of those
unfoldable pub is_in : ℕ → List ℕ → Bool
is_in m [] = false
is_in m (x ∷ xs) = eqb m x || is_in m xs

-- a mode after those of `seen`: one of the four, and not one of those
pub record ModeOk (seen : List ℕ) (m : ℕ) : Type 0 where
  pub known : m < 4
  pub new : is_in m seen ≡ false

-- those of `seen` and one more
abbrev pub seen_with : List ℕ → ℕ → List ℕ
seen_with seen m = m ∷ seen

-- 1 to 4 modes, any order, none twice
pub record ModesOk (ms : List ℕ) : Type 0 where
  pub least : 1 ≤ length ms
  pub most : length ms ≤ 4
  pub each : AllFrom ModeOk seen_with [] ms

-- a grant: at most 8 constraint pairs, a well-formed pattern
pub record GrantOk (g : Grant) : Type 0 where
  pub modes : ModesOk g.modes
  pub constraints : OptOk (PairsOk 8) g.constraints
  pub pattern : pattern_ok g.pattern ≡ true

-- each element is allowed
abbrev pub All : {X : Type 0} → (X → Type 0) → List X → Type 0
All Ok [] = Unit {0}
All Ok (x ∷ xs) = Ok x × All Ok xs

-- the bytes of a descriptor's id
abbrev pub id_size : ℕ
id_size = 16

-- a payload but for its longest period
pub record PayloadOk (p : Payload) : Type 0 where
  pub least : 1 ≤ length p.grants
  pub most : length p.grants ≤ 256
  pub grants : All GrantOk p.grants
  pub metadata : OptOk (PairsOk 16) p.metadata
  pub issued_at : TimeOk p.issued_at
  pub issuer : TextOk 1 128 p.issuer
  pub not_after : TimeOk p.not_after
  pub grantor : OptOk (TextOk 1 128) p.grantor
  pub not_before : TimeOk p.not_before
  pub terminal : is_terminal p.terminal ≡ true
  pub id : length p.id ≡ id_size
  pub fay : is_fay p.fay ≡ true
  -- each pattern's terminal is the payload's
  pub patterns : All (λ (g : Grant). take terminal_size g.pattern ≡ p.terminal) p.grants
  -- issued_at ≤ not_before < not_after
  pub issued : p.issued_at ≤ p.not_before
  pub lasts : p.not_before < p.not_after

-- the most bytes of a descriptor
abbrev pub longest : ℕ
longest = 32768

-- a descriptor but for its longest period
pub record Formed (d : Descriptor) : Type 0 where
  pub payload : PayloadOk d.payload
  pub signature : SignatureOk d.signature
  pub short : length (encode d) ≤ longest

-- 90 days in seconds
abbrev pub longest_period : ℕ
longest_period = 7776000

-- not_after − not_before
abbrev pub period : Descriptor → ℕ
period d = d.payload.not_after - d.payload.not_before

-- an allowed descriptor
pub record Allowed (d : Descriptor) : Type 0 where
  pub formed : Formed d
  pub period : period d ≤ longest_period
