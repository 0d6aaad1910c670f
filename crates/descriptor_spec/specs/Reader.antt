-- A reader of the promises does not need this page.
-- The reader of descriptors as a function of bytes and a place, in one pass. These definitions compute: the code answers what they say.
use Rattle.std.specs.Prelude.{Bool, not, ◌&&◌, cond, List, ◌∷◌, ◌++◌, ℕ, ◌+◌, ◌-◌, ◌^◌, ◌/◌, ◌%◌, length, leb, ltb, eqb}
use Rattle.std.proofs.Math.Option.{Option, none, some}
use Rattle.std.specs.Int.Bits.{bit_or}
use Rattle.octets.specs.Bytes.{part, same}
use Rattle.octets.specs.Span.{Span, span_of}
use Rattle.exact.specs.Reads.{Got, got, refused, bind, guard, many}
use Rattle.resource_spec.specs.Identifier.{terminal_size}
use Rattle.entries_spec.specs.declared.Kind.TheVariants.{Text, Bytes, Terminal, Fay, Pattern}
use Rattle.entries_spec.specs.Keys.{k_payload, k_version, k_signature, k_grants, k_metadata, k_issued_at, k_issuer_id, k_not_after, k_grantor_id}
use Rattle.entries_spec.specs.Keys.{k_not_before}
use Rattle.entries_spec.specs.Keys.{k_terminal_id, k_descriptor_id, k_subject_fay_id, k_key_id, k_modes, k_constraints, k_resource_pattern}
use Rattle.entries_spec.specs.Value.{Optional, count_at, time_at, kind_at, one_of, keyed_at, flag, placed, opt_kind_at}
use Rattle.entries_spec.specs.Reader.{opt_pairs_at, SignatureSeen, signature_at}
use Rattle.descriptor_spec.specs.Model.{mode_names}
use Rattle.descriptor_spec.specs.Allowed.{id_size, longest, longest_period}

-- ---- modes

-- the mask has the bit of the mode
unfoldable pub has_mode : ℕ → ℕ → Bool
has_mode mask m = eqb (mask / 2 ^ m % 2) 1

-- one mode more, which the mask does not have yet
unfoldable pub mode_at : List ℕ → ℕ → ℕ → Got ℕ
mode_at s mask at = bind (one_of s at 0 mode_names) (λ m n. guard (not (has_mode mask m)) (got (mask + 2 ^ m) n))

-- 1 to 4 modes after their key; the answer is their mask
unfoldable pub modes_at : List ℕ → ℕ → Got ℕ
modes_at s at = bind (keyed_at s at k_modes (λ n. count_at s n 4 1 4)) (λ c n. many (mode_at s) c 0 n)

-- ---- grants

-- what is seen of a grant: its mask, the place of its modes, the place of its constraints and their number, and the pattern's part
pub record GrantSeen : Type 0 where
  pub mask : ℕ
  pub modes : ℕ
  pub constraints : ℕ
  pub pairs : ℕ
  pub pattern : Span

-- the grant at a place
unfoldable pub grant_at : List ℕ → ℕ → Got GrantSeen
grant_at s at =
    bind (count_at s at 5 2 3) (λ c n.
    bind (modes_at s n) (λ mask n₁.
    bind (opt_pairs_at s n₁ k_constraints 8) (λ constraints n₂.
    bind (keyed_at s n₂ k_resource_pattern (kind_at Pattern s)) (λ pattern n₃.
    guard (eqb c (2 + flag constraints))
    (got (record {
      mask = mask;
      modes = n + length k_modes;
      constraints = (placed constraints).at;
      pairs = (placed constraints).size;
      pattern = pattern;
    }) n₃)))))

-- what is summed over grants: the union of their masks, and the number of their constraint pairs
pub record Sum : Type 0 where
  pub mask : ℕ
  pub pairs : ℕ

-- one grant more
abbrev pub add_grant : Sum → GrantSeen → Sum
add_grant sum g = record { mask = bit_or sum.mask g.mask; pairs = sum.pairs + g.pairs }

-- one more grant, whose pattern has the terminal id of the first, which stands at `first`
unfoldable pub more_at : List ℕ → ℕ → Sum → ℕ → Got Sum
more_at s first sum at = bind (grant_at s at) (λ g n. guard (same (part s g.pattern.start terminal_size) (part s first terminal_size))
    (got (add_grant sum g) n))

-- what is seen of the grants: how many they are, the place of the first, the place of its pattern, and the sum
pub record GrantsSeen : Type 0 where
  pub count : ℕ
  pub start : ℕ
  pub first : ℕ
  pub sum : Sum

-- 1 to 256 grants after their key
unfoldable pub grants_at : List ℕ → ℕ → Got GrantsSeen
grants_at s at =
    bind (keyed_at s at k_grants (λ n. count_at s n 4 1 256)) (λ c n.
    bind (grant_at s n) (λ g n₁.
    bind (many (more_at s g.pattern.start) (c - 1) (record { mask = g.mask; pairs = g.pairs }) n₁) (λ sum n₂.
    got (record { count = c; start = n; first = g.pattern.start; sum = sum }) n₂)))

-- ---- the payload: the number of its keys, its grants, and the rest in three pieces

-- metadata, issued_at, issuer_id and not_after
pub record Issue : Type 0 where
  pub metadata : Optional
  pub issued_at : ℕ
  pub issuer : Span
  pub not_after : ℕ

-- the four at a place, in that order
unfoldable pub issue_at : List ℕ → ℕ → Got Issue
issue_at s at =
    bind (opt_pairs_at s at k_metadata 16) (λ metadata n.
    bind (keyed_at s n k_issued_at (time_at s)) (λ issued_at n₁.
    bind (keyed_at s n₁ k_issuer_id (kind_at (Text 1 128) s)) (λ issuer n₂.
    bind (keyed_at s n₂ k_not_after (time_at s)) (λ not_after n₃.
    got (record { metadata = metadata; issued_at = issued_at; issuer = issuer; not_after = not_after }) n₃))))

-- grantor_id and not_before
pub record Grantor : Type 0 where
  pub grantor : Optional
  pub not_before : ℕ

-- the two at a place, in that order
unfoldable pub grantor_at : List ℕ → ℕ → Got Grantor
grantor_at s at =
    bind (opt_kind_at s at k_grantor_id (Text 1 128)) (λ grantor n.
    bind (keyed_at s n k_not_before (time_at s)) (λ not_before n₁.
    got (record { grantor = grantor; not_before = not_before }) n₁))

-- terminal_id, descriptor_id and subject_fay_id: where they start
pub record Ids : Type 0 where
  pub terminal : ℕ
  pub id : ℕ
  pub fay : ℕ

-- the three at a place, in that order
unfoldable pub ids_at : List ℕ → ℕ → Got Ids
ids_at s at =
    bind (keyed_at s at k_terminal_id (kind_at Terminal s)) (λ terminal n.
    bind (keyed_at s n k_descriptor_id (kind_at (Bytes id_size id_size) s)) (λ id n₁.
    bind (keyed_at s n₁ k_subject_fay_id (kind_at Fay s)) (λ fay n₂.
    got (record { terminal = terminal.start; id = id.start; fay = fay.start }) n₂)))

-- what is seen of a payload: the number of its keys, and of each key's value
pub record PayloadSeen : Type 0 where
  pub keys : ℕ
  pub grants : GrantsSeen
  pub metadata : Optional
  pub issued_at : ℕ
  pub issuer : Span
  pub not_after : ℕ
  pub grantor : Optional
  pub not_before : ℕ
  pub terminal : ℕ
  pub id : ℕ
  pub fay : ℕ

-- what is seen of its pieces
abbrev pub seen_in : ℕ → GrantsSeen → Issue → Grantor → Ids → PayloadSeen
seen_in keys grants i g ids =
    record {
      keys = keys;
      grants = grants;
      metadata = i.metadata;
      issued_at = i.issued_at;
      issuer = i.issuer;
      not_after = i.not_after;
      grantor = g.grantor;
      not_before = g.not_before;
      terminal = ids.terminal;
      id = ids.id;
      fay = ids.fay;
    }

-- the conditions on the whole: as many keys as there are, the patterns' terminal is the payload's, and issued_at ≤ not_before < not_after
unfoldable pub payload_fits : List ℕ → PayloadSeen → Bool
payload_fits s p =
    eqb p.keys (8 + (flag p.metadata + flag p.grantor))
    && (same (part s p.grants.first terminal_size) (part s p.terminal terminal_size)
    && (leb p.issued_at p.not_before && ltb p.not_before p.not_after))

-- the payload at a place
unfoldable pub payload_at : List ℕ → ℕ → Got PayloadSeen
payload_at s at =
    bind (count_at s at 5 8 10) (λ keys n.
    bind (grants_at s n) (λ grants n₁.
    bind (issue_at s n₁) (λ i n₂.
    bind (grantor_at s n₂) (λ g n₃.
    bind (ids_at s n₃) (λ ids n₄.
    guard (payload_fits s (seen_in keys grants i g ids)) (got (seen_in keys grants i g ids) n₄))))))

-- ---- the whole

-- the head of a map of three, and "payload"
unfoldable pub before_payload : List ℕ
before_payload = 163 ∷ k_payload

-- "version", 1, "signature", the head of a map of three, and "key_id"
unfoldable pub before_key_id : List ℕ
before_key_id = k_version ++ (1 ∷ (k_signature ++ (163 ∷ k_key_id)))

-- what is seen of a descriptor: the part of the payload, which the signature covers, and what is in it, and the signature
pub record Seen : Type 0 where
  pub covered : Span
  pub payload : PayloadSeen
  pub signature : SignatureSeen

-- the descriptor at a place
unfoldable pub descriptor_at : List ℕ → ℕ → Got Seen
descriptor_at s at =
    bind (keyed_at s at before_payload (payload_at s)) (λ p n.
    bind (keyed_at s n before_key_id (signature_at s)) (λ g n₂.
    got (record { covered = span_of (at + length before_payload) (n - (at + length before_payload)); payload = p; signature = g }) n₂))

-- what reading answers: 0 with what is seen, 1, or 2
pub data Answer : Type 0 where
  read : Seen → Answer
  structure : Answer
  validity : Answer

-- what is seen of a descriptor that ends where the bytes do
abbrev pub whole : ℕ → Got Seen → Option Seen
whole len (got v n) = cond (eqb n len) (some v) none
whole len refused = none

-- what is seen of the descriptor that the whole of s is, but for its period; s has no more bytes than the most
unfoldable pub formed_in : List ℕ → Option Seen
formed_in s = cond (leb (length s) longest) (whole (length s) (descriptor_at s 0)) none

-- the period decides what is answered of it
abbrev pub by_period : Option Seen → Answer
by_period (some v) = cond (leb (v.payload.not_after - v.payload.not_before) longest_period) (read v) validity
by_period none = structure

-- reading the whole of s
unfoldable pub read_of : List ℕ → Answer
read_of s = by_period (formed_in s)
