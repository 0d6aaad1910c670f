-- A reader of the promises does not need this page.
-- What the answers of the reader of a grant and of the inner functions say, as answers of exact readers.
use Rattle.std.specs.Prelude.{Option, Some, None, Bool, not, List, ℕ, ◌+◌, ◌/◌, ◌%◌, ◌≤◌, length, eqb}
use Rattle.octets.specs.Bytes.{part}
use Rattle.octets.specs.Span.{Span, span_of}
use Rattle.exact.specs.Reads.{Got, got, bind, guard}
use Rattle.exact.specs.Answer.{got_by}
use Rattle.resource_spec.specs.Identifier.{terminal_size}
use Rattle.resource_spec.specs.Text.{pattern_ok}
use Rattle.resource.specs.Code.{pattern_under}
use Rattle.entries_spec.specs.Keys.{k_modes, k_constraints, k_resource_pattern}
use Rattle.entries_spec.specs.Value.{count_at, string_at, keyed_at, flag, placed}
use Rattle.entries_spec.specs.Reader.{opt_pairs_at}
use Rattle.entries.specs.declared.signature.SignatureFields.{SignatureFields}
use Rattle.entries.specs.Code.{signature_of}
use Rattle.descriptor_spec.specs.Reader.{modes_at, GrantSeen, Sum, GrantsSeen, Issue, Grantor, Ids, PayloadSeen, seen_in, Seen}
use Rattle.descriptor.specs.declared.GrantFields.{GrantFields}
use Rattle.descriptor.specs.declared.grants.Sum as sums
use Rattle.descriptor.specs.declared.grants.GrantsFields.{GrantsFields}
use Rattle.descriptor.specs.declared.payload.IssueFields.{IssueFields}
use Rattle.descriptor.specs.declared.payload.GrantorFields.{GrantorFields}
use Rattle.descriptor.specs.declared.payload.IdsFields.{IdsFields}
use Rattle.descriptor.specs.declared.payload.PayloadFields.{PayloadFields}

-- ---- modes

-- the mask with one bit more, which it does not have yet
unfoldable pub with_mode : ℕ → ℕ → ℕ → Got ℕ
with_mode mask bit next = guard (not (eqb (mask / bit % 2) 1)) (got (mask + bit) next)

-- ---- grants

-- the terminal id that is asked for, if any, stands in s
abbrev pub TerminalFits : List ℕ → Option ℕ → Type 0
TerminalFits s None = Unit {0}
TerminalFits s (Some first) = first + terminal_size ≤ length s

-- a pattern of the terminal id that is asked for, or of any; the test of one that stands in s does not look at the form of this id
abbrev pub is_pattern_of : List ℕ → Option ℕ → List ℕ → Bool
is_pattern_of s None c = pattern_ok c
is_pattern_of s (Some first) c = pattern_under (part s first terminal_size) c

-- the pattern of a grant after its key, of the terminal id that is asked for
abbrev pub pattern_at : List ℕ → Option ℕ → ℕ → Got Span
pattern_at s terminal at = keyed_at s at k_resource_pattern (string_at 3 (is_pattern_of s terminal) s)

-- the grant at a place, whose pattern has the terminal id that is asked for
unfoldable pub grant_under : List ℕ → Option ℕ → ℕ → Got GrantSeen
grant_under s terminal at =
    bind (count_at s at 5 2 3) (λ c n.
    bind (modes_at s n) (λ mask n₁.
    bind (opt_pairs_at s n₁ k_constraints 8) (λ constraints n₂.
    bind (pattern_at s terminal n₂) (λ pattern n₃.
    guard (eqb c (2 + flag constraints))
    (got (record {
      mask = mask;
      modes = n + length k_modes;
      constraints = (placed constraints).at;
      pairs = (placed constraints).size;
      pattern = pattern;
    }) n₃)))))

-- what is seen of a grant
abbrev pub grant_of : GrantFields → GrantSeen
grant_of f = record {
  mask = f.mask;
  modes = f.modes;
  constraints = f.constraints;
  pairs = f.pairs;
  pattern =
      span_of f.pattern f.len;
}

-- that and the place after it, or a refusal
abbrev pub grant_read : Option (GrantFields × ℕ) → Got GrantSeen
grant_read = got_by grant_of

-- the sum over grants
abbrev pub sum_of : sums.Sum → Sum
sum_of sum = record { mask = sum.mask; pairs = sum.pairs }

-- that and the place after it, or a refusal
abbrev pub sum_read : Option (sums.Sum × ℕ) → Got Sum
sum_read = got_by sum_of

-- what is seen of the grants
abbrev pub grants_of : GrantsFields → GrantsSeen
grants_of g = record { count = g.count; start = g.start; first = g.first; sum = sum_of g.sum }

-- that and the place after it, or a refusal
abbrev pub grants_read : Option (GrantsFields × ℕ) → Got GrantsSeen
grants_read = got_by grants_of

-- ---- the payload

-- metadata, issued_at, issuer_id and not_after
abbrev pub issue_of : IssueFields → Issue
issue_of f = record {
  metadata = f.metadata;
  issued_at = f.issued_at;
  issuer = span_of f.issuer.at f.issuer.len;
  not_after =
      f.not_after;
}

-- that and the place after it, or a refusal
abbrev pub issue_read : Option (IssueFields × ℕ) → Got Issue
issue_read = got_by issue_of

-- grantor_id and not_before
abbrev pub grantor_of : GrantorFields → Grantor
grantor_of f = record { grantor = f.grantor; not_before = f.not_before }

-- that and the place after it, or a refusal
abbrev pub grantor_read : Option (GrantorFields × ℕ) → Got Grantor
grantor_read = got_by grantor_of

-- terminal_id, descriptor_id and subject_fay_id
abbrev pub ids_of : IdsFields → Ids
ids_of f = record { terminal = f.terminal; id = f.id; fay = f.fay }

-- that and the place after it, or a refusal
abbrev pub ids_read : Option (IdsFields × ℕ) → Got Ids
ids_read = got_by ids_of

-- what is seen of a payload
abbrev pub payload_of : PayloadFields → PayloadSeen
payload_of f = seen_in f.keys (grants_of f.grants) (issue_of f.issue) (grantor_of f.grantor) (ids_of f.ids)

-- that and the place after it, or a refusal
abbrev pub payload_read : Option (PayloadFields × ℕ) → Got PayloadSeen
payload_read = got_by payload_of

-- ---- the whole

-- what is seen of a payload of n bytes at 9 and a signature
abbrev pub seen_of : PayloadFields → ℕ → SignatureFields → Seen
seen_of p n g = record { covered = span_of 9 n; payload = payload_of p; signature = signature_of g }
