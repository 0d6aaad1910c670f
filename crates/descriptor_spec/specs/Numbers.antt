-- A reader of the promises does not need this page: what each number is of the descriptor or the grant that was read is promised in
-- specs/Promises.antt of `descriptor_spec`. What reading hands back, in document 01's numbers; the names and the order are those of
-- include/cap.h.
use Rattle.std.specs.Prelude.{List, ℕ}
use Rattle.time.specs.Time.{seconds}
use Rattle.octets.specs.Span.{Span, span_of, inside}
use Rattle.exact.specs.Reads.{Got, got, refused}
use Rattle.descriptor_spec.specs.declared.Part.{Part}
use Rattle.descriptor_spec.specs.declared.Fields.{Fields}
use Rattle.descriptor_spec.specs.Reading.{Reading}
use Rattle.std.specs.Prelude.{Ok, Err}
use Rattle.descriptor_spec.specs.declared.ReadError.TheVariants.{Structure, Validity}
use Rattle.descriptor_spec.specs.declared.DescriptorNumbers.{DescriptorNumbers}
use Rattle.descriptor_spec.specs.declared.GrantNumbers.{GrantNumbers}
use Rattle.descriptor_spec.specs.Reader.{GrantSeen}

-- an answer and fields
abbrev pub answer_numbers : ℕ → Fields → DescriptorNumbers
answer_numbers n f =
    record {
      answer = n;
      payload_at = f.payload.at;
      payload_len = f.payload.len;
      issued_at = f.issued_at.0;
      not_before = f.not_before.0;
      not_after = f.not_after.0;
      id_at = f.id;
      issuer_at = f.issuer.at;
      issuer_len = f.issuer.len;
      grantor_at = f.grantor.at;
      grantor_len = f.grantor.len;
      fay_at = f.fay;
      terminal_at = f.terminal;
      grants = f.grants;
      metadata_at = f.metadata;
      metadata_pairs = f.pairs;
      constraint_pairs = f.constraints;
      mask = f.mask;
      key_id_at = f.key.at;
      key_id_len = f.key.len;
      algorithm = f.algorithm;
      signature_at = f.signature.at;
      signature_len = f.signature.len;
    }

-- no part of the bytes
abbrev pub no_part : Part
no_part = record { at = 0; len = 0 }

-- fields that are all 0
abbrev pub zero_fields : Fields
zero_fields =
    record {
      payload = no_part;
      issued_at = seconds 0;
      not_before = seconds 0;
      not_after = seconds 0;
      id = 0;
      issuer = no_part;
      grantor = no_part;
      fay = 0;
      terminal = 0;
      grants = 0;
      first = 0;
      metadata = 0;
      pairs = 0;
      constraints = 0;
      mask = 0;
      key = no_part;
      algorithm = 0;
      signature = no_part;
    }

-- 0 and the fields
abbrev pub field_numbers : Fields → DescriptorNumbers
field_numbers f = answer_numbers 0 f

-- a refusal's other numbers are 0
abbrev pub no_fields : ℕ → DescriptorNumbers
no_fields n = answer_numbers n zero_fields

-- document 01's answer and values of a reading
abbrev pub numbers_of : Reading → DescriptorNumbers
numbers_of (Ok f) = field_numbers f
numbers_of (Err Structure) = no_fields 1
numbers_of (Err Validity) = no_fields 2

-- document 01's number of a reading
abbrev pub number_of : Reading → ℕ
number_of r = (numbers_of r).answer

-- where the payload of what was read stands in s; nothing at the start on a refusal
abbrev pub payload_span : List ℕ → Reading → Span
payload_span s (Ok f) = inside s f.payload.at f.payload.len
payload_span s (Err e) = span_of 0 0

-- a grant: found and what is seen of it, or zeros
abbrev pub grant_numbers : Got GrantSeen → GrantNumbers
grant_numbers (got g next) =
    record {
      found = 1;
      pattern_at = g.pattern.start;
      pattern_len = g.pattern.len;
      mask = g.mask;
      modes_at = g.modes;
      constraints_at = g.constraints;
      constraint_pairs = g.pairs;
    }
grant_numbers refused = record {
  found = 0;
  pattern_at = 0;
  pattern_len = 0;
  mask = 0;
  modes_at = 0;
  constraints_at = 0;
  constraint_pairs = 0;
}
