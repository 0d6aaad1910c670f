-- A reader of the promises does not need this page.
-- What reading answers, and what it answers before the period is looked at, for what is seen.
use Rattle.std.specs.Prelude.{cond, ◌-◌, leb, Option as CodeOption, Some, None, Ok, Err}
use Rattle.std.proofs.Math.Option.{Option, none, some}
use Rattle.time.specs.Time.{seconds}
use Rattle.octets.specs.Span.{Span}
use Rattle.entries_spec.specs.Value.{placed}
use Rattle.descriptor_spec.specs.declared.Part.{Part}
use Rattle.descriptor_spec.specs.declared.Fields.{Fields}
use Rattle.descriptor_spec.specs.declared.ReadError.TheVariants.{Structure, Validity}
use Rattle.descriptor_spec.specs.Reading.{Reading}
use Rattle.descriptor_spec.specs.Allowed.{longest_period}
use Rattle.descriptor_spec.specs.Reader.{Seen, Answer, read, structure, validity}

-- a part of the bytes
abbrev pub part_of : Span → Part
part_of c = record { at = c.start; len = c.len }

-- the fields of what is seen of a descriptor
abbrev pub fields_of : Seen → Fields
fields_of v =
    record {
      payload = part_of v.covered;
      issued_at = seconds v.payload.issued_at;
      not_before = seconds v.payload.not_before;
      not_after = seconds v.payload.not_after;
      id = v.payload.id;
      issuer = part_of v.payload.issuer;
      grantor = record { at = (placed v.payload.grantor).at; len = (placed v.payload.grantor).size };
      fay = v.payload.fay;
      terminal = v.payload.terminal;
      grants = v.payload.grants.count;
      first = v.payload.grants.start;
      metadata = (placed v.payload.metadata).at;
      pairs = (placed v.payload.metadata).size;
      constraints = v.payload.grants.sum.pairs;
      mask = v.payload.grants.sum.mask;
      key = part_of v.signature.key_id;
      algorithm = v.signature.algorithm;
      signature = part_of v.signature.value;
    }

-- what reading answers
abbrev pub reading_of : Answer → Reading
reading_of (read v) = Ok (fields_of v)
reading_of structure = Err Structure
reading_of validity = Err Validity

-- what it answers before the period is looked at
abbrev pub form_of : Option Seen → CodeOption Fields
form_of (some v) = Some (fields_of v)
form_of none = None

-- what it answers by the period of some fields
unfoldable pub within_period : Fields → Reading
within_period f = cond (leb (f.not_after.0 - f.not_before.0) longest_period) (Ok f) (Err Validity)

-- what it answers then
abbrev pub reading_in : CodeOption Fields → Reading
reading_in (Some f) = within_period f
reading_in None = Err Structure
