-- `read_span` meets its contract.
use mathlib.Core.Path.{◌∙◌}
use Rattle.cbor_item.proofs.SpanCode.{byte_span}
use Rattle.cbor_item.proofs.head.read_span.Goals as goal

pub returns-then-b-major : goal.returns-then-b-major
returns-then-b-major c = c.span_by_byte.ensures ∙ byte_span _ _ _ c.if-s-at.false c.if-b-major.true
