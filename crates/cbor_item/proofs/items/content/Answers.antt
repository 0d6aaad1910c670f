-- `content` meets its contract.
use mathlib.Core.Path.{◌≡◌, refl}
use native.Mathlib.Omega.{arith}
use Rattle.std.proofs.Common.{rules}
use Rattle.octets.specs.Bytes.{part}
use Rattle.octets.specs.Span.{span_of}
use Rattle.cbor_item_spec.specs.Item.{content_span}
use Rattle.cbor_item.proofs.items.content.Goals as goal
use Rattle.cbor_item.proofs.items.content.Goals.{in_default-via-in-Some+in_default, in_default-via-in_default}

pub returns-in_default : goal.returns-in_default
unfolding part
returns-in_default c =
    let none : content_span c.args.s.now c.args.item ≡ span_of 0 0 =
    elim c.in_default.branch [ in_default-via-in-Some+in_default w ↦ search rules | in_default-via-in_default w ↦ search rules ] in
    rw none (record { inside = omega arith; holds = refl; block = refl; offset = omega arith })
