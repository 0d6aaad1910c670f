-- `read_form` meets its contract.
use mathlib.Core.Path.{ap, ◌∙◌}
use Rattle.std.proofs.Common.{Some}
use Rattle.entries_spec.specs.Keys.{k_payload, k_version, k_signature, k_key_id}
use Rattle.descriptor_spec.specs.Reader.{before_payload, before_key_id}
use Rattle.descriptor.proofs.ReadCode.{signed, form_all}
use Rattle.descriptor.proofs.whole.read_form.Goals as goal

pub returns : goal.returns
unfolding before_payload before_key_id k_payload k_version k_signature k_key_id
returns c =
    ap Some c.fields_of.ensures
    ∙ form_all _ c.if-s-gt-LONGEST.false
    (signed _ c.in_ok-begins.ensures c.in_ok-payload.ensures c.in_ok-after_key.ensures c.in_ok-signature.ensures) c.if-end-s.false
