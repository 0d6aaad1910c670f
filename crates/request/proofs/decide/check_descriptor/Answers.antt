-- `check_descriptor` meets its contract: one fact for each step that passes.
use Rattle.std.proofs.Common.{arith}
use Rattle.resource_spec.specs.Identifier.{fay_size, terminal_size}
use Rattle.steps.specs.Order.{in_order, or_else}
use Rattle.request_spec.specs.Decision.{descriptor_steps}
use Rattle.request.specs.Code.{applicability_of}
use Rattle.request.proofs.DecideCode.{lent_same, descriptor_laws}
use Rattle.request.proofs.decide.check_descriptor.Goals as goal

pub returns-then-not-same_bytes : goal.returns-then-not-same_bytes
unfolding applicability_of descriptor_steps in_order or_else
returns-then-not-same_bytes c =
    let subject = lent_same c.args.body.now c.args.asked.fay.now c.args.fields.fay fay_size c.same_bytes.ensures in
    grind (arith, descriptor_laws)

pub returns-then-not-same_bytes-2 : goal.returns-then-not-same_bytes-2
unfolding applicability_of descriptor_steps in_order or_else
returns-then-not-same_bytes-2 c =
    let subject = lent_same c.args.body.now c.args.asked.fay.now c.args.fields.fay fay_size c.same_bytes.ensures in
    let terminal = lent_same c.args.body.now c.args.asked.terminal.now c.args.fields.terminal terminal_size c.same_bytes-2.ensures in
    grind (arith, descriptor_laws)

pub returns : goal.returns
unfolding applicability_of descriptor_steps in_order or_else
returns c =
    let subject = lent_same c.args.body.now c.args.asked.fay.now c.args.fields.fay fay_size c.same_bytes.ensures in
    let terminal = lent_same c.args.body.now c.args.asked.terminal.now c.args.fields.terminal terminal_size c.same_bytes-2.ensures in
    grind (arith, descriptor_laws)
