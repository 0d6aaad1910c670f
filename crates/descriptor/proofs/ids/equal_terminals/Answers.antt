-- `equal_terminals` meets its contract.
use Rattle.octets.proofs.PartLaws.{start_parts}
use Rattle.descriptor.proofs.ids.equal_terminals.Goals as goal

pub returns : goal.returns
returns c =
    start_parts c.args.s.now c.args.s.now c.args.a c.args.b _ c.requires.0 c.requires.1 c.same_start.ensures
