-- `match_grant` meets its contract: the first bytes of a resource id are those of a terminal id.
use Rattle.std.proofs.Common.{sym, arith}
use Rattle.std.proofs.Math.Seq.{length-take-le}
use Rattle.resource_spec.specs.Identifier.{terminal_size}
use Rattle.resource_spec.proofs.Laws.{resource_short}
use Rattle.request.proofs.decide.match_grant.Goals as goal

pub slice_bounds-same_bytes-end-2 : goal.slice_bounds-same_bytes-end-2
slice_bounds-same_bytes-end-2 c =
    sym (length-take-le terminal_size c.args.resource.now (omega (arith, (resource_short _ c.requires.0).0)))
