-- `no_upper` meets its contract. The invariant: the flag and the characters that are left say whether all are no letters of A-Z.
use Rattle.uuids.proofs.UuidCode.{Left}
use Rattle.uuids.proofs.no_upper.Given as goal

abbrev pub invariant-loop-c : goal.invariant-loop-c
invariant-loop-c l = Left l.t l.ok l.c-index
