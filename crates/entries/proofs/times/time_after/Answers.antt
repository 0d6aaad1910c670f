-- `time_after` meets its contract.
use mathlib.Core.Path.{◌≡◌, sym, ◌∙◌}
use Prim.Native.Nat.{◌+◌}
use native.Mathlib.Omega.{arith}
use lib.ListN.{length, length-append}
use Rattle.entries_spec.proofs.FixedLaws.{number_there, time_found}
use Rattle.entries.proofs.Laws.{key_to}
use Rattle.entries.proofs.times.time_after.Goals as goal

pub overflow_add-result : goal.overflow_add-result
overflow_add-result c = omega (arith, number_there _ _ 4 _ c.number_at-n.ensures.value (omega arith))

pub returns-then-n-ge-LEAST_OF_FOUR : goal.returns-then-n-ge-LEAST_OF_FOUR
returns-then-n-ge-LEAST_OF_FOUR c =
    let found = key_to _ _ _ (sym c.in-Some.is ∙ c.requires) in
    let ends : c.in-Some.place ≡ c.args.at + length c.args.key.now + 1 = found.ends ∙ simp length-append (omega arith) in
    time_found _ _ _ _ _ _ ends (omega (arith, ends)) found.there c.number_at-n.ensures.value c.if-n-ge-LEAST_OF_FOUR.true
    c.number_at-n.ensures.upper_bound
