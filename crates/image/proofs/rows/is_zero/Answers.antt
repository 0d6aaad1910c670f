-- `is_zero` meets its contract.
use mathlib.Core.Path.{◌∙◌}
use mathlib.Core.List.{List}
use Prim.Native.Nat.{ℕ, ◌+◌, ◌-◌}
use lib.ListN.{take, drop}
use lib.Dec.{eqb}
use Rattle.std.proofs.Common.{rules, tests}
use Rattle.std.proofs.lemmas.Iterator.{YieldsList-from_slice}
use Rattle.std.proofs.lemmas.Iterator.Search.{all_from_yields_List}
use Rattle.image.proofs.CheckCode.{zeros_are}
use Rattle.image.proofs.rows.is_zero.Goals as goal

pub returns : goal.returns
returns c =
    let a = c.args in
    let bytes : List ℕ = take (a.at + a.n - a.at) (drop a.at a.s.now) in
    all_from_yields_List (λ b. eqb b 0) _ _ _ c.all.ensures.ran (YieldsList-from_slice bytes cc) (λ x b q k. search (rules, tests))
    ∙ zeros_are _ _ _ c.requires
