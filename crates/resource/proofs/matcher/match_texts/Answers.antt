-- `match_texts` meets its contract.
use mathlib.Core.Path.{ap, ◌∙◌}
use native.Mathlib.Omega.{arith}
use Rattle.std.proofs.Common.{Ok}
use Rattle.resource.proofs.TextCode.{match_no_pattern, match_terminals, match_malformed, matched}
use Rattle.resource.proofs.matcher.match_texts.Goals as goal

pub returns-then-not-is_pattern : goal.returns-then-not-is_pattern
returns-then-not-is_pattern c = match_no_pattern _ _ c.if-not-is_pattern.ensures

pub returns-then-not-same_start : goal.returns-then-not-same_start
returns-then-not-same_start c =
    c.other_terminal.ensures ∙ match_terminals _ _ c.if-not-is_pattern.ensures c.if-not-same_start.ensures

pub returns-then-not-below : goal.returns-then-not-below
returns-then-not-below c =
    match_malformed _ _ c.if-not-is_pattern.ensures c.if-not-same_start.ensures c.if-not-below.ensures

pub slice_bounds-match_levels-count : goal.slice_bounds-match_levels-count
slice_bounds-match_levels-count c = (matched _ _ c.if-not-is_pattern.ensures c.if-not-same_start.ensures c.if-not-below.ensures).p_long

pub slice_bounds-match_levels-start : goal.slice_bounds-match_levels-start
slice_bounds-match_levels-start c = omega (arith, (matched _ _ c.if-not-is_pattern.ensures c.if-not-same_start.ensures c.if-not-below.ensures).p_long)

pub slice_bounds-match_levels-count-2 : goal.slice_bounds-match_levels-count-2
slice_bounds-match_levels-count-2 c = (matched _ _ c.if-not-is_pattern.ensures c.if-not-same_start.ensures c.if-not-below.ensures).r_long

pub slice_bounds-match_levels-start-2 : goal.slice_bounds-match_levels-start-2
slice_bounds-match_levels-start-2 c = omega (arith, (matched _ _ c.if-not-is_pattern.ensures c.if-not-same_start.ensures c.if-not-below.ensures).r_long)

pub returns : goal.returns
returns c =
    let m = matched _ _ c.if-not-is_pattern.ensures c.if-not-same_start.ensures c.if-not-below.ensures in
    ap Ok (c.match_levels.ensures.named m.starless) ∙ m.answer
