use Rattle.std.proofs.Common.{ℕ, ◌^◌, ◌≤◌, ℤ, pos, neg_ℤ, ◌≤ℤ◌, arith, rules, FitsSigned, w64}
use Rattle.std.proofs.lemmas.Int.{ints}
use Rattle.std.specs.Prelude.{◌*ℤ◌}
use Rattle.match_rules.specs.declared.rules.TheConstants.{MOST_TICKETS}
use Rattle.match_rules.proofs.Ints.{times_within}
use Rattle.reports.proofs.papers.term.Goals as goal

within : (n : ℕ) (z : ℤ) → n ≤ MOST_TICKETS → FitsSigned w64 z
    → ((neg_ℤ (pos (2 ^ 80)) ≤ℤ (pos n *ℤ z)) × ((pos n *ℤ z) ≤ℤ pos (2 ^ 80)))
within n z few fits =
    let bounds = times_within n MOST_TICKETS (2 ^ 63) z few (omega (arith, ints)) (omega (arith, ints)) in
    (omega (arith, ints), omega (arith, ints))

pub overflow_mul-result : goal.overflow_mul-result
overflow_mul-result c =
    let bounds = within c.args.share c.args.score c.requires c.ranges.score in
    search rules

pub returns-clause-low : goal.returns-clause-low
returns-clause-low c =
    let bounds = within c.args.share c.args.score c.requires c.ranges.score in
    search rules

pub returns-clause-high : goal.returns-clause-high
returns-clause-high c =
    let bounds = within c.args.share c.args.score c.requires c.ranges.score in
    search rules
