use Rattle.std.proofs.Common.{ℕ, ◌^◌, ◌≤◌, ℤ, pos, neg_ℤ, ◌≤ℤ◌, arith, rules}
use Rattle.std.proofs.lemmas.Int.{ints}
use Rattle.std.specs.Prelude.{◌*ℤ◌}
use Rattle.match_rules.specs.declared.rules.TheConstants.{MOST_TICKETS}
use Rattle.dual_check.proofs.Ints.{times_within}
use Rattle.dual_check.proofs.amounts.for_all.Goals as goal

within : (n : ℕ) (z : ℤ) → n ≤ MOST_TICKETS → neg_ℤ (pos (2 ^ 98)) ≤ℤ z → z ≤ℤ pos (2 ^ 98)
    → ((neg_ℤ (pos (2 ^ 112)) ≤ℤ (pos n *ℤ z)) × ((pos n *ℤ z) ≤ℤ pos (2 ^ 112)))
within n z few above below =
    let bounds = times_within n MOST_TICKETS (2 ^ 98) z few above below in
    (omega (arith, ints), omega (arith, ints))

pub overflow_mul-result : goal.overflow_mul-result
overflow_mul-result c =
    let bounds = within c.args.tickets c.args.sum c.requires.few c.requires.above c.requires.below in
    search rules

pub returns-clause-low : goal.returns-clause-low
returns-clause-low c =
    let bounds = within c.args.tickets c.args.sum c.requires.few c.requires.above c.requires.below in
    search rules

pub returns-clause-high : goal.returns-clause-high
returns-clause-high c =
    let bounds = within c.args.tickets c.args.sum c.requires.few c.requires.above c.requires.below in
    search rules
