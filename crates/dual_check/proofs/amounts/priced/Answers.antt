use Rattle.std.proofs.Common.{ℕ, ◌^◌, ◌≤◌, ℤ, pos, neg_ℤ, ◌≤ℤ◌, arith, rules}
use Rattle.std.proofs.lemmas.Int.{ints}
use Rattle.std.specs.Prelude.{◌*ℤ◌}
use Rattle.dual_check.specs.declared.amounts.TheConstants.{MOST_AMOUNT}
use Rattle.dual_check.proofs.Ints.{times_within}
use Rattle.dual_check.proofs.amounts.priced.Goals as goal

within : (n : ℕ) (z : ℤ) → n ≤ MOST_AMOUNT → neg_ℤ (pos (2 ^ 66)) ≤ℤ z → z ≤ℤ pos (2 ^ 66)
    → ((neg_ℤ (pos (2 ^ 80)) ≤ℤ (pos n *ℤ z)) × ((pos n *ℤ z) ≤ℤ pos (2 ^ 80)))
within n z few above below =
    let bounds = times_within n MOST_AMOUNT (2 ^ 66) z few above below in
    (omega (arith, ints), omega (arith, ints))

pub overflow_mul-result : goal.overflow_mul-result
overflow_mul-result c =
    let bounds = within c.args.amount c.args.price c.requires.few c.requires.above c.requires.below in
    search rules

pub returns-clause-low : goal.returns-clause-low
returns-clause-low c =
    let bounds = within c.args.amount c.args.price c.requires.few c.requires.above c.requires.below in
    search rules

pub returns-clause-high : goal.returns-clause-high
returns-clause-high c =
    let bounds = within c.args.amount c.args.price c.requires.few c.requires.above c.requires.below in
    search rules
