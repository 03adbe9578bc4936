use Rattle.fair_threshold.proofs.LevelLaws.{threshold-at, threshold-free, threshold-none, threshold-score}
use Rattle.fair_threshold.proofs.thresholds.threshold.Goals as goal

pub returns-clause-free : goal.returns-clause-free
returns-clause-free c = threshold-free c.args.rules.now c.in_ok-threshold.threshold c.pairs-pairs.ensures.kept c.in_ok-threshold.ensures

pub returns-clause-at : goal.returns-clause-at
returns-clause-at c = threshold-at c.args.rules.now c.in_ok-threshold.threshold c.pairs-pairs.ensures.kept c.in_ok-threshold.ensures

pub returns-clause-none : goal.returns-clause-none
returns-clause-none c = threshold-none c.args.rules.now c.in_ok-threshold.threshold c.pairs-pairs.ensures.kept c.in_ok-threshold.ensures

pub returns-clause-score : goal.returns-clause-score
returns-clause-score c = threshold-score c.args.rules.now c.in_ok-threshold.threshold c.pairs-pairs.ensures.kept c.in_ok-threshold.ensures
