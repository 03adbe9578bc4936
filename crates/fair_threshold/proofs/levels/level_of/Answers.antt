use Rattle.fair_threshold.proofs.LevelLaws.{level-becomes, level-free, level-greatest}
use Rattle.fair_threshold.proofs.levels.level_of.Goals as goal

pub returns-clause-free : goal.returns-clause-free
returns-clause-free c = level-free c.args.rules.now c.in_ok-level.level c.pairs-pairs.ensures.kept c.in_ok-level.ensures.level

pub returns-clause-greatest : goal.returns-clause-greatest
returns-clause-greatest c = level-greatest c.args.rules.now c.in_ok-level.level c.pairs-pairs.ensures.kept c.in_ok-level.ensures.level

pub returns-clause-threshold : goal.returns-clause-threshold
returns-clause-threshold c = level-becomes c.args.rules.now c.in_ok-level.level c.pairs-pairs.ensures.kept c.in_ok-level.ensures.level
