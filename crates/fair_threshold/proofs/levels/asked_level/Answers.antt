use Rattle.std.proofs.Common.{◌≡◌, rules, to_z, of_z, w64}
use Rattle.match_rules.specs.Rules.{RulesValue}
use Rattle.fair_threshold.specs.Levels.{IsLevelAt}
use Rattle.fair_threshold.proofs.LevelLaws.{ceiling-asked, level-met}
use Rattle.fair_threshold.proofs.levels.asked_level.Goals as goal

pub narrowed-requires-clause-asked : goal.narrowed-requires-clause-asked
narrowed-requires-clause-asked c = ceiling-asked c.args.rules.now c.args.ceiling c.pairs-pairs.ensures.kept c.requires.ceiling

pub returns-in_ok-range-in-Between-clause-level : goal.returns-in_ok-range-in-Between-clause-level
returns-in_ok-range-in-Between-clause-level c =
    let all : RulesValue = c.args.rules.now in
    let same : to_z w64 (of_z w64 c.in_ok-range-in-Between.range.low) ≡ c.in_ok-range-in-Between.range.low = search rules in
    rw same
    (level-met all c.in_ok-range-in-Between.range c.pairs-pairs.ensures.kept (ceiling-asked all c.args.ceiling c.pairs-pairs.ensures.kept c.requires.ceiling)
    c.in_ok-range-in-Between.ensures.range c.in_ok-range-in-Between.ensures.met)
