use Rattle.std.proofs.Common.{◌≡◌, rules, to_z, of_z, w64}
use Rattle.match_rules.specs.Rules.{RulesValue}
use Rattle.fair_threshold.specs.Levels.{IsLevelAt}
use Rattle.solve_line.proofs.VerdictLaws.{level-at, level-free}
use Rattle.solve_line.proofs.solving.solve_fair.Goals as goal

pub solve_level-requires-clause-level : goal.solve_level-requires-clause-level
solve_level-requires-clause-level c = level-free c.args.rules.now (rw c.in-Free.is at c.in_ok-level_of.ensures.level)

pub solve_level-requires-clause-some : goal.solve_level-requires-clause-some
solve_level-requires-clause-some c =
    let none = rw c.in-Free.is at c.in_ok-level_of.ensures.none in
    λ nothing. none.1 nothing

pub solve_level-requires-in-At-clause-level : goal.solve_level-requires-in-At-clause-level
solve_level-requires-in-At-clause-level c =
    let all : RulesValue = c.args.rules.now in
    let at : IsLevelAt all c.in-At.score c.in-At._shares c.in-At.cut = rw c.in-At.is at c.in_ok-level_of.ensures.level in
    let same : to_z w64 (of_z w64 c.in-At.score) ≡ c.in-At.score = search rules in
    rw same (level-at all c.in-At.score c.in-At._shares c.in-At.cut c.pairs-pairs.ensures.kept at)
