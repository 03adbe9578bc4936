use Rattle.std.proofs.Common.{◌≡◌, rules, to_z, of_z, w64}
use Rattle.match_rules.specs.declared.answer.Sieve.TheVariants.{All as EveryPair}
use Rattle.match_rules.specs.Rules.{RulesValue}
use Rattle.fair_threshold.proofs.LevelLaws.{ceiling-asked, range-of}
use Rattle.fair_threshold.proofs.LockedLaws.{unused-locked}
use Rattle.fair_threshold.proofs.ScoreLaws.{used-open}
use Rattle.fair_threshold.proofs.SieveLaws.{fit-from_least}
use Rattle.fair_threshold.proofs.descent.range_of.Goals as goal

pub unreachable-requires : goal.unreachable-requires
unreachable-requires c =
    let all : RulesValue = c.args.rules.now in
    ceiling-asked all c.args.ceiling c.pairs-pairs.ensures.kept c.requires.ceiling
    (unused-locked all EveryPair c.args.shares c.pairs-pairs.ensures.kept c.in-None.ensures c.requires.fit)

pub returns : goal.returns
returns c =
    let all : RulesValue = c.args.rules.now in
    let low : to_z w64 (of_z w64 c.in-Some.low) ≡ c.in-Some.low = search rules in
    let high : to_z w64 (of_z w64 c.args.ceiling.high) ≡ c.args.ceiling.high = search rules in
    range-of all c.in-Some.low c.args.ceiling.high (to_z w64 (of_z w64 c.in-Some.low)) (to_z w64 (of_z w64 c.args.ceiling.high)) c.args.shares c.args.ceiling.cut low high
    (used-open all c.args.shares c.in-Some.low c.in-Some.ensures.0) (fit-from_least all EveryPair c.args.shares c.in-Some.low c.in-Some.ensures.1 c.requires.fit)
    c.requires.ceiling.known c.requires.ceiling.above
