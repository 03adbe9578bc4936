use Rattle.std.proofs.Common.{◌≡◌, rules, to_z, of_z, w64}
use Rattle.match_rules.specs.declared.answer.Sieve.TheVariants.{All as EveryPair, AtLeast}
use Rattle.match_rules.specs.Rules.{RulesValue}
use Rattle.match_rules.specs.Thresholds.{CanFit}
use Rattle.match_rules.proofs.SieveLaws.{finer-every_pair, shares_fit-more}
use Rattle.fair_threshold.specs.Levels.{IsLevelAt}
use Rattle.fair_threshold.proofs.LevelLaws.{level-threshold}
use Rattle.fair_threshold.proofs.thresholds.found_threshold.Goals as goal

pub peel-requires-clause-fit : goal.peel-requires-clause-fit
peel-requires-clause-fit c =
    let all : RulesValue = c.args.rules.now in
    let at : IsLevelAt all c.in-At.score c.in-At.shares c.in-At.cut = rw c.in-At.is at c.in_ok-level_of.ensures.level in
    shares_fit-more all (AtLeast c.in-At.score) EveryPair c.in-At.shares (finer-every_pair (AtLeast c.in-At.score)) at.fit

pub returns-in_ok-_lottery-in-At : goal.returns-in_ok-_lottery-in-At
returns-in_ok-_lottery-in-At c =
    let all : RulesValue = c.args.rules.now in
    let at : IsLevelAt all c.in-At.score c.in-At.shares c.in-At.cut = rw c.in-At.is at c.in_ok-level_of.ensures.level in
    let feasible : CanFit all (AtLeast c.in-At.score) = (c.in_ok-_lottery-in-At._lottery, c.in_ok-_lottery-in-At.ensures.fits (AtLeast c.in-At.score) at.fit) in
    let same : to_z w64 (of_z w64 c.in-At.score) ≡ c.in-At.score = search rules in
    rw same
    (record {
      threshold = level-threshold all c.in-At.score c.in-At.shares c.in-At.cut c.pairs-pairs.ensures.kept at feasible;
      known = at.known;
      above = at.above;
    })
