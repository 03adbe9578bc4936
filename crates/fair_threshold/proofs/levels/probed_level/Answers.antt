use Rattle.std.specs.Prelude.{pos}
use Rattle.match_rules.specs.declared.answer.Sieve.TheVariants.{All as EveryPair, Above}
use Rattle.match_rules.specs.Rules.{RulesValue, most_score}
use Rattle.match_rules.specs.SharesFit.{SharesFit}
use Rattle.match_rules.proofs.SieveLaws.{finer-every_pair, shares_fit-more}
use Rattle.fair_threshold.proofs.LockedLaws.{locked-fits}
use Rattle.fair_threshold.proofs.levels.probed_level.Goals as goal

pub returns-in-Fits-clause-level : goal.returns-in-Fits-clause-level
returns-in-Fits-clause-level c =
    let all : RulesValue = c.args.rules.now in
    let fit : SharesFit all (Above (pos most_score)) c.in-Fits._shares = rw c.in-Fits.is at c.in_ok-_shares.ensures in
    locked-fits all c.in-Fits._shares c.pairs-pairs.ensures.kept fit

pub returns-in-Fits-clause-none : goal.returns-in-Fits-clause-none
returns-in-Fits-clause-none c =
    let all : RulesValue = c.args.rules.now in
    let fit : SharesFit all (Above (pos most_score)) c.in-Fits._shares = rw c.in-Fits.is at c.in_ok-_shares.ensures in (
      λ none. absurd none,
      λ none. none c.in-Fits._shares (shares_fit-more all (Above (pos most_score)) EveryPair c.in-Fits._shares (finer-every_pair (Above (pos most_score))) fit),
    )
