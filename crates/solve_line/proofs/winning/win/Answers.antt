use Rattle.std.proofs.Common.{◌≡◌, rules, to_z, of_z}
use Rattle.std.specs.Prelude.{ℤ}
use Rattle.match_rules.specs.Evidence.{bound}
use Rattle.match_rules.specs.Rules.{RulesValue}
use Rattle.match_rules.specs.SharesFit.{SharesFit, shares_score}
use Rattle.match_rules.specs.Thresholds.{sieve_of}
use Rattle.match_rules.proofs.SieveLaws.{finer-every_pair, shares_fit-more}
use Rattle.match_rules.specs.declared.answer.Sieve.TheVariants.{All as EveryPair}
use Rattle.solve_line.proofs.VerdictLaws.{found-certified}
use Rattle.solve_line.proofs.winning.win.Goals as goal

pub peel-requires-clause-fit : goal.peel-requires-clause-fit
peel-requires-clause-fit c =
    let all : RulesValue = c.args.rules.now in
    shares_fit-more all c.sieve_of-sieve.result EveryPair c.in_ok-shares.shares (finer-every_pair c.sieve_of-sieve.result) c.in_ok-shares.ensures.fit

pub returns : goal.returns
returns c =
    let all : RulesValue = c.args.rules.now in
    let total : ℤ = to_z mir.Syntax.w128 (of_z mir.Syntax.w128 c.bound-total.result) in
    let same : c.sieve_of-sieve.result ≡ sieve_of c.args.level = c.sieve_of-sieve.ensures in
    let is_found : total ≡ bound all c.sieve_of-sieve.result c.in_ok-prices.prices = search rules in
    let is_bound : total ≡ bound all (sieve_of c.args.level) c.in_ok-prices.prices = rw same at is_found in
    let fit : SharesFit all (sieve_of c.args.level) c.in_ok-shares.shares = rw same at c.in_ok-shares.ensures.fit in
    let priced = rw same at c.in_ok-prices.ensures.bound in
    let is_score : bound all (sieve_of c.args.level) c.in_ok-prices.prices ≡ shares_score all c.in_ok-shares.shares =
    rw c.in_ok-shares.ensures.value (priced c.args.flow.now c.requires.circulates c.requires.optimal) in
    record {
      certified = found-certified all c.args.mode c.args.level c.in_ok-shares.shares c.in_ok-prices.prices total c.in_ok-lottery.lottery c.pairs-pairs.ensures.kept c.requires.level (record {
        fit = fit;
        prices_match = c.in_ok-prices.ensures.fitting;
        is_bound = is_bound;
        is_score = is_score;
        whole = c.in_ok-lottery.ensures.whole;
        exact = c.in_ok-lottery.ensures.exact;
        meets = c.in_ok-lottery.ensures.meets;
        fits = c.in_ok-lottery.ensures.fits (sieve_of c.args.level) fit;
      });
      rounded = c.in_ok-lottery.ensures.rounded;
      few = c.in_ok-lottery.ensures.few;
    }
