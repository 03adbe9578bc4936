use Rattle.match_rules.proofs.SieveLaws.{finer-every_pair, finer-at_least, finer-above, finer-equal, finer-greater, keeps-more, fits-more, shares_fit-more, times-dropped, keeps-locked, fits-locked}
use Rattle.match_rules.proofs.sieves.sieve_laws.Goals as goal

pub returns : goal.returns
returns c = record {
  every_pair = finer-every_pair;
  at_least = finer-at_least;
  above = finer-above;
  equal = finer-equal;
  greater = finer-greater;
  pairs = keeps-more;
  lotteries = fits-more;
  shares = shares_fit-more;
  dropped = times-dropped;
  alone = keeps-locked;
  locked = fits-locked;
}
