use Rattle.std.proofs.Common.{rules, ◌∙◌, ap, sym, subst}
use Rattle.match_rules.specs.Answers.{PricesMatch}
use Rattle.match_rules.specs.Evidence.{bound}
use Rattle.bounded_network.proofs.BackLaws.{prices-match}
use Rattle.bounded_network.proofs.PriceLaws.{bound-is_score}
use Rattle.bounded_network.proofs.back.prices_of.Goals as goal

pub returns-clause-value : goal.returns-clause-value
returns-clause-value c = search rules

pub returns-clause-fitting : goal.returns-clause-fitting
returns-clause-fitting c =
    subst (λ prices. PricesMatch c.args.rules.now prices) (sym (returns-clause-value c)) (prices-match c.args.rules.now c.args.potentials.now c.paper_prices.ensures.kept c.requires.within)

pub returns-clause-bound : goal.returns-clause-bound
returns-clause-bound c flow round best =
    ap (bound c.args.rules.now c.args.sieve) (returns-clause-value c)
    ∙ bound-is_score c.args.rules.now c.args.sieve c.args.potentials.now c.paper_prices.ensures.kept flow round best
