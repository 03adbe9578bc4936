use Rattle.std.proofs.Common.{rules, ◌≡◌, to_z, of_z}
use Rattle.match_rules.specs.Evidence.{bound}
use Rattle.dual_check.proofs.PriceLaws.{no_lottery_beats_bound}
use Rattle.dual_check.proofs.prices.bound.Goals as goal

pub returns-clause-unbeaten : goal.returns-clause-unbeaten
returns-clause-unbeaten c = λ lottery fits.
    let value : to_z mir.Syntax.w128 (of_z mir.Syntax.w128 c.plus.result) ≡ bound c.args.rules.now c.args.sieve c.args.prices.now = search rules in
    rw value (no_lottery_beats_bound c.args.rules.now c.args.sieve c.args.prices.now lottery c.tickets.ensures.kept fits)
