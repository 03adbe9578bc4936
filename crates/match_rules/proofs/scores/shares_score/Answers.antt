use Rattle.std.proofs.Common.{◌≡◌, rules, sym, ◌∙◌, arith, to_z}
use Rattle.std.proofs.lemmas.Int.{ints}
use Rattle.match_rules.specs.SharesFit.{shares_score}
use Rattle.match_rules.proofs.SumLaws.{sum_below_next}
use Rattle.match_rules.proofs.Totals.{total_of_shares}
use Rattle.match_rules.proofs.scores.shares_score.Goals as goal

pub loop-pair-preserved : goal.loop-pair-preserved
loop-pair-preserved c = (rw sum_below_next (omega (arith, ints)), omega (arith, ints), omega (arith, ints))

pub returns-clause-total : goal.returns-clause-total
returns-clause-total c lottery known exact =
    let value : to_z mir.Syntax.w128 c.loop-pair.sum-bits ≡ shares_score c.args.rules.now c.args.shares.now = search rules in
    total_of_shares c.args.rules.now c.args.shares.now lottery known exact ∙ sym value
