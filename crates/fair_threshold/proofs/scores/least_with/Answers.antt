use Rattle.std.proofs.Common.{rules, ◌≡◌, to_z, of_z, w64}
use Rattle.match_rules.specs.Rules.{RulesValue, pair_at}
use Rattle.fair_threshold.specs.Search.{IsUsed, lower_of}
use Rattle.fair_threshold.proofs.ScoreLaws.{least-more}
use Rattle.fair_threshold.proofs.scores.least_with.Goals as goal

pub returns : goal.returns
returns c =
    let all : RulesValue = c.args.rules.now in
    let is : to_z w64 (of_z w64 c.lower.result) ≡ lower_of c.args.least (pair_at all c.args.pair).score = search rules in
    let used : IsUsed all c.args.shares.now c.args.pair = search rules in
    rw is (least-more all c.args.shares.now c.args.pair c.args.least c.requires.before c.requires.place used)
