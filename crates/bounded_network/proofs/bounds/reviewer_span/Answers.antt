use Rattle.std.proofs.Common.{◌≡◌, length, ap, ◌∙◌, arith}
use Rattle.match_rules.specs.Rules.{RulesValue}
use Rattle.match_rules.specs.SharesFit.{reviewer_shares}
use Rattle.bounded_network.specs.Spans.{rounded}
use Rattle.bounded_network.specs.Totals.{AreSums}
use Rattle.bounded_network.proofs.Parts.{length-listed, listed-at}
use Rattle.bounded_network.proofs.bounds.reviewer_span.Goals as goal

pub index-requires : goal.index-requires
index-requires c =
    let all : RulesValue = c.args.rules.now in
    let sums : AreSums all c.in-Rounded.shares.now c.args.totals.now = rw c.in-Rounded.is at c.requires.totals in
    omega (arith, ap length sums.reviewers, length-listed (length all.reviewers) (reviewer_shares all c.in-Rounded.shares.now), c.requires.within)

pub returns-in-Rounded : goal.returns-in-Rounded
returns-in-Rounded c =
    let all : RulesValue = c.args.rules.now in
    let sums : AreSums all c.in-Rounded.shares.now c.args.totals.now = rw c.in-Rounded.is at c.requires.totals in
    let found = rw sums.reviewers at c.index.ensures in
    let is : c.index.result.now ≡ reviewer_shares all c.in-Rounded.shares.now c.args.r =
    found ∙ listed-at (length all.reviewers) c.args.r (reviewer_shares all c.in-Rounded.shares.now) c.index.result.now c.requires.within in
    rw c.in-Rounded.is (c.rounded_span.ensures ∙ ap (rounded c.in-Rounded.left) is)
