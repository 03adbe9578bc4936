use Rattle.std.proofs.Common.{◌≡◌, List, ℕ, ◌++◌, length, arith, ap, refl, ◌∙◌}
use Rattle.std.proofs.Math.Seq.{take-length}
use Rattle.match_rules.specs.Rules.{RulesValue}
use Rattle.bounded_network.specs.Totals.{AreSums}
use Rattle.bounded_network.proofs.Tallies.{joined-flow}
use Rattle.bounded_network.proofs.totals.amounts_of.Goals as goal

pub returns : goal.returns
returns c =
    let all : RulesValue = c.args.rules.now in
    let shares : List ℕ = c.args.shares.now in
    let same : c.as_slice-of_pairs.result.now ≡ shares = c.as_slice-of_pairs.ensures in
    let sums : AreSums all shares c.in_ok-sums.sums = rw same at c.in_ok-sums.ensures in
    let end : c.loop-share.share-index ≡ length shares = omega (arith, ap length same) in
    let pairs : c.loop-share.amounts.items ≡ shares = rw (end, same, take-length shares) at c.loop-share.invariant in
    let joined : c.extend_from_slice-3.new.self.items ≡ ((shares ++ c.in_ok-sums.sums.papers.items) ++ c.in_ok-sums.sums.of_groups.items) ++ c.in_ok-sums.sums.reviewers.items =
    c.in_ok-extend_from_slice-3.ensures.items ∙ (rw (c.as_slice-3.ensures.value, c.in_ok-extend_from_slice-2.ensures.items, c.as_slice-2.ensures.value, c.in_ok-extend_from_slice.ensures.items, c.as_slice.ensures.value, pairs) refl) in
    joined-flow all shares c.in_ok-sums.sums c.extend_from_slice-3.new.self.items c.requires sums joined
