use Rattle.std.proofs.Common.{rules, ◌≡◌, length, slice_index, arith}
use Rattle.match_rules.specs.Rules.{RulesValue, AreRules}
use Rattle.match_rules.specs.Groups.{group_count, is_in_group}
use Rattle.bounded_network.specs.Totals.{AreWords}
use Rattle.bounded_network.proofs.Tallies.{tally-small, tally-all}
use Rattle.bounded_network.proofs.totals.of_groups.Goals as goal

pub add-requires-clause-fits : goal.add-requires-clause-fits
add-requires-clause-fits c =
    let all : RulesValue = c.args.rules.now in
    let are : AreRules all = c.group_count.ensures.kept in
    let words : AreWords c.args.shares.now = search rules in
    tally-small (group_count all) (is_in_group all) (slice_index c.args.shares.now) c.loop-e.e c.loop-e.totals.items c.in-Some.group
    c.loop-e.invariant words (omega (arith, are.pairs.few)) c.in-Some.ensures.below

pub returns : goal.returns
returns c =
    let all : RulesValue = c.args.rules.now in
    let end : c.loop-e.e ≡ length all.pairs = omega (arith, c.requires) in
    rw end at (tally-all (group_count all) (is_in_group all) (slice_index c.args.shares.now) c.loop-e.e c.loop-e.totals.items c.loop-e.invariant)
