use Rattle.std.proofs.Common.{◌<◌, arith, ◌∙◌}
use Rattle.match_rules.specs.Groups.{group_count}
use Rattle.match_rules.proofs.GroupCounts.{no_over_break, over_break_is}
use Rattle.match_rules.proofs.group_check.over_break.Goals as goal

pub returns-then-group-group_count : goal.returns-then-group-group_count
returns-then-group-group_count c =
    no_over_break c.args.rules.now c.args.k c.least_over-group.result c.args.places.now c.least_over-group.ensures (c.if-group-group_count.true ∙ c.group_count.ensures.value)

pub returns : goal.returns
returns c =
    let size = c.requires.counts.size in
    let within : c.least_over-group.result < group_count c.args.rules.now = omega (arith, c.least_over-group.ensures.within, c.group_count.ensures.value, c.if-group-group_count.false) in
    over_break_is c.args.rules.now c.args.k c.least_over-group.result _ c.args.places.now c.least_over-group.ensures within (c.requires.counts.each c.least_over-group.result (omega arith))
