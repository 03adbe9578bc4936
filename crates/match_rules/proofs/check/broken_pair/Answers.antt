use Rattle.std.proofs.Common.{length, rules, ◌∙◌}
use Rattle.match_rules.specs.Breaks.{share_break, cap_break}
use Rattle.match_rules.specs.First.{first_below}
use Rattle.match_rules.proofs.Counted.{shares_counted, caps_counted}
use Rattle.match_rules.proofs.Firsts.{first_of_two-first, first_of_two-second, none-tested}
use Rattle.match_rules.proofs.check.broken_pair.Goals as goal

pub returns-then-is_some : goal.returns-then-is_some
returns-then-is_some c =
    let of = c.args.rules.now in
    let share = c.broken_share-broken.ensures ∙ shares_counted c.args.shares.now c.count_times.new.counts c.args.pieces.now (length of.pairs) c.count_times.ensures in
    first_of_two-first _ (first_below (length of.pairs) (cap_break of c.args.pieces.now)) _ share (search rules)

pub returns : goal.returns
returns c =
    let of = c.args.rules.now in
    let share = c.broken_share-broken.ensures ∙ shares_counted c.args.shares.now c.count_times.new.counts c.args.pieces.now (length of.pairs) c.count_times.ensures in
    let cap = c.broken_cap.ensures ∙ caps_counted of c.count_times.new.counts c.args.pieces.now (length of.pairs) c.count_times.ensures in
    first_of_two-second (first_below (length of.pairs) (share_break c.args.shares.now c.args.pieces.now)) _ _
    (none-tested _ _ c.is_some.result share c.is_some.ensures (search rules)) cap
