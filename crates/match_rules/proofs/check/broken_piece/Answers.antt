use Rattle.std.proofs.Common.{◌≡◌, length, Option, None, rules}
use Rattle.match_rules.specs.Breaks.{in_pieces, demand_break, load_break, group_break}
use Rattle.match_rules.specs.First.{first_of_two}
use Rattle.match_rules.specs.Groups.{group_count}
use Rattle.match_rules.proofs.Firsts.{none-tested}
use Rattle.match_rules.proofs.check.broken_piece.Goals as goal

last_of_four : {X : Type 0} (a b c d answer : Option X) → a ≡ None → b ≡ None → c ≡ None → answer ≡ d → answer ≡ first_of_two a (first_of_two b (first_of_two c d))
last_of_four a b c d answer none_a none_b none_c is = rw none_a (rw none_b (rw none_c is))

pub returns : goal.returns
returns c =
    let rules_of = c.args.rules.now in
    let pieces = c.args.pieces.now in
    last_of_four _ _ _ _ _
    (none-tested _ (in_pieces pieces (length rules_of.papers) (demand_break rules_of)) c.is_some.result c.broken_demand-broken.ensures c.is_some.ensures (search rules))
    (none-tested _ (in_pieces pieces (length rules_of.reviewers) (load_break rules_of)) c.is_some-2.result c.broken_load-broken.ensures c.is_some-2.ensures (search rules))
    (none-tested _ (in_pieces pieces (group_count rules_of) (group_break rules_of)) c.is_some-3.result c.broken_group-broken.ensures c.is_some-3.ensures (search rules))
    c.broken_lock.ensures
