use Rattle.std.proofs.Common.{subst, arith, ◌≤◌, length}
use Rattle.match_rules.specs.GroupTable.{IsGroupTable}
use Rattle.match_rules.specs.Rules.{AreRules}
use Rattle.match_rules.proofs.GroupLaws.{group_count_few, groups_ascend}
use Rattle.match_rules.proofs.rules.Rules.group_count.Goals as goal

pub overflow_cast-result : goal.overflow_cast-result
overflow_cast-result c =
    let good : AreRules c.args.self.now = subst AreRules c.self.view_is c.self.invariant.0 in
    let most : length c.args.self.now.pairs ≤ 250000 = good.pairs.few in
    let table = subst (λ rules. IsGroupTable rules c.self.inside.groups.of_pair.items c.self.inside.groups.firsts.items) c.self.view_is c.self.invariant.2 in
    omega (arith, table.count, most, group_count_few c.args.self.now)

pub returns-clause-few : goal.returns-clause-few
returns-clause-few c =
    let table = subst (λ rules. IsGroupTable rules c.self.inside.groups.of_pair.items c.self.inside.groups.firsts.items) c.self.view_is c.self.invariant.2 in
    omega (arith, table.count, group_count_few c.args.self.now)

pub returns-clause-ascending : goal.returns-clause-ascending
returns-clause-ascending c = groups_ascend c.args.self.now
