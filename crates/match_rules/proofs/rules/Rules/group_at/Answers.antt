use Rattle.std.proofs.Common.{◌≡◌, subst, get_or}
use Rattle.match_rules.specs.Rules.{RulesValue}
use Rattle.match_rules.specs.GroupTable.{IsGroupTable}
use Rattle.match_rules.proofs.GroupFirsts.{read_first}
use Rattle.match_rules.proofs.rules.Rules.group_at.Goals as goal

pub returns-clause-paper : goal.returns-clause-paper
returns-clause-paper c =
    let table = subst (λ rules. IsGroupTable rules c.self.inside.groups.of_pair.items c.self.inside.groups.firsts.items) c.self.view_is c.self.invariant.2 in
    let pair = c.index-pair.result.now in
    let at : pair ≡ get_or c.args.self.now.pairs c.index-first.result.now pair = subst (λ (rules : RulesValue). pair ≡ get_or rules.pairs c.index-first.result.now pair) c.self.view_is c.index-pair.ensures in
    (read_first c.args.self.now _ _ c.args.group c.index-first.result.now pair table c.requires c.index-first.ensures at).paper

pub returns-clause-reviewer : goal.returns-clause-reviewer
returns-clause-reviewer c =
    let table = subst (λ rules. IsGroupTable rules c.self.inside.groups.of_pair.items c.self.inside.groups.firsts.items) c.self.view_is c.self.invariant.2 in
    let pair = c.index-pair.result.now in
    let at : pair ≡ get_or c.args.self.now.pairs c.index-first.result.now pair = subst (λ (rules : RulesValue). pair ≡ get_or rules.pairs c.index-first.result.now pair) c.self.view_is c.index-pair.ensures in
    (read_first c.args.self.now _ _ c.args.group c.index-first.result.now pair table c.requires c.index-first.ensures at).reviewer
