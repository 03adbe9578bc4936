use Rattle.std.proofs.Common.{◌≡◌, ◌<◌, None, length, subst, ◌∙◌, arith}
use Rattle.std.proofs.lemmas.List.{get_or_read}
use Rattle.match_rules.specs.Groups.{group_of}
use Rattle.match_rules.specs.GroupTable.{IsGroupTable}
use Rattle.match_rules.proofs.GroupLaws.{is_below, is_of_paper, is_none_where}
use Rattle.match_rules.proofs.rules.Rules.group_of.Goals as goal

pub returns-clause-below : goal.returns-clause-below
returns-clause-below c =
    let table = subst (λ rules. IsGroupTable rules c.self.inside.groups.of_pair.items c.self.inside.groups.firsts.items) c.self.view_is c.self.invariant.2 in
    let within : c.args.pair < length c.self.inside.groups.of_pair.items = omega (arith, table.pairs, c.requires) in
    let is : c.index.result.now ≡ group_of c.args.self.now c.args.pair = get_or_read _ _ _ within c.index.ensures None ∙ table.each c.args.pair c.requires in
    is_below c.args.self.now c.args.pair c.index.result.now is

pub returns-clause-paper : goal.returns-clause-paper
returns-clause-paper c =
    let table = subst (λ rules. IsGroupTable rules c.self.inside.groups.of_pair.items c.self.inside.groups.firsts.items) c.self.view_is c.self.invariant.2 in
    let within : c.args.pair < length c.self.inside.groups.of_pair.items = omega (arith, table.pairs, c.requires) in
    let is : c.index.result.now ≡ group_of c.args.self.now c.args.pair = get_or_read _ _ _ within c.index.ensures None ∙ table.each c.args.pair c.requires in
    is_of_paper c.args.self.now c.args.pair c.index.result.now is

pub returns-clause-none : goal.returns-clause-none
returns-clause-none c =
    let table = subst (λ rules. IsGroupTable rules c.self.inside.groups.of_pair.items c.self.inside.groups.firsts.items) c.self.view_is c.self.invariant.2 in
    let within : c.args.pair < length c.self.inside.groups.of_pair.items = omega (arith, table.pairs, c.requires) in
    let is : c.index.result.now ≡ group_of c.args.self.now c.args.pair = get_or_read _ _ _ within c.index.ensures None ∙ table.each c.args.pair c.requires in
    is_none_where c.args.self.now c.args.pair c.index.result.now c.requires is
