use Rattle.std.proofs.Common.{◌≡◌}
use Rattle.std.proofs.lemmas.Result.{IfOk-weaker}
use Rattle.match_rules.specs.Rules.{RulesValue}
use Rattle.match_rules.specs.GroupTable.{IsCounted, IsGroupTable}
use Rattle.match_rules.proofs.GroupCodes.{table_is}
use Rattle.match_rules.proofs.groups.group_table.Goals as goal

pub table_of-requires-clause-there : goal.table_of-requires-clause-there
table_of-requires-clause-there c x h =
    rw c.deref-4.ensures.value (c.in_ok-numbers.ensures.all x (rw c.deref-2.ensures.value (rw c.deref-3.ensures.value at h)))

pub returns : goal.returns
returns c =
    IfOk-weaker c.table_of.result
    (λ table. IsCounted c.deref-3.result.now c.deref-4.result.now table.of_pair.items table.firsts.items)
    (λ table. (rules : RulesValue) → rules.reviewers ≡ c.args.reviewers.now → rules.pairs ≡ c.args.pairs.now → IsGroupTable rules table.of_pair.items table.firsts.items)
    (λ table counted rules of_reviewers of_pairs.
    table_is rules c.args.reviewers.now c.args.pairs.now c.in_ok-ranks.ranks.items c.deref.result.now c.in_ok-codes.codes.items c.deref-2.result.now c.deref-3.result.now c.in_ok-numbers.numbers.items c.deref-4.result.now
    c.in_ok-ranks.ensures (λ e h. (c.requires.places e h).1)
    c.deref.ensures.value c.in_ok-codes.ensures c.deref-2.ensures.value c.deref-3.ensures.value c.deref-4.ensures.value
    c.in_ok-numbers.ensures.ascending c.in_ok-numbers.ensures.all c.in_ok-numbers.ensures.only
    of_reviewers of_pairs table.of_pair.items table.firsts.items counted)
    c.table_of.ensures
