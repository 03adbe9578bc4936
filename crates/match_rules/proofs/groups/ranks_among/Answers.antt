use Rattle.std.proofs.Common.{ap, sym, ◌∙◌}
use Rattle.std.proofs.lemmas.List.{get_or_read}
use Rattle.match_rules.specs.Rules.{no_reviewer}
use Rattle.match_rules.specs.declared.rules.RuleReviewer.{RuleReviewer}
use Rattle.match_rules.proofs.groups.ranks_among.Goals as goal

pub rank_of-requires-clause-there : goal.rank_of-requires-clause-there
rank_of-requires-clause-there c name has =
    c.requires.there c.loop-reviewer.reviewer-index name c.loop-reviewer-test.true
    (ap (λ (v : RuleReviewer). v.institution) (sym (get_or_read _ _ _ c.loop-reviewer-test.true c.reviewer-item.is no_reviewer)) ∙ has)
