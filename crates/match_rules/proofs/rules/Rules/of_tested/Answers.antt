use Rattle.std.proofs.Common.{sym}
use Rattle.match_rules.specs.Rules.{rules_value}
use Rattle.match_rules.proofs.Locked.{locked_places-of_pairs}
use Rattle.match_rules.proofs.rules.Rules.of_tested.Goals as goal

pub of_parts-requires-clause-locked : goal.of_parts-requires-clause-locked
of_parts-requires-clause-locked c =
    rw (c.in_ok-locked.ensures, c.as_slice.ensures.value) (locked_places-of_pairs _ _ _ _ c.args.pairs.items)

pub of_parts-requires-clause-groups : goal.of_parts-requires-clause-groups
of_parts-requires-clause-groups c =
    c.in_ok-groups.ensures (rules_value c.args.tickets c.args.limit c.args.papers.items c.args.reviewers.items c.args.pairs.items)
    (sym c.as_slice-2.ensures.value) (sym c.as_slice-3.ensures.value)
