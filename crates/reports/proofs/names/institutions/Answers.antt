use Rattle.std.proofs.Common.{ap, ◌∙◌}
use Rattle.reports.proofs.OrderLaws.{are_in_order}
use Rattle.reports.specs.Institutions.{in_order}
use Rattle.reports.proofs.names.institutions.Goals as goal

pub returns : goal.returns
returns c =
    are_in_order _ _ c.distinct_names.ensures.ascending c.distinct_names.ensures.kept c.distinct_names.ensures.only
    ∙ ap in_order c.in_ok-all_names.ensures
