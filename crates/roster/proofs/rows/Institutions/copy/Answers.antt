use Rattle.std.proofs.Common.{◌∙◌}
use Rattle.roster.proofs.Copies.{copied}
use Rattle.roster.proofs.rows.Institutions.copy.Goals as goal

pub loop-institution-preserved : goal.loop-institution-preserved
loop-institution-preserved c = c.in_ok-push.ensures.items ∙ copied _ _ _ c.institution-item.result c.in_ok-copy.field-0 c.loop-institution-test.true c.institution-item.is c.in_ok-copy.ensures.same c.loop-institution.invariant
