use Rattle.std.proofs.Common.{◌∙◌}
use Rattle.roster.proofs.Copies.{copied}
use Rattle.score_spec.proofs.spec.Sources.copy.Goals as goal

pub loop-source-preserved : goal.loop-source-preserved
loop-source-preserved c = c.in_ok-push.ensures.items ∙ copied _ _ _ c.source-item.result c.in_ok-copy.field-0 c.loop-source-test.true c.source-item.is c.in_ok-copy.ensures c.loop-source.invariant
