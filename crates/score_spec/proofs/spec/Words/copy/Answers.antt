use Rattle.std.proofs.Common.{◌∙◌}
use Rattle.roster.proofs.Copies.{copied}
use Rattle.score_spec.proofs.spec.Words.copy.Goals as goal

pub loop-word-preserved : goal.loop-word-preserved
loop-word-preserved c = c.in_ok-push.ensures.items ∙ copied _ _ _ c.word-item.result c.in_ok-copy.field-0 c.loop-word-test.true c.word-item.is c.in_ok-copy.ensures c.loop-word.invariant
