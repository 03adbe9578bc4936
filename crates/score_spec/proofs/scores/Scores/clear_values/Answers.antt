use Rattle.std.proofs.Common.{[], ap}
use Rattle.std.specs.Option.{unwrap_or}
use Rattle.score_spec.proofs.PairTables.{without-others}
use Rattle.score_spec.proofs.scores.Scores.clear_values.Goals as goal

pub returns-clause-none : goal.returns-clause-none
returns-clause-none c = ap (λ found. unwrap_or found []) c.remove.ensures.none

pub returns-clause-others : goal.returns-clause-others
returns-clause-others c = λ name ne. rw (c.remove.ensures.removed, ← c.self.view_is) (ap (λ found. unwrap_or found []) (without-others c.args.source.now c.self.inside.values name ne))
