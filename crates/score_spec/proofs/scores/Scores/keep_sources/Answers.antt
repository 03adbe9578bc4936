use Rattle.std.proofs.Common.{[]}
use Rattle.score_spec.specs.Scores.{has_values}
use Rattle.score_spec.proofs.PairTables.{value-filter}
use Rattle.score_spec.proofs.scores.Scores.keep_sources.Goals as goal

pub returns-clause-tables : goal.returns-clause-tables
returns-clause-tables c = λ name. rw (c.keep_tables.ensures, ← c.self.view_is) (value-filter (has_values c.args.spec.now.sources) c.self.inside.values name [])
