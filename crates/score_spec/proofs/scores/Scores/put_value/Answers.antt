use Rattle.score_spec.proofs.SourceTables.{stands-after, others-after}
use Rattle.score_spec.proofs.scores.Scores.put_value.Goals as goal

pub returns-clause-stands : goal.returns-clause-stands
returns-clause-stands c = stands-after c.put_into_source.result c.args.source.now c.args.paper c.args.reviewer c.args.value c.self.inside.values c.put_into_source.new.tables c.put_into_source.ensures.put

pub returns-clause-others : goal.returns-clause-others
returns-clause-others c =
    rw (← c.self.view_is) (others-after c.put_into_source.result c.args.source.now c.args.paper c.args.reviewer c.args.value c.self.inside.values c.put_into_source.new.tables c.put_into_source.ensures.put)
