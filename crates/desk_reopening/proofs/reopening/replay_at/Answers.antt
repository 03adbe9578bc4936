use Rattle.desk_history.specs.Courses.{history_of}
use Rattle.desk_reopening.proofs.EditionLaws.{row_makes}
use Rattle.desk_reopening.proofs.reopening.replay_at.Goals as goal

pub returns-in-Ok-clause-editions : goal.returns-in-Ok-clause-editions
returns-in-Ok-clause-editions c =
    row_makes (history_of c.args.entries.now) c.args.row.now (history_of c.replay_row.new.entries) c.in-Ok.ensures.replay.is c.requires.editions
    (c.edition_laws.ensures (history_of c.replay_row.new.entries) c.in-Ok.ensures.kept.are)
