use Rattle.std.proofs.Common.{List, ap, reverse}
use Rattle.desk_history.specs.declared.entries.Entry.{Entry}
use Rattle.desk_history.specs.Courses.{history_of}
use Rattle.desk_reopening.proofs.EditionLaws.{none_makes}
use Rattle.desk_reopening.proofs.FrontLaws.{empty_kept, whole_benches, whole_bytes, whole_legal, whole_opens, whole_rows}
use Rattle.desk_reopening.proofs.reopening.reopen.Goals as goal

pub replay_rows-requires-clause-kept : goal.replay_rows-requires-clause-kept
replay_rows-requires-clause-kept g c = empty_kept c.new-entries.result c.in-Ok.tables c.new-entries.ensures.items c.new-entries.ensures.len c.in-Ok.ensures

pub replay_rows-requires-clause-editions : goal.replay_rows-requires-clause-editions
replay_rows-requires-clause-editions g c =
    let none = ap (λ (items : List Entry). reverse items) c.new-entries.ensures.items in
    let kept = empty_kept c.new-entries.result c.in-Ok.tables c.new-entries.ensures.items c.new-entries.ensures.len c.in-Ok.ensures in
    none_makes (history_of c.new-entries.result) none (c.edition_laws.ensures (history_of c.new-entries.result) kept.are)

pub returns-in-Ok-replay_rows-clause-bytes : goal.returns-in-Ok-replay_rows-clause-bytes
returns-in-Ok-replay_rows-clause-bytes g c = whole_bytes (g.P.Keeper.rows c.replay_rows.new.keeper) c.replay_rows.new.entries c.replay_rows.new.tables c.in-Ok-replay_rows.ensures.kept c.in-Ok-replay_rows.ensures.whole

pub returns-in-Ok-replay_rows-clause-told : goal.returns-in-Ok-replay_rows-clause-told
returns-in-Ok-replay_rows-clause-told g c = whole_rows (g.P.Keeper.rows c.replay_rows.new.keeper) (history_of c.replay_rows.new.entries) c.in-Ok-replay_rows.ensures.whole

pub returns-in-Ok-replay_rows-clause-legal : goal.returns-in-Ok-replay_rows-clause-legal
returns-in-Ok-replay_rows-clause-legal g c = λ chairs. whole_legal (g.P.Keeper.rows c.replay_rows.new.keeper) chairs (history_of c.replay_rows.new.entries) c.in-Ok-replay_rows.ensures.whole

pub returns-in-Ok-replay_rows-clause-sound : goal.returns-in-Ok-replay_rows-clause-sound
returns-in-Ok-replay_rows-clause-sound g c = λ some. (whole_opens (g.P.Keeper.rows c.replay_rows.new.keeper) (history_of c.replay_rows.new.entries) c.in-Ok-replay_rows.ensures.whole some).sound

pub returns-in-Ok-replay_rows-clause-benches : goal.returns-in-Ok-replay_rows-clause-benches
returns-in-Ok-replay_rows-clause-benches g c = whole_benches (g.P.Keeper.rows c.replay_rows.new.keeper) (history_of c.replay_rows.new.entries) c.in-Ok-replay_rows.ensures.whole
