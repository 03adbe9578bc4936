use Rattle.desk_history.specs.Histories.{put}
use Rattle.desk_history.specs.Refusals.{edit_refusal}
use Rattle.desk_reopening.proofs.commands.make_edited.Goals as goal

pub returns-in-Err : goal.returns-in-Err
returns-in-Err c = c.fault_of.ensures (edit_refusal c.args.tables.now.edits c.args.base (put c.args.tables.now.venue c.args.edit.now)) c.in-Err.ensures
