use Rattle.std.proofs.Common.{◌∷◌, None, arith}
use Rattle.desk_history.specs.Courses.{history_of}
use Rattle.desk_history.specs.Rows.{named}
use Rattle.desk_history.specs.Steps.{accepted}
use Rattle.desk_keeper.specs.declared.words.Command.TheVariants.{Submit}
use Rattle.desk_history.proofs.KeptLaws.{kept_with_room}
use Rattle.desk_history.proofs.notes.note_submit.Goals as goal

pub returns-clause-kept : goal.returns-clause-kept
returns-clause-kept c =
    kept_with_room _ c.note_accepted.new.entries c.note_submit.new.self c.note_accepted.ensures.entry
    (c.note_submit.ensures (history_of c.args.entries.now) c.args.caller c.args.number c.args.base _ None c.requires.more c.requires.kept.are)
    (omega (arith, c.note_accepted.ensures.len, c.note_accepted.ensures.capacity, c.requires.room))
