use Rattle.std.proofs.Common.{None, arith}
use Rattle.desk_history.specs.Courses.{history_of}
use Rattle.desk_history.proofs.EditLaws.{edits_bound}
use Rattle.desk_history.proofs.KeptLaws.{kept_with_room}
use Rattle.desk_history.proofs.notes.note_edit.Goals as goal

-- there are no more editions than commands
pub overflow_add-reply : goal.overflow_add-reply
overflow_add-reply c =
    let few = edits_bound (history_of c.args.entries.now) in
    omega (arith, few, c.requires.kept.are.edits, c.requires.kept.are.commands, c.requires.commands)

pub note_edit-requires-clause-edits : goal.note_edit-requires-clause-edits
note_edit-requires-clause-edits c =
    let few = edits_bound (history_of c.args.entries.now) in
    omega (arith, few, c.requires.kept.are.edits, c.requires.kept.are.commands, c.requires.commands)

pub returns-clause-kept : goal.returns-clause-kept
returns-clause-kept c =
    kept_with_room _ c.note_accepted.new.entries c.note_edit.new.self c.note_accepted.ensures.entry
    (c.note_edit.ensures (history_of c.args.entries.now) c.args.caller c.args.number c.args.base c.args.edit _ None c.requires.more c.requires.venue c.requires.rules c.requires.kept.are)
    (omega (arith, c.note_accepted.ensures.len, c.note_accepted.ensures.capacity, c.requires.room))
