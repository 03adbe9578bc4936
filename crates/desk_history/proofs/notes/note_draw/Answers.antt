use Rattle.std.proofs.Common.{None, arith}
use Rattle.desk_history.specs.Courses.{history_of}
use Rattle.desk_history.proofs.KeptLaws.{kept_with_room}
use Rattle.desk_history.proofs.notes.note_draw.Goals as goal

pub returns-clause-kept : goal.returns-clause-kept
returns-clause-kept c =
    kept_with_room _ c.note_accepted.new.entries c.note_draw.new.self c.note_accepted.ensures.entry
    (c.note_draw.ensures (history_of c.args.entries.now) c.args.caller c.args.text c.args.number _ None c.ticket_by-ticket.ensures c.requires.more c.requires.kept.are)
    (omega (arith, c.note_accepted.ensures.len, c.note_accepted.ensures.capacity, c.requires.room))
