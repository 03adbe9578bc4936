use Rattle.std.proofs.Common.{◌≡◌, length, arith, rules}
use Rattle.std.proofs.lemmas.List.{length-reverse}
use Rattle.desk_history.specs.Courses.{history_of}
use Rattle.desk_history.proofs.KeptLaws.{kept_with_room}
use Rattle.desk_history.proofs.notes.note_publish.Goals as goal

pub returns-clause-kept : goal.returns-clause-kept
returns-clause-kept c =
    kept_with_room _ c.note_accepted.new.entries c.note_publish.new.self c.note_accepted.ensures.entry
    (c.note_publish.ensures (history_of c.args.entries.now) c.args.caller c.args.number _ (search (rules, length-reverse, c.len.ensures)) c.requires.more c.requires.kept.are)
    (omega (arith, c.note_accepted.ensures.len, c.note_accepted.ensures.capacity, c.requires.room))
