use Rattle.desk_cases.proofs.RoomLaws.{if_taken}
use Rattle.desk_cases.proofs.rooms.Room.take.Goals as goal

pub note_taken-requires : goal.note_taken-requires
note_taken-requires c = if_taken c.args.self.now.history c.args.bench c.answer-reply.result c.answer-reply.new.self.history c.answer-reply.ensures
