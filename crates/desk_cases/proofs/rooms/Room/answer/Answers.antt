use Rattle.desk_history.specs.Steps.{step}
use Rattle.desk_cases.proofs.RoomLaws.{all_stay}
use Rattle.desk_cases.proofs.rooms.Room.answer.Goals as goal

pub invariant_of-self : goal.invariant_of-self
invariant_of-self c = record {
  told = c.answer.ensures.told;
  work = all_stay (step c.self.inside.desk.chairs c.self.inside.desk.history c.args.request) c.self.inside.desk.history c.answer.result c.answer.new.self.history c.answer.ensures.step
      c.self.inside.given.items c.self.invariant.work;
}
