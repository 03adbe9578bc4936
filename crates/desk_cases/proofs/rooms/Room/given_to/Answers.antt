use Rattle.desk_cases.proofs.RoomLaws.{all_but}
use Rattle.desk_cases.proofs.rooms.Room.given_to.Goals as goal

pub invariant_of-self : goal.invariant_of-self
invariant_of-self c = record {
  told = c.self.invariant.told;
  work = all_but c.self.inside.desk.history c.self.inside.given.items c.in_ok-place.place c.remove-snapshot.new.self.items c.remove-snapshot.ensures.items c.self.invariant.work;
}
