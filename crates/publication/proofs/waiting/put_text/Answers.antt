use Rattle.publication.proofs.WaitingLaws.{puts_front}
use Rattle.publication.proofs.waiting.put_text.Goals as goal

pub returns-in_err-make_room-clause-puts : goal.returns-in_err-make_room-clause-puts
returns-in_err-make_room-clause-puts g c = puts_front _ c.in_err-make_room.ensures.puts c.from_residual.ensures.0
