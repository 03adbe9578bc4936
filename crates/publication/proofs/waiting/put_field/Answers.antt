use Rattle.std.specs.Prelude.{[], ◌∷◌, decimal}
use Rattle.publication.proofs.WaitingLaws.{puts_front, puts_both}
use Rattle.publication.proofs.waiting.put_field.Goals as goal

pub returns-in_err-make_room-clause-puts : goal.returns-in_err-make_room-clause-puts
returns-in_err-make_room-clause-puts g c = puts_front _ c.in_err-make_room.ensures.puts c.from_residual.ensures.0

pub returns-clause-puts : goal.returns-clause-puts
returns-clause-puts g c = puts_both (32 ∷ []) (decimal c.args.number) c.in_ok-make_room.ensures.puts (rw (c.push.ensures, c.from.ensures) at c.push_number.ensures.text)
