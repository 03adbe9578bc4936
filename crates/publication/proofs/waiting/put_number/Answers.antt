use Rattle.std.specs.Prelude.{[], ◌∷◌, decimal}
use Rattle.text_lines.specs.Texts.{line_of}
use Rattle.publication.proofs.WaitingLaws.{puts_front, puts_both}
use Rattle.publication.proofs.waiting.put_number.Goals as goal

pub returns-in_err-make_room-clause-puts : goal.returns-in_err-make_room-clause-puts
returns-in_err-make_room-clause-puts g c = puts_front _ c.in_err-make_room.ensures.puts c.from_residual.ensures.0

pub returns-clause-puts : goal.returns-clause-puts
unfolding line_of
returns-clause-puts g c = puts_both (decimal c.args.number) (10 ∷ []) c.in_ok-make_room.ensures.puts (rw (c.push_number.ensures.text, c.from.ensures) at c.push.ensures)
