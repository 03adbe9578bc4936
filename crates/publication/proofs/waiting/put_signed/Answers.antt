use Rattle.std.proofs.Common.{rules}
use Rattle.std.proofs.lemmas.Int.{to_z-of_z}
use Rattle.std.specs.Int.{w128}
use Rattle.std.specs.Fmt.{signed_decimal}
use Rattle.std.specs.Prelude.{[], ◌∷◌}
use Rattle.text_lines.specs.Texts.{line_of}
use Rattle.publication.proofs.WaitingLaws.{puts_front, puts_both}
use Rattle.publication.proofs.waiting.put_signed.Goals as goal

pub returns-in_err-make_room-clause-puts : goal.returns-in_err-make_room-clause-puts
returns-in_err-make_room-clause-puts g c = puts_front _ c.in_err-make_room.ensures.puts c.from_residual.ensures.0

pub returns-clause-puts : goal.returns-clause-puts
unfolding line_of
returns-clause-puts g c = puts_both (signed_decimal c.args.number) (10 ∷ []) c.in_ok-make_room.ensures.puts (rw (c.push_signed.ensures.text, to_z-of_z w128 c.args.number (search rules)) at c.push.ensures)
