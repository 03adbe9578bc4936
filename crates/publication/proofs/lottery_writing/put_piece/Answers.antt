use Rattle.publication.specs.AnswerForms.{piece_line}
use Rattle.publication.specs.CutForms.{marks_line}
use Rattle.publication.proofs.lottery_writing.put_piece.Goals as goal

pub returns-clause-puts : goal.returns-clause-puts
unfolding piece_line marks_line
returns-clause-puts g c = rw (c.as_slice.ensures, c.push_number.ensures.text, c.new-weight.ensures, c.from.ensures, c.as_slice-2.ensures) at c.put_places.ensures.puts
