use Rattle.text_lines.specs.Texts.{line_of}
use Rattle.publication.specs.CutForms.{marks_line}
use Rattle.publication.proofs.WaitingLaws.{puts_first, puts_front, puts_then, fields_are}
use Rattle.publication.proofs.waiting.put_places.Goals as goal

pub returns-in_err-put_text-clause-puts : goal.returns-in_err-put_text-clause-puts
unfolding line_of marks_line
returns-in_err-put_text-clause-puts g c = rw (fields_are c.args.word.now c.args.places.now) (puts_first _ _ c.in_err-put_text.ensures.puts c.from_residual.ensures.0)

pub returns-in_err-put_fields-clause-puts : goal.returns-in_err-put_fields-clause-puts
unfolding line_of marks_line
returns-in_err-put_fields-clause-puts g c = rw (fields_are c.args.word.now c.args.places.now) (puts_front _ (puts_then c.in_ok-put_text.ensures.puts c.in_err-put_fields.ensures.puts) c.from_residual-in_err-put_fields.ensures.0)

pub returns-clause-puts : goal.returns-clause-puts
unfolding line_of marks_line
returns-clause-puts g c = rw (fields_are c.args.word.now c.args.places.now) (puts_then (puts_then c.in_ok-put_text.ensures.puts c.in_ok-put_fields.ensures.puts) c.put_text-2.ensures.puts)
