use Rattle.std.proofs.Common.{rules}
use Rattle.std.proofs.lemmas.Int.{to_z-of_z}
use Rattle.std.specs.Int.{w64}
use Rattle.text_lines.specs.Texts.{line_of}
use Rattle.publication.specs.AskedForms.{threshold_line}
use Rattle.publication.proofs.lottery_writing.put_threshold.Goals as goal

pub returns-in-Unasked-clause-puts : goal.returns-in-Unasked-clause-puts
unfolding line_of threshold_line
returns-in-Unasked-clause-puts g c = rw c.in-Unasked.is c.put_text.ensures.puts

pub returns-in-Free-clause-puts : goal.returns-in-Free-clause-puts
unfolding line_of threshold_line
returns-in-Free-clause-puts g c = rw c.in-Free.is c.put_text-in-Free.ensures.puts

pub returns-in-At-clause-puts : goal.returns-in-At-clause-puts
unfolding threshold_line
returns-in-At-clause-puts g c = rw c.in-At.is (rw (to_z-of_z w64 c.in-At.score (search rules)) at c.put_score.ensures.puts)
