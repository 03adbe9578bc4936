-- The definitions compute where their parts are unfolded.
use Rattle.std.proofs.Common.{refl}
use Rattle.serde_json.proofs.OnLiterals.{serde_json_on_literals}
use Rattle.std.specs.Fmt.{digits}
use Rattle.desk_replies.specs.Accepted.{pairs_text, pair_line}
use Rattle.text_lines.specs.Texts.{line_of, lines_of}
use Rattle.desk_replies.proofs.examples.worked_answers.Goals as goal

pub returns-clause-edited : goal.returns-clause-edited
unfolding serde_json_on_literals digits pairs_text pair_line line_of lines_of
returns-clause-edited c = refl

pub returns-clause-drawn : goal.returns-clause-drawn
unfolding serde_json_on_literals digits pairs_text pair_line line_of lines_of
returns-clause-drawn c = refl

pub returns-clause-taken : goal.returns-clause-taken
unfolding serde_json_on_literals digits pairs_text pair_line line_of lines_of
returns-clause-taken c rules = refl

pub returns-clause-pairs : goal.returns-clause-pairs
unfolding serde_json_on_literals digits pairs_text pair_line line_of lines_of
returns-clause-pairs c = refl
