-- Reading the text of rules alone, or of an answer alone, with nothing behind it.
use Rattle.std.specs.Prelude.{Result, Ok}
use Rattle.match_rules.specs.declared.answer.Answer.{Answer}
use Rattle.match_rules.specs.declared.sizes.Sizes.{Sizes}
use Rattle.match_rules.specs.Rules.{RulesValue}
use Rattle.text_lines.specs.declared.fault.TextFault.{TextFault}
use Rattle.text_lines.specs.Reading.{◌>>=◌, Cursor, end_at}
use Rattle.publication.specs.AnswerReading.{answer_at}
use Rattle.publication.specs.RulesReading.{rules_at}

unfoldable pub rules_whole_at : Cursor → Result RulesValue TextFault
rules_whole_at at = do
  rules ← rules_at at
  end ← end_at rules.1
  Ok rules.0

unfoldable pub answer_whole_at : Sizes → Cursor → Result Answer TextFault
answer_whole_at sizes at = do
  answer ← answer_at sizes at
  end ← end_at answer.1
  Ok answer.0
