-- The scanner's answer is the computed one, which is the grammar's.
use Rattle.std.proofs.Common.{◌≡◌, sym, ap, ◌∙◌, subst}
use Rattle.score_spec.specs.Spelling.{MeetsGrammar}
use Rattle.score_spec.specs.Reading.{read_as}
use Rattle.score_spec.specs.Scanning.{scanned_answer}
use Rattle.score_spec.proofs.Scans.{scanned-answer}
use Rattle.score_spec.proofs.Grammar.{meets, only}
use Rattle.score_spec.proofs.numbers.read_value.Goals as goal
use Rattle.score_spec.proofs.numbers.read_value.Goals.{After-scanned}

value_is : (c : After-scanned) → c.scanned.result ≡ read_as c.args.text.now
value_is c = c.scanned.ensures ∙ ap scanned_answer c.as_bytes.ensures.value ∙ scanned-answer c.args.text.now

pub returns-clause-value : goal.returns-clause-value
returns-clause-value c = value_is c

pub returns-clause-grammar : goal.returns-clause-grammar
returns-clause-grammar c = subst (MeetsGrammar c.args.text.now) (sym (value_is c)) (meets c.args.text.now)

pub returns-clause-only : goal.returns-clause-only
returns-clause-only c = λ other m. only c.args.text.now other m ∙ sym (value_is c)
