-- The definitions compute where their parts are unfolded.
use Rattle.std.proofs.Common.{refl}
use Rattle.serde_json.proofs.OnLiterals.{serde_json_on_literals}
use Rattle.std.specs.Fmt.{digits}
use Rattle.desk_replies.specs.Refusals.{status_of, refusal_word, limit_word}
use Rattle.desk_replies.specs.ImportWords.{code_word, key_word}
use Rattle.desk_replies.proofs.examples.worked_faults.Goals as goal

pub returns-clause-row : goal.returns-clause-row
unfolding serde_json_on_literals digits status_of refusal_word limit_word code_word key_word
returns-clause-row c = refl

pub returns-clause-setting : goal.returns-clause-setting
unfolding serde_json_on_literals digits status_of refusal_word limit_word code_word key_word
returns-clause-setting c = refl

pub returns-clause-demand : goal.returns-clause-demand
unfolding serde_json_on_literals digits status_of refusal_word limit_word code_word key_word
returns-clause-demand c = refl

pub returns-clause-locked : goal.returns-clause-locked
unfolding serde_json_on_literals digits status_of refusal_word limit_word code_word key_word
returns-clause-locked c = refl

pub returns-clause-pairs : goal.returns-clause-pairs
unfolding serde_json_on_literals digits status_of refusal_word limit_word code_word key_word
returns-clause-pairs c = refl
