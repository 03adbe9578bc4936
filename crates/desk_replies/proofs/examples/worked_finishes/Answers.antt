-- The definitions compute where their parts are unfolded.
use Rattle.std.proofs.Common.{refl}
use Rattle.serde_json.proofs.OnLiterals.{serde_json_on_literals}
use Rattle.std.specs.Fmt.{digits}
use Rattle.desk_replies.specs.Outcomes.{outcome_word}
use Rattle.desk_replies.proofs.examples.worked_finishes.Goals as goal

pub returns-clause-certified : goal.returns-clause-certified
unfolding serde_json_on_literals digits outcome_word
returns-clause-certified c = refl

pub returns-clause-infeasible : goal.returns-clause-infeasible
unfolding serde_json_on_literals digits outcome_word
returns-clause-infeasible c = refl

pub returns-clause-stale : goal.returns-clause-stale
unfolding serde_json_on_literals digits outcome_word
returns-clause-stale c = refl

pub returns-clause-memory : goal.returns-clause-memory
unfolding serde_json_on_literals digits outcome_word
returns-clause-memory c = refl
