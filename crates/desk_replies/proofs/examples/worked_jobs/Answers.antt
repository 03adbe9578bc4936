-- The definitions compute where their parts are unfolded.
use Rattle.std.proofs.Common.{refl}
use Rattle.serde_json.proofs.OnLiterals.{serde_json_on_literals}
use Rattle.std.specs.Fmt.{digits}
use Rattle.desk_replies.specs.Outcomes.{outcome_word}
use Rattle.desk_replies.proofs.examples.worked_jobs.Goals as goal

pub returns-clause-waiting : goal.returns-clause-waiting
unfolding serde_json_on_literals digits outcome_word
returns-clause-waiting c = refl

pub returns-clause-whole : goal.returns-clause-whole
unfolding serde_json_on_literals digits outcome_word
returns-clause-whole c = refl

pub returns-clause-fair : goal.returns-clause-fair
unfolding serde_json_on_literals digits outcome_word
returns-clause-fair c = refl

pub returns-clause-free : goal.returns-clause-free
unfolding serde_json_on_literals digits outcome_word
returns-clause-free c = refl

pub returns-clause-infeasible : goal.returns-clause-infeasible
unfolding serde_json_on_literals digits outcome_word
returns-clause-infeasible c = refl

pub returns-clause-stale : goal.returns-clause-stale
unfolding serde_json_on_literals digits outcome_word
returns-clause-stale c = refl
