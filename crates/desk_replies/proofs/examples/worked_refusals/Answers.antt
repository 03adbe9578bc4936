-- The definitions compute where their parts are unfolded.
use Rattle.std.proofs.Common.{refl}
use Rattle.serde_json.proofs.OnLiterals.{serde_json_on_literals}
use Rattle.std.specs.Fmt.{digits}
use Rattle.desk_replies.specs.Refusals.{status_of, refusal_word}
use Rattle.http_messages.specs.Replies.{refused_body}
use Rattle.desk_replies.proofs.examples.worked_refusals.Goals as goal

pub returns-clause-stale : goal.returns-clause-stale
unfolding serde_json_on_literals digits status_of refusal_word refused_body
returns-clause-stale c = refl

pub returns-clause-reused : goal.returns-clause-reused
unfolding serde_json_on_literals digits status_of refusal_word refused_body
returns-clause-reused c = refl

pub returns-clause-drawn : goal.returns-clause-drawn
unfolding serde_json_on_literals digits status_of refusal_word refused_body
returns-clause-drawn c = refl

pub returns-clause-unknown : goal.returns-clause-unknown
unfolding serde_json_on_literals digits status_of refusal_word refused_body
returns-clause-unknown c = refl

pub returns-clause-full : goal.returns-clause-full
unfolding serde_json_on_literals digits status_of refusal_word refused_body
returns-clause-full c = refl

pub returns-clause-keeper : goal.returns-clause-keeper
unfolding serde_json_on_literals digits status_of refusal_word refused_body
returns-clause-keeper c = refl

pub returns-clause-memory : goal.returns-clause-memory
unfolding serde_json_on_literals digits status_of refusal_word refused_body
returns-clause-memory c = refl
