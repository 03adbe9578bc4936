-- What a job came to, as members of an object.
use Rattle.std.specs.Prelude.{ℕ, List, codes}
use Rattle.std.specs.Fmt.{signed_decimal}
use Rattle.serde_json.specs.Data.{Members}
use Rattle.desk_history.specs.declared.jobs.Grade.{Grade}
use Rattle.desk_history.specs.declared.jobs.Grade.TheVariants.{Unasked, Free, At}
use Rattle.desk_history.specs.declared.jobs.Outcome.{Outcome}
use Rattle.desk_history.specs.declared.jobs.Outcome.TheVariants.{Waiting, Taken, Certified, Infeasible, Stale, OutOfMemory}
use Rattle.desk_replies.specs.Objects.{with_integer, with_number, with_text}

unfoldable pub outcome_word : Outcome → List ℕ
outcome_word Waiting = codes "waiting"
outcome_word Taken = codes "taken"
outcome_word (Certified level total) = codes "certified"
outcome_word (Infeasible need room) = codes "infeasible"
outcome_word (Stale later) = codes "stale"
outcome_word OutOfMemory = codes "out-of-memory"

-- the sides of a cut, or the edition that came later
abbrev pub with_reason : Outcome → Members → Members
with_reason (Infeasible need room) members = with_number (codes "need") need (with_number (codes "room") room members)
with_reason (Stale later) members = with_number (codes "later") later members
with_reason other members = members

-- the outcome as each reply has it
abbrev pub with_outcome : Outcome → Members → Members
with_outcome outcome members = with_text (codes "outcome") (outcome_word outcome) (with_reason outcome members)

-- a threshold is a word, or its score in 10^-6 as a number
abbrev pub with_threshold : Grade → Members → Members
with_threshold Unasked members = with_text (codes "threshold") (codes "none") members
with_threshold Free members = with_text (codes "threshold") (codes "free") members
with_threshold (At score) members = with_integer (codes "threshold") score members

-- what a look at a certified job shows beside its outcome: the threshold, and the total as a text, since it may pass the
-- numbers that a reader of JSON keeps exactly
abbrev pub with_worth : Outcome → Members → Members
with_worth (Certified level total) members = with_threshold level (with_text (codes "total") (signed_decimal total) members)
with_worth other members = members
