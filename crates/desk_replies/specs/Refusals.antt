-- The replies to requests that the desk refuses: a status, a word, and what else the body tells.
use Rattle.std.specs.Prelude.{ℕ, List, codes}
use Rattle.serde_json.specs.Data.{Members, no_members}
use Rattle.bid_import.specs.declared.fault.Code.{Code}
use Rattle.bid_import.specs.declared.fault.Code.TheVariants.{BadSetting}
use Rattle.venue_rules.specs.declared.fault.LimitFault.{LimitFault}
use Rattle.venue_rules.specs.declared.fault.LimitFault.TheVariants as limit
use Rattle.http_messages.specs.Replies.{ReplyValue}
use Rattle.desk_history.specs.declared.refusals.Refusal.{Refusal}
use Rattle.desk_history.specs.declared.refusals.Refusal.TheVariants as refusal
use Rattle.desk_replies.specs.Accepted.{object_reply}
use Rattle.desk_replies.specs.ImportWords.{code_word, key_word}
use Rattle.desk_replies.specs.Objects.{with_number, with_text}

unfoldable pub status_of : Refusal → ℕ
status_of refusal.UnknownChair = 403
status_of (refusal.IdReused entry) = 409
status_of (refusal.OtherBase now) = 409
status_of (refusal.Import row code) = 422
status_of (refusal.Limit fault) = 422
status_of refusal.UnknownJob = 404
status_of refusal.NotDone = 409
status_of (refusal.Stale now) = 409
status_of refusal.NotCertified = 409
status_of (refusal.AlreadyPublished number) = 409
status_of refusal.UnknownPublication = 404
status_of (refusal.AlreadyDrawn ticket) = 409
status_of refusal.NoJob = 409
status_of (refusal.BenchFull job) = 409
status_of refusal.BenchEmpty = 409
status_of refusal.BadTicket = 422
status_of (refusal.HistoryFull commands bytes) = 422
status_of refusal.KeeperFault = 503
status_of refusal.Memory = 507

unfoldable pub limit_word : LimitFault → List ℕ
limit_word (limit.TooMuchDemand sum) = codes "too-much-demand"
limit_word (limit.LockForbidden paper reviewer) = codes "lock-forbidden"
limit_word (limit.TooManyPairs count) = codes "too-many-pairs"

unfoldable pub refusal_word : Refusal → List ℕ
refusal_word refusal.UnknownChair = codes "unknown-chair"
refusal_word (refusal.IdReused entry) = codes "id-reused"
refusal_word (refusal.OtherBase now) = codes "other-base"
refusal_word (refusal.Import row code) = codes "import"
refusal_word (refusal.Limit fault) = limit_word fault
refusal_word refusal.UnknownJob = codes "unknown-job"
refusal_word refusal.NotDone = codes "not-done"
refusal_word (refusal.Stale now) = codes "stale"
refusal_word refusal.NotCertified = codes "not-certified"
refusal_word (refusal.AlreadyPublished number) = codes "already-published"
refusal_word refusal.UnknownPublication = codes "unknown-publication"
refusal_word (refusal.AlreadyDrawn ticket) = codes "already-drawn"
refusal_word refusal.NoJob = codes "no-job"
refusal_word (refusal.BenchFull job) = codes "bench-full"
refusal_word refusal.BenchEmpty = codes "bench-empty"
refusal_word refusal.BadTicket = codes "bad-ticket"
refusal_word (refusal.HistoryFull commands bytes) = codes "history-full"
refusal_word refusal.KeeperFault = codes "keeper-fault"
refusal_word refusal.Memory = codes "memory"

-- the key of the settings that is at fault, where one is
abbrev pub with_key : Code → Members → Members
with_key (BadSetting key) members = with_text (codes "key") (key_word key) members
with_key other members = members

-- the record that is at fault, and for what
abbrev pub with_fault : ℕ → Code → Members → Members
with_fault row code members = with_text (codes "code") (code_word code) (with_number (codes "row") row (with_key code members))

-- the limit that rules pass, by a number or by the first pair
abbrev pub with_limit : LimitFault → Members → Members
with_limit (limit.TooMuchDemand sum) members = with_number (codes "sum") sum members
with_limit (limit.LockForbidden paper reviewer) members = with_text (codes "paper") paper (with_text (codes "reviewer") reviewer members)
with_limit (limit.TooManyPairs count) members = with_number (codes "count") count members

-- what a refusal tells beside its word
abbrev pub with_details : Refusal → Members → Members
with_details (refusal.IdReused entry) members = with_number (codes "entry") entry members
with_details (refusal.OtherBase now) members = with_number (codes "now") now members
with_details (refusal.Import row code) members = with_fault row code members
with_details (refusal.Limit fault) members = with_limit fault members
with_details (refusal.Stale now) members = with_number (codes "now") now members
with_details (refusal.AlreadyPublished number) members = with_number (codes "publication") number members
with_details (refusal.AlreadyDrawn ticket) members = with_number (codes "ticket") ticket members
with_details (refusal.BenchFull job) members = with_number (codes "job") job members
with_details (refusal.HistoryFull commands bytes) members = with_number (codes "bytes") bytes (with_number (codes "commands") commands members)
with_details other members = members

abbrev pub refusal_members : Refusal → Members
refusal_members refusal = with_text (codes "refused") (refusal_word refusal) (with_details refusal no_members)

abbrev pub reply_of_refusal : Refusal → ReplyValue
reply_of_refusal refusal = object_reply (status_of refusal) (refusal_members refusal)
