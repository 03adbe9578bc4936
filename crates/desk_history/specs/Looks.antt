-- What is shown of a history.
use Rattle.std.specs.Prelude.{ℕ, nat_le, if◌then◌else◌, List, [], map, slice_get, Option, Some, None, Result, Ok, Err}
use Rattle.match_rules.specs.Drawing.{piece_of}
use Rattle.match_rules.specs.Rules.{RulesValue, paper_at, pair_at, reviewer_at, rules_value}
use Rattle.match_rules.specs.declared.answer.Answer.{Answer}
use Rattle.match_rules.specs.declared.answer.Answer.TheVariants.{Lottery, Infeasible}
use Rattle.match_rules.specs.declared.lottery.Piece.{Piece}
use Rattle.match_rules.specs.declared.rules.TheConstants.{MOST_LIMIT, RULES_TICKETS}
use Rattle.publication.specs.declared.certificate.Certificate.{Certificate}
use Rattle.venue_rules.specs.VenueRules.{rules_of}
use Rattle.venue_rules.specs.declared.fault.LimitFault.{LimitFault}
use Rattle.desk_history.specs.declared.entries.Entry.{Entry}
use Rattle.desk_history.specs.declared.jobs.Job.{Job}
use Rattle.desk_history.specs.declared.jobs.Publication.{Publication}
use Rattle.desk_history.specs.declared.jobs.Outcome.{Outcome}
use Rattle.desk_history.specs.declared.jobs.Outcome.TheVariants as outcome
use Rattle.desk_history.specs.declared.refusals.Refusal.{Refusal}
use Rattle.desk_history.specs.declared.refusals.Refusal.TheVariants.{UnknownJob, NotDone, Stale, NotCertified, UnknownPublication, BadTicket}
use Rattle.desk_history.specs.declared.replies.Answered.{Answered}
use Rattle.desk_history.specs.declared.replies.Answered.TheVariants as answered
use Rattle.desk_history.specs.declared.replies.PairIds.{PairIds}
use Rattle.desk_history.specs.declared.requests.Look.{Look}
use Rattle.desk_history.specs.declared.requests.Look.TheVariants as look
use Rattle.desk_history.specs.Histories.{History, edition, edits, evidence, job_of, nth_of, publications}
use Rattle.desk_history.specs.Rows.{evidence_of}

-- the reply to a request, and the entry that it adds to the history
pub record Step : Type 0 where
  pub reply : Result Answered Refusal
  pub entry : Option Entry

abbrev pub refused : Refusal → Step
refused refusal = record { reply = Err refusal; entry = None }

-- the reply, and no entry
abbrev pub told : Answered → Step
told reply = record { reply = Ok reply; entry = None }

-- the rules that a venue makes; a venue that passes a limit becomes no edition
abbrev pub rules_or_none : Result RulesValue LimitFault → RulesValue
rules_or_none (Ok rules) = rules
rules_or_none (Err fault) = rules_value RULES_TICKETS MOST_LIMIT [] [] []

-- the rules of an edition
abbrev pub rules_at : History → ℕ → RulesValue
rules_at H n = rules_or_none (rules_of (edition H n))

abbrev pub job_look : ℕ → Option Job → Step
job_look number None = refused UnknownJob
job_look number (Some job) = told (answered.Job number job.edition job.mode job.outcome)

-- rules and answer, where there are some
abbrev pub shown : Refusal → Option Certificate → Step
shown refusal None = refused refusal
shown refusal (Some certificate) = told (answered.Certificate certificate)

abbrev pub decided_look : History → Job → Outcome → Step
decided_look H job outcome.Waiting = refused NotDone
decided_look H job outcome.Taken = refused NotDone
decided_look H job (outcome.Stale later) = refused (Stale (edits H))
decided_look H job outcome.OutOfMemory = refused NotCertified
decided_look H job (outcome.Certified level total) = shown NotCertified (evidence H job)
decided_look H job (outcome.Infeasible need room) = shown NotCertified (evidence H job)

abbrev pub answer_look : History → Option Job → Step
answer_look H None = refused UnknownJob
answer_look H (Some job) = decided_look H job job.outcome

abbrev pub publication_look : History → Option Publication → Step
publication_look H None = refused UnknownPublication
publication_look H (Some publication) = shown UnknownPublication (evidence_of H (job_of H publication.job))

-- the ids of a pair
abbrev pub ids_of : RulesValue → ℕ → PairIds
ids_of rules e = record { paper = (paper_at rules (pair_at rules e).paper).id; reviewer = (reviewer_at rules (pair_at rules e).reviewer).id }

abbrev pub piece_at : List Piece → Option ℕ → Option Piece
piece_at lottery None = None
piece_at lottery (Some place) = slice_get lottery place

-- the piece that a ticket draws
abbrev pub drawn_piece : Answer → ℕ → Option Piece
drawn_piece (Lottery winning) ticket = piece_at winning.lottery (piece_of winning.lottery ticket)
drawn_piece (Infeasible blocked) ticket = None

abbrev pub piece_look : RulesValue → Option Piece → Step
piece_look rules None = refused BadTicket
piece_look rules (Some piece) = told (answered.Pairs (map (ids_of rules) piece.pairs))

abbrev pub pairs_look : Option Certificate → ℕ → Step
pairs_look None ticket = refused UnknownPublication
pairs_look (Some certificate) ticket = piece_look certificate.rules (drawn_piece certificate.answer ticket)

abbrev pub ticket_look : History → Option Publication → ℕ → Step
ticket_look H None ticket = refused UnknownPublication
ticket_look H (Some publication) ticket = if nat_le RULES_TICKETS ticket then refused BadTicket else pairs_look (evidence_of H (job_of H publication.job)) ticket

abbrev pub look_step : History → Look → Step
look_step H look.Edition = told (answered.Edition (edits H))
look_step H look.Rules = told (answered.Rules (rules_at H (edits H)))
look_step H (look.Job job) = job_look job (job_of H job)
look_step H (look.Answer job) = answer_look H (job_of H job)
look_step H (look.Publication number) = publication_look H (nth_of (publications H) number)
look_step H (look.Ticket publication ticket) = ticket_look H (nth_of (publications H) publication) ticket
