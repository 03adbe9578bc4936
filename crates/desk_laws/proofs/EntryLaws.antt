-- What the entries are that requests make: nothing that is looked at makes one.
use Rattle.std.proofs.Common.{ℕ, Bool, true, false, cond, Option, None, Some, IfSome}
use Rattle.std.specs.Prelude.{nat_le}
use Rattle.match_rules.specs.Rules.{RulesValue}
use Rattle.match_rules.specs.declared.lottery.Piece.{Piece}
use Rattle.match_rules.specs.declared.rules.TheConstants.{RULES_TICKETS}
use Rattle.publication.specs.declared.certificate.Certificate.{Certificate}
use Rattle.desk_history.specs.declared.entries.Entry.{Entry}
use Rattle.desk_history.specs.declared.jobs.Job.{Job}
use Rattle.desk_history.specs.declared.jobs.Publication.{Publication}
use Rattle.desk_history.specs.declared.jobs.Outcome.{Outcome}
use Rattle.desk_history.specs.declared.jobs.Outcome.TheVariants.{Waiting, Taken, Certified, Infeasible, Stale, OutOfMemory}
use Rattle.desk_history.specs.declared.refusals.Refusal.{Refusal}
use Rattle.desk_history.specs.declared.refusals.Refusal.TheVariants as refusal
use Rattle.desk_history.specs.declared.requests.Look.{Look}
use Rattle.desk_history.specs.declared.requests.Look.TheVariants as look
use Rattle.desk_history.specs.Histories.{Earlier, History, evidence, job_of, nth_of, publications}
use Rattle.desk_history.specs.Looks.{Step, answer_look, decided_look, drawn_piece, job_look, look_step, pairs_look, piece_look, publication_look, refused, shown, ticket_look, told}
use Rattle.desk_history.specs.Rows.{evidence_of}
use Rattle.desk_history.specs.SameCommands.{is_same_command}
use Rattle.desk_history.specs.Steps.{answered_by, repeat_step}
use Rattle.desk_keeper.specs.declared.words.Command.{Command}

-- the entry of the step, where it has one, is such
abbrev pub Brings : (Entry → Type 0) → Step → Type 0
Brings P made_step = IfSome made_step.entry P

pub either : (P : Entry → Type 0) (test : Bool) (a b : Step) → Brings P a → Brings P b → Brings P (cond test a b)
either P true a b left right = left
either P false a b left right = right

-- a repeat makes no entry
pub repeat_brings : (P : Entry → Type 0) (earlier : Earlier) (command : Command) → Brings P (repeat_step earlier command)
repeat_brings P earlier command = either P (is_same_command earlier.command command) (told (answered_by earlier.reply)) (refused (refusal.IdReused earlier.place)) tt tt

-- Looks

job_brings : (P : Entry → Type 0) (number : ℕ) (job : Option Job) → Brings P (job_look number job)
job_brings P number None = tt
job_brings P number (Some job) = tt

shown_brings : (P : Entry → Type 0) (why : Refusal) (found : Option Certificate) → Brings P (shown why found)
shown_brings P why None = tt
shown_brings P why (Some certificate) = tt

decided_brings : (P : Entry → Type 0) (H : History) (job : Job) (outcome : Outcome) → Brings P (decided_look H job outcome)
decided_brings P H job Waiting = tt
decided_brings P H job Taken = tt
decided_brings P H job (Certified level total) = shown_brings P refusal.NotCertified (evidence H job)
decided_brings P H job (Infeasible need room) = shown_brings P refusal.NotCertified (evidence H job)
decided_brings P H job (Stale later) = tt
decided_brings P H job OutOfMemory = tt

answer_brings : (P : Entry → Type 0) (H : History) (job : Option Job) → Brings P (answer_look H job)
answer_brings P H None = tt
answer_brings P H (Some job) = decided_brings P H job job.outcome

publication_brings : (P : Entry → Type 0) (H : History) (publication : Option Publication) → Brings P (publication_look H publication)
publication_brings P H None = tt
publication_brings P H (Some publication) = shown_brings P refusal.UnknownPublication (evidence_of H (job_of H publication.job))

piece_brings : (P : Entry → Type 0) (value : RulesValue) (piece : Option Piece) → Brings P (piece_look value piece)
piece_brings P value None = tt
piece_brings P value (Some piece) = tt

pairs_brings : (P : Entry → Type 0) (found : Option Certificate) (ticket : ℕ) → Brings P (pairs_look found ticket)
pairs_brings P None ticket = tt
pairs_brings P (Some certificate) ticket = piece_brings P certificate.rules (drawn_piece certificate.answer ticket)

ticket_brings : (P : Entry → Type 0) (H : History) (publication : Option Publication) (ticket : ℕ) → Brings P (ticket_look H publication ticket)
ticket_brings P H None ticket = tt
ticket_brings P H (Some publication) ticket =
    either P (nat_le RULES_TICKETS ticket) (refused refusal.BadTicket) (pairs_look (evidence_of H (job_of H publication.job)) ticket) tt (pairs_brings P (evidence_of H (job_of H publication.job)) ticket)

pub look_brings : (P : Entry → Type 0) (H : History) (what : Look) → Brings P (look_step H what)
look_brings P H look.Edition = tt
look_brings P H look.Rules = tt
look_brings P H (look.Job job) = job_brings P job (job_of H job)
look_brings P H (look.Answer job) = answer_brings P H (job_of H job)
look_brings P H (look.Publication number) = publication_brings P H (nth_of (publications H) number)
look_brings P H (look.Ticket publication ticket) = ticket_brings P H (nth_of (publications H) publication) ticket
