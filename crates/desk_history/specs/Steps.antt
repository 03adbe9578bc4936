-- What each request does to a history: the reply, and at most one entry more.
use Rattle.std.specs.Prelude.{◌≡◌, ℕ, ◌+◌, ◌<◌, ◌==◌, ◌^◌, if◌then◌else◌, Bool, true, false, List, [], ◌∷◌, length, bytes_eq, Option, Some, None, Ok, Err, ⊤}
use Rattle.std.specs.List.{list_any}
use Rattle.match_rules.specs.declared.answer.Mode.{Mode}
use Rattle.match_rules.specs.declared.rules.TheConstants.{RULES_TICKETS}
use Rattle.publication.specs.Draws.{ticket_of}
use Rattle.publication.specs.declared.certificate.Certificate.{Certificate}
use Rattle.match_rules.specs.Answers.{Certified, IsBlocked}
use Rattle.match_rules.specs.Pieces.{ArePieces}
use Rattle.match_rules.specs.Rules.{RulesValue}
use Rattle.match_rules.specs.declared.answer.Answer.{Answer}
use Rattle.match_rules.specs.declared.answer.Answer.TheVariants.{Lottery, Infeasible}
use Rattle.desk_keeper.specs.Rows.{IsSmall, are_edit_words}
use Rattle.desk_keeper.specs.declared.words.Command.{Command}
use Rattle.desk_keeper.specs.declared.words.Command.TheVariants.{Edit, Submit, Publish, Draw}
use Rattle.desk_keeper.specs.declared.words.Named.{Named}
use Rattle.desk_history.specs.declared.entries.Done.{Done}
use Rattle.desk_history.specs.declared.entries.Done.TheVariants as done
use Rattle.desk_history.specs.declared.entries.Entry.{Entry}
use Rattle.desk_history.specs.declared.entries.Entry.TheVariants.{Accepted, Took, Ended, Released}
use Rattle.desk_history.specs.declared.jobs.Job.{Job}
use Rattle.desk_history.specs.declared.jobs.Outcome.{Outcome}
use Rattle.desk_history.specs.declared.jobs.Outcome.TheVariants as outcome
use Rattle.desk_history.specs.declared.refusals.Refusal.{Refusal}
use Rattle.desk_history.specs.declared.refusals.Refusal.TheVariants.{UnknownChair, IdReused, NoJob, BenchFull, BenchEmpty, KeeperFault, Memory}
use Rattle.desk_history.specs.declared.refusals.TheConstants.{BENCHES}
use Rattle.desk_history.specs.declared.replies.Answered.{Answered}
use Rattle.desk_history.specs.declared.replies.Answered.TheVariants as answered
use Rattle.desk_history.specs.declared.replies.Snapshot.{Snapshot}
use Rattle.desk_history.specs.declared.requests.Request.{Request}
use Rattle.desk_history.specs.declared.requests.Request.TheVariants.{Do, Look, Take, Finish, Release}
use Rattle.desk_history.specs.declared.requests.Work.{Work}
use Rattle.desk_history.specs.declared.requests.Work.TheVariants as work
use Rattle.desk_history.specs.Outcomes.{Ends, after}
use Rattle.desk_history.specs.Histories.{History, Earlier, edits, held, job_of, jobs, kept, publications}
use Rattle.desk_history.specs.Looks.{Step, refused, told, look_step, rules_at}
use Rattle.desk_history.specs.Refusals.{refusal_of}
use Rattle.desk_history.specs.SameCommands.{is_same_command}

-- the reply, with an entry more
abbrev pub made : Answered → Entry → Step
made reply entry = record { reply = Ok reply; entry = Some entry }

-- Commands

abbrev pub answered_by : Done → Answered
answered_by (done.Edited edition) = answered.Edited edition
answered_by (done.Submitted job) = answered.Submitted job
answered_by (done.Published publication) = answered.Published publication
answered_by (done.Drawn publication ticket) = answered.Drawn publication ticket

-- what is replied to a new command that is accepted
abbrev pub done_of : History → Command → Done
done_of H (Edit base edit) = done.Edited (edits H + 1)
done_of H (Submit base mode) = done.Submitted (length (jobs H) + 1)
done_of H (Publish job) = done.Published (length (publications H) + 1)
done_of H (Draw publication text) = done.Drawn publication (ticket_of text RULES_TICKETS)

-- the entry of a new command that is accepted
abbrev pub accepted : History → Named → Option Certificate → Entry
accepted H its read = Accepted its.caller its.number its.command (done_of H its.command) read

abbrev pub refused_or : Option Refusal → Step → Step
refused_or None step = step
refused_or (Some refusal) step = refused refusal

-- a command whose caller and number no accepted one has
abbrev pub new_step : History → Named → Step
new_step H its = refused_or (refusal_of H its None) (made (answered_by (done_of H its.command)) (accepted H its None))

-- a command whose caller and number are those of an earlier one: the same one has the kept reply
abbrev pub repeat_step : Earlier → Command → Step
repeat_step earlier command = if is_same_command earlier.command command then told (answered_by earlier.reply) else refused (IdReused earlier.place)

abbrev pub numbered_step : History → Named → Option Earlier → Step
numbered_step H its None = new_step H its
numbered_step H its (Some earlier) = repeat_step earlier its.command

abbrev pub command_step : History → Named → Step
command_step H its = numbered_step H its (kept H its.caller its.number)

-- Benches

abbrev pub is_waiting : Outcome → Bool
is_waiting outcome.Waiting = true
is_waiting other = false

-- the waiting job of the least number, with its number; the first of these jobs has this number
abbrev pub first_waiting : ℕ → List Job → Option (ℕ × Job)
first_waiting number [] = None
first_waiting number (job ∷ jobs) = if is_waiting job.outcome then Some (number, job) else first_waiting (number + 1) jobs

abbrev pub snapshot : History → ℕ → Job → Snapshot
snapshot H number job = record { job = number; edition = job.edition; mode = job.mode; rules = rules_at H job.edition }

abbrev pub take_first : History → ℕ → Option (ℕ × Job) → Step
take_first H bench None = refused NoJob
take_first H bench (Some found) = made (answered.Taken (snapshot H found.0 found.1)) (Took bench found.0)

abbrev pub take_at : History → ℕ → Option ℕ → Step
take_at H bench None = take_first H bench (first_waiting 1 (jobs H))
take_at H bench (Some job) = refused (BenchFull job)

abbrev pub take_step : History → ℕ → Step
take_step H bench = take_at H bench (held H bench)

abbrev pub holds : Option ℕ → ℕ → Bool
holds None job = false
holds (Some held) job = held == job

abbrev pub finish_job : ℕ → ℕ → Work → Option Job → Step
finish_job bench number done None = refused BenchEmpty
finish_job bench number done (Some job) = made (answered.Finished number (after (Ends done) job.outcome)) (Ended bench done)

abbrev pub finish_step : History → ℕ → ℕ → Work → Step
finish_step H bench job done = if holds (held H bench) job then finish_job bench job done (job_of H job) else refused BenchEmpty

abbrev pub release_at : ℕ → Option ℕ → Step
release_at bench None = refused BenchEmpty
release_at bench (Some job) = made (answered.Released job) (Released bench)

abbrev pub release_step : History → ℕ → Step
release_step H bench = release_at bench (held H bench)

-- All requests

abbrev pub is_chair : List (List ℕ) → List ℕ → Bool
is_chair chairs name = list_any (λ chair. bytes_eq chair name) chairs

-- the step of a desk with these chairs
abbrev pub step : List (List ℕ) → History → Request → Step
step chairs H (Do its) = if is_chair chairs its.caller then command_step H its else refused UnknownChair
step chairs H (Look caller what) = if is_chair chairs caller then look_step H what else refused UnknownChair
step chairs H (Take bench) = take_step H bench
step chairs H (Finish bench job done) = finish_step H bench job done
step chairs H (Release bench) = release_step H bench

-- the history after a step
abbrev pub with_entry : Option Entry → History → History
with_entry None H = H
with_entry (Some entry) H = entry ∷ H

-- What may be asked

-- an answer in a mode that is shown to be right: a certified lottery, or a cut that shows that none fits
abbrev pub IsRight : RulesValue → Mode → Answer → Type 0
IsRight rules mode (Lottery winning) = Certified rules mode winning
IsRight rules mode (Infeasible blocked) = IsBlocked rules blocked

-- the rules of the job's edition, and a right answer to them in the job's mode
pub record IsRightFor (H : History) (number : ℕ) (certificate : Certificate) : Type 0 where
  pub job : Job
  pub there : job_of H number ≡ Some job
  pub rules : certificate.rules ≡ rules_at H job.edition
  pub right : IsRight (rules_at H job.edition) job.mode certificate.answer

abbrev pub IsWorkFor : History → ℕ → Work → Type 0
IsWorkFor H number (work.Answered certificate) = IsRightFor H number certificate
IsWorkFor H number work.OutOfMemory = ⊤

abbrev pub MayCommand : Command → Type 0
MayCommand (Edit base edit) = are_edit_words edit.table edit.how ≡ true
MayCommand (Submit base mode) = ⊤
MayCommand (Publish job) = ⊤
MayCommand (Draw publication text) = ⊤

-- settings are replaced alone; benches are those that there are; what is handed in is work on the job
abbrev pub MayAsk : History → Request → Type 0
MayAsk H (Do its) = MayCommand its.command
MayAsk H (Look caller what) = ⊤
MayAsk H (Take bench) = bench < BENCHES
MayAsk H (Finish bench job done) = (bench < BENCHES) × IsWorkFor H job done
MayAsk H (Release bench) = bench < BENCHES

-- What a caller can hand in

-- a lottery has pieces such as a text may have
abbrev pub IsTypedAnswer : Answer → Type 0
IsTypedAnswer (Lottery winning) = ArePieces winning.lottery
IsTypedAnswer (Infeasible blocked) = ⊤

abbrev pub IsTypedWork : Work → Type 0
IsTypedWork (work.Answered certificate) = IsTypedAnswer certificate.answer
IsTypedWork work.OutOfMemory = ⊤

-- the numbers of a command have 64 bits, and what a bench hands in is such as its type has
abbrev pub IsTyped : Request → Type 0
IsTyped (Do its) = (its.number < 2 ^ 64) × IsSmall its.command
IsTyped (Look caller what) = ⊤
IsTyped (Take bench) = ⊤
IsTyped (Finish bench job done) = IsTypedWork done
IsTyped (Release bench) = ⊤

-- Refusals that a step may have in place of its own

-- the step would accept a command
abbrev pub AcceptsCommand : Option Entry → Type 0
AcceptsCommand (Some (Accepted caller number command reply read)) = ⊤
AcceptsCommand other = ⊥

-- a refusal is that of the step; want of memory may come at any step, and a keeper's fault where a command would be accepted
abbrev pub Explains : Step → Refusal → Type 0
Explains step Memory = ⊤
Explains step KeeperFault = AcceptsCommand step.entry
Explains step refusal = step.reply ≡ Err refusal
