-- What a legal desk shows of rules is shown with a right answer.
use Rattle.std.proofs.Common.{◌≡◌, ℕ, Bool, true, false, cond, List, Option, None, Some, Result, Ok, Err, IfOk, IfSome, refl, subst, sym}
use Rattle.std.specs.Prelude.{nat_le, ⊤}
use Rattle.match_rules.specs.Rules.{RulesValue}
use Rattle.match_rules.specs.declared.lottery.Piece.{Piece}
use Rattle.match_rules.specs.declared.rules.TheConstants.{RULES_TICKETS}
use Rattle.publication.specs.declared.certificate.Certificate.{Certificate}
use Rattle.desk_keeper.specs.declared.words.Command.{Command}
use Rattle.desk_keeper.specs.declared.words.Named.{Named}
use Rattle.desk_history.specs.declared.entries.Done.{Done}
use Rattle.desk_history.specs.declared.entries.Done.TheVariants as done
use Rattle.desk_history.specs.declared.jobs.Job.{Job}
use Rattle.desk_history.specs.declared.jobs.Outcome.{Outcome}
use Rattle.desk_history.specs.declared.jobs.Outcome.TheVariants as outcome
use Rattle.desk_history.specs.declared.jobs.Publication.{Publication}
use Rattle.desk_history.specs.declared.refusals.Refusal.{Refusal}
use Rattle.desk_history.specs.declared.refusals.Refusal.TheVariants as refusal
use Rattle.desk_history.specs.declared.replies.Answered.{Answered}
use Rattle.desk_history.specs.declared.requests.Look.{Look}
use Rattle.desk_history.specs.declared.requests.Look.TheVariants as look
use Rattle.desk_history.specs.declared.requests.Request.{Request}
use Rattle.desk_history.specs.declared.requests.Request.TheVariants as request
use Rattle.desk_history.specs.declared.requests.Work.{Work}
use Rattle.desk_history.specs.Courses.{Does}
use Rattle.desk_history.specs.Histories.{Earlier, History, edits, evidence, held, job_of, jobs, kept, nth_of, publications}
use Rattle.desk_history.specs.Looks.{Step, answer_look, decided_look, drawn_piece, job_look, look_step, pairs_look, piece_look, publication_look, refused, rules_at, shown, ticket_look, told}
use Rattle.desk_history.specs.Opened.{IsLegal}
use Rattle.desk_history.specs.Refusals.{refusal_of}
use Rattle.desk_history.specs.Rows.{evidence_of}
use Rattle.desk_history.specs.SameCommands.{is_same_command}
use Rattle.desk_history.specs.Steps.{accepted, answered_by, command_step, done_of, finish_job, finish_step, first_waiting, holds, is_chair, made, numbered_step, refused_or, release_at, release_step, step, take_at, take_first, take_step}
use Rattle.desk_laws.specs.Evidence.{AnsweredAreShown, EachPublished, HasEvidence, IfAnswered, IsBacked, IsShown}
use Rattle.desk_laws.proofs.EvidenceLaws.{all_nth}
use Rattle.desk_replies.specs.Accepted.{ShowsRight}

-- a step whose reply shows no rules, or rules with a right answer
abbrev Shows : Step → Type 0
Shows asked = IfOk asked.reply ShowsRight

either : (test : Bool) (left right : Step) → Shows left → Shows right → Shows (cond test left right)
either true left right l r = l
either false left right l r = r

-- ---- commands and worker steps

done_shows : (reply : Done) → ShowsRight (answered_by reply)
done_shows (done.Edited edition) = tt
done_shows (done.Submitted job) = tt
done_shows (done.Published publication) = tt
done_shows (done.Drawn publication ticket) = tt

new_shows : (H : History) (its : Named) (due : Option Refusal) → Shows (refused_or due (made (answered_by (done_of H its.command)) (accepted H its None)))
new_shows H its None = done_shows (done_of H its.command)
new_shows H its (Some why) = tt

numbered_shows : (H : History) (its : Named) (earlier : Option Earlier) → Shows (numbered_step H its earlier)
numbered_shows H its None = new_shows H its (refusal_of H its None)
numbered_shows H its (Some earlier) = either (is_same_command earlier.command its.command) (told (answered_by earlier.reply)) (refused (refusal.IdReused earlier.place)) (done_shows earlier.reply) tt

first_shows : (H : History) (bench : ℕ) (found : Option (ℕ × Job)) → Shows (take_first H bench found)
first_shows H bench None = tt
first_shows H bench (Some found) = tt

take_shows : (H : History) (bench : ℕ) (has : Option ℕ) → Shows (take_at H bench has)
take_shows H bench None = first_shows H bench (first_waiting 1 (jobs H))
take_shows H bench (Some job) = tt

finish_shows : (bench number : ℕ) (made : Work) (job : Option Job) → Shows (finish_job bench number made job)
finish_shows bench number made None = tt
finish_shows bench number made (Some job) = tt

release_shows : (bench : ℕ) (has : Option ℕ) → Shows (release_at bench has)
release_shows bench None = tt
release_shows bench (Some job) = tt

-- ---- looks

job_shows : (number : ℕ) (job : Option Job) → Shows (job_look number job)
job_shows number None = tt
job_shows number (Some job) = tt

-- evidence that there is
shown_right : (why : Refusal) (H : History) (job : Job) → HasEvidence H job → Shows (shown why (evidence H job))
shown_right why H job has = rw has.shown (job.mode, has.right)

decided_shows : (H : History) (job : Job) (came : Outcome) → IfAnswered came (HasEvidence H job) → Shows (decided_look H job came)
decided_shows H job outcome.Waiting has = tt
decided_shows H job outcome.Taken has = tt
decided_shows H job (outcome.Stale later) has = tt
decided_shows H job outcome.OutOfMemory has = tt
decided_shows H job (outcome.Certified level total) has = shown_right refusal.NotCertified H job has
decided_shows H job (outcome.Infeasible need room) has = shown_right refusal.NotCertified H job has

answer_shows : (H : History) (number : ℕ) (found : Option Job) → job_of H number ≡ found → AnsweredAreShown H → Shows (answer_look H found)
answer_shows H number None is all = tt
answer_shows H number (Some job) is all = decided_shows H job job.outcome (all_nth (IsShown H) (jobs H) number job all is)

backed_shows : (why : Refusal) (H : History) (publication : Publication) → IsBacked H publication → Shows (shown why (evidence_of H (job_of H publication.job)))
backed_shows why H publication backed = rw (backed.there, backed.shown) (backed.job.mode, backed.certified)

publication_shows : (H : History) (number : ℕ) (found : Option Publication) → nth_of (publications H) number ≡ found → EachPublished H → Shows (publication_look H found)
publication_shows H number None is all = tt
publication_shows H number (Some publication) is all = backed_shows refusal.UnknownPublication H publication (all_nth (IsBacked H) (publications H) number publication all is)

piece_shows : (value : RulesValue) (piece : Option Piece) → Shows (piece_look value piece)
piece_shows value None = tt
piece_shows value (Some piece) = tt

pairs_shows : (found : Option Certificate) (ticket : ℕ) → Shows (pairs_look found ticket)
pairs_shows None ticket = tt
pairs_shows (Some certificate) ticket = piece_shows certificate.rules (drawn_piece certificate.answer ticket)

ticket_shows : (H : History) (publication : Option Publication) (ticket : ℕ) → Shows (ticket_look H publication ticket)
ticket_shows H None ticket = tt
ticket_shows H (Some publication) ticket =
    either (nat_le RULES_TICKETS ticket) (refused refusal.BadTicket) (pairs_look (evidence_of H (job_of H publication.job)) ticket) tt (pairs_shows (evidence_of H (job_of H publication.job)) ticket)

look_shows : (H : History) (what : Look) → AnsweredAreShown H → EachPublished H → Shows (look_step H what)
look_shows H look.Edition all published = tt
look_shows H look.Rules all published = tt
look_shows H (look.Job job) all published = job_shows job (job_of H job)
look_shows H (look.Answer job) all published = answer_shows H job (job_of H job) refl all
look_shows H (look.Publication number) all published = publication_shows H number (nth_of (publications H) number) refl published
look_shows H (look.Ticket publication ticket) all published = ticket_shows H (nth_of (publications H) publication) ticket

step_shows : (chairs : List (List ℕ)) (H : History) (request : Request) → AnsweredAreShown H → EachPublished H → Shows (step chairs H request)
step_shows chairs H (request.Do its) all published = either (is_chair chairs its.caller) (command_step H its) (refused refusal.UnknownChair) (numbered_shows H its (kept H its.caller its.number)) tt
step_shows chairs H (request.Look caller what) all published = either (is_chair chairs caller) (look_step H what) (refused refusal.UnknownChair) (look_shows H what all published) tt
step_shows chairs H (request.Take bench) all published = take_shows H bench (held H bench)
step_shows chairs H (request.Finish bench job made) all published = either (holds (held H bench) job) (finish_job bench job made (job_of H job)) (refused refusal.BenchEmpty) (finish_shows bench job made (job_of H job)) tt
step_shows chairs H (request.Release bench) all published = release_shows bench (held H bench)

-- what a desk answers
pub does_show : (chairs : List (List ℕ)) (H : History) (request : Request) (reply : Result Answered Refusal) (next : History) → AnsweredAreShown H → EachPublished H
    → Does (step chairs H request) H reply next → IfOk reply ShowsRight
does_show chairs H request (Ok reply) next all published does = subst (λ (r : Result Answered Refusal). IfOk r ShowsRight) does.0 (step_shows chairs H request all published)
does_show chairs H request (Err why) next all published does = tt
