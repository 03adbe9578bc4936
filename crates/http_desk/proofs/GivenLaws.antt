-- What the bench of a session was given, behind each request.
use Rattle.std.proofs.Common.{◌≡◌, ◌∙◌, rules, eqb, ℕ, Bool, true, false, cond, List, Option, None, Some, IfSome, IsErrOf, Result, Ok, Err, refl, subst, sym, ap}
use Rattle.std.specs.Prelude.{⊤}
use Rattle.publication.specs.declared.certificate.Certificate.{Certificate}
use Rattle.desk_keeper.specs.declared.words.Named.{Named}
use Rattle.desk_history.specs.declared.entries.Entry.{Entry}
use Rattle.desk_history.specs.declared.entries.Entry.TheVariants.{Accepted, Took, Ended, Released}
use Rattle.desk_history.specs.declared.jobs.Job.{Job}
use Rattle.desk_history.specs.declared.refusals.Refusal.{Refusal}
use Rattle.desk_history.specs.declared.refusals.Refusal.TheVariants.{BenchEmpty, BenchFull, IdReused, KeeperFault, Memory, UnknownChair}
use Rattle.desk_history.specs.declared.replies.Answered.{Answered}
use Rattle.desk_history.specs.declared.replies.Answered.TheVariants as answered
use Rattle.desk_history.specs.declared.replies.Snapshot.{Snapshot}
use Rattle.desk_history.specs.declared.requests.Look.{Look}
use Rattle.desk_history.specs.declared.requests.Request.TheVariants as request
use Rattle.desk_history.specs.declared.requests.Work.{Work}
use Rattle.desk_history.specs.declared.requests.Work.TheVariants as work
use Rattle.desk_history.specs.Courses.{Does}
use Rattle.desk_history.specs.Histories.{Earlier, History, held, job_of, jobs, kept}
use Rattle.desk_history.specs.Laws.{IsAtWork}
use Rattle.desk_history.specs.Looks.{Step, look_step, refused, told}
use Rattle.desk_history.specs.Refusals.{refusal_of}
use Rattle.desk_history.specs.SameCommands.{is_same_command}
use Rattle.desk_history.specs.Steps.{AcceptsCommand, Explains, IsRightFor, IsWorkFor, accepted, answered_by, command_step, done_of, finish_job, finish_step, first_waiting, holds, is_chair, made, numbered_step, refused_or, release_at, release_step, snapshot, step, take_at, take_first, take_step, with_entry}
use Rattle.desk_history.proofs.WorkLaws.{work_right, work_stays, work_taken}
use Rattle.desk_laws.proofs.EntryLaws.{Brings, either, look_brings}
use Rattle.desk_routes.specs.declared.places.Asked.TheVariants as asked
use Rattle.http_desk.specs.Given.{IsGiven, IsHandedIn, IsMadeOf, given_after}
use Rattle.http_desk.specs.Sessions.{IsAskedAs, job_held, job_or_none}

entry_stays : (entry : Option Entry) (H : History) (given : Snapshot) → IsAtWork H given → IsAtWork (with_entry entry H) given
entry_stays None H given at = at
entry_stays (Some entry) H given at = work_stays entry H given at

-- ---- requests of chairs

-- the entry of an accepted command
abbrev IsCommand : Entry → Type 0
IsCommand (Accepted caller number command reply read) = ⊤
IsCommand (Took bench job) = ⊥
IsCommand (Ended bench done) = ⊥
IsCommand (Released bench) = ⊥

new_brings : (H : History) (its : Named) (due : Option Refusal) → Brings IsCommand (refused_or due (made (answered_by (done_of H its.command)) (accepted H its None)))
new_brings H its None = tt
new_brings H its (Some refusal) = tt

numbered_brings : (H : History) (its : Named) (earlier : Option Earlier) → Brings IsCommand (numbered_step H its earlier)
numbered_brings H its None = new_brings H its (refusal_of H its None)
numbered_brings H its (Some earlier) = either IsCommand (is_same_command earlier.command its.command) (told (answered_by earlier.reply)) (refused (IdReused earlier.place)) tt tt

-- a command brings no other entry
pub command_brings : (chairs : List (List ℕ)) (H : History) (its : Named) → Brings IsCommand (step chairs H (request.Do its))
command_brings chairs H its = either IsCommand (is_chair chairs its.caller) (command_step H its) (refused UnknownChair) (numbered_brings H its (kept H its.caller its.number)) tt

-- and neither does a look
pub look_brings_none : (chairs : List (List ℕ)) (H : History) (caller : List ℕ) (what : Look) → Brings IsCommand (step chairs H (request.Look caller what))
look_brings_none chairs H caller what = either IsCommand (is_chair chairs caller) (look_step H what) (refused UnknownChair) (look_brings IsCommand H what) tt

held_stays : (entry : Option Entry) (H : History) → IfSome entry IsCommand → held (with_entry entry H) 0 ≡ held H 0
held_stays None H is = refl
held_stays (Some (Accepted caller number command reply read)) H is = refl
held_stays (Some (Took bench job)) H is = absurd is
held_stays (Some (Ended bench done)) H is = absurd is
held_stays (Some (Released bench)) H is = absurd is

given_entry : (entry : Option Entry) (H : History) (given : Option Snapshot) → IfSome entry IsCommand → IsGiven H given → IsGiven (with_entry entry H) given
given_entry entry H None is has = held_stays entry H is ∙ has
given_entry entry H (Some given) is has = (held_stays entry H is ∙ has.0, entry_stays entry H given has.1)

-- behind a chair's request the bench has what it had
pub given_stays : (asked : Step) (H : History) (reply : Result Answered Refusal) (next : History) (given : Option Snapshot) → Brings IsCommand asked → Does asked H reply next
    → IsGiven H given → IsGiven next given
given_stays asked H (Ok reply) next given brings does has = subst (λ (h : History). IsGiven h given) (sym does.1) (given_entry asked.entry H given brings has)
given_stays asked H (Err refusal) next given brings does has = subst (λ (h : History). IsGiven h given) (sym does.1) has

-- ---- a take

first_given : (H : History) (found : Option (ℕ × Job)) (given : Option Snapshot) (reply : Answered) (next : History)
    → ((taken : Snapshot) → (take_first H 0 found).reply ≡ Ok (answered.Taken taken) → IsAtWork H taken)
    → (take_first H 0 found).reply ≡ Ok reply → next ≡ with_entry (take_first H 0 found).entry H → IsGiven next (given_after given (Ok reply))
first_given H None given reply next work is becomes = absurd cc
first_given H (Some found) given reply next work is becomes =
    let same : answered.Taken (snapshot H found.0 found.1) ≡ reply = cc in
    subst (λ (r : Answered). IsGiven next (given_after given (Ok r))) same
    (subst (λ (h : History). IsGiven h (Some (snapshot H found.0 found.1))) (sym becomes) (refl, work_stays (Took 0 found.0) H (snapshot H found.0 found.1) (work (snapshot H found.0 found.1) refl)))

at_given : (H : History) (has : Option ℕ) (given : Option Snapshot) (reply : Result Answered Refusal) (next : History) → held H 0 ≡ has → IsGiven H given
    → Does (take_at H 0 has) H reply next → IsGiven next (given_after given reply)
at_given H (Some job) given (Ok reply) next is gives does = let wrong = does.0 in absurd cc
at_given H None given (Ok reply) next is gives does =
    first_given H (first_waiting 1 (jobs H)) given reply next
    (λ taken e. work_taken H 0 taken (subst (λ (o : Option ℕ). (take_at H 0 o).reply ≡ Ok (answered.Taken taken)) (sym is) e)) does.0 does.1
at_given H has given (Err refusal) next is gives does = subst (λ (h : History). IsGiven h given) (sym does.1) gives

-- behind a take it has what it was given, or what it had
pub given_taken : (H : History) (given : Option Snapshot) (reply : Result Answered Refusal) (next : History) → IsGiven H given → Does (take_step H 0) H reply next
    → IsGiven next (given_after given reply)
given_taken H given reply next gives does = at_given H (held H 0) given reply next refl gives does

-- ---- a finish

-- the step of an end that is accepted isn't refused for another cause than memory
abbrev IsDone : Step → Type 0
IsDone asked = (reply : Answered) × (asked.reply ≡ Ok reply) × (AcceptsCommand asked.entry → ⊥)

never : (asked : Step) (refusal : Refusal) → IsDone asked → (IsErrOf {T = Answered} (Err refusal) Memory → ⊥) → Explains asked refusal → ⊥
never asked Memory done sure explains = sure refl
never asked KeeperFault done sure explains = done.2 explains
never asked refusal done sure explains = let wrong = sym done.1 ∙ explains in absurd cc

-- a step that empties the bench
ended_none : (asked : Step) (H : History) (reply : Result Answered Refusal) (next : History) → IsDone asked → held (with_entry asked.entry H) 0 ≡ None
    → (IsErrOf reply Memory → ⊥) → Does asked H reply next → held next 0 ≡ None
ended_none asked H (Ok reply) next done none sure does = subst (λ (h : History). held h 0 ≡ None) (sym does.1) none
ended_none asked H (Err refusal) next done none sure does = absurd (never asked refusal done sure does.0)

-- a step that is refused leaves it empty
refused_none : (refusal : Refusal) (H : History) (reply : Result Answered Refusal) (next : History) → held H 0 ≡ None → Does (refused refusal) H reply next → held next 0 ≡ None
refused_none refusal H (Ok reply) next none does = let wrong = does.0 in absurd cc
refused_none refusal H (Err other) next none does = subst (λ (h : History). held h 0 ≡ None) (sym does.1) none

held_finish : (H : History) (job : ℕ) (done : Work) (found : Job) → held H 0 ≡ Some job → job_of H job ≡ Some found → finish_step H 0 job done ≡ finish_job 0 job done (Some found)
held_finish H job done found has there = let same : eqb job job ≡ true = search (rules) in rw (has, there, same) refl

free_finish : (H : History) (job : ℕ) (done : Work) → held H 0 ≡ None → finish_step H 0 job done ≡ refused BenchEmpty
free_finish H job done none = rw none refl

-- behind a finish of the job that it has, the bench has none
pub finish_empties : (H : History) (given : Option Snapshot) (job : ℕ) (done : Work) (reply : Result Answered Refusal) (next : History) → IsGiven H given → IsHandedIn given job done
    → (IsErrOf reply Memory → ⊥) → Does (finish_step H 0 job done) H reply next → held next 0 ≡ None
finish_empties H None job done reply next gives handed sure does =
    refused_none BenchEmpty H reply next gives (subst (λ (s : Step). Does s H reply next) (free_finish H job done gives) does)
finish_empties H (Some given) job done reply next gives handed sure does =
    let has : held H 0 ≡ Some job = gives.0 ∙ ap Some (sym handed.0) in
    let there : job_of H job ≡ Some gives.1.job = ap (job_of H) handed.0 ∙ gives.1.there in
    ended_none (finish_job 0 job done (Some gives.1.job)) H reply next (_, refl, λ e. e) refl sure
    (subst (λ (s : Step). Does s H reply next) (held_finish H job done gives.1.job has there) does)

-- ---- a release

release_at_empties : (H : History) (has : Option ℕ) (reply : Result Answered Refusal) (next : History) → held H 0 ≡ has → (IsErrOf reply Memory → ⊥) → Does (release_at 0 has) H reply next
    → held next 0 ≡ None
release_at_empties H None reply next is sure does = refused_none BenchEmpty H reply next is does
release_at_empties H (Some job) reply next is sure does = ended_none (release_at 0 (Some job)) H reply next (_, refl, λ e. e) refl sure does

-- behind a release the bench has no job
pub release_empties : (H : History) (reply : Result Answered Refusal) (next : History) → (IsErrOf reply Memory → ⊥) → Does (release_step H 0) H reply next → held next 0 ≡ None
release_empties H reply next sure does = release_at_empties H (held H 0) reply next refl sure does

-- ---- what is handed in

made_work : (H : History) (given : Snapshot) (done : Work) → IsAtWork H given → IsMadeOf given done → IsWorkFor H given.job done
made_work H given (work.Answered certificate) at made =
    subst (λ (c : Certificate). IsRightFor H given.job c) (ap (λ rules. record { rules = rules; answer = certificate.answer }) (sym made.0)) (work_right H given certificate.answer at made.1)
made_work H given work.OutOfMemory at made = tt

-- the job that the bench has, by what it was given
given_job : (H : History) (given : Option Snapshot) (job : ℕ) (done : Work) → IsGiven H given → IsHandedIn given job done → job ≡ job_held H
given_job H None job done gives handed = handed.0 ∙ sym (ap job_or_none gives)
given_job H (Some given) job done gives handed = handed.0 ∙ sym (ap job_or_none gives.0)

-- what is handed in may be handed in
pub handed_work : (H : History) (given : Option Snapshot) (job : ℕ) (done : Work) → IsGiven H given → IsHandedIn given job done → IsWorkFor H job done
handed_work H None job done gives handed = rw (handed.1) tt
handed_work H (Some given) job done gives handed = subst (λ (n : ℕ). IsWorkFor H n done) (sym handed.0) (made_work H given done gives.1 handed.1)

-- and is asked as a finish
pub asked_finish : (H : History) (given : Option Snapshot) (job : ℕ) (done : Work) → IsGiven H given → IsHandedIn given job done → IsAskedAs H asked.Finish (request.Finish 0 job done)
asked_finish H given job done gives handed =
    let same = given_job H given job done gives handed in
    (done, subst (λ (n : ℕ). IsWorkFor H n done) same (handed_work H given job done gives handed), ap (λ (n : ℕ). request.Finish 0 n done) same)
