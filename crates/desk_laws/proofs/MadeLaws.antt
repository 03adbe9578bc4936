-- What a request makes: a command of a chair that is new and accepted, or what a bench does.
use Rattle.std.proofs.Common.{◌≡◌, ℕ, ◌<◌, ◌^◌, Bool, true, false, cond, List, Option, None, Some, IfSome, refl, subst}
use Rattle.std.specs.Prelude.{⊤}
use Rattle.publication.specs.declared.certificate.Certificate.{Certificate}
use Rattle.desk_keeper.specs.Rows.{IsSmall}
use Rattle.desk_keeper.specs.declared.words.Named.{Named}
use Rattle.desk_history.specs.declared.entries.Done.{Done}
use Rattle.desk_history.specs.declared.entries.Entry.{Entry}
use Rattle.desk_history.specs.declared.entries.Entry.TheVariants.{Accepted, Took, Ended, Released}
use Rattle.desk_history.specs.declared.jobs.Job.{Job}
use Rattle.desk_history.specs.declared.refusals.Refusal.{Refusal}
use Rattle.desk_history.specs.declared.refusals.Refusal.TheVariants as refusal
use Rattle.desk_history.specs.declared.requests.Request.{Request}
use Rattle.desk_history.specs.declared.requests.Request.TheVariants as request
use Rattle.desk_history.specs.declared.requests.Work.{Work}
use Rattle.desk_history.specs.Histories.{Earlier, History, held, job_of, jobs, kept}
use Rattle.desk_history.specs.Looks.{look_step, refused}
use Rattle.desk_history.specs.Opened.{Makes}
use Rattle.desk_history.specs.Refusals.{refusal_of}
use Rattle.desk_history.specs.Rows.{named}
use Rattle.desk_history.specs.Steps.{IsTyped, IsTypedWork, MayAsk, MayCommand, accepted, answered_by, command_step, done_of, finish_job, first_waiting, holds, is_chair, made, numbered_step, refused_or, release_at, step, take_at, take_first}
use Rattle.desk_laws.proofs.EntryLaws.{Brings, either, look_brings, repeat_brings}

-- a chair's command that a caller can hand in, with a number that is new, accepted with this reply
pub record IsMadeCommand (chairs : List (List ℕ)) (H : History) (its : Named) (reply : Done) (read : Option Certificate) : Type 0 where
  pub chair : is_chair chairs its.caller ≡ true
  pub may : MayCommand its.command
  pub typed : (its.number < 2 ^ 64) × IsSmall its.command
  pub is_new : kept H its.caller its.number ≡ None
  pub is_right : refusal_of H its None ≡ None
  pub replied : reply ≡ done_of H its.command
  pub unread : read ≡ None

abbrev pub IsMade : List (List ℕ) → History → Entry → Type 0
IsMade chairs H (Accepted caller number command reply read) = IsMadeCommand chairs H (named caller number command) reply read
IsMade chairs H (Took bench job) = ⊤
IsMade chairs H (Ended bench done) = IsTypedWork done
IsMade chairs H (Released bench) = ⊤

new_made : (chairs : List (List ℕ)) (H : History) (its : Named) (due : Option Refusal) → is_chair chairs its.caller ≡ true → MayCommand its.command → (its.number < 2 ^ 64) × IsSmall its.command → kept H its.caller its.number ≡ None → refusal_of H its None ≡ due
    → Brings (IsMade chairs H) (refused_or due (made (answered_by (done_of H its.command)) (accepted H its None)))
new_made chairs H its None chair may typed new e = record { chair = chair; may = may; typed = typed; is_new = new; is_right = e; replied = refl; unread = refl }
new_made chairs H its (Some why) chair may typed new e = tt

numbered_made : (chairs : List (List ℕ)) (H : History) (its : Named) (earlier : Option Earlier) → is_chair chairs its.caller ≡ true → MayCommand its.command → (its.number < 2 ^ 64) × IsSmall its.command → kept H its.caller its.number ≡ earlier
    → Brings (IsMade chairs H) (numbered_step H its earlier)
numbered_made chairs H its None chair may typed e = new_made chairs H its (refusal_of H its None) chair may typed e refl
numbered_made chairs H its (Some earlier) chair may typed e = repeat_brings (IsMade chairs H) earlier its.command

chair_made : (chairs : List (List ℕ)) (H : History) (its : Named) (test : Bool) → is_chair chairs its.caller ≡ test → MayCommand its.command → (its.number < 2 ^ 64) × IsSmall its.command
    → Brings (IsMade chairs H) (cond test (command_step H its) (refused refusal.UnknownChair))
chair_made chairs H its true e may typed = numbered_made chairs H its (kept H its.caller its.number) e may typed refl
chair_made chairs H its false e may typed = tt

first_made : (chairs : List (List ℕ)) (H : History) (bench : ℕ) (found : Option (ℕ × Job)) → Brings (IsMade chairs H) (take_first H bench found)
first_made chairs H bench None = tt
first_made chairs H bench (Some found) = tt

take_made : (chairs : List (List ℕ)) (H : History) (bench : ℕ) (job : Option ℕ) → Brings (IsMade chairs H) (take_at H bench job)
take_made chairs H bench None = first_made chairs H bench (first_waiting 1 (jobs H))
take_made chairs H bench (Some job) = tt

release_made : (chairs : List (List ℕ)) (H : History) (bench : ℕ) (job : Option ℕ) → Brings (IsMade chairs H) (release_at bench job)
release_made chairs H bench None = tt
release_made chairs H bench (Some job) = tt

ended_made : (chairs : List (List ℕ)) (H : History) (bench number : ℕ) (done : Work) (job : Option Job) → IsTypedWork done → Brings (IsMade chairs H) (finish_job bench number done job)
ended_made chairs H bench number done None typed = tt
ended_made chairs H bench number done (Some job) typed = typed

asked_made : (chairs : List (List ℕ)) (H : History) (asked : Request) → MayAsk H asked → IsTyped asked → Brings (IsMade chairs H) (step chairs H asked)
asked_made chairs H (request.Do its) may typed = chair_made chairs H its (is_chair chairs its.caller) refl may typed
asked_made chairs H (request.Look caller what) may typed = either (IsMade chairs H) (is_chair chairs caller) (look_step H what) (refused refusal.UnknownChair) (look_brings (IsMade chairs H) H what) tt
asked_made chairs H (request.Take bench) may typed = take_made chairs H bench (held H bench)
asked_made chairs H (request.Finish bench job done) may typed =
    either (IsMade chairs H) (holds (held H bench) job) (finish_job bench job done (job_of H job)) (refused refusal.BenchEmpty) (ended_made chairs H bench job done (job_of H job) typed) tt
asked_made chairs H (request.Release bench) may typed = release_made chairs H bench (held H bench)

pub made_entry : (chairs : List (List ℕ)) (H : History) (entry : Entry) → Makes chairs H entry → IsMade chairs H entry
made_entry chairs H entry makes = subst (λ (o : Option Entry). IfSome o (IsMade chairs H)) makes.entry (asked_made chairs H makes.request makes.may makes.typed)
