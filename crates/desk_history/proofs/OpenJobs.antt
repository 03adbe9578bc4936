-- Jobs that were not decided are of the present edition, and editions stay.
use Rattle.std.proofs.Common.{◌≡◌, ℕ, ◌+◌, ◌-◌, Bool, true, false, cond, eqb, List, [], ◌∷◌, length, All, get_or, Option, None, Some, IfSome, refl, subst, arith, zero, suc, ltb}
use Rattle.std.proofs.lemmas.List.Elements.{All-set, All-map, All-append}
use Rattle.std.proofs.lemmas.Bool.{false≢true}
use Rattle.std.proofs.Common.{rules}
use Rattle.std.proofs.lemmas.Option.{slice_get_within, get_or_from_slice_get}
use Rattle.std.specs.List.{slice_get}
use Rattle.match_rules.specs.declared.answer.Answer.{Answer}
use Rattle.match_rules.specs.declared.answer.Answer.TheVariants.{Lottery}
use Rattle.match_rules.specs.declared.answer.Answer.TheVariants as answer
use Rattle.publication.specs.declared.certificate.Certificate.{Certificate}
use Rattle.desk_keeper.specs.declared.words.Command.TheVariants.{Edit, Submit, Publish, Draw}
use Rattle.desk_history.specs.declared.entries.Entry.TheVariants.{Accepted, Took, Ended, Released}
use Rattle.desk_history.specs.declared.jobs.Job.{Job}
use Rattle.desk_history.specs.declared.jobs.Outcome.{Outcome}
use Rattle.desk_history.specs.declared.jobs.Outcome.TheVariants.{Waiting, Taken, Certified, Infeasible, Stale, OutOfMemory}
use Rattle.desk_history.specs.declared.requests.Work.{Work}
use Rattle.desk_history.specs.declared.requests.Work.TheVariants as work
use Rattle.desk_history.specs.Outcomes.{Takes, Ends, Releases, Edits, Reads, after, answered_outcome, worked_outcome}
use Rattle.desk_history.specs.Histories.{History, changed, edition, edits, ended, held, jobs, new_job, nth_of, present, published, publications, with_at, with_held, with_nth}
use Rattle.desk_history.specs.Laws.{IfOpen, IsPresent, OpenArePresent}
use Rattle.desk_history.specs.Steps.{first_waiting, is_waiting}

-- Lists

pub all_get : {A : Type 0} (P : A → Type 0) (xs : List A) (i : ℕ) (x : A) → All P xs → slice_get xs i ≡ Some x → P x
all_get P xs i x all found = subst P (get_or_from_slice_get xs i x x found) (all i x (slice_get_within xs i x found))

pub all_with_at : {A : Type 0} (P : A → Type 0) (xs : List A) (place : ℕ) (change : A → A) (found : Option A) → ((x : A) → P x → P (change x)) → IfSome found P → All P xs → All P (with_at xs place change found)
all_with_at P xs place change None step some all = all
all_with_at P xs place change (Some x) step some all = All-set P xs place (change x) (step x some) all

if_get : {A : Type 0} (P : A → Type 0) (xs : List A) (i : ℕ) (found : Option A) → slice_get xs i ≡ found → All P xs → IfSome found P
if_get P xs i None e all = tt
if_get P xs i (Some x) e all = all_get P xs i x all e

if_nth : {A : Type 0} (P : A → Type 0) (test : Bool) (found : Option A) → IfSome found P → IfSome (cond test None found) P
if_nth P true found some = tt
if_nth P false found some = some

pub all_with_nth : {A : Type 0} (P : A → Type 0) (xs : List A) (number : ℕ) (change : A → A) → ((x : A) → P x → P (change x)) → All P xs → All P (with_nth xs number change)
all_with_nth P xs number change step all =
    all_with_at P xs (number - 1) change (nth_of xs number) step (if_nth P (eqb number 0) (slice_get xs (number - 1)) (if_get P xs (number - 1) (slice_get xs (number - 1)) refl all)) all

pub all_with_held : (P : Job → Type 0) (xs : List Job) (job : Option ℕ) (change : Job → Job) → ((x : Job) → P x → P (change x)) → All P xs → All P (with_held xs job change)
all_with_held P xs None change step all = all
all_with_held P xs (Some job) change step all = all_with_nth P xs job change step all

all_one : {A : Type 0} (P : A → Type 0) (x : A) → P x → All P (x ∷ [])
all_one P x p zero d lt = p
all_one P x p (suc k) d lt = absurd (omega arith)

-- Open jobs

closed_by_edit : (later : ℕ) (outcome : Outcome) (T : Type 0) → IfOpen (after (Edits later) outcome) T
closed_by_edit later Waiting T = tt
closed_by_edit later Taken T = tt
closed_by_edit later (Certified level total) T = tt
closed_by_edit later (Infeasible need room) T = tt
closed_by_edit later (Stale before) T = tt
closed_by_edit later OutOfMemory T = tt

open_by_take : (outcome : Outcome) (T : Type 0) → IfOpen outcome T → IfOpen (after Takes outcome) T
open_by_take Waiting T t = t
open_by_take Taken T t = t
open_by_take (Certified level total) T t = tt
open_by_take (Infeasible need room) T t = tt
open_by_take (Stale before) T t = tt
open_by_take OutOfMemory T t = tt

open_by_release : (outcome : Outcome) (T : Type 0) → IfOpen outcome T → IfOpen (after Releases outcome) T
open_by_release Waiting T t = t
open_by_release Taken T t = t
open_by_release (Certified level total) T t = tt
open_by_release (Infeasible need room) T t = tt
open_by_release (Stale before) T t = tt
open_by_release OutOfMemory T t = tt

closed_by_answer : (reply : Answer) (T : Type 0) → IfOpen (answered_outcome reply) T
closed_by_answer (answer.Lottery winning) T = tt
closed_by_answer (answer.Infeasible blocked) T = tt

closed_by_work : (done : Work) (T : Type 0) → IfOpen (worked_outcome done) T
closed_by_work (work.Answered certificate) T = closed_by_answer certificate.answer T
closed_by_work work.OutOfMemory T = tt

open_by_end : (done : Work) (outcome : Outcome) (T : Type 0) → IfOpen outcome T → IfOpen (after (Ends done) outcome) T
open_by_end done Waiting T t = t
open_by_end done Taken T t = closed_by_work done T
open_by_end done (Certified level total) T t = tt
open_by_end done (Infeasible need room) T t = tt
open_by_end done (Stale before) T t = tt
open_by_end done OutOfMemory T t = tt

open_by_reading : (reply : Answer) (outcome : Outcome) (T : Type 0) → IfOpen outcome T → IfOpen (after (Reads reply) outcome) T
open_by_reading reply Waiting T t = closed_by_answer reply T
open_by_reading reply Taken T t = t
open_by_reading reply (Certified level total) T t = tt
open_by_reading reply (Infeasible need room) T t = tt
open_by_reading reply (Stale before) T t = tt
open_by_reading reply OutOfMemory T t = tt

open_published : (read : Option Certificate) (place number now : ℕ) (job : Job) → IsPresent now job → IsPresent now (published read place number job)
open_published None place number now job is = is
open_published (Some certificate) place number now job is = open_by_reading certificate.answer job.outcome (job.edition ≡ now) is

pub open_jobs : (H : History) → OpenArePresent H
open_jobs [] = λ k d lt. absurd (omega arith)
open_jobs (Accepted caller number (Edit base edit) reply read ∷ H) =
    All-map (IsPresent (edits H + 1)) (changed (Edits (edits H + 1))) (jobs H) (λ k d lt. closed_by_edit (edits H + 1) (get_or (jobs H) k d).outcome ((get_or (jobs H) k d).edition ≡ edits H + 1))
open_jobs (Accepted caller number (Submit base mode) reply read ∷ H) =
    All-append (IsPresent (edits H)) (jobs H) (new_job (edits H) mode ∷ []) (open_jobs H) (all_one (IsPresent (edits H)) (new_job (edits H) mode) refl)
open_jobs (Accepted caller number (Publish job) reply read ∷ H) =
    all_with_nth (IsPresent (edits H)) (jobs H) job (published read (length H) (length (publications H) + 1)) (open_published read (length H) (length (publications H) + 1) (edits H)) (open_jobs H)
open_jobs (Accepted caller number (Draw publication text) reply read ∷ H) = open_jobs H
open_jobs (Took bench job ∷ H) =
    all_with_nth (IsPresent (edits H)) (jobs H) job (changed Takes) (λ x is. open_by_take x.outcome (x.edition ≡ edits H) is) (open_jobs H)
open_jobs (Ended bench done ∷ H) =
    all_with_held (IsPresent (edits H)) (jobs H) (held H bench) (ended done (length H)) (λ x is. open_by_end done x.outcome (x.edition ≡ edits H) is) (open_jobs H)
open_jobs (Released bench ∷ H) =
    all_with_held (IsPresent (edits H)) (jobs H) (held H bench) (changed Releases) (λ x is. open_by_release x.outcome (x.edition ≡ edits H) is) (open_jobs H)

-- Editions

pub edition_present : (H : History) → edition H (edits H) ≡ present H
edition_present [] = refl
edition_present (Accepted caller number (Edit base edit) reply read ∷ H) = let more : ltb (edits H) (edits H + 1) ≡ true = search rules in rw more refl
edition_present (Accepted caller number (Submit base mode) reply read ∷ H) = edition_present H
edition_present (Accepted caller number (Publish job) reply read ∷ H) = edition_present H
edition_present (Accepted caller number (Draw publication text) reply read ∷ H) = edition_present H
edition_present (Took bench job ∷ H) = edition_present H
edition_present (Ended bench done ∷ H) = edition_present H
edition_present (Released bench ∷ H) = edition_present H

-- Waiting jobs

if_first : {A : Type 0} (P : A → Type 0) (test : Bool) (x : A) (rest : Option A) → (test ≡ true → P x) → IfSome rest P → IfSome (cond test (Some x) rest) P
if_first P true x rest p others = p refl
if_first P false x rest p others = others

waiting_open : (outcome : Outcome) (T : Type 0) → is_waiting outcome ≡ true → IfOpen outcome T → T
waiting_open Waiting T h t = t
waiting_open Taken T h t = absurd (false≢true h)
waiting_open (Certified level total) T h t = absurd (false≢true h)
waiting_open (Infeasible need room) T h t = absurd (false≢true h)
waiting_open (Stale before) T h t = absurd (false≢true h)
waiting_open OutOfMemory T h t = absurd (false≢true h)

-- the first waiting job is of the present edition
pub first_present : (now number : ℕ) (all : List Job) → All (IsPresent now) all → IfSome (first_waiting number all) (λ found. found.1.edition ≡ now)
first_present now number [] here = tt
first_present now number (job ∷ rest) here =
    if_first (λ (found : ℕ × Job). found.1.edition ≡ now) (is_waiting job.outcome) (number, job) (first_waiting (number + 1) rest)
    (λ waits. waiting_open job.outcome (job.edition ≡ now) waits (here 0 job (omega arith)))
    (first_present now (number + 1) rest (λ k d lt. here (suc k) d (omega (arith, lt))))
