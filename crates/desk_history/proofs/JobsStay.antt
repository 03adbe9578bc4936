-- A job stays, with its edition and its mode, under each later entry.
use Rattle.std.proofs.Common.{◌≡◌, ℕ, ◌+◌, ◌-◌, ◌==◌, Bool, true, false, cond, List, [], ◌∷◌, ◌++◌, length, map, set, Option, None, Some, refl, subst, sym, ap, ◌∙◌, zero, suc}
use Rattle.std.proofs.lemmas.Bool.{false≢true}
use Rattle.std.specs.List.{slice_get}
use Rattle.desk_keeper.specs.declared.words.Command.TheVariants.{Edit, Submit, Publish, Draw}
use Rattle.publication.specs.declared.certificate.Certificate.{Certificate}
use Rattle.desk_history.specs.declared.entries.Entry.{Entry}
use Rattle.desk_history.specs.declared.entries.Entry.TheVariants.{Accepted, Took, Ended, Released}
use Rattle.desk_history.specs.declared.jobs.Job.{Job}
use Rattle.desk_history.specs.declared.requests.Work.{Work}
use Rattle.desk_history.specs.Outcomes.{Event, Takes, Releases, Edits}
use Rattle.desk_history.specs.Histories.{History, changed, edits, ended, held, job_of, jobs, new_job, nth_of, published, publications, with_at, with_held, with_nth}
use Rattle.desk_history.specs.Laws.{IsLaterOf}

abbrev from_some : {A : Type 0} → A → Option A → A
from_some other None = other
from_some other (Some x) = x

pub some_equal : {A : Type 0} (a b : A) → Some a ≡ Some b → a ≡ b
some_equal a b e = ap (from_some a) e

abbrev is_there : {A : Type 0} → Option A → Bool
is_there None = false
is_there (Some x) = true

pub none_some : {A : Type 0} {P : Type 0} (x : A) (e : (let none : Option A = None in none ≡ Some x)) → P
none_some x e = absurd (false≢true (ap is_there e))

-- each job of a list is in the other at the same place, with its edition and its mode
abbrev Stay : List Job → List Job → Type 0
Stay old new = (i : ℕ) (job : Job) → slice_get old i ≡ Some job → (later : Job) × ((slice_get new i ≡ Some later) × IsLaterOf job later)

itself : (job : Job) → IsLaterOf job job
itself job = (refl, refl)

stay_same : (xs : List Job) → Stay xs xs
stay_same xs i job is = (job, (is, itself job))

stay_map : (change : Job → Job) → ((job : Job) → IsLaterOf job (change job)) → (xs : List Job) → Stay xs (map change xs)
stay_map change same [] i job is = none_some job is
stay_map change same (x ∷ xs) zero job is = (change x, (refl, subst (λ (old : Job). IsLaterOf old (change x)) (some_equal x job is) (same x)))
stay_map change same (x ∷ xs) (suc i) job is = stay_map change same xs i job is

stay_more : (xs more : List Job) → Stay xs (xs ++ more)
stay_more [] more i job is = none_some job is
stay_more (x ∷ xs) more zero job is = (job, (is, itself job))
stay_more (x ∷ xs) more (suc i) job is = stay_more xs more i job is

stay_set : (xs : List Job) (place : ℕ) (x y : Job) → slice_get xs place ≡ Some x → IsLaterOf x y → Stay xs (set xs place y)
stay_set [] place x y at later i job is = none_some x at
stay_set (z ∷ xs) zero x y at later zero job is =
    (y, (refl, subst (λ (old : Job). IsLaterOf old y) (sym (some_equal z x at) ∙ some_equal z job is) later))
stay_set (z ∷ xs) zero x y at later (suc i) job is = (job, (is, itself job))
stay_set (z ∷ xs) (suc place) x y at later zero job is = (job, (is, itself job))
stay_set (z ∷ xs) (suc place) x y at later (suc i) job is = stay_set xs place x y at later i job is

stay_at : (xs : List Job) (place : ℕ) (change : Job → Job) (found : Option Job) → ((x : Job) → found ≡ Some x → slice_get xs place ≡ Some x)
    → ((job : Job) → IsLaterOf job (change job)) → Stay xs (with_at xs place change found)
stay_at xs place change None there same = stay_same xs
stay_at xs place change (Some x) there same = stay_set xs place x (change x) (there x refl) (same x)

some_of_test : {A : Type 0} (test : Bool) (found : Option A) (x : A) → cond test None found ≡ Some x → found ≡ Some x
some_of_test true found x is = none_some x is
some_of_test false found x is = is

pub nth_there : {A : Type 0} (xs : List A) (number : ℕ) (x : A) → nth_of xs number ≡ Some x → slice_get xs (number - 1) ≡ Some x
nth_there xs number x is = some_of_test (number == 0) (slice_get xs (number - 1)) x is

stay_nth : (xs : List Job) (number : ℕ) (change : Job → Job) → ((job : Job) → IsLaterOf job (change job)) → Stay xs (with_nth xs number change)
stay_nth xs number change same = stay_at xs (number - 1) change (nth_of xs number) (nth_there xs number) same

stay_held : (xs : List Job) (job : Option ℕ) (change : Job → Job) → ((job : Job) → IsLaterOf job (change job)) → Stay xs (with_held xs job change)
stay_held xs None change same = stay_same xs
stay_held xs (Some number) change same = stay_nth xs number change same

same_changed : (event : Event) (job : Job) → IsLaterOf job (changed event job)
same_changed event job = (refl, refl)

same_published : (read : Option Certificate) (place number : ℕ) (job : Job) → IsLaterOf job (published read place number job)
same_published None place number job = (refl, refl)
same_published (Some read) place number job = (refl, refl)

same_ended : (done : Work) (place : ℕ) (job : Job) → IsLaterOf job (ended done place job)
same_ended done place job = (refl, refl)

jobs_with : (entry : Entry) (H : History) → Stay (jobs H) (jobs (entry ∷ H))
jobs_with (Accepted caller number (Edit base edit) reply read) H = stay_map (changed (Edits (edits H + 1))) (same_changed (Edits (edits H + 1))) (jobs H)
jobs_with (Accepted caller number (Submit base mode) reply read) H = stay_more (jobs H) (new_job (edits H) mode ∷ [])
jobs_with (Accepted caller number (Publish job) reply read) H =
    stay_nth (jobs H) job (published read (length H) (length (publications H) + 1)) (same_published read (length H) (length (publications H) + 1))
jobs_with (Accepted caller number (Draw publication text) reply read) H = stay_same (jobs H)
jobs_with (Took bench job) H = stay_nth (jobs H) job (changed Takes) (same_changed Takes)
jobs_with (Ended bench done) H = stay_held (jobs H) (held H bench) (ended done (length H)) (same_ended done (length H))
jobs_with (Released bench) H = stay_held (jobs H) (held H bench) (changed Releases) (same_changed Releases)

nth_later : (old new : List Job) → Stay old new → (test : Bool) (i : ℕ) (job : Job) → cond test None (slice_get old i) ≡ Some job
    → (later : Job) × ((cond test None (slice_get new i) ≡ Some later) × IsLaterOf job later)
nth_later old new stay true i job is = none_some job is
nth_later old new stay false i job is = stay i job is

pub job_stays : (entry : Entry) (H : History) (number : ℕ) (job : Job) → job_of H number ≡ Some job
    → (later : Job) × ((job_of (entry ∷ H) number ≡ Some later) × IsLaterOf job later)
job_stays entry H number job is = nth_later (jobs H) (jobs (entry ∷ H)) (jobs_with entry H) (number == 0) (number - 1) job is
