-- In a legal history each job with an answer has evidence.
use Rattle.std.proofs.Common.{◌≡◌, ℕ, ◌+◌, ◌-◌, ◌≤◌, ◌<◌, Bool, true, false, cond, eqb, List, [], ◌∷◌, length, All, get_or, Option, None, Some, IfSome, refl, subst, arith, zero, suc, ltb, ap, sym, ◌∙◌, eq-eqb, ne_eqb, inl, inr}
use Rattle.std.specs.Prelude.{⊤}
use Rattle.std.proofs.lemmas.List.Elements.{All-set, All-map, All-append}
use Rattle.std.proofs.lemmas.Bool.{cases_eq, false≢true}
use Rattle.std.proofs.Common.{rules}
use Rattle.std.proofs.lemmas.Option.{slice_get_within, get_or_from_slice_get}
use Rattle.std.specs.List.{slice_get}
use Rattle.publication.specs.declared.certificate.Certificate.{Certificate}
use Rattle.desk_keeper.specs.declared.words.Command.{Command}
use Rattle.desk_keeper.specs.declared.words.Command.TheVariants.{Edit, Submit, Publish, Draw}
use Rattle.desk_history.specs.declared.entries.Done.{Done}
use Rattle.desk_history.specs.declared.entries.Entry.{Entry}
use Rattle.desk_history.specs.declared.entries.Entry.TheVariants.{Accepted, Took, Ended, Released}
use Rattle.desk_history.specs.declared.jobs.Job.{Job}
use Rattle.desk_history.specs.declared.jobs.Outcome.{Outcome}
use Rattle.desk_history.specs.declared.jobs.Outcome.TheVariants.{Waiting, Taken, Certified, Infeasible, Stale, OutOfMemory}
use Rattle.desk_history.specs.declared.requests.Work.{Work}
use Rattle.desk_history.specs.declared.requests.Work.TheVariants as work
use Rattle.desk_history.specs.Outcomes.{Takes, Ends, Releases, Edits, Reads, after, answered_outcome, worked_outcome}
use Rattle.desk_history.specs.Histories.{History, brought_at, brought_by, changed, decides, edition, edits, ended, evidence, held, job_of, jobs, new_job, nth_of, published, publications, with_at, with_held, with_nth}
use Rattle.desk_history.specs.Looks.{rules_at, rules_or_none}
use Rattle.desk_history.specs.Refusals.{own_refusal}
use Rattle.desk_history.specs.Steps.{IsRight, IsRightFor, IsWorkFor}
use Rattle.venue_rules.specs.VenueRules.{rules_of}
use Rattle.desk_laws.specs.Evidence.{HasEvidence, IfAnswered, IsShown}

-- Options

abbrev is_there : {A : Type 0} → Option A → Bool
is_there None = false
is_there (Some x) = true

pub none_some : {A : Type 0} {P : Type 0} (x : A) (e : (let none : Option A = None in none ≡ Some x)) → P
none_some x e = absurd (false≢true (ap is_there e))

abbrev pub or_else : {A : Type 0} → A → Option A → A
or_else d None = d
or_else d (Some x) = x

-- Lists

pub all_get : {A : Type 0} (P : A → Type 0) (xs : List A) (i : ℕ) (x : A) → All P xs → slice_get xs i ≡ Some x → P x
all_get P xs i x all found = subst P (get_or_from_slice_get xs i x x found) (all i x (slice_get_within xs i x found))

nth_get : {A : Type 0} (P : A → Type 0) (test : Bool) (xs : List A) (i : ℕ) (x : A) → All P xs → cond test None (slice_get xs i) ≡ Some x → P x
nth_get P true xs i x all found = none_some x found
nth_get P false xs i x all found = all_get P xs i x all found

pub all_nth : {A : Type 0} (P : A → Type 0) (xs : List A) (number : ℕ) (x : A) → All P xs → nth_of xs number ≡ Some x → P x
all_nth P xs number x all found = nth_get P (eqb number 0) xs (number - 1) x all found

all_with_at : {A : Type 0} (P : A → Type 0) (xs : List A) (place : ℕ) (change : A → A) (found : Option A) → ((x : A) → found ≡ Some x → P (change x)) → All P xs → All P (with_at xs place change found)
all_with_at P xs place change None step all = all
all_with_at P xs place change (Some x) step all = All-set P xs place (change x) (step x refl) all

pub all_with_nth : {A : Type 0} (P : A → Type 0) (xs : List A) (number : ℕ) (change : A → A) → ((x : A) → nth_of xs number ≡ Some x → P x → P (change x)) → All P xs → All P (with_nth xs number change)
all_with_nth P xs number change step all = all_with_at P xs (number - 1) change (nth_of xs number) (λ x found. step x found (all_nth P xs number x all found)) all

pub all_one : {A : Type 0} (P : A → Type 0) (x : A) → P x → All P (x ∷ [])
all_one P x p zero d lt = p
all_one P x p (suc k) d lt = absurd (omega arith)

pub all_then : {A : Type 0} (P Q : A → Type 0) (xs : List A) → ((x : A) → P x → Q x) → All P xs → All Q xs
all_then P Q xs step all = λ k d lt. step (get_or xs k d) (all k d lt)

-- What stays behind a further entry

brought_within : (H : History) (place : ℕ) (shown : Certificate) → brought_at H (Some place) ≡ Some shown → place < length H
brought_within [] place shown e = none_some shown e
brought_within (entry ∷ H) place shown e = elim (cases_eq place (length H)) [
  | inl same ↦ omega (arith, same)
  | inr other ↦
      let before : brought_at H (Some place) ≡ Some shown = sym (ap (λ t. cond t (brought_by entry) (brought_at H (Some place))) (ne_eqb place (length H) other)) ∙ e in
      let within : place < length H = brought_within H place shown before in
      omega (arith, within)
]

pub brought_later : (entry : Entry) (H : History) (decided : Option ℕ) (shown : Certificate) → brought_at H decided ≡ Some shown → brought_at (entry ∷ H) decided ≡ Some shown
brought_later entry H None shown e = e
brought_later entry H (Some place) shown e =
    let within : place < length H = brought_within H place shown e in
    let other : place ≡ length H → ⊥ = λ same. omega (arith, same, within) in
    ap (λ t. cond t (brought_by entry) (brought_at H (Some place))) (ne_eqb place (length H) other) ∙ e

edits_later : (entry : Entry) (H : History) → edits H ≤ edits (entry ∷ H)
edits_later (Accepted caller number (Edit base edit) reply read) H = omega arith
edits_later (Accepted caller number (Submit base mode) reply read) H = omega arith
edits_later (Accepted caller number (Publish job) reply read) H = omega arith
edits_later (Accepted caller number (Draw publication text) reply read) H = omega arith
edits_later (Took bench job) H = omega arith
edits_later (Ended bench done) H = omega arith
edits_later (Released bench) H = omega arith

edition_later : (entry : Entry) (H : History) (n : ℕ) → n ≤ edits H → edition (entry ∷ H) n ≡ edition H n
edition_later (Accepted caller number (Edit base edit) reply read) H n le = let less : ltb (edits H) n ≡ false = search (rules, le) in rw less refl
edition_later (Accepted caller number (Submit base mode) reply read) H n le = refl
edition_later (Accepted caller number (Publish job) reply read) H n le = refl
edition_later (Accepted caller number (Draw publication text) reply read) H n le = refl
edition_later (Took bench job) H n le = refl
edition_later (Ended bench done) H n le = refl
edition_later (Released bench) H n le = refl

rules_later : (entry : Entry) (H : History) (n : ℕ) → n ≤ edits H → rules_at H n ≡ rules_at (entry ∷ H) n
rules_later entry H n le = ap (λ venue. rules_or_none (rules_of venue)) (sym (edition_later entry H n le))

shown_by : (H next : History) (job : Job) → rules_at H job.edition ≡ rules_at next job.edition → ((shown : Certificate) → evidence H job ≡ Some shown → evidence next job ≡ Some shown) → HasEvidence H job → HasEvidence next job
shown_by H next job same later has = record {
  answer = has.answer;
  shown = later _ has.shown ∙ ap (λ r. Some (record { rules = r; answer = has.answer })) same;
  right = subst (λ r. IsRight r job.mode has.answer) same has.right;
  told = has.told;
}

-- Facts of jobs with an answer

pub if_then : (outcome : Outcome) (P Q : Type 0) → (P → Q) → IfAnswered outcome P → IfAnswered outcome Q
if_then Waiting P Q step p = tt
if_then Taken P Q step p = tt
if_then (Certified level total) P Q step p = step p
if_then (Infeasible need room) P Q step p = step p
if_then (Stale later) P Q step p = tt
if_then OutOfMemory P Q step p = tt

pub if_always : (outcome : Outcome) (P : Type 0) → P → IfAnswered outcome P
if_always Waiting P p = tt
if_always Taken P p = tt
if_always (Certified level total) P p = p
if_always (Infeasible need room) P p = p
if_always (Stale later) P p = tt
if_always OutOfMemory P p = tt

-- a job of an edition that there is, with evidence where it has an answer
abbrev pub IsSound : History → Job → Type 0
IsSound H job = (job.edition ≤ edits H) × IsShown H job

sound_later : (entry : Entry) (H : History) (job : Job) → IsSound H job → IsSound (entry ∷ H) job
sound_later entry H job is =
    let within : job.edition ≤ edits H = is.0 in
    let more : edits H ≤ edits (entry ∷ H) = edits_later entry H in (
      omega (arith, within, more),
      if_then job.outcome (HasEvidence H job) (HasEvidence (entry ∷ H) job)
          (shown_by H (entry ∷ H) job (rules_later entry H job.edition within) (λ shown e. brought_later entry H job.decided shown e)) is.1,
    )

all_later : (entry : Entry) (H : History) → All (IsSound H) (jobs H) → All (IsSound (entry ∷ H)) (jobs H)
all_later entry H all = all_then (IsSound H) (IsSound (entry ∷ H)) (jobs H) (sound_later entry H) all

-- the job with its outcome written out
with_outcome : (H : History) (job : Job) (outcome : Outcome) → job.outcome ≡ outcome → HasEvidence H job → HasEvidence H (record job { outcome = outcome })
with_outcome H job outcome e has = record { answer = has.answer; shown = has.shown; right = has.right; told = has.told ∙ e }

by_take : (H : History) (job : Job) (outcome : Outcome) → job.outcome ≡ outcome → IfAnswered outcome (HasEvidence H job) → IfAnswered (after Takes outcome) (HasEvidence H (record job { outcome = after Takes outcome }))
by_take H job Waiting e has = tt
by_take H job Taken e has = tt
by_take H job (Certified level total) e has = with_outcome H job (Certified level total) e has
by_take H job (Infeasible need room) e has = with_outcome H job (Infeasible need room) e has
by_take H job (Stale later) e has = tt
by_take H job OutOfMemory e has = tt

by_release : (H : History) (job : Job) (outcome : Outcome) → job.outcome ≡ outcome → IfAnswered outcome (HasEvidence H job) → IfAnswered (after Releases outcome) (HasEvidence H (record job { outcome = after Releases outcome }))
by_release H job Waiting e has = tt
by_release H job Taken e has = tt
by_release H job (Certified level total) e has = with_outcome H job (Certified level total) e has
by_release H job (Infeasible need room) e has = with_outcome H job (Infeasible need room) e has
by_release H job (Stale later) e has = tt
by_release H job OutOfMemory e has = tt

by_edit : (H : History) (job : Job) (edited : ℕ) (outcome : Outcome) → job.outcome ≡ outcome → IfAnswered outcome (HasEvidence H job) → IfAnswered (after (Edits edited) outcome) (HasEvidence H (record job { outcome = after (Edits edited) outcome }))
by_edit H job edited Waiting e has = tt
by_edit H job edited Taken e has = tt
by_edit H job edited (Certified level total) e has = with_outcome H job (Certified level total) e has
by_edit H job edited (Infeasible need room) e has = with_outcome H job (Infeasible need room) e has
by_edit H job edited (Stale later) e has = tt
by_edit H job edited OutOfMemory e has = tt

-- an end with an answer is its evidence
answered_now : (H : History) (bench number : ℕ) (job : Job) (certificate : Certificate) → job_of H number ≡ Some job → IsRightFor H number certificate
    → HasEvidence (Ended bench (work.Answered certificate) ∷ H) (record job { outcome = answered_outcome certificate.answer; decided = Some (length H) })
answered_now H bench number job certificate found is =
    let same : is.job ≡ job = ap (or_else job) (sym is.there ∙ found) in
    record {
      answer = certificate.answer;
      shown = ap (λ t. cond t (Some certificate) (brought_at H (Some (length H)))) (eq-eqb (length H) (length H) refl)
          ∙ ap (λ r. Some (record { rules = r; answer = certificate.answer })) (is.rules ∙ ap (λ (j : Job). rules_at H j.edition) same);
      right = subst (λ (j : Job). IsRight (rules_at H j.edition) j.mode certificate.answer) same is.right;
      told = refl;
    }

worked_now : (H : History) (bench number : ℕ) (job : Job) (done : Work) → job_of H number ≡ Some job → IsWorkFor H number done
    → IfAnswered (worked_outcome done) (HasEvidence (Ended bench done ∷ H) (record job { outcome = worked_outcome done; decided = Some (length H) }))
worked_now H bench number job (work.Answered certificate) found is =
    if_always (answered_outcome certificate.answer) (HasEvidence (Ended bench (work.Answered certificate) ∷ H) (record job { outcome = answered_outcome certificate.answer; decided = Some (length H) })) (answered_now H bench number job certificate found is)
worked_now H bench number job work.OutOfMemory found is = tt

by_end : (H : History) (bench number : ℕ) (job : Job) (done : Work) (outcome : Outcome) → job_of H number ≡ Some job → IsWorkFor H number done → job.outcome ≡ outcome
    → IfAnswered outcome (HasEvidence (Ended bench done ∷ H) job)
    → IfAnswered (after (Ends done) outcome) (HasEvidence (Ended bench done ∷ H) (record job { outcome = after (Ends done) outcome; decided = decides outcome (length H) job.decided }))
by_end H bench number job done Waiting found is e has = tt
by_end H bench number job done Taken found is e has = worked_now H bench number job done found is
by_end H bench number job done (Certified level total) found is e has = with_outcome (Ended bench done ∷ H) job (Certified level total) e has
by_end H bench number job done (Infeasible need room) found is e has = with_outcome (Ended bench done ∷ H) job (Infeasible need room) e has
by_end H bench number job done (Stale later) found is e has = tt
by_end H bench number job done OutOfMemory found is e has = tt

-- What an entry brings

-- what was read with a command is right for the job, which had no answer
abbrev pub IsReadRight : History → Command → Certificate → Type 0
IsReadRight H (Publish number) read = IsRightFor H number read × ((job : Job) → job_of H number ≡ Some job → IfAnswered job.outcome ⊥)
IsReadRight H (Edit base edit) read = ⊤
IsReadRight H (Submit base mode) read = ⊤
IsReadRight H (Draw publication text) read = ⊤

abbrev pub IsReadRightIn : History → Command → Option Certificate → Type 0
IsReadRightIn H command None = ⊤
IsReadRightIn H command (Some read) = IsReadRight H command read

abbrev pub IsFair : History → Entry → Type 0
IsFair H (Accepted caller number command reply read) = (own_refusal H command read ≡ None) × IsReadRightIn H command read
IsFair H (Took bench job) = ⊤
IsFair H (Ended bench done) = IfSome (held H bench) (λ number. IsWorkFor H number done)
IsFair H (Released bench) = ⊤

-- the job with a publication
with_publication : (H : History) (job : Job) (number : ℕ) → HasEvidence H job → HasEvidence H (record job { publication = Some number })
with_publication H job number has = record { answer = has.answer; shown = has.shown; right = has.right; told = has.told }

read_now : (H : History) (caller : List ℕ) (numbered number new : ℕ) (reply : Done) (job : Job) (certificate : Certificate) → job_of H number ≡ Some job → IsRightFor H number certificate
    → HasEvidence (Accepted caller numbered (Publish number) reply (Some certificate) ∷ H) (record job { outcome = answered_outcome certificate.answer; decided = Some (length H); publication = Some new })
read_now H caller numbered number new reply job certificate found is =
    let same : is.job ≡ job = ap (or_else job) (sym is.there ∙ found) in
    record {
      answer = certificate.answer;
      shown = ap (λ t. cond t (Some certificate) (brought_at H (Some (length H)))) (eq-eqb (length H) (length H) refl)
          ∙ ap (λ r. Some (record { rules = r; answer = certificate.answer })) (is.rules ∙ ap (λ (j : Job). rules_at H j.edition) same);
      right = subst (λ (j : Job). IsRight (rules_at H j.edition) j.mode certificate.answer) same is.right;
      told = refl;
    }

by_reading : (H : History) (caller : List ℕ) (numbered number new : ℕ) (reply : Done) (job : Job) (certificate : Certificate) (outcome : Outcome) → job_of H number ≡ Some job → IsRightFor H number certificate → IfAnswered outcome ⊥
    → IfAnswered (after (Reads certificate.answer) outcome) (HasEvidence (Accepted caller numbered (Publish number) reply (Some certificate) ∷ H) (record job { outcome = after (Reads certificate.answer) outcome; decided = Some (length H); publication = Some new }))
by_reading H caller numbered number new reply job certificate Waiting found is fresh =
    if_always (answered_outcome certificate.answer) (HasEvidence (Accepted caller numbered (Publish number) reply (Some certificate) ∷ H) (record job { outcome = answered_outcome certificate.answer; decided = Some (length H); publication = Some new })) (read_now H caller numbered number new reply job certificate found is)
by_reading H caller numbered number new reply job certificate Taken found is fresh = tt
by_reading H caller numbered number new reply job certificate (Certified level total) found is fresh = absurd fresh
by_reading H caller numbered number new reply job certificate (Infeasible need room) found is fresh = absurd fresh
by_reading H caller numbered number new reply job certificate (Stale later) found is fresh = tt
by_reading H caller numbered number new reply job certificate OutOfMemory found is fresh = tt

sound_published : (H : History) (caller : List ℕ) (numbered number new : ℕ) (reply : Done) (read : Option Certificate) (job : Job) → IsReadRightIn H (Publish number) read → job_of H number ≡ Some job
    → IsSound (Accepted caller numbered (Publish number) reply read ∷ H) job → IsSound (Accepted caller numbered (Publish number) reply read ∷ H) (published read (length H) new job)
sound_published H caller numbered number new reply None job fair found is = (
  is.0,
  if_then job.outcome (HasEvidence (Accepted caller numbered (Publish number) reply None ∷ H) job) (HasEvidence (Accepted caller numbered (Publish number) reply None ∷ H) (record job { publication = Some new }))
      (with_publication (Accepted caller numbered (Publish number) reply None ∷ H) job new) is.1,
)
sound_published H caller numbered number new reply (Some certificate) job fair found is =
    (is.0, by_reading H caller numbered number new reply job certificate job.outcome found fair.0 (fair.1 job found))

sound_ended : (H : History) (bench : ℕ) (done : Work) (job : Option ℕ) → IfSome job (λ number. IsWorkFor H number done)
    → All (IsSound (Ended bench done ∷ H)) (jobs H) → All (IsSound (Ended bench done ∷ H)) (with_held (jobs H) job (ended done (length H)))
sound_ended H bench done None fair all = all
sound_ended H bench done (Some number) fair all =
    all_with_nth (IsSound (Ended bench done ∷ H)) (jobs H) number (ended done (length H)) (λ x found is. (is.0, by_end H bench number x done x.outcome found fair refl is.1)) all

sound_released : (H : History) (bench : ℕ) (job : Option ℕ) → All (IsSound (Released bench ∷ H)) (jobs H) → All (IsSound (Released bench ∷ H)) (with_held (jobs H) job (changed Releases))
sound_released H bench None all = all
sound_released H bench (Some number) all =
    all_with_nth (IsSound (Released bench ∷ H)) (jobs H) number (changed Releases) (λ x found is. (is.0, by_release (Released bench ∷ H) x x.outcome refl is.1)) all

sound_behind : (entry : Entry) (H : History) → IsFair H entry → All (IsSound (entry ∷ H)) (jobs H) → All (IsSound (entry ∷ H)) (jobs (entry ∷ H))
sound_behind (Accepted caller number (Edit base edit) reply read) H fair all =
    All-map (IsSound (Accepted caller number (Edit base edit) reply read ∷ H)) (changed (Edits (edits H + 1))) (jobs H)
    (λ k d lt. let is = all k d lt in (is.0, by_edit (Accepted caller number (Edit base edit) reply read ∷ H) (get_or (jobs H) k d) (edits H + 1) (get_or (jobs H) k d).outcome refl is.1))
sound_behind (Accepted caller number (Submit base mode) reply read) H fair all =
    All-append (IsSound (Accepted caller number (Submit base mode) reply read ∷ H)) (jobs H) (new_job (edits H) mode ∷ []) all
    (all_one (IsSound (Accepted caller number (Submit base mode) reply read ∷ H)) (new_job (edits H) mode) (omega arith, tt))
sound_behind (Accepted caller number (Publish job) reply read) H fair all =
    all_with_nth (IsSound (Accepted caller number (Publish job) reply read ∷ H)) (jobs H) job (published read (length H) (length (publications H) + 1))
    (λ x found is. sound_published H caller number job (length (publications H) + 1) reply read x fair.1 found is) all
sound_behind (Accepted caller number (Draw publication text) reply read) H fair all = all
sound_behind (Took bench job) H fair all =
    all_with_nth (IsSound (Took bench job ∷ H)) (jobs H) job (changed Takes) (λ x found is. (is.0, by_take (Took bench job ∷ H) x x.outcome refl is.1)) all
sound_behind (Ended bench done) H fair all = sound_ended H bench done (held H bench) fair all
sound_behind (Released bench) H fair all = sound_released H bench (held H bench) all

pub sound_next : (entry : Entry) (H : History) → IsFair H entry → All (IsSound H) (jobs H) → All (IsSound (entry ∷ H)) (jobs (entry ∷ H))
sound_next entry H fair all = sound_behind entry H fair (all_later entry H all)
