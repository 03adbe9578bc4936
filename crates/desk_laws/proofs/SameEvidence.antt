-- A published job and the one that comes back have the same evidence.
use Rattle.std.proofs.Common.{◌≡◌, ◌∙◌, ℕ, ◌+◌, ◌<◌, cond, eqb, List, [], ◌∷◌, length, All, Option, None, Some, refl, subst, ap, sym, eq-eqb, inl, inr}
use Rattle.std.specs.Prelude.{⊤}
use Rattle.publication.specs.declared.certificate.Certificate.{Certificate}
use Rattle.desk_keeper.specs.declared.words.Command.TheVariants.{Edit, Submit, Publish, Draw}
use Rattle.desk_history.specs.declared.entries.Done.{Done}
use Rattle.desk_history.specs.declared.entries.Entry.{Entry}
use Rattle.desk_history.specs.declared.entries.Entry.TheVariants.{Accepted, Took, Ended, Released}
use Rattle.desk_history.specs.declared.jobs.Job.{Job}
use Rattle.desk_history.specs.declared.jobs.Publication.{Publication}
use Rattle.desk_history.specs.declared.jobs.Outcome.{Outcome}
use Rattle.desk_history.specs.declared.jobs.Outcome.TheVariants.{Waiting, Taken, Certified, Infeasible, Stale, OutOfMemory}
use Rattle.desk_history.specs.declared.requests.Work.{Work}
use Rattle.desk_history.specs.Outcomes.{Edits, Ends, Event, Releases, Takes}
use Rattle.desk_history.specs.Histories.{History, brought_at, changed, decides, edits, ended, evidence, held, job_of, jobs, new_job, nth_of, publications, published}
use Rattle.desk_history.specs.Opened.{IsLegal, Replay}
use Rattle.desk_history.specs.Refusals.{counted, publish_refusal, publishing_refusal}
use Rattle.desk_history.specs.Rows.{evidence_of, publishes}
use Rattle.desk_history.specs.Steps.{accepted}
use Rattle.desk_laws.specs.Evidence.{HasEvidence}
use Rattle.desk_laws.specs.Reopened.{reopened}
use Rattle.desk_laws.proofs.EvidenceLaws.{IsFair, IsSound, all_nth, brought_later}
use Rattle.desk_laws.proofs.Keeping.{IfThere}
use Rattle.desk_laws.proofs.LegalLaws.{IsGood, legal_sound, made_fair, none_good, replays_fair, replays_good}
use Rattle.desk_laws.proofs.Pairs.{Beside, Pairs, left_with_held, left_with_nth, pairs_append, pairs_map, pairs_nth, pairs_then, pairs_with_nth}
use Rattle.desk_laws.proofs.PublishedLaws.{IsTimely, IsWon, JobIsWon, legal_won, stale_counted, timely, won_accepted, won_evidence, won_stays}

-- Published jobs

abbrev IfPublished : Option ℕ → Type 0 → Type 0
IfPublished None P = ⊤
IfPublished (Some number) P = P

published_then : (number : Option ℕ) (P Q : Type 0) → (P → Q) → IfPublished number P → IfPublished number Q
published_then None P Q step p = tt
published_then (Some number) P Q step p = step p

published_fact : (number : Option ℕ) (P : Type 0) → (number ≡ None → ⊥) → IfPublished number P → P
published_fact None P some p = absurd (some refl)
published_fact (Some number) P some p = p

-- a job with a lottery, and the one that comes back: both have this evidence
pub record IsShownAlike (H R : History) (job back : Job) : Type 0 where
  pub won : IsWon job.outcome
  pub shown : Certificate
  pub here : evidence H job ≡ Some shown
  pub there : evidence R back ≡ Some shown

abbrev pub AreAlike : History → History → Job → Job → Type 0
AreAlike H R job back = IfPublished job.publication (IsShownAlike H R job back)

-- What stays behind a further entry

later_here : (entry : Entry) (H R : History) (a b : Job) → AreAlike H R a b → AreAlike (entry ∷ H) R a b
later_here entry H R a b is =
    published_then a.publication (IsShownAlike H R a b) (IsShownAlike (entry ∷ H) R a b)
    (λ is. record { won = is.won; shown = is.shown; here = brought_later entry H a.decided is.shown is.here; there = is.there }) is

later_there : (entry : Entry) (H R : History) (a b : Job) → AreAlike H R a b → AreAlike H (entry ∷ R) a b
later_there entry H R a b is =
    published_then a.publication (IsShownAlike H R a b) (IsShownAlike H (entry ∷ R) a b)
    (λ is. record { won = is.won; shown = is.shown; here = is.here; there = brought_later entry R b.decided is.shown is.there }) is

all_here : (entry : Entry) (H R : History) (xs ys : List Job) → Pairs (AreAlike H R) xs ys → Pairs (AreAlike (entry ∷ H) R) xs ys
all_here entry H R xs ys all = pairs_then (AreAlike H R) (AreAlike (entry ∷ H) R) xs ys (later_here entry H R) all

all_both : (entry more : Entry) (H R : History) (xs ys : List Job) → Pairs (AreAlike H R) xs ys → Pairs (AreAlike (entry ∷ H) (more ∷ R)) xs ys
all_both entry more H R xs ys all = pairs_then (AreAlike (entry ∷ H) R) (AreAlike (entry ∷ H) (more ∷ R)) xs ys (later_there more (entry ∷ H) R) (all_here entry H R xs ys all)

-- What changes of a job

changed_here : (H R : History) (event : Event) (a b : Job) → AreAlike H R a b → AreAlike H R (changed event a) b
changed_here H R event a b is =
    published_then a.publication (IsShownAlike H R a b) (IsShownAlike H R (changed event a) b)
    (λ is. record { won = won_stays event a.outcome is.won; shown = is.shown; here = is.here; there = is.there }) is

changed_both : (H R : History) (event other : Event) (a b : Job) → AreAlike H R a b → AreAlike H R (changed event a) (changed other b)
changed_both H R event other a b is =
    published_then a.publication (IsShownAlike H R a b) (IsShownAlike H R (changed event a) (changed other b))
    (λ is. record { won = won_stays event a.outcome is.won; shown = is.shown; here = is.here; there = is.there }) is

won_decided : (outcome : Outcome) (place : ℕ) (before : Option ℕ) → IsWon outcome → decides outcome place before ≡ before
won_decided Waiting place before won = absurd won
won_decided Taken place before won = absurd won
won_decided (Certified level total) place before won = refl
won_decided (Infeasible need room) place before won = absurd won
won_decided (Stale later) place before won = absurd won
won_decided OutOfMemory place before won = absurd won

ended_here : (H R : History) (done : Work) (place : ℕ) (a b : Job) → AreAlike H R a b → AreAlike H R (ended done place a) b
ended_here H R done place a b is =
    published_then a.publication (IsShownAlike H R a b) (IsShownAlike H R (ended done place a) b)
    (λ is. record { won = won_stays (Ends done) a.outcome is.won; shown = is.shown; here = ap (brought_at H) (won_decided a.outcome place a.decided is.won) ∙ is.here; there = is.there }) is

-- A publish

-- what the newest entry brought is found at its place
newest : (H : History) (brought : Option Certificate) → cond (eqb (length H) (length H)) brought (brought_at H (Some (length H))) ≡ brought
newest H brought = ap (λ t. cond t brought (brought_at H (Some (length H)))) (eq-eqb (length H) (length H) refl)

unread_alike : (H R : History) (caller : List ℕ) (number job k l : ℕ) (reply : Done) (shown : Certificate) (x y : Job) → IsWon x.outcome → evidence H x ≡ Some shown
    → IsShownAlike (Accepted caller number (Publish job) reply None ∷ H) (Accepted caller number (Publish job) reply (Some shown) ∷ R) (published None (length H) k x) (published (Some shown) (length R) l y)
unread_alike H R caller number job k l reply shown x y won here = record {
  won = won;
  shown = shown;
  here = brought_later (Accepted caller number (Publish job) reply None) H x.decided shown here;
  there = newest R (Some shown);
}

read_alike : (H R : History) (caller : List ℕ) (number job k l : ℕ) (reply : Done) (read : Certificate) (x y : Job) → IsWon (counted (Some read) x.outcome)
    → IsShownAlike (Accepted caller number (Publish job) reply (Some read) ∷ H) (Accepted caller number (Publish job) reply (Some read) ∷ R) (published (Some read) (length H) k x) (published (Some read) (length R) l y)
read_alike H R caller number job k l reply read x y won = record {
  won = won;
  shown = read;
  here = newest H (Some read);
  there = newest R (Some read);
}

-- a job that may be published has a lottery
pub won_publish : (H : History) (number : ℕ) (read : Option Certificate) (job : Job) → job_of H number ≡ Some job → publish_refusal (edits H) read (job_of H number) ≡ None → IsWon (counted read job.outcome)
won_publish H number read job found right =
    let e : publishing_refusal (edits H) job (counted read job.outcome) ≡ None = subst (λ (o : Option Job). publish_refusal (edits H) read o ≡ None) found right in
    let is : IsTimely (edits H) job = all_nth (IsTimely (edits H)) (jobs H) number job (timely H) found in
    won_accepted (edits H) job (counted read job.outcome) e (stale_counted read job.outcome (job.edition < edits H) is.1)

publish_alike : (H R : History) (caller : List ℕ) (number job k l : ℕ) (reply : Done) (read : Option Certificate) (x y : Job) → publish_refusal (edits H) read (job_of H job) ≡ None → All (IsSound H) (jobs H) → job_of H job ≡ Some x
    → AreAlike (Accepted caller number (Publish job) reply read ∷ H) (Accepted caller number (Publish job) reply (publishes H job read) ∷ R) (published read (length H) k x) (published (publishes H job read) (length R) l y)
publish_alike H R caller number job k l reply None x y right all found =
    let won : IsWon x.outcome = won_publish H job None x found right in
    let has : HasEvidence H x = won_evidence x.outcome (HasEvidence H x) won (all_nth (IsSound H) (jobs H) job x all found).1 in
    subst (λ (o : Option Certificate). IsShownAlike (Accepted caller number (Publish job) reply None ∷ H) (Accepted caller number (Publish job) reply o ∷ R) (published None (length H) k x) (published o (length R) l y))
    (sym (ap (evidence_of H) found ∙ has.shown)) (unread_alike H R caller number job k l reply _ x y won has.shown)
publish_alike H R caller number job k l reply (Some read) x y right all found = read_alike H R caller number job k l reply read x y (won_publish H job (Some read) x found right)

-- All jobs

abbrev pub JobsAlike : History → Type 0
JobsAlike H = Pairs (AreAlike H (reopened H)) (jobs H) (jobs (reopened H))

pub alike_next : (entry : Entry) (H : History) → IsFair H entry → All (IsSound H) (jobs H) → JobsAlike H → JobsAlike (entry ∷ H)
alike_next (Accepted caller number (Edit base edit) reply read) H fair sound all =
    let entry : Entry = Accepted caller number (Edit base edit) reply read in
    let more : Entry = Accepted caller number (Edit base edit) reply None in
    pairs_map (λ job. ⊤) (AreAlike (entry ∷ H) (more ∷ reopened H)) (AreAlike (entry ∷ H) (more ∷ reopened H)) (changed (Edits (edits H + 1))) (changed (Edits (edits (reopened H) + 1)))
    (λ x y t is. changed_both (entry ∷ H) (more ∷ reopened H) (Edits (edits H + 1)) (Edits (edits (reopened H) + 1)) x y is)
    (jobs H) (jobs (reopened H)) (λ k d lt. tt) (all_both entry more H (reopened H) (jobs H) (jobs (reopened H)) all)
alike_next (Accepted caller number (Submit base mode) reply read) H fair sound all =
    let entry : Entry = Accepted caller number (Submit base mode) reply read in
    let more : Entry = Accepted caller number (Submit base mode) reply None in
    pairs_append (AreAlike (entry ∷ H) (more ∷ reopened H)) (jobs H) (jobs (reopened H)) (new_job (edits H) mode) (new_job (edits (reopened H)) mode)
    (all_both entry more H (reopened H) (jobs H) (jobs (reopened H)) all) tt
alike_next (Accepted caller number (Publish job) reply read) H fair sound all =
    let entry : Entry = Accepted caller number (Publish job) reply read in
    let more : Entry = Accepted caller number (Publish job) reply (publishes H job read) in
    pairs_with_nth (AreAlike (entry ∷ H) (more ∷ reopened H)) (published read (length H) (length (publications H) + 1)) (published (publishes H job read) (length (reopened H)) (length (publications (reopened H)) + 1))
    (jobs H) (jobs (reopened H)) job
    (λ x y found is. publish_alike H (reopened H) caller number job (length (publications H) + 1) (length (publications (reopened H)) + 1) reply read x y fair.0 sound found)
    (all_both entry more H (reopened H) (jobs H) (jobs (reopened H)) all)
alike_next (Accepted caller number (Draw publication text) reply read) H fair sound all =
    all_both (Accepted caller number (Draw publication text) reply read) (Accepted caller number (Draw publication text) reply None) H (reopened H) (jobs H) (jobs (reopened H)) all
alike_next (Took bench job) H fair sound all =
    left_with_nth (AreAlike (Took bench job ∷ H) (reopened H)) (changed Takes) (jobs H) (jobs (reopened H)) job (changed_here (Took bench job ∷ H) (reopened H) Takes)
    (all_here (Took bench job) H (reopened H) (jobs H) (jobs (reopened H)) all)
alike_next (Ended bench done) H fair sound all =
    left_with_held (AreAlike (Ended bench done ∷ H) (reopened H)) (ended done (length H)) (jobs H) (jobs (reopened H)) (held H bench) (ended_here (Ended bench done ∷ H) (reopened H) done (length H))
    (all_here (Ended bench done) H (reopened H) (jobs H) (jobs (reopened H)) all)
alike_next (Released bench) H fair sound all =
    left_with_held (AreAlike (Released bench ∷ H) (reopened H)) (changed Releases) (jobs H) (jobs (reopened H)) (held H bench) (changed_here (Released bench ∷ H) (reopened H) Releases)
    (all_here (Released bench) H (reopened H) (jobs H) (jobs (reopened H)) all)

replay_alike : (H : History) (rows : List (List ℕ)) (end : History) → Replay H rows end → IsGood H → JobsAlike H → JobsAlike end
replay_alike H [] end same good all = subst JobsAlike (sym same) all
replay_alike H (row ∷ rows) end (next, first, rest) good all =
    replay_alike next rows end rest (replays_good H row next first good)
    (subst JobsAlike (sym first.becomes) (alike_next (accepted H first.its first.read) H (replays_fair H row next first good.1) good.0 all))

legal_alike : (chairs : List (List ℕ)) (H : History) → IsLegal chairs H → JobsAlike H
legal_alike chairs [] legal = tt
legal_alike chairs (entry ∷ H) (inl opened) = replay_alike [] opened.0 (entry ∷ H) opened.1 none_good tt
legal_alike chairs (entry ∷ H) (inr legal) = alike_next entry H (made_fair chairs H entry legal.1) (legal_sound chairs H legal.0) (legal_alike chairs H legal.0)

-- The lottery of a publication

job_lottery : (H : History) (number : ℕ) (job : Option Job) → job_of H number ≡ job → IfThere job JobIsWon → JobsAlike H → evidence_of (reopened H) (job_of (reopened H) number) ≡ evidence_of H job
job_lottery H number None found won all = absurd won
job_lottery H number (Some job) found won all =
    let beside : Beside (AreAlike H (reopened H)) (job_of (reopened H) number) job = pairs_nth (AreAlike H (reopened H)) (jobs H) (jobs (reopened H)) number job found all in
    let is : IsShownAlike H (reopened H) job beside.item = published_fact job.publication (IsShownAlike H (reopened H) job beside.item) won.1 beside.related in
    ap (evidence_of (reopened H)) beside.there ∙ is.there ∙ sym is.here

pub same_lottery : (chairs : List (List ℕ)) (H : History) (number : ℕ) (publication : Publication) → IsLegal chairs H → nth_of (publications H) number ≡ Some publication
    → evidence_of (reopened H) (job_of (reopened H) publication.job) ≡ evidence_of H (job_of H publication.job)
same_lottery chairs H number publication legal found =
    job_lottery H publication.job (job_of H publication.job) refl
    (all_nth (λ (p : Publication). IfThere (job_of H p.job) JobIsWon) (publications H) number publication (legal_won chairs H legal) found) (legal_alike chairs H legal)
