-- In a legal history each publication is of a job with a certified lottery.
use Rattle.std.proofs.Common.{◌≡◌, ◌∙◌, ℕ, ◌+◌, ◌-◌, ◌≤◌, ◌<◌, Bool, true, false, cond, eqb, List, [], ◌∷◌, length, All, get_or, Option, None, Some, refl, subst, arith, ap, sym, ltb, inl, inr}
use Rattle.std.proofs.Common.{rules}
use Rattle.std.specs.Prelude.{⊤}
use Rattle.std.specs.List.{slice_get}
use Rattle.std.proofs.lemmas.List.Elements.{All-map, All-append}
use Rattle.std.proofs.lemmas.Bool.{false≢true}
use Rattle.match_rules.specs.declared.answer.Answer.{Answer}
use Rattle.match_rules.specs.declared.answer.Answer.TheVariants as answer
use Rattle.match_rules.specs.declared.rules.TheConstants.{RULES_TICKETS}
use Rattle.publication.specs.Draws.{ticket_of}
use Rattle.publication.specs.declared.certificate.Certificate.{Certificate}
use Rattle.desk_keeper.specs.declared.words.Command.TheVariants.{Edit, Submit, Publish, Draw}
use Rattle.desk_history.specs.declared.entries.Entry.{Entry}
use Rattle.desk_history.specs.declared.entries.Entry.TheVariants.{Accepted, Took, Ended, Released}
use Rattle.desk_history.specs.declared.jobs.Job.{Job}
use Rattle.desk_history.specs.declared.jobs.Publication.{Publication}
use Rattle.desk_history.specs.declared.jobs.Outcome.{Outcome}
use Rattle.desk_history.specs.declared.jobs.Outcome.TheVariants.{Waiting, Taken, Certified, Infeasible, Stale, OutOfMemory}
use Rattle.desk_history.specs.declared.refusals.Refusal.{Refusal}
use Rattle.desk_history.specs.declared.refusals.Refusal.TheVariants as refusal
use Rattle.desk_history.specs.declared.requests.Work.{Work}
use Rattle.desk_history.specs.declared.requests.Work.TheVariants as work
use Rattle.desk_history.specs.Outcomes.{Event, Takes, Ends, Releases, Edits, Reads, after, answered_outcome, worked_outcome}
use Rattle.desk_history.specs.Histories.{History, changed, drawn, edits, ended, evidence, held, job_of, jobs, new_job, nth_of, publications, published, with_at, with_held, with_nth}
use Rattle.desk_history.specs.Looks.{rules_at}
use Rattle.desk_history.specs.Opened.{IsLegal, Replay}
use Rattle.desk_history.specs.Refusals.{counted, is_open, is_without, publish_refusal, publishing_refusal, refuse_if}
use Rattle.desk_history.specs.Steps.{IsRight, accepted}
use Rattle.desk_history.specs.Rows.{evidence_of}
use Rattle.match_rules.specs.declared.answer.Mode.{Mode}
use Rattle.std.specs.Prelude.{nat_lt}
use Rattle.desk_laws.specs.Evidence.{EachPublished, HasEvidence, IfAnswered, IsBacked}
use Rattle.desk_laws.proofs.EvidenceLaws.{IsFair, IsSound, all_nth, all_one, all_then, all_with_nth, none_some, or_else}
use Rattle.desk_laws.proofs.Keeping.{IfThere, Keeps, get_append, get_map, nth_keep, nth_set, with_nth_keep}
use Rattle.desk_laws.proofs.LegalLaws.{IsGood, first_none, legal_sound, made_fair, none_good, replays_fair, replays_good}

-- Jobs with a lottery keep it

abbrev pub IsWon : Outcome → Type 0
IsWon Waiting = ⊥
IsWon Taken = ⊥
IsWon (Certified level total) = ⊤
IsWon (Infeasible need room) = ⊥
IsWon (Stale later) = ⊥
IsWon OutOfMemory = ⊥

-- a job with a lottery and a publication
abbrev pub JobIsWon : Job → Type 0
JobIsWon job = IsWon job.outcome × (job.publication ≡ None → ⊥)

pub won_stays : (event : Event) (outcome : Outcome) → IsWon outcome → IsWon (after event outcome)
won_stays event Waiting won = absurd won
won_stays event Taken won = absurd won
won_stays Takes (Certified level total) won = tt
won_stays (Ends made) (Certified level total) won = tt
won_stays Releases (Certified level total) won = tt
won_stays (Edits later) (Certified level total) won = tt
won_stays (Reads read) (Certified level total) won = tt
won_stays event (Infeasible need room) won = absurd won
won_stays event (Stale later) won = absurd won
won_stays event OutOfMemory won = absurd won

won_published : (read : Option Certificate) (place number : ℕ) (job : Job) → JobIsWon job → JobIsWon (published read place number job)
won_published None place number job won = (won.0, λ e. none_some number (sym e))
won_published (Some read) place number job won = (won_stays (Reads read.answer) job.outcome won.0, λ e. none_some number (sym e))

won_held : (xs : List Job) (job : Option ℕ) (change : Job → Job) → ((x : Job) → JobIsWon x → JobIsWon (change x)) → Keeps JobIsWon xs (with_held xs job change)
won_held xs None change step = λ i there. there
won_held xs (Some number) change step = with_nth_keep JobIsWon xs number change step

won_jobs : (entry : Entry) (H : History) → Keeps JobIsWon (jobs H) (jobs (entry ∷ H))
won_jobs (Accepted caller number (Edit base edit) reply read) H = λ i there. get_map JobIsWon (changed (Edits (edits H + 1))) (λ x won. (won_stays (Edits (edits H + 1)) x.outcome won.0, won.1)) (jobs H) i there
won_jobs (Accepted caller number (Submit base mode) reply read) H = λ i there. get_append JobIsWon (jobs H) (new_job (edits H) mode ∷ []) i there
won_jobs (Accepted caller number (Publish job) reply read) H = with_nth_keep JobIsWon (jobs H) job (published read (length H) (length (publications H) + 1)) (won_published read (length H) (length (publications H) + 1))
won_jobs (Accepted caller number (Draw publication text) reply read) H = λ i there. there
won_jobs (Took bench job) H = with_nth_keep JobIsWon (jobs H) job (changed Takes) (λ x won. (won_stays Takes x.outcome won.0, won.1))
won_jobs (Ended bench done) H = won_held (jobs H) (held H bench) (ended done (length H)) (λ x won. (won_stays (Ends done) x.outcome won.0, won.1))
won_jobs (Released bench) H = won_held (jobs H) (held H bench) (changed Releases) (λ x won. (won_stays Releases x.outcome won.0, won.1))

-- A stale job is of an edition before the present one

abbrev IfStale : Outcome → Type 0 → Type 0
IfStale Waiting P = ⊤
IfStale Taken P = ⊤
IfStale (Certified level total) P = ⊤
IfStale (Infeasible need room) P = ⊤
IfStale (Stale later) P = P
IfStale OutOfMemory P = ⊤

abbrev pub IsTimely : ℕ → Job → Type 0
IsTimely now job = (job.edition ≤ now) × IfStale job.outcome (job.edition < now)

stale_always : (outcome : Outcome) (P : Type 0) → P → IfStale outcome P
stale_always Waiting P p = tt
stale_always Taken P p = tt
stale_always (Certified level total) P p = tt
stale_always (Infeasible need room) P p = tt
stale_always (Stale later) P p = p
stale_always OutOfMemory P p = tt

stale_answer : (reply : Answer) (P : Type 0) → IfStale (answered_outcome reply) P
stale_answer (answer.Lottery winning) P = tt
stale_answer (answer.Infeasible blocked) P = tt

stale_work : (done : Work) (P : Type 0) → IfStale (worked_outcome done) P
stale_work (work.Answered certificate) P = stale_answer certificate.answer P
stale_work work.OutOfMemory P = tt

stale_take : (outcome : Outcome) (P : Type 0) → IfStale outcome P → IfStale (after Takes outcome) P
stale_take Waiting P p = tt
stale_take Taken P p = tt
stale_take (Certified level total) P p = tt
stale_take (Infeasible need room) P p = tt
stale_take (Stale later) P p = p
stale_take OutOfMemory P p = tt

stale_release : (outcome : Outcome) (P : Type 0) → IfStale outcome P → IfStale (after Releases outcome) P
stale_release Waiting P p = tt
stale_release Taken P p = tt
stale_release (Certified level total) P p = tt
stale_release (Infeasible need room) P p = tt
stale_release (Stale later) P p = p
stale_release OutOfMemory P p = tt

stale_end : (done : Work) (outcome : Outcome) (P : Type 0) → IfStale outcome P → IfStale (after (Ends done) outcome) P
stale_end done Waiting P p = tt
stale_end done Taken P p = stale_work done P
stale_end done (Certified level total) P p = tt
stale_end done (Infeasible need room) P p = tt
stale_end done (Stale later) P p = p
stale_end done OutOfMemory P p = tt

stale_read : (reply : Answer) (outcome : Outcome) (P : Type 0) → IfStale outcome P → IfStale (after (Reads reply) outcome) P
stale_read reply Waiting P p = stale_answer reply P
stale_read reply Taken P p = tt
stale_read reply (Certified level total) P p = tt
stale_read reply (Infeasible need room) P p = tt
stale_read reply (Stale later) P p = p
stale_read reply OutOfMemory P p = tt

pub stale_counted : (read : Option Certificate) (outcome : Outcome) (P : Type 0) → IfStale outcome P → IfStale (counted read outcome) P
stale_counted None outcome P p = p
stale_counted (Some read) outcome P p = stale_read read.answer outcome P p

timely_published : (now : ℕ) (read : Option Certificate) (place number : ℕ) (job : Job) → IsTimely now job → IsTimely now (published read place number job)
timely_published now None place number job is = is
timely_published now (Some read) place number job is = (is.0, stale_read read.answer job.outcome (job.edition < now) is.1)

timely_edit : (now : ℕ) (job : Job) → IsTimely now job → IsTimely (now + 1) (changed (Edits (now + 1)) job)
timely_edit now job is = let within : job.edition ≤ now = is.0 in (omega (arith, within), stale_always (after (Edits (now + 1)) job.outcome) (job.edition < now + 1) (omega (arith, within)))

timely_held : (now : ℕ) (xs : List Job) (job : Option ℕ) (change : Job → Job) → ((x : Job) → IsTimely now x → IsTimely now (change x)) → All (IsTimely now) xs → All (IsTimely now) (with_held xs job change)
timely_held now xs None change step all = all
timely_held now xs (Some number) change step all = all_with_nth (IsTimely now) xs number change (λ x found is. step x is) all

pub timely : (H : History) → All (IsTimely (edits H)) (jobs H)
timely [] = λ k d lt. absurd (omega arith)
timely (Accepted caller number (Edit base edit) reply read ∷ H) = All-map (IsTimely (edits H + 1)) (changed (Edits (edits H + 1))) (jobs H) (λ k d lt. timely_edit (edits H) (get_or (jobs H) k d) (timely H k d lt))
timely (Accepted caller number (Submit base mode) reply read ∷ H) = All-append (IsTimely (edits H)) (jobs H) (new_job (edits H) mode ∷ []) (timely H) (all_one (IsTimely (edits H)) (new_job (edits H) mode) (omega arith, tt))
timely (Accepted caller number (Publish job) reply read ∷ H) =
    all_with_nth (IsTimely (edits H)) (jobs H) job (published read (length H) (length (publications H) + 1)) (λ x found is. timely_published (edits H) read (length H) (length (publications H) + 1) x is) (timely H)
timely (Accepted caller number (Draw publication text) reply read ∷ H) = timely H
timely (Took bench job ∷ H) = all_with_nth (IsTimely (edits H)) (jobs H) job (changed Takes) (λ x found is. (is.0, stale_take x.outcome (x.edition < edits H) is.1)) (timely H)
timely (Ended bench done ∷ H) = timely_held (edits H) (jobs H) (held H bench) (ended done (length H)) (λ x is. (is.0, stale_end done x.outcome (x.edition < edits H) is.1)) (timely H)
timely (Released bench ∷ H) = timely_held (edits H) (jobs H) (held H bench) (changed Releases) (λ x is. (is.0, stale_release x.outcome (x.edition < edits H) is.1)) (timely H)

-- A publish is accepted of a job with a lottery alone

refused_never : {P : Type 0} (test : Bool) (why : Refusal) → test ≡ true → refuse_if test why ≡ None → P
refused_never true why e none = none_some why (sym none)
refused_never false why e none = elim_false e
  where
    elim_false : {P : Type 0} → (let no : Bool = false in no ≡ true) → P
    elim_false e = absurd (false≢true e)

pub won_accepted : (now : ℕ) (job : Job) (outcome : Outcome) → publishing_refusal now job outcome ≡ None → IfStale outcome (job.edition < now) → IsWon outcome
won_accepted now job outcome e stale =
    let first = first_none (refuse_if (is_open outcome) refusal.NotDone) _ e in
    let second = first_none (refuse_if (nat_lt job.edition now) (refusal.Stale now)) _ first.1 in
    let third = first_none (refuse_if (is_without outcome) refusal.NotCertified) _ second.1 in
    by_outcome outcome first.0 second.0 third.0 stale
  where
    by_outcome : (outcome : Outcome) → refuse_if (is_open outcome) refusal.NotDone ≡ None → refuse_if (nat_lt job.edition now) (refusal.Stale now) ≡ None → refuse_if (is_without outcome) refusal.NotCertified ≡ None → IfStale outcome (job.edition < now) → IsWon outcome
    by_outcome Waiting done old without stale = none_some refusal.NotDone (sym done)
    by_outcome Taken done old without stale = none_some refusal.NotDone (sym done)
    by_outcome (Certified level total) done old without stale = tt
    by_outcome (Infeasible need room) done old without stale = none_some refusal.NotCertified (sym without)
    by_outcome (Stale later) done old without stale = let less : ltb job.edition now ≡ true = search (rules, stale) in refused_never (nat_lt job.edition now) (refusal.Stale now) less old
    by_outcome OutOfMemory done old without stale = none_some refusal.NotCertified (sym without)

won_counted : (read : Option Certificate) (place number : ℕ) (job : Job) → IsWon (counted read job.outcome) → JobIsWon (published read place number job)
won_counted None place number job won = (won, λ e. none_some number (sym e))
won_counted (Some read) place number job won = (won, λ e. none_some number (sym e))

won_job : (H : History) (number place new : ℕ) (read : Option Certificate) (job : Option Job) → job_of H number ≡ job → publish_refusal (edits H) read job ≡ None → IfThere (nth_of (with_nth (jobs H) number (published read place new)) number) JobIsWon
won_job H number place new read None found e = none_some refusal.UnknownJob (sym e)
won_job H number place new read (Some job) found e =
    let is : IsTimely (edits H) job = all_nth (IsTimely (edits H)) (jobs H) number job (timely H) found in
    let won : IsWon (counted read job.outcome) = won_accepted (edits H) job (counted read job.outcome) e (stale_counted read job.outcome (job.edition < edits H) is.1) in
    subst (λ (o : Option Job). IfThere (cond (eqb number 0) None (slice_get (with_at (jobs H) (number - 1) (published read place new) o) (number - 1))) JobIsWon) (sym found)
    (nth_set JobIsWon (jobs H) (eqb number 0) (number - 1) job (published read place new job) found (won_counted read place new job won))

-- Publications

abbrev pub IsOfWon : History → Publication → Type 0
IsOfWon H publication = IfThere (job_of H publication.job) JobIsWon

won_behind : (entry : Entry) (H : History) → IsFair H entry → All (IsOfWon (entry ∷ H)) (publications H) → All (IsOfWon (entry ∷ H)) (publications (entry ∷ H))
won_behind (Accepted caller number (Edit base edit) reply read) H fair all = all
won_behind (Accepted caller number (Submit base mode) reply read) H fair all = all
won_behind (Accepted caller number (Publish job) reply read) H fair all =
    All-append (IsOfWon (Accepted caller number (Publish job) reply read ∷ H)) (publications H) (record { job = job; ticket = None } ∷ []) all
    (all_one (IsOfWon (Accepted caller number (Publish job) reply read ∷ H)) (record { job = job; ticket = None })
    (won_job H job (length H) (length (publications H) + 1) read (job_of H job) refl fair.0))
won_behind (Accepted caller number (Draw publication text) reply read) H fair all =
    all_with_nth (IsOfWon (Accepted caller number (Draw publication text) reply read ∷ H)) (publications H) publication (drawn (ticket_of text RULES_TICKETS)) (λ x found is. is) all
won_behind (Took bench job) H fair all = all
won_behind (Ended bench done) H fair all = all
won_behind (Released bench) H fair all = all

won_next : (entry : Entry) (H : History) → IsFair H entry → All (IsOfWon H) (publications H) → All (IsOfWon (entry ∷ H)) (publications (entry ∷ H))
won_next entry H fair all =
    won_behind entry H fair (all_then (IsOfWon H) (IsOfWon (entry ∷ H)) (publications H) (λ x won. nth_keep JobIsWon (jobs H) (jobs (entry ∷ H)) x.job (won_jobs entry H) won) all)

won_replay : (H : History) (rows : List (List ℕ)) (end : History) → Replay H rows end → IsGood H → All (IsOfWon H) (publications H) → All (IsOfWon end) (publications end)
won_replay H [] end same good all = subst (λ (h : History). All (IsOfWon h) (publications h)) (sym same) all
won_replay H (row ∷ rows) end (next, first, rest) good all =
    won_replay next rows end rest (replays_good H row next first good)
    (subst (λ (h : History). All (IsOfWon h) (publications h)) (sym first.becomes) (won_next (accepted H first.its first.read) H (replays_fair H row next first good.1) all))

none_won : All (IsOfWon []) (publications [])
none_won = λ k d lt. absurd (omega arith)

pub legal_won : (chairs : List (List ℕ)) (H : History) → IsLegal chairs H → All (IsOfWon H) (publications H)
legal_won chairs [] legal = none_won
legal_won chairs (entry ∷ H) (inl opened) = won_replay [] opened.0 (entry ∷ H) opened.1 none_good none_won
legal_won chairs (entry ∷ H) (inr legal) = won_next entry H (made_fair chairs H entry legal.1) (legal_won chairs H legal.0)

-- The evidence of a publication

pub won_evidence : (outcome : Outcome) (P : Type 0) → IsWon outcome → IfAnswered outcome P → P
won_evidence Waiting P won has = absurd won
won_evidence Taken P won has = absurd won
won_evidence (Certified level total) P won has = has
won_evidence (Infeasible need room) P won has = absurd won
won_evidence (Stale later) P won has = absurd won
won_evidence OutOfMemory P won has = absurd won

backed_by : (H : History) (publication : Publication) (job : Job) (reply : Answer) → job_of H publication.job ≡ Some job → evidence H job ≡ Some (record { rules = rules_at H job.edition; answer = reply })
    → IsRight (rules_at H job.edition) job.mode reply → IsWon (answered_outcome reply) → IsBacked H publication
backed_by H publication job (answer.Lottery winning) there shown right won = record { job = job; winning = winning; there = there; shown = shown; certified = right }
backed_by H publication job (answer.Infeasible blocked) there shown right won = absurd won

pub backed_job : (H : History) (publication : Publication) (job : Job) → job_of H publication.job ≡ Some job → IsWon job.outcome → All (IsSound H) (jobs H) → IsBacked H publication
backed_job H publication job there won all =
    let has : HasEvidence H job = won_evidence job.outcome (HasEvidence H job) won (all_nth (IsSound H) (jobs H) publication.job job all there).1 in
    backed_by H publication job has.answer there has.shown has.right (subst IsWon (sym has.told) won)

backed : (H : History) (publication : Publication) (job : Option Job) → job_of H publication.job ≡ job → IfThere job JobIsWon → All (IsSound H) (jobs H) → IsBacked H publication
backed H publication None there won all = absurd won
backed H publication (Some job) there won all = backed_job H publication job there won.0 all

pub legal_published : (chairs : List (List ℕ)) (H : History) → IsLegal chairs H → EachPublished H
legal_published chairs H legal =
    all_then (IsOfWon H) (IsBacked H) (publications H) (λ x won. backed H x (job_of H x.job) refl won (legal_sound chairs H legal)) (legal_won chairs H legal)

-- a job that may be published has a right answer as its evidence
pub publishable_right : (chairs : List (List ℕ)) (H : History) (number : ℕ) (job : Option Job) → IsLegal chairs H → job_of H number ≡ job → publish_refusal (edits H) None job ≡ None
    → (certificate : Certificate) → evidence_of H job ≡ Some certificate → (mode : Mode) × IsRight certificate.rules mode certificate.answer
publishable_right chairs H number None legal found e certificate there = none_some certificate there
publishable_right chairs H number (Some job) legal found e certificate there =
    let is : IsTimely (edits H) job = all_nth (IsTimely (edits H)) (jobs H) number job (timely H) found in
    let won : IsWon job.outcome = won_accepted (edits H) job job.outcome e is.1 in
    let has : HasEvidence H job = won_evidence job.outcome (HasEvidence H job) won (all_nth (IsSound H) (jobs H) number job (legal_sound chairs H legal) found).1 in
    let same : certificate ≡ record { rules = rules_at H job.edition; answer = has.answer } = ap (or_else certificate) (sym there ∙ has.shown) in
    (job.mode, subst (λ (c : Certificate). IsRight c.rules job.mode c.answer) (sym same) has.right)
