-- In a legal history each entry brings what is right, so each job with an answer has evidence.
use Rattle.std.proofs.Common.{◌≡◌, ℕ, ◌+◌, cond, eqb, List, [], ◌∷◌, length, All, get_or, Option, None, Some, IfSome, refl, subst, arith, ap, sym, ◌∙◌, inl, inr, ne_eqb}
use Rattle.std.proofs.lemmas.List.Elements.{All-map, All-append}
use Rattle.std.proofs.lemmas.Bool.{cases_eq}
use Rattle.match_rules.specs.First.{first_of_two}
use Rattle.match_rules.specs.Answers.{Certified as IsCertified}
use Rattle.match_rules.specs.Assignments.{Best}
use Rattle.match_rules.specs.Rules.{AreRules, RulesValue}
use Rattle.match_rules.specs.Thresholds.{sieve_of}
use Rattle.match_rules.specs.declared.answer.Answer.{Answer}
use Rattle.match_rules.specs.declared.answer.Answer.TheVariants as answer
use Rattle.match_rules.specs.declared.answer.Mode.{Mode}
use Rattle.match_rules.specs.declared.answer.Winning.{Winning}
use Rattle.dual_check.proofs.PriceLaws.{best_at_bound}
use Rattle.publication.specs.Certificates.{IsCertificate, IsSpelled}
use Rattle.publication.specs.declared.certificate.Certificate.{Certificate}
use Rattle.desk_keeper.specs.declared.words.Command.{Command}
use Rattle.desk_keeper.specs.declared.words.Command.TheVariants.{Edit, Submit, Publish, Draw}
use Rattle.desk_keeper.specs.declared.words.Named.{Named}
use Rattle.desk_history.specs.declared.entries.Done.{Done}
use Rattle.desk_history.specs.declared.entries.Entry.{Entry}
use Rattle.desk_history.specs.declared.entries.Entry.TheVariants.{Accepted}
use Rattle.desk_history.specs.declared.jobs.Job.{Job}
use Rattle.desk_history.specs.declared.jobs.Outcome.{Outcome}
use Rattle.desk_history.specs.declared.jobs.Outcome.TheVariants.{Waiting, Taken, Certified, Infeasible, Stale, OutOfMemory}
use Rattle.desk_history.specs.declared.refusals.Refusal.{Refusal}
use Rattle.desk_history.specs.declared.refusals.Refusal.TheVariants as refusal
use Rattle.desk_history.specs.declared.requests.Request.{Request}
use Rattle.desk_history.specs.declared.requests.Request.TheVariants as request
use Rattle.desk_history.specs.declared.requests.Work.{Work}
use Rattle.desk_history.specs.Outcomes.{Edits, after}
use Rattle.desk_history.specs.Histories.{Earlier, History, changed, edits, held, job_of, jobs, kept, new_job, publications, published}
use Rattle.desk_history.specs.Looks.{Step, look_step, refused, rules_at}
use Rattle.desk_history.specs.Opened.{IsLegal, IsLotteryOf, IsReadWith, Makes, Replay, Replays}
use Rattle.desk_history.specs.Refusals.{counted, is_open, is_without, own_refusal, publish_refusal, published_refusal, publishing_refusal, refusal_of, refuse_if}
use Rattle.desk_history.specs.Steps.{IsRight, IsWorkFor, MayAsk, accepted, answered_by, command_step, done_of, finish_job, first_waiting, holds, is_chair, made, numbered_step, refused_or, release_at, step, take_at, take_first}
use Rattle.desk_laws.specs.Evidence.{AnsweredAreShown, IfAnswered}
use Rattle.desk_laws.proofs.EntryLaws.{Brings, either, look_brings, repeat_brings}
use Rattle.desk_laws.proofs.EvidenceLaws.{IsFair, IsReadRightIn, IsSound, all_nth, all_one, all_with_nth, if_always, if_then, none_some, or_else, sound_next}

-- Entries that requests make

pub first_none : {A : Type 0} (a b : Option A) → first_of_two a b ≡ None → (a ≡ None) × (b ≡ None)
first_none None b e = (refl, e)
first_none (Some x) b e = none_some x (sym e)

abbrev MakesFair : History → Step → Type 0
MakesFair H made_step = Brings (IsFair H) made_step

refused_fair : (H : History) (due : Option Refusal) (its : Named) → refusal_of H its None ≡ due → MakesFair H (refused_or due (made (answered_by (done_of H its.command)) (accepted H its None)))
refused_fair H None its e = ((first_none (own_refusal H its.command None) _ e).0, tt)
refused_fair H (Some why) its e = tt

numbered_fair : (H : History) (its : Named) (earlier : Option Earlier) → MakesFair H (numbered_step H its earlier)
numbered_fair H its None = refused_fair H (refusal_of H its None) its refl
numbered_fair H its (Some earlier) = repeat_brings (IsFair H) earlier its.command

first_fair : (H : History) (bench : ℕ) (found : Option (ℕ × Job)) → MakesFair H (take_first H bench found)
first_fair H bench None = tt
first_fair H bench (Some found) = tt

take_fair : (H : History) (bench : ℕ) (job : Option ℕ) → MakesFair H (take_at H bench job)
take_fair H bench None = first_fair H bench (first_waiting 1 (jobs H))
take_fair H bench (Some job) = tt

release_fair : (H : History) (bench : ℕ) (job : Option ℕ) → MakesFair H (release_at bench job)
release_fair H bench None = tt
release_fair H bench (Some job) = tt

ended_fair : (H : History) (bench number : ℕ) (done : Work) (job : Option Job) → IfSome (held H bench) (λ n. IsWorkFor H n done) → MakesFair H (finish_job bench number done job)
ended_fair H bench number done None fair = tt
ended_fair H bench number done (Some job) fair = fair

finish_fair : (H : History) (bench number : ℕ) (done : Work) (job : Option ℕ) → held H bench ≡ job → IsWorkFor H number done
    → MakesFair H (cond (holds job number) (finish_job bench number done (job_of H number)) (refused refusal.BenchEmpty))
finish_fair H bench number done None e fair = tt
finish_fair H bench number done (Some job) e fair = elim (cases_eq job number) [
  | inl same ↦
      either (IsFair H) (eqb job number) (finish_job bench number done (job_of H number)) (refused refusal.BenchEmpty)
      (ended_fair H bench number done (job_of H number) (subst (λ (o : Option ℕ). IfSome o (λ n. IsWorkFor H n done)) (sym e) (subst (λ n. IsWorkFor H n done) (sym same) fair)))
      tt
  | inr other ↦ rw (ne_eqb job number other) tt
]

asked_fair : (chairs : List (List ℕ)) (H : History) (asked : Request) → MayAsk H asked → MakesFair H (step chairs H asked)
asked_fair chairs H (request.Do its) may = either (IsFair H) (is_chair chairs its.caller) (command_step H its) (refused refusal.UnknownChair) (numbered_fair H its (kept H its.caller its.number)) tt
asked_fair chairs H (request.Look caller what) may = either (IsFair H) (is_chair chairs caller) (look_step H what) (refused refusal.UnknownChair) (look_brings (IsFair H) H what) tt
asked_fair chairs H (request.Take bench) may = take_fair H bench (held H bench)
asked_fair chairs H (request.Finish bench job done) may = finish_fair H bench job done (held H bench) refl may.1
asked_fair chairs H (request.Release bench) may = release_fair H bench (held H bench)

pub made_fair : (chairs : List (List ℕ)) (H : History) (entry : Entry) → Makes chairs H entry → IsFair H entry
made_fair chairs H entry makes = subst (λ (o : Option Entry). IfSome o (IsFair H)) makes.entry (asked_fair chairs H makes.request makes.may)

-- Opened histories: each job with an answer has a publication

abbrev pub IsPublished : Job → Type 0
IsPublished job = IfAnswered job.outcome (job.publication ≡ None → ⊥)

published_edit : (later : ℕ) (outcome : Outcome) (P : Type 0) → IfAnswered outcome P → IfAnswered (after (Edits later) outcome) P
published_edit later Waiting P p = tt
published_edit later Taken P p = tt
published_edit later (Certified level total) P p = p
published_edit later (Infeasible need room) P p = p
published_edit later (Stale before) P p = tt
published_edit later OutOfMemory P p = tt

published_now : (read : Option Certificate) (place number : ℕ) (job : Job) → IsPublished (published read place number job)
published_now None place number job = if_always job.outcome (Some number ≡ None → ⊥) (λ e. none_some number (sym e))
published_now (Some certificate) place number job =
    let after_it : Outcome = (published (Some certificate) place number job).outcome in
    if_always after_it (Some number ≡ None → ⊥) (λ e. none_some number (sym e))

published_next : (H : History) (caller : List ℕ) (number : ℕ) (command : Command) (reply : Done) (read : Option Certificate) → All IsPublished (jobs H) → All IsPublished (jobs (Accepted caller number command reply read ∷ H))
published_next H caller number (Edit base edit) reply read all =
    All-map IsPublished (changed (Edits (edits H + 1))) (jobs H) (λ k d lt. let job : Job = get_or (jobs H) k d in published_edit (edits H + 1) job.outcome (job.publication ≡ None → ⊥) (all k d lt))
published_next H caller number (Submit base mode) reply read all = All-append IsPublished (jobs H) (new_job (edits H) mode ∷ []) all (all_one IsPublished (new_job (edits H) mode) tt)
published_next H caller number (Publish job) reply read all =
    all_with_nth IsPublished (jobs H) job (published read (length H) (length (publications H) + 1)) (λ x found is. published_now read (length H) (length (publications H) + 1) x) all
published_next H caller number (Draw publication text) reply read all = all

-- Rows that are replayed

unpublished : (number : Option ℕ) → published_refusal number ≡ None → number ≡ None
unpublished None e = refl
unpublished (Some number) e = none_some (refusal.AlreadyPublished number) (sym e)

pub unpublished_job : (now : ℕ) (job : Job) (outcome : Outcome) → publishing_refusal now job outcome ≡ None → job.publication ≡ None
unpublished_job now job outcome e =
    let later = (first_none (refuse_if (is_open outcome) refusal.NotDone) _ e).1 in
    let without = (first_none _ _ later).1 in
    unpublished job.publication (first_none (refuse_if (is_without outcome) refusal.NotCertified) (published_refusal job.publication) without).1

publish_fresh : (H : History) (number : ℕ) (read : Certificate) → publish_refusal (edits H) (Some read) (job_of H number) ≡ None → All IsPublished (jobs H)
    → (job : Job) → job_of H number ≡ Some job → IfAnswered job.outcome ⊥
publish_fresh H number read right all job found =
    let e : publishing_refusal (edits H) job (counted (Some read) job.outcome) ≡ None = subst (λ (o : Option Job). publish_refusal (edits H) (Some read) o ≡ None) found right in
    if_then job.outcome (job.publication ≡ None → ⊥) ⊥ (λ some. some (unpublished_job (edits H) job (counted (Some read) job.outcome) e)) (all_nth IsPublished (jobs H) number job all found)

lottery_fair : (H : History) (number : ℕ) (text : List ℕ) (read : Option Certificate) → IsLotteryOf H number text read → publish_refusal (edits H) read (job_of H number) ≡ None → All IsPublished (jobs H) → IsReadRightIn H (Publish number) read
lottery_fair H number text None is right all = tt
lottery_fair H number text (Some read) is right all =
    let same : read ≡ record { rules = rules_at H is.job.edition; answer = answer.Lottery is.winning } = ap (or_else read) is.read in (
      record {
        job = is.job;
        there = is.there;
        rules = ap (λ (c : Certificate). c.rules) same;
        right = subst (λ (a : Answer). IsRight (rules_at H is.job.edition) is.job.mode a) (sym (ap (λ (c : Certificate). c.answer) same)) is.certified;
      },
      publish_fresh H number read right all,
    )

read_fair : (H : History) (command : Command) (text : List ℕ) (read : Option Certificate) → IsReadWith H command text read → own_refusal H command read ≡ None → All IsPublished (jobs H) → IsReadRightIn H command read
read_fair H (Edit base edit) text None is right all = tt
read_fair H (Edit base edit) text (Some read) is right all = tt
read_fair H (Submit base mode) text None is right all = tt
read_fair H (Submit base mode) text (Some read) is right all = tt
read_fair H (Publish job) text read is right all = lottery_fair H job text read is right all
read_fair H (Draw publication drawn) text None is right all = tt
read_fair H (Draw publication drawn) text (Some read) is right all = tt

abbrev pub IsGood : History → Type 0
IsGood H = All (IsSound H) (jobs H) × All IsPublished (jobs H)

pub replays_fair : (H : History) (row : List ℕ) (next : History) (r : Replays H row next) → All IsPublished (jobs H) → IsFair H (accepted H r.its r.read)
replays_fair H row next r all =
    let own : own_refusal H r.its.command r.read ≡ None = (first_none _ _ r.is_right).0 in
    (own, read_fair H r.its.command r.text r.read r.is_read own all)

pub replays_good : (H : History) (row : List ℕ) (next : History) → Replays H row next → IsGood H → IsGood next
replays_good H row next r good =
    subst IsGood (sym r.becomes) (
      sound_next (accepted H r.its r.read) H (replays_fair H row next r good.1) good.0,
      published_next H r.its.caller r.its.number r.its.command (done_of H r.its.command) r.read good.1,
    )

replay_good : (H : History) (rows : List (List ℕ)) (end : History) → Replay H rows end → IsGood H → IsGood end
replay_good H [] end same good = subst IsGood (sym same) good
replay_good H (row ∷ rows) end (next, first, rest) good = replay_good next rows end rest (replays_good H row next first good)

pub none_good : IsGood []
none_good = (λ k d lt. absurd (omega arith), λ k d lt. absurd (omega arith))

pub legal_sound : (chairs : List (List ℕ)) (H : History) → IsLegal chairs H → All (IsSound H) (jobs H)
legal_sound chairs [] legal = none_good.0
legal_sound chairs (entry ∷ H) (inl opened) = (replay_good [] opened.0 (entry ∷ H) opened.1 none_good).0
legal_sound chairs (entry ∷ H) (inr legal) = sound_next entry H (made_fair chairs H entry legal.1) (legal_sound chairs H legal.0)

pub legal_shown : (chairs : List (List ℕ)) (H : History) → IsLegal chairs H → AnsweredAreShown H
legal_shown chairs H legal = λ k d lt. (legal_sound chairs H legal k d lt).1

-- Certificates

pub right_certificate : (value : RulesValue) (mode : Mode) (reply : Answer) → AreRules value → IsRight value mode reply → IsSpelled reply → IsCertificate value reply
right_certificate value mode (answer.Lottery winning) are is spelled = record { rules_kept = are; suits = rw is.of_mode is.suits; matching = is.fitting; spelled = spelled }
right_certificate value mode (answer.Infeasible blocked) are is spelled = record { rules_kept = are; suits = tt; matching = is.fitting; spelled = spelled }

pub certified_best : (value : RulesValue) (mode : Mode) (winning : Winning) → AreRules value → IsCertified value mode winning → Best value (sieve_of winning.level) winning.lottery
certified_best value mode winning are c = best_at_bound value (sieve_of winning.level) winning.prices winning.lottery are c.fits c.whole (c.scored ∙ c.bounded)
