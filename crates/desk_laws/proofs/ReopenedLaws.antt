-- The rows of a legal history open the history that comes back.
use Rattle.std.proofs.Common.{◌≡◌, ◌∙◌, ℕ, ◌+◌, ◌≤◌, ◌||◌, Bool, true, false, List, [], ◌∷◌, ◌++◌, length, Option, None, Some, refl, subst, arith, ap, sym, suc, inl, inr}
use Rattle.std.specs.Prelude.{ℤ, ⊤, bytes_eq, nat_lt}
use Rattle.std.proofs.lemmas.Bool.{false≢true}
use Rattle.std.proofs.lemmas.Bool.Decides.{nat_tests}
use Rattle.std.proofs.lemmas.Slice.Eq.{bytes_eq-Decides}
use Rattle.match_rules.specs.Answers.{Certified as IsCertified}
use Rattle.match_rules.specs.First.{first_of_two}
use Rattle.match_rules.specs.Pieces.{ArePieces}
use Rattle.match_rules.specs.Rules.{RulesValue}
use Rattle.match_rules.specs.declared.answer.Answer.TheVariants as answer
use Rattle.match_rules.specs.declared.answer.Mode.{Mode}
use Rattle.match_rules.specs.declared.answer.Winning.{Winning}
use Rattle.publication.specs.declared.certificate.Certificate.{Certificate}
use Rattle.venue_rules.specs.Venues.{VenueValue}
use Rattle.desk_keeper.specs.Names.{is_chair_name}
use Rattle.desk_keeper.specs.Rows.{MayHave, row_of}
use Rattle.desk_keeper.specs.declared.words.Command.{Command}
use Rattle.desk_keeper.specs.declared.words.Command.TheVariants.{Edit, Submit, Publish, Draw}
use Rattle.desk_keeper.specs.declared.words.Named.{Named}
use Rattle.desk_history.specs.declared.entries.Done.{Done}
use Rattle.desk_history.specs.declared.entries.Entry.{Entry}
use Rattle.desk_history.specs.declared.entries.Entry.TheVariants.{Accepted, Took, Ended, Released}
use Rattle.desk_history.specs.declared.jobs.Grade.{Grade}
use Rattle.desk_history.specs.declared.jobs.Job.{Job}
use Rattle.desk_history.specs.declared.jobs.Outcome.{Outcome}
use Rattle.desk_history.specs.declared.jobs.Outcome.TheVariants.{Certified, Waiting}
use Rattle.desk_history.specs.declared.jobs.Publication.{Publication}
use Rattle.desk_history.specs.declared.refusals.Refusal.{Refusal}
use Rattle.desk_history.specs.declared.refusals.Refusal.TheVariants as refusal
use Rattle.desk_history.specs.Outcomes.{Reads, after, grade_of}
use Rattle.desk_history.specs.Histories.{History, commands, edits, job_of, jobs, nth_of, present, put}
use Rattle.desk_history.specs.Looks.{rules_at}
use Rattle.desk_history.specs.Opened.{IsLegal, IsLotteryOf, IsReadWith, Opens, Replay, Replays}
use Rattle.desk_history.specs.Refusals.{base_refusal, draw_refusal, edit_refusal, full_refusal, is_open, own_refusal, publish_refusal, published_refusal, publishing_refusal, refusal_of, refuse_if}
use Rattle.desk_history.specs.Rows.{bytes, evidence_of, lottery_of, named, publishes, row_behind, rows, text_of}
use Rattle.desk_history.specs.Steps.{MayCommand, accepted, done_of, is_chair}
use Rattle.desk_reopening.proofs.RowLaws.{replay_more, replay_rows}
use Rattle.desk_laws.specs.Evidence.{IsBacked}
use Rattle.desk_laws.specs.Reopened.{AreNames, read_back, reopened}
use Rattle.desk_laws.proofs.EvidenceLaws.{none_some}
use Rattle.desk_laws.proofs.LegalLaws.{first_none, legal_sound, unpublished_job}
use Rattle.desk_laws.proofs.MadeLaws.{IsMade, IsMadeCommand, made_entry}
use Rattle.desk_laws.proofs.Pairs.{Beside, pairs_nth}
use Rattle.desk_laws.proofs.PublishedLaws.{backed_job}
use Rattle.desk_laws.proofs.SameEvidence.{won_publish}
use Rattle.desk_laws.proofs.SameJobs.{IsSameJob, same_commands, same_done, same_edits, same_jobs, same_kept, same_present, same_publications, same_rules}
use Rattle.desk_laws.proofs.Spelled.{evidence_spelt, legal_spelt}

-- What rows open comes back as it is

read_again : (H : History) (command : Command) (text : List ℕ) (read : Option Certificate) → IsReadWith H command text read → read_back H command read ≡ read
read_again H (Edit base edit) text read is = sym is
read_again H (Submit base mode) text read is = sym is
read_again H (Publish job) text read is = subst (λ (o : Option Certificate). publishes H job o ≡ o) (sym is.read) refl
read_again H (Draw publication drawn) text read is = sym is

replay_again : (H : History) (given : List (List ℕ)) (end : History) → Replay H given end → reopened H ≡ H → reopened end ≡ end
replay_again H [] end same e = subst (λ (h : History). reopened h ≡ h) (sym same) e
replay_again H (row ∷ given) end (next, first, rest) e =
    replay_again next given end rest
    (subst (λ (h : History). reopened h ≡ h) (sym first.becomes)
    (ap (λ (o : Option Certificate). Accepted first.its.caller first.its.number first.its.command (done_of H first.its.command) o ∷ reopened H) (read_again H first.its.command first.text first.read first.is_read)
    ∙ ap (λ (h : History). accepted H first.its first.read ∷ h) e))

-- Chairs

named_either : (test : Bool) (chair name : List ℕ) (others : List (List ℕ)) → bytes_eq chair name ≡ test → (test || is_chair others name) ≡ true → is_chair_name chair ≡ true → (is_chair others name ≡ true → is_chair_name name ≡ true) → is_chair_name name ≡ true
named_either true chair name others e is here later = subst (λ (n : List ℕ). is_chair_name n ≡ true) ((bytes_eq-Decides chair name).0 e) here
named_either false chair name others e is here later = later is

pub chair_named : (chairs : List (List ℕ)) (name : List ℕ) → AreNames chairs → is_chair chairs name ≡ true → is_chair_name name ≡ true
chair_named [] name names is = absurd (false≢true is)
chair_named (chair ∷ others) name names is =
    named_either (bytes_eq chair name) chair name others refl is (names 0 [] (omega arith)) (chair_named others name (λ k d lt. names (suc k) d (omega (arith, lt))))

-- The bytes of rows

abbrev total : List (List ℕ) → ℕ
total [] = 0
total (row ∷ given) = length row + total given

total_next : (given : List (List ℕ)) (row : List ℕ) → total (given ++ row ∷ []) ≡ total given + length row
total_next [] row = omega arith
total_next (first ∷ given) row = let e : total (given ++ row ∷ []) ≡ total given + length row = total_next given row in omega (arith, e)

bytes_total : (H : History) → bytes H ≡ total (rows H)
bytes_total [] = refl
bytes_total (Accepted caller number command reply read ∷ H) =
    ap (λ n. n + length (row_behind H (named caller number command) read)) (bytes_total H) ∙ sym (total_next (rows H) (row_behind H (named caller number command) read))
bytes_total (Took bench job ∷ H) = bytes_total H
bytes_total (Ended bench done ∷ H) = bytes_total H
bytes_total (Released bench ∷ H) = bytes_total H

same_bytes : (H : History) → Opens (rows H) (reopened H) → bytes (reopened H) ≡ bytes H
same_bytes H opens = bytes_total (reopened H) ∙ ap total (replay_rows [] (rows H) (reopened H) opens) ∙ sym (bytes_total H)

-- A job that may be published

not_less : (a b : ℕ) → nat_lt a b ≡ false → b ≤ a
not_less a b e = grind (arith, nat_tests)

is_not_less : (a b : ℕ) → b ≤ a → nat_lt a b ≡ false
is_not_less a b le = grind (arith, nat_tests)

refused_not : (test : Bool) (why : Refusal) → refuse_if test why ≡ None → test ≡ false
refused_not true why none = none_some why (sym none)
refused_not false why none = refl

is_present : (now : ℕ) (job : Job) (outcome : Outcome) → publishing_refusal now job outcome ≡ None → now ≤ job.edition
is_present now job outcome e =
    let behind = (first_none (refuse_if (is_open outcome) refusal.NotDone) _ e).1 in
    not_less job.edition now (refused_not (nat_lt job.edition now) (refusal.Stale now) (first_none (refuse_if (nat_lt job.edition now) (refusal.Stale now)) _ behind).0)

-- such a job with its lottery, and the job that comes back
pub record IsPublishable (H : History) (number : ℕ) : Type 0 where
  pub job : Job
  pub back : Job
  pub winning : Winning
  pub comes : job_of (reopened H) number ≡ Some back
  pub same : IsSameJob (edits H) job back
  pub shown : evidence_of H (job_of H number) ≡ Some (record { rules = rules_at H job.edition; answer = answer.Lottery winning })
  pub certified : IsCertified (rules_at H job.edition) job.mode winning
  pub spelled : ArePieces winning.lottery
  pub fresh : job.publication ≡ None
  pub current : edits H ≤ job.edition

backed_publishable : (chairs : List (List ℕ)) (H : History) (number : ℕ) → IsLegal chairs H → publish_refusal (edits H) None (job_of H number) ≡ None → IsBacked H (record { job = number; ticket = None }) → IsPublishable H number
backed_publishable chairs H number legal right backed =
    let e : publishing_refusal (edits H) backed.job backed.job.outcome ≡ None = subst (λ (o : Option Job). publish_refusal (edits H) None o ≡ None) backed.there right in
    let beside : Beside (IsSameJob (edits H)) (job_of (reopened H) number) backed.job = pairs_nth (IsSameJob (edits H)) (jobs H) (jobs (reopened H)) number backed.job backed.there (same_jobs H) in
    record {
      job = backed.job;
      back = beside.item;
      winning = backed.winning;
      comes = beside.there;
      same = beside.related;
      shown = ap (evidence_of H) backed.there ∙ backed.shown;
      certified = backed.certified;
      spelled = evidence_spelt H backed.job.decided _ (legal_spelt chairs H legal) backed.shown;
      fresh = unpublished_job (edits H) backed.job backed.job.outcome e;
      current = is_present (edits H) backed.job backed.job.outcome e;
    }

publishable : (chairs : List (List ℕ)) (H : History) (number : ℕ) (job : Option Job) → IsLegal chairs H → job_of H number ≡ job → publish_refusal (edits H) None job ≡ None → IsPublishable H number
publishable chairs H number None legal found right = none_some refusal.UnknownJob (sym right)
publishable chairs H number (Some job) legal found right =
    let whole : publish_refusal (edits H) None (job_of H number) ≡ None = subst (λ (o : Option Job). publish_refusal (edits H) None o ≡ None) (sym found) right in
    backed_publishable chairs H number legal whole
    (backed_job H (record { job = number; ticket = None }) job found (won_publish H number None job found whole) (legal_sound chairs H legal))

-- a certified job of the present edition without a publication may be published
accepted_publish : (now : ℕ) (job : Job) (grade : Grade) (sum : ℤ) → now ≤ job.edition → job.publication ≡ None → publishing_refusal now job (Certified grade sum) ≡ None
accepted_publish now job grade sum le none =
    ap (λ (t : Bool). first_of_two (refuse_if t (refusal.Stale now)) (published_refusal job.publication)) (is_not_less job.edition now le) ∙ ap published_refusal none

read_publish : (now : ℕ) (job : Job) (winning : Winning) → now ≤ job.edition → job.publication ≡ None → job.outcome ≡ Waiting → publishing_refusal now job (after (Reads (answer.Lottery winning)) job.outcome) ≡ None
read_publish now job winning le none waits =
    ap (λ (o : Outcome). publishing_refusal now job (after (Reads (answer.Lottery winning)) o)) waits ∙ accepted_publish now job (grade_of winning.level) winning.total le none

-- Each command with what its row brings

abbrev MayPublish : History → Command → Type 0
MayPublish H (Publish job) = IsPublishable H job
MayPublish H (Edit base edit) = ⊤
MayPublish H (Submit base mode) = ⊤
MayPublish H (Draw publication text) = ⊤

may_publish : (chairs : List (List ℕ)) (H : History) (command : Command) → IsLegal chairs H → own_refusal H command None ≡ None → MayPublish H command
may_publish chairs H (Publish job) legal right = publishable chairs H job (job_of H job) legal refl right
may_publish chairs H (Edit base edit) legal right = tt
may_publish chairs H (Submit base mode) legal right = tt
may_publish chairs H (Draw publication text) legal right = tt

may_have : (H : History) (command : Command) → MayCommand command → MayHave command (lottery_of H command None)
may_have H (Edit base edit) may = (may, refl)
may_have H (Submit base mode) may = refl
may_have H (Publish job) may = tt
may_have H (Draw publication text) may = refl

lottery_again : (H : History) (number : ℕ) → IsPublishable H number → IsLotteryOf (reopened H) number (text_of (evidence_of H (job_of H number))) (evidence_of H (job_of H number))
lottery_again H number is =
    let rule : rules_at H is.job.edition ≡ rules_at (reopened H) is.back.edition = sym (same_rules H is.back.edition ∙ ap (λ n. rules_at H n) is.same.edition) in
    record {
      job = is.back;
      winning = is.winning;
      there = is.comes;
      certified = subst (λ (v : RulesValue). IsCertified v is.back.mode is.winning) rule (subst (λ (m : Mode). IsCertified (rules_at H is.job.edition) m is.winning) (sym is.same.mode) is.certified);
      spelled = is.spelled;
      text = ap text_of is.shown;
      read = is.shown ∙ ap (λ (v : RulesValue). Some (record { rules = v; answer = answer.Lottery is.winning })) rule;
    }

read_alike : (H : History) (command : Command) → MayPublish H command → IsReadWith (reopened H) command (lottery_of H command None) (read_back H command None)
read_alike H (Edit base edit) may = refl
read_alike H (Submit base mode) may = refl
read_alike H (Publish job) may = lottery_again H job may
read_alike H (Draw publication text) may = refl

publish_alike : (H : History) (number : ℕ) → IsPublishable H number → publish_refusal (edits (reopened H)) (evidence_of H (job_of H number)) (job_of (reopened H) number) ≡ None
publish_alike H number is =
    ap (λ n. publish_refusal n (evidence_of H (job_of H number)) (job_of (reopened H) number)) (same_edits H)
    ∙ ap (λ (o : Option Certificate). publish_refusal (edits H) o (job_of (reopened H) number)) is.shown
    ∙ ap (λ (o : Option Job). publish_refusal (edits H) (Some (record { rules = rules_at H is.job.edition; answer = answer.Lottery is.winning })) o) is.comes
    ∙ read_publish (edits H) is.back is.winning (subst (λ n. edits H ≤ n) (sym is.same.edition) is.current) (is.same.publication ∙ is.fresh) (is.same.waits is.fresh is.current)

own_alike : (H : History) (command : Command) → MayPublish H command → own_refusal H command None ≡ None → own_refusal (reopened H) command (read_back H command None) ≡ None
own_alike H (Edit base edit) may right =
    ap (λ n. edit_refusal n base (put (present (reopened H)) edit)) (same_edits H) ∙ ap (λ (v : VenueValue). edit_refusal (edits H) base (put v edit)) (same_present H) ∙ right
own_alike H (Submit base mode) may right = ap (λ n. base_refusal n base) (same_edits H) ∙ right
own_alike H (Publish job) may right = publish_alike H job may
own_alike H (Draw publication text) may right = ap (λ (ps : List Publication). draw_refusal (nth_of ps publication)) (same_publications H) ∙ right

text_alike : (H : History) (command : Command) → MayPublish H command → lottery_of (reopened H) command (read_back H command None) ≡ lottery_of H command None
text_alike H (Edit base edit) may = refl
text_alike H (Submit base mode) may = refl
text_alike H (Publish job) may = ap (λ (o : Option Certificate). text_of (publishes (reopened H) job o)) may.shown ∙ sym (ap text_of may.shown)
text_alike H (Draw publication text) may = refl

-- One row more

right_alike : (H : History) (its : Named) → Opens (rows H) (reopened H) → MayPublish H its.command → refusal_of H its None ≡ None → refusal_of (reopened H) its (read_back H its.command None) ≡ None
right_alike H its opens may right =
    let R : History = reopened H in
    let read : Option Certificate = read_back H its.command None in
    let both = first_none (own_refusal H its.command None) (full_refusal (commands H) (bytes H + length (row_behind H its None))) right in
    ap (λ (o : Option Refusal). first_of_two o (full_refusal (commands R) (bytes R + length (row_behind R its read)))) (own_alike H its.command may both.0)
    ∙ ap (λ n. full_refusal n (bytes R + length (row_behind R its read))) (same_commands H)
    ∙ ap (λ n. full_refusal (commands H) (n + length (row_behind R its read))) (same_bytes H opens)
    ∙ ap (λ (text : List ℕ). full_refusal (commands H) (bytes H + length (row_of its text))) (text_alike H its.command may)
    ∙ both.1

next_row : (chairs : List (List ℕ)) (H : History) (its : Named) (reply : Done) (read : Option Certificate) → AreNames chairs → IsLegal chairs H → IsMadeCommand chairs H its reply read → Opens (rows H) (reopened H)
    → Replays (reopened H) (row_behind H its None) (Accepted its.caller its.number its.command reply (read_back H its.command None) ∷ reopened H)
next_row chairs H its reply read names legal is opens =
    let own : own_refusal H its.command None ≡ None = (first_none (own_refusal H its.command None) _ is.is_right).0 in
    let may : MayPublish H its.command = may_publish chairs H its.command legal own in
    record {
      its = its;
      text = lottery_of H its.command None;
      read = read_back H its.command None;
      is_row = record { kept = record { caller = chair_named chairs its.caller names is.chair; command = may_have H its.command is.may }; number = is.typed.0; small = is.typed.1; text = refl };
      is_new = same_kept H its.caller its.number ∙ is.is_new;
      is_read = read_alike H its.command may;
      is_right = right_alike H its opens may is.is_right;
      becomes = ap (λ (d : Done). Accepted its.caller its.number its.command d (read_back H its.command None) ∷ reopened H) (is.replied ∙ sym (same_done H its.command));
    }

opens_next : (chairs : List (List ℕ)) (entry : Entry) (H : History) → AreNames chairs → IsLegal chairs H → IsMade chairs H entry → Opens (rows H) (reopened H) → Opens (rows (entry ∷ H)) (reopened (entry ∷ H))
opens_next chairs (Accepted caller number command reply read) H names legal is opens =
    subst (λ (o : Option Certificate). Opens (rows H ++ row_behind H (named caller number command) o ∷ []) (Accepted caller number command reply (read_back H command o) ∷ reopened H)) (sym is.unread)
    (replay_more [] (rows H) (reopened H) (row_behind H (named caller number command) None) (Accepted caller number command reply (read_back H command None) ∷ reopened H) opens
    (next_row chairs H (named caller number command) reply read names legal is opens))
opens_next chairs (Took bench job) H names legal is opens = opens
opens_next chairs (Ended bench done) H names legal is opens = opens
opens_next chairs (Released bench) H names legal is opens = opens

pub legal_opens : (chairs : List (List ℕ)) (H : History) → AreNames chairs → IsLegal chairs H → Opens (rows H) (reopened H)
legal_opens chairs [] names legal = refl
legal_opens chairs (entry ∷ H) names (inl opened) =
    subst (λ (h : History). Opens (rows (entry ∷ H)) h) (sym (replay_again [] opened.0 (entry ∷ H) opened.1 refl))
    (subst (λ (given : List (List ℕ)). Opens given (entry ∷ H)) (sym (replay_rows [] opened.0 (entry ∷ H) opened.1)) opened.1)
legal_opens chairs (entry ∷ H) names (inr legal) = opens_next chairs entry H names legal.0 (made_entry chairs H entry legal.1) (legal_opens chairs H names legal.0)
