-- What is read with a publish is the lottery that is kept for the rules of its job.
use Rattle.std.proofs.Common.{◌≡◌, ◌∙◌, ◌+◌, ◌≤◌, ◌<◌, ◌∷◌, [], ℕ, Bool, true, false, List, Option, None, Some, Ok, Err, ap, ltb, refl, rules, subst, sym, arith}
use Rattle.std.specs.Prelude.{nat_lt}
use Rattle.match_rules.specs.Answers.{Certified}
use Rattle.match_rules.specs.Rules.{RulesValue}
use Rattle.match_rules.specs.declared.answer.Answer.{Answer}
use Rattle.match_rules.specs.declared.answer.Answer.TheVariants.{Lottery, Infeasible}
use Rattle.match_rules.specs.declared.answer.Mode.{Mode}
use Rattle.publication.specs.declared.certificate.Certificate.{Certificate}
use Rattle.venue_rules.specs.VenueRules.{rules_of}
use Rattle.desk_keeper.specs.declared.words.Command.TheVariants.{Edit, Submit, Publish, Draw}
use Rattle.desk_history.specs.declared.entries.Entry.TheVariants.{Accepted, Took, Ended, Released}
use Rattle.desk_history.specs.declared.jobs.Job.{Job}
use Rattle.desk_history.specs.declared.jobs.Outcome.{Outcome}
use Rattle.desk_history.specs.declared.refusals.Refusal.{Refusal}
use Rattle.desk_history.specs.declared.refusals.Refusal.TheVariants as refusal
use Rattle.desk_history.specs.declared.tables.Tables.{Tables}
use Rattle.desk_history.specs.Histories.{History, edition, edits, job_of, nth_of, present}
use Rattle.desk_history.specs.Looks.{rules_at, rules_or_none}
use Rattle.desk_history.specs.Opened.{IsLotteryOf}
use Rattle.desk_history.specs.Refusals.{counted, is_open, publish_refusal, publishing_refusal, refuse_if}
use Rattle.desk_history.specs.Tables.{AreTables}
use Rattle.desk_reopening.specs.declared.faults.ReplayFault.{ReplayFault}
use Rattle.desk_reopening.specs.declared.faults.ReplayFault.TheVariants.{Damaged, Memory}
use Rattle.desk_reopening.specs.Replaying.{Finds, IsAcceptedWith, IsKeptLottery, IsKeptWith, IsTheOne}
use Rattle.desk_reopening.proofs.ListLaws.{none_some, or_else}
use Rattle.desk_reopening.proofs.RefusalLaws.{first_none, refused_if}

-- an edition that isn't before the present one is the present one
later_edition : (H : History) (n : ℕ) → edits H ≤ n → edition H n ≡ present H
later_edition [] n le = refl
later_edition (Accepted caller number (Edit base edit) reply read ∷ H) n le = let less : ltb (edits H) n ≡ true = search (rules, le) in rw less refl
later_edition (Accepted caller number (Submit base mode) reply read ∷ H) n le = later_edition H n le
later_edition (Accepted caller number (Publish job) reply read ∷ H) n le = later_edition H n le
later_edition (Accepted caller number (Draw publication text) reply read ∷ H) n le = later_edition H n le
later_edition (Took bench job ∷ H) n le = later_edition H n le
later_edition (Ended bench done ∷ H) n le = later_edition H n le
later_edition (Released bench ∷ H) n le = later_edition H n le

pub later_rules : (H : History) (tables : Tables) (n : ℕ) → AreTables H tables → edits H ≤ n → rules_at H n ≡ tables.rules
later_rules H tables n are le = ap (λ v. rules_or_none (rules_of v)) (later_edition H n le) ∙ ap rules_or_none are.rules

-- a job of an earlier edition isn't published
earlier : (now : ℕ) (job : Job) (outcome : Outcome) → job.edition < now → publishing_refusal now job outcome ≡ None → ⊥
earlier now job outcome less none =
    let behind = (first_none (refuse_if (is_open outcome) refusal.NotDone) _ none).1 in
    let stale : ltb job.edition now ≡ true = search (rules, less) in
    refused_if (nat_lt job.edition now) (refusal.Stale now) stale (first_none (refuse_if (nat_lt job.edition now) (refusal.Stale now)) _ behind).0

pub earlier_refused : (now : ℕ) (read : Option Certificate) (found : Option Job) (job : Job) → found ≡ Some job → job.edition < now → publish_refusal now read found ≡ None → ⊥
earlier_refused now read found job is less none = earlier now job (counted read job.outcome) less (subst (λ (o : Option Job). publish_refusal now read o ≡ None) is none)

pub none_refused : (now : ℕ) (read : Option Certificate) (found : Option Job) → found ≡ None → publish_refusal now read found ≡ None → ⊥
none_refused now read found is none = none_some refusal.UnknownJob (sym (subst (λ (o : Option Job). publish_refusal now read o ≡ None) is none))

-- the lottery of a job whose rules are these
pub lottery_kept : (H : History) (number : ℕ) (text : List ℕ) (read : Option Certificate) (job : Job) (value : RulesValue) → job_of H number ≡ Some job → rules_at H job.edition ≡ value
    → IsLotteryOf H number text read → IsKeptWith value job.mode text read
lottery_kept H number text read job value there same is =
    let one : is.job ≡ job = ap (or_else job) (sym is.there ∙ there) in
    let its : rules_at H is.job.edition ≡ value = ap (λ (j : Job). rules_at H j.edition) one ∙ same in
    record {
      answer = Lottery is.winning;
      kept = record {
        sure = record {
          certified = subst (λ (v : RulesValue). Certified v job.mode is.winning) its (subst (λ (j : Job). Certified (rules_at H is.job.edition) j.mode is.winning) one is.certified);
          spelled = is.spelled;
        };
        written = is.text;
      };
      is = is.read ∙ ap (λ (v : RulesValue). Some (record { rules = v; answer = Lottery is.winning })) its;
    }

kept_answer : (H : History) (number : ℕ) (text : List ℕ) (read : Option Certificate) (job : Job) (value : RulesValue) (answer : Answer) → job_of H number ≡ Some job → rules_at H job.edition ≡ value
    → IsKeptLottery value job.mode text answer → read ≡ Some (record { rules = value; answer = answer }) → IsLotteryOf H number text read
kept_answer H number text read job value (Lottery winning) there same kept is = record {
  job = job;
  winning = winning;
  there = there;
  certified = subst (λ (v : RulesValue). Certified v job.mode winning) (sym same) kept.sure.certified;
  spelled = kept.sure.spelled;
  text = kept.written;
  read = is ∙ ap (λ (v : RulesValue). Some (record { rules = v; answer = Lottery winning })) (sym same);
}
kept_answer H number text read job value (Infeasible blocked) there same kept is = absurd kept.sure

pub kept_lottery : (H : History) (number : ℕ) (text : List ℕ) (read : Option Certificate) (job : Job) (value : RulesValue) → job_of H number ≡ Some job → rules_at H job.edition ≡ value
    → IsKeptWith value job.mode text read → IsLotteryOf H number text read
kept_lottery H number text read job value there same kept = kept_answer H number text read job value kept.answer there same kept.kept kept.is

-- where no lottery is kept no publish is accepted
pub no_publish : (H : History) (number : ℕ) (text : List ℕ) (job : Job) (value : RulesValue) (fault : ReplayFault) → job_of H number ≡ Some job → rules_at H job.edition ≡ value
    → Finds (IsKeptWith value job.mode text) (Err fault) → Finds (IsAcceptedWith H (Publish number) text) (Err fault)
no_publish H number text job value Damaged there same none = λ read is. none read (lottery_kept H number text read job value there same is.is_read)
no_publish H number text job value Memory there same none = tt

-- the lottery that is kept is the only one that may be accepted
pub other_publish : (H : History) (number : ℕ) (text : List ℕ) (job : Job) (value : RulesValue) (read : Option Certificate) (why : Refusal) → job_of H number ≡ Some job → rules_at H job.edition ≡ value
    → IsTheOne (IsKeptWith value job.mode text) read → publish_refusal (edits H) read (job_of H number) ≡ Some why → (other : Option Certificate) → IsAcceptedWith H (Publish number) text other → ⊥
other_publish H number text job value read why there same kept refused other is =
    let one : other ≡ read = kept.only other (lottery_kept H number text other job value there same is.is_read) in
    none_some why (sym (subst (λ (r : Option Certificate). publish_refusal (edits H) r (job_of H number) ≡ None) one is.is_right) ∙ refused)

pub one_publish : (H : History) (number : ℕ) (text : List ℕ) (job : Job) (value : RulesValue) (read : Option Certificate) → job_of H number ≡ Some job → rules_at H job.edition ≡ value
    → IsTheOne (IsKeptWith value job.mode text) read → publish_refusal (edits H) read (job_of H number) ≡ None → IsTheOne (IsAcceptedWith H (Publish number) text) read
one_publish H number text job value read there same kept right = record {
  is = record { is_read = kept_lottery H number text read job value there same kept.is; is_right = right };
  only = λ other is. kept.only other (lottery_kept H number text other job value there same is.is_read);
}

-- The job of a number in the tables

job_there : (H : History) (tables : Tables) (number : ℕ) (found : Option Job) → AreTables H tables → found ≡ nth_of tables.jobs.items number → job_of H number ≡ found
job_there H tables number found are is = sym (is ∙ ap (λ (jobs : List Job). nth_of jobs number) are.jobs)

pub no_job : (H : History) (tables : Tables) (number : ℕ) (found : Option Job) → AreTables H tables → found ≡ nth_of tables.jobs.items number → found ≡ None
    → (read : Option Certificate) → publish_refusal (edits H) read (job_of H number) ≡ None → ⊥
no_job H tables number found are is none read right = none_refused (edits H) read (job_of H number) (job_there H tables number found are is ∙ none) right

pub early_job : (H : History) (tables : Tables) (number : ℕ) (found : Option Job) (job : Job) → AreTables H tables → found ≡ nth_of tables.jobs.items number → found ≡ Some job → job.edition < tables.edits
    → (read : Option Certificate) → publish_refusal (edits H) read (job_of H number) ≡ None → ⊥
early_job H tables number found job are is there less read right =
    earlier_refused (edits H) read (job_of H number) job (job_there H tables number found are is ∙ there) (subst (λ n. job.edition < n) are.edits less) right

pub this_job : (H : History) (tables : Tables) (number : ℕ) (found : Option Job) (job : Job) → AreTables H tables → found ≡ nth_of tables.jobs.items number → found ≡ Some job → tables.edits ≤ job.edition
    → (job_of H number ≡ Some job) × (edits H ≤ job.edition)
this_job H tables number found job are is there le = (job_there H tables number found are is ∙ there, subst (λ n. n ≤ job.edition) are.edits le)

-- what is kept alone with a copy of the rules
pub one_certificate : (value : RulesValue) (mode : Mode) (text : List ℕ) (answer : Answer) (copy : RulesValue) → copy ≡ value → IsTheOne (IsKeptLottery value mode text) answer
    → IsTheOne (IsKeptWith value mode text) (Some (record { rules = copy; answer = answer }))
one_certificate value mode text answer copy same one = record {
  is = record { answer = answer; kept = one.is; is = ap (λ (v : RulesValue). Some (record { rules = v; answer = answer })) same };
  only = λ other is.
      is.is ∙ ap (λ (a : Answer). Some (record { rules = value; answer = a })) (one.only is.answer is.kept)
      ∙ ap (λ (v : RulesValue). Some (record { rules = v; answer = answer })) (sym same);
}

pub none_kept : (value : RulesValue) (mode : Mode) (text : List ℕ) (fault : ReplayFault) → Finds (IsKeptLottery value mode text) (Err fault) → Finds (IsKeptWith value mode text) (Err fault)
none_kept value mode text Damaged none = λ read is. none is.answer is.kept
none_kept value mode text Memory none = tt
