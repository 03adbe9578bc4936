-- What a bench was given with its job stays right, whatever is asked between.
use Rattle.std.proofs.Common.{◌≡◌, ℕ, ◌+◌, ◌-◌, ◌≤◌, ◌<◌, Bool, true, false, cond, eqb, ne_eqb, ltb, List, [], ◌∷◌, Option, None, Some, Result, Ok, Err, refl, subst, sym, ap, ◌∙◌, zero, suc, arith, rules}
use Rattle.std.proofs.lemmas.Bool.{false≢true}
use Rattle.std.specs.List.{slice_get}
use Rattle.match_rules.specs.Rules.{RulesValue}
use Rattle.match_rules.specs.declared.answer.Answer.{Answer}
use Rattle.match_rules.specs.declared.answer.Mode.{Mode}
use Rattle.venue_rules.specs.Venues.{VenueValue}
use Rattle.venue_rules.specs.VenueRules.{rules_of}
use Rattle.desk_keeper.specs.declared.words.Command.TheVariants.{Edit, Submit, Publish, Draw}
use Rattle.desk_history.specs.declared.entries.Entry.{Entry}
use Rattle.desk_history.specs.declared.entries.Entry.TheVariants.{Accepted, Took, Ended, Released}
use Rattle.desk_history.specs.declared.jobs.Job.{Job}
use Rattle.desk_history.specs.declared.refusals.Refusal.{Refusal}
use Rattle.desk_history.specs.declared.refusals.Refusal.TheVariants.{BenchFull, NoJob}
use Rattle.desk_history.specs.declared.replies.Answered.{Answered}
use Rattle.desk_history.specs.declared.replies.Answered.TheVariants.{Taken}
use Rattle.desk_history.specs.declared.replies.Snapshot.{Snapshot}
use Rattle.desk_history.specs.Histories.{History, edition, edits, held, job_of, jobs, nth_of}
use Rattle.desk_history.specs.Laws.{IsAtWork}
use Rattle.desk_history.specs.Looks.{rules_at, rules_or_none}
use Rattle.desk_history.specs.Steps.{IsRight, IsRightFor, first_waiting, is_waiting, snapshot, take_at, take_first, take_step}
use Rattle.desk_history.proofs.JobsStay.{job_stays, none_some, some_equal}
use Rattle.desk_history.proofs.BenchLaws.{waiting_edition}

edition_later : (entry : Entry) (H : History) (n : ℕ) → n ≤ edits H → edition (entry ∷ H) n ≡ edition H n
edition_later (Accepted caller number (Edit base edit) reply read) H n few = let none : ltb (edits H) n ≡ false = search (rules, few) in rw none refl
edition_later (Accepted caller number (Submit base mode) reply read) H n few = refl
edition_later (Accepted caller number (Publish job) reply read) H n few = refl
edition_later (Accepted caller number (Draw publication text) reply read) H n few = refl
edition_later (Took bench job) H n few = refl
edition_later (Ended bench done) H n few = refl
edition_later (Released bench) H n few = refl

edits_later : (entry : Entry) (H : History) → edits H ≤ edits (entry ∷ H)
edits_later (Accepted caller number (Edit base edit) reply read) H = omega arith
edits_later (Accepted caller number (Submit base mode) reply read) H = omega arith
edits_later (Accepted caller number (Publish job) reply read) H = omega arith
edits_later (Accepted caller number (Draw publication text) reply read) H = omega arith
edits_later (Took bench job) H = omega arith
edits_later (Ended bench done) H = omega arith
edits_later (Released bench) H = omega arith

pub work_stays : (entry : Entry) (H : History) (given : Snapshot) → IsAtWork H given → IsAtWork (entry ∷ H) given
work_stays entry H given work =
    let later = job_stays entry H given.job work.job work.there in
    let rules : rules_at (entry ∷ H) given.edition ≡ rules_at H given.edition =
    ap (λ (v : VenueValue). rules_or_none (rules_of v)) (edition_later entry H given.edition work.made) in
    record {
      job = later.0;
      there = later.1.0;
      edition = later.1.1.0 ∙ work.edition;
      mode = later.1.1.1 ∙ work.mode;
      made = omega (arith, work.made, edits_later entry H);
      rules = work.rules ∙ sym rules;
    }

-- Its take

-- a job has its place in a list whose first job has this number
abbrev IsThere : ℕ → List Job → ℕ × Job → Type 0
IsThere number all found = (number ≤ found.0) × (slice_get all (found.0 - number) ≡ Some found.1)

there_here : (number : ℕ) (job : Job) (rest : List Job) → IsThere number (job ∷ rest) (number, job)
there_here number job rest = let at : number - number ≡ 0 = omega arith in (omega arith, ap (slice_get (job ∷ rest)) at)

there_later : (number : ℕ) (job : Job) (rest : List Job) (found : ℕ × Job) → IsThere (number + 1) rest found → IsThere number (job ∷ rest) found
there_later number job rest found later =
    let more : found.0 - number ≡ suc (found.0 - (number + 1)) = omega (arith, later.0) in
    (omega (arith, later.0), ap (slice_get (job ∷ rest)) more ∙ later.1)

there_on : (test : Bool) (number : ℕ) (job : Job) (rest : List Job) (found : ℕ × Job) (others : Option (ℕ × Job)) → cond test (Some (number, job)) others ≡ Some found
    → (others ≡ Some found → IsThere (number + 1) rest found) → IsThere number (job ∷ rest) found
there_on true number job rest found others is later = subst (IsThere number (job ∷ rest)) (some_equal (number, job) found is) (there_here number job rest)
there_on false number job rest found others is later = there_later number job rest found (later is)

first_there : (number : ℕ) (all : List Job) (found : ℕ × Job) → first_waiting number all ≡ Some found → IsThere number all found
first_there number [] found first = none_some found first
first_there number (job ∷ rest) found first =
    there_on (is_waiting job.outcome) number job rest found (first_waiting (number + 1) rest) first (first_there (number + 1) rest found)

waiting_there : (H : History) (found : ℕ × Job) → first_waiting 1 (jobs H) ≡ Some found → job_of H found.0 ≡ Some found.1
waiting_there H found first =
    let there = first_there 1 (jobs H) found first in
    let some : eqb found.0 0 ≡ false = ne_eqb found.0 0 (λ e. omega (arith, there.0, e)) in
    ap (λ t. cond t None (slice_get (jobs H) (found.0 - 1))) some ∙ there.1

at_work : (H : History) (found : ℕ × Job) → first_waiting 1 (jobs H) ≡ Some found → IsAtWork H (snapshot H found.0 found.1)
at_work H found first = record {
  job = found.1;
  there = waiting_there H found first;
  edition = refl;
  mode = refl;
  made = omega (arith, waiting_edition H found first);
  rules = refl;
}

-- what a reply gives to a bench
abbrev given_by : Snapshot → Result Answered Refusal → Snapshot
given_by other (Ok (Taken given)) = given
given_by other reply = other

abbrev is_ok : Result Answered Refusal → Bool
is_ok (Ok reply) = true
is_ok (Err refusal) = false

refused_taken : {P : Type 0} (refusal : Refusal) (given : Snapshot) (e : (let reply : Result Answered Refusal = Err refusal in reply ≡ Ok (Taken given))) → P
refused_taken refusal given e = absurd (false≢true (ap is_ok e))

ok_equal : (a b : Snapshot) (e : (let reply : Result Answered Refusal = Ok (Taken a) in reply ≡ Ok (Taken b))) → a ≡ b
ok_equal a b e = ap (given_by a) e

first_work : (H : History) (bench : ℕ) (given : Snapshot) (first : Option (ℕ × Job)) → first_waiting 1 (jobs H) ≡ first → (take_first H bench first).reply ≡ Ok (Taken given) → IsAtWork H given
first_work H bench given None is reply = refused_taken NoJob given reply
first_work H bench given (Some found) is reply = subst (IsAtWork H) (ok_equal (snapshot H found.0 found.1) given reply) (at_work H found is)

taken_work : (H : History) (bench : ℕ) (given : Snapshot) (has : Option ℕ) → (take_at H bench has).reply ≡ Ok (Taken given) → IsAtWork H given
taken_work H bench given None reply = first_work H bench given (first_waiting 1 (jobs H)) refl reply
taken_work H bench given (Some job) reply = refused_taken (BenchFull job) given reply

pub work_taken : (H : History) (bench : ℕ) (given : Snapshot) → (take_step H bench).reply ≡ Ok (Taken given) → IsAtWork H given
work_taken H bench given reply = taken_work H bench given (held H bench) reply

-- Its end

pub work_right : (H : History) (given : Snapshot) (reply : Answer) → IsAtWork H given → IsRight given.rules given.mode reply
    → IsRightFor H given.job (record { rules = given.rules; answer = reply })
work_right H given reply work right =
    let same : given.rules ≡ rules_at H work.job.edition = work.rules ∙ ap (rules_at H) (sym work.edition) in
    record {
      job = work.job;
      there = work.there;
      rules = same;
      right = subst (λ (mode : Mode). IsRight (rules_at H work.job.edition) mode reply) (sym work.mode)
          (subst (λ (rules : RulesValue). IsRight rules given.mode reply) same right);
    }
