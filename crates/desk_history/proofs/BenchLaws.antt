-- What benches take, end and let go.
use Rattle.std.proofs.Common.{◌≡◌, ◌+◌, ◌≤◌, ℕ, true, cond, eqb, eq-eqb, get_or, set, arith, vec_len, vec_capacity, Vec, Option, None, Some, IsSome, Ok, IfSome, ap, refl, ◌∙◌, subst}
use Rattle.std.specs.declared.alloc.Global.{Global}
use Rattle.venue_rules.specs.Venues.{VenueValue}
use Rattle.venue_rules.specs.VenueRules.{rules_of}
use Rattle.match_rules.specs.Rules.{RulesValue}
use Rattle.desk_history.specs.declared.entries.Entry.{Entry}
use Rattle.desk_history.specs.declared.entries.Entry.TheVariants.{Ended, Took}
use Rattle.desk_history.specs.declared.refusals.Refusal.TheVariants.{BenchEmpty}
use Rattle.desk_history.specs.declared.requests.Work.{Work}
use Rattle.desk_history.specs.Outcomes.{Ends, after}
use Rattle.desk_history.specs.declared.jobs.Job.{Job}
use Rattle.desk_history.specs.declared.replies.Answered.TheVariants.{Finished, Taken}
use Rattle.desk_history.specs.declared.tables.Tables.{Tables}
use Rattle.desk_history.specs.Courses.{AreKept, IsTakable, full, history_of}
use Rattle.desk_history.specs.Histories.{History, edits, held, job_of, jobs}
use Rattle.desk_history.specs.Looks.{refused, rules_at, rules_or_none}
use Rattle.desk_history.specs.Steps.{finish_job, finish_step, first_waiting, holds, made, take_at, take_first, take_step}
use Rattle.desk_history.specs.Tables.{AreTables}
use Rattle.desk_history.proofs.TableLaws.{full_none}
use Rattle.desk_history.proofs.OpenJobs.{edition_present, first_present, open_jobs}

-- the rules of the present edition are at hand
pub present_rules : (H : History) (tables : Tables) → AreTables H tables → rules_at H (edits H) ≡ tables.rules
present_rules H tables are = ap (λ (v : VenueValue). rules_or_none (rules_of v)) (edition_present H) ∙ ap rules_or_none are.rules

pub waiting_edition : (H : History) (found : ℕ × Job) → first_waiting 1 (jobs H) ≡ Some found → found.1.edition ≡ edits H
waiting_edition H found first = subst (λ (some : Option (ℕ × Job)). IfSome some (λ it. it.1.edition ≡ edits H)) first (first_present (edits H) 1 (jobs H) (open_jobs H))

pub taken : (H : History) (tables : Tables) (bench : ℕ) (found : ℕ × Job) → AreTables H tables → IsTakable H bench (Ok found)
    → take_step H bench ≡ made (Taken (record { job = found.0; edition = found.1.edition; mode = found.1.mode; rules = tables.rules })) (Took bench found.0)
taken H tables bench found are takable =
    let rules : rules_at H found.1.edition ≡ tables.rules = ap (rules_at H) (waiting_edition H found takable.1) ∙ present_rules H tables are in
    ap (take_at H bench) takable.0 ∙ ap (take_first H bench) takable.1
    ∙ ap (λ (r : RulesValue). made (Taken (record { job = found.0; edition = found.1.edition; mode = found.1.mode; rules = r })) (Took bench found.0)) rules

-- a bench ends the job that it has
pub ended_step : (H : History) (bench number : ℕ) (job : Job) (done : Work) → held H bench ≡ Some number → job_of H number ≡ Some job
    → finish_step H bench number done ≡ made (Finished number (after (Ends done) job.outcome)) (Ended bench done)
ended_step H bench number job done has there =
    let same : eqb number number ≡ true = eq-eqb number number refl in
    ap (λ (h : Option ℕ). cond (holds h number) (finish_job bench number done (job_of H number)) (refused BenchEmpty)) has
    ∙ ap (λ b. cond b (finish_job bench number done (job_of H number)) (refused BenchEmpty)) same
    ∙ ap (finish_job bench number done) there

-- what remains of a history and its tables behind an end or a release
pub kept_less : (old new : Tables) (entries more : Vec Entry Global) (bench : ℕ) → AreTables (history_of more) new → new.benches ≡ set old.benches bench None → IsSome (get_or old.benches bench None)
    → vec_len entries + full old.benches ≤ vec_capacity entries → vec_len more ≡ vec_len entries + 1 → vec_capacity entries ≤ vec_capacity more → AreKept more new
kept_less old new entries more bench are benches some room len capacity =
    let less : full (set old.benches bench None) + 1 ≡ full old.benches = full_none old.benches bench some in
    let now : full new.benches ≡ full (set old.benches bench None) = ap full benches in
    record { are = are; room = omega (arith, less, now, room, len, capacity) }
