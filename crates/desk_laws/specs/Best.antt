-- What each publication of a history is: a best lottery under the rules of one edition.
use Rattle.std.specs.Prelude.{◌≡◌, ℕ, ◌<◌, ◌≤◌, All, Some, length, slice_index}
use Rattle.match_rules.specs.Answers.{LevelIsRight, SuitsMode}
use Rattle.match_rules.specs.Assignments.{Best, tickets, times, total}
use Rattle.match_rules.specs.Rules.{RulesValue, pair_at}
use Rattle.match_rules.specs.Thresholds.{sieve_of}
use Rattle.match_rules.specs.declared.answer.Answer.TheVariants.{Lottery}
use Rattle.match_rules.specs.declared.answer.Mode.{Mode}
use Rattle.match_rules.specs.declared.answer.Winning.{Winning}
use Rattle.match_rules.specs.declared.rules.TheConstants.{RULES_TICKETS}
use Rattle.desk_history.specs.declared.jobs.Job.{Job}
use Rattle.desk_history.specs.declared.jobs.Publication.{Publication}
use Rattle.desk_history.specs.Histories.{History, edition, edits, evidence, job_of, publications}
use Rattle.desk_reopening.specs.Editions.{AreRulesOf}

-- a lottery of all tickets, over whole assignments that meet the rules, and no lottery of any size that fits them has a
-- greater score for each ticket; each pair has exactly its printed share, which is at most its cap; the total is the printed
-- one; in the mode fair all this is so under the printed threshold, which is the greatest at which some lottery fits
pub record IsBestIn (rules : RulesValue) (mode : Mode) (winning : Winning) : Type 0 where
  pub all_tickets : tickets winning.lottery ≡ RULES_TICKETS
  pub best : Best rules (sieve_of winning.level) winning.lottery
  pub shares : (e : ℕ) → e < length rules.pairs → times winning.lottery e ≡ slice_index winning.shares e
  pub caps : (e : ℕ) → e < length rules.pairs → slice_index winning.shares e ≤ (pair_at rules e).cap
  pub scored : total rules winning.lottery ≡ winning.total
  pub of_mode : winning.mode ≡ mode
  pub suits : SuitsMode mode winning.level
  pub threshold : LevelIsRight rules mode winning.level

-- a publication is of one job; its evidence is the rules of the job's edition, and a lottery that is best in the job's mode
pub record IsBestOf (H : History) (publication : Publication) : Type 0 where
  pub job : Job
  pub rules : RulesValue
  pub winning : Winning
  pub there : job_of H publication.job ≡ Some job
  pub within : job.edition ≤ edits H
  pub are : AreRulesOf (edition H job.edition) rules
  pub shown : evidence H job ≡ Some (record { rules = rules; answer = Lottery winning })
  pub best : IsBestIn rules job.mode winning

abbrev pub EachBest : History → Type 0
EachBest H = All (IsBestOf H) (publications H)
