-- What holds of every legal history: an answered job has evidence.
use Rattle.std.specs.Prelude.{◌≡◌, All, Some, ⊤}
use Rattle.match_rules.specs.Answers.{Certified as IsCertified}
use Rattle.match_rules.specs.declared.answer.Answer.{Answer}
use Rattle.match_rules.specs.declared.answer.Answer.TheVariants.{Lottery}
use Rattle.match_rules.specs.declared.answer.Winning.{Winning}
use Rattle.desk_history.specs.declared.jobs.Job.{Job}
use Rattle.desk_history.specs.declared.jobs.Publication.{Publication}
use Rattle.desk_history.specs.declared.jobs.Outcome.{Outcome}
use Rattle.desk_history.specs.declared.jobs.Outcome.TheVariants.{Waiting, Taken, Certified, Infeasible, Stale, OutOfMemory}
use Rattle.desk_history.specs.Histories.{History, evidence, job_of, jobs, publications}
use Rattle.desk_history.specs.Looks.{rules_at}
use Rattle.desk_history.specs.Outcomes.{answered_outcome}
use Rattle.desk_history.specs.Steps.{IsRight}

-- the evidence of a job is the rules of its edition and an answer that is right for them in its mode, by which it came to what it did
pub record HasEvidence (H : History) (job : Job) : Type 0 where
  pub answer : Answer
  pub shown : evidence H job ≡ Some (record { rules = rules_at H job.edition; answer = answer })
  pub right : IsRight (rules_at H job.edition) job.mode answer
  pub told : answered_outcome answer ≡ job.outcome

-- a fact of a job that has an answer
abbrev pub IfAnswered : Outcome → Type 0 → Type 0
IfAnswered Waiting P = ⊤
IfAnswered Taken P = ⊤
IfAnswered (Certified level total) P = P
IfAnswered (Infeasible need room) P = P
IfAnswered (Stale later) P = ⊤
IfAnswered OutOfMemory P = ⊤

abbrev pub IsShown : History → Job → Type 0
IsShown H job = IfAnswered job.outcome (HasEvidence H job)

-- each job with an answer has evidence
abbrev pub AnsweredAreShown : History → Type 0
AnsweredAreShown H = All (IsShown H) (jobs H)

-- a publication is of a job whose evidence is a lottery that is certified for the rules of its edition in its mode
pub record IsBacked (H : History) (publication : Publication) : Type 0 where
  pub job : Job
  pub winning : Winning
  pub there : job_of H publication.job ≡ Some job
  pub shown : evidence H job ≡ Some (record { rules = rules_at H job.edition; answer = Lottery winning })
  pub certified : IsCertified (rules_at H job.edition) job.mode winning

abbrev pub EachPublished : History → Type 0
EachPublished H = All (IsBacked H) (publications H)
