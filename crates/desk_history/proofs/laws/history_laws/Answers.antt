use Rattle.desk_history.proofs.JobsStay.{job_stays}
use Rattle.desk_history.proofs.OpenJobs.{edition_present, open_jobs}
use Rattle.desk_history.proofs.WorkLaws.{work_right, work_stays, work_taken}
use Rattle.desk_history.proofs.laws.history_laws.Goals as goal

pub returns-clause-jobs : goal.returns-clause-jobs
returns-clause-jobs c H = open_jobs H

pub returns-clause-present : goal.returns-clause-present
returns-clause-present c H = edition_present H

pub returns-clause-job_stays : goal.returns-clause-job_stays
returns-clause-job_stays c entry H number job is = job_stays entry H number job is

pub returns-clause-taken : goal.returns-clause-taken
returns-clause-taken c H bench given reply = work_taken H bench given reply

pub returns-clause-work_stays : goal.returns-clause-work_stays
returns-clause-work_stays c entry H given work = work_stays entry H given work

pub returns-clause-handed_in : goal.returns-clause-handed_in
returns-clause-handed_in c H given reply work right = work_right H given reply work right
