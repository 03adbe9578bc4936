use Rattle.std.proofs.Common.{◌<◌, length, rules, get_or}
use Rattle.std.proofs.lemmas.List.{get_or_default}
use Rattle.std.proofs.lemmas.List.Edits.{map_over_more}
use Rattle.match_rules.specs.declared.answer.Mode.TheVariants.{Whole}
use Rattle.desk_history.specs.Outcomes.{Edits}
use Rattle.desk_history.specs.Histories.{changed, new_job}
use Rattle.desk_history.proofs.job_changes.edit.Goals as goal

pub loop-job-preserved : goal.loop-job-preserved
loop-job-preserved c =
    let within : c.loop-job.job-index < length c.args.jobs.now.items = search rules in
    let here : c.loop-job.job-index < length c.loop-job.job-items = search rules in
    rw c.after_edit-job.ensures (map_over_more (changed (Edits c.args.later)) c.args.jobs.now.items c.loop-job.job-items c.loop-job.job-index (get_or c.loop-job.job-items c.loop-job.job-index (new_job 0 Whole)) within c.loop-job.invariant (search (rules, get_or_default, here)))
