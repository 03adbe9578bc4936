use Rattle.std.proofs.Common.{◌≡◌, ◌∙◌, Option, None, Some, ap, sym}
use Rattle.desk_history.specs.declared.jobs.Job.{Job}
use Rattle.desk_history.specs.Histories.{edits, job_of}
use Rattle.desk_history.specs.Refusals.{publish_refusal}
use Rattle.desk_reopening.proofs.PublishLaws.{later_rules, no_publish, one_publish}
use Rattle.desk_reopening.proofs.publishes.read_publish.Goals as goal

pub returns-in-Err : goal.returns-in-Err
returns-in-Err c = λ H are.
    let there = c.in-Some.ensures H are in
    no_publish H c.args.number c.args.text.now c.in-Some.job c.args.tables.now.rules c.in-Err.fault there.0 (later_rules H c.args.tables.now c.in-Some.job.edition are there.1) c.in-Err.ensures

pub returns-in-None-publish_refusal : goal.returns-in-None-publish_refusal
returns-in-None-publish_refusal c = λ H are.
    let there = c.in-Some.ensures H are in
    let right : publish_refusal (edits H) c.in-Ok.read (job_of H c.args.number) ≡ None =
    ap (λ n. publish_refusal n c.in-Ok.read (job_of H c.args.number)) (sym are.edits)
    ∙ ap (λ (o : Option Job). publish_refusal c.args.tables.now.edits c.in-Ok.read o) there.0
    ∙ sym c.in-None-publish_refusal.ensures in
    one_publish H c.args.number c.args.text.now c.in-Some.job c.args.tables.now.rules c.in-Ok.read there.0 (later_rules H c.args.tables.now c.in-Some.job.edition are there.1) c.in-Ok.ensures right
