use Rattle.matcher_cli.proofs.RefusalLaws.{told_reported, told_reports}
use Rattle.matcher_cli.proofs.ReportingLaws.{answer_exact, answer_reports}
use Rattle.matcher_cli.proofs.VerdictLaws.{parts_same}
use Rattle.matcher_cli.proofs.reporting.serve_report.Goals as goal

pub returns-in-Ok-clause-reports : goal.returns-in-Ok-clause-reports
returns-in-Ok-clause-reports g c = λ tells.
    answer_reports c.report_answer.result _ _ _ _ _ _ (record { certificate = c.in-Ok.ensures.matching; text = c.in-Ok.ensures.found tells }) c.report_answer.ensures.reports

pub returns-in-Ok-clause-exact : goal.returns-in-Ok-clause-exact
returns-in-Ok-clause-exact g c = λ tells.
    answer_exact c.report_answer.result _ _ _ _ _ _ (record { certificate = c.in-Ok.ensures.matching; text = c.in-Ok.ensures.found tells })
    (λ wrong is. c.in-Ok.ensures.exact tells wrong is)
    (λ others other text. parts_same _ _ _ _ (c.in-Ok.ensures.only tells others other text.certificate text.text)) c.report_answer.ensures.reports

pub returns-in-Err-clause-reports : goal.returns-in-Err-clause-reports
returns-in-Err-clause-reports g c = λ tells.
    told_reports c.tell_refusal.result _ _ _ _ _ (c.in-Err.ensures.only tells) (c.in-Err.ensures.refused tells) c.tell_refusal.ensures.told

pub returns-in-Err-clause-exact : goal.returns-in-Err-clause-exact
returns-in-Err-clause-exact g c = λ tells.
    told_reported c.tell_refusal.result _ _ _ _ (c.in-Err.ensures.only tells) (c.in-Err.ensures.refused tells) c.tell_refusal.ensures.told
