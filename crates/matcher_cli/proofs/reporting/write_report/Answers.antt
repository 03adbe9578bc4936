use Rattle.matcher_cli.proofs.ReportingLaws.{ticket_held}
use Rattle.matcher_cli.proofs.reporting.write_report.Goals as goal

pub report-requires-clause-ticket : goal.report-requires-clause-ticket
report-requires-clause-ticket g c = ticket_held c.args.rules.now c.args.winning.now c.args.what c.requires.rules c.requires.certified c.requires.ticket
