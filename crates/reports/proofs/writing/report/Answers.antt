use Rattle.reports.specs.Reports.{report_text}
use Rattle.reports.proofs.writing.report.Goals as goal

pub returns-in-Shares-clause-taken : goal.returns-in-Shares-clause-taken
unfolding report_text
returns-in-Shares-clause-taken g c = rw c.in-Shares.is (rw c.as_slice-shares.ensures at c.write_shares.ensures.taken)

pub returns-in-Loads-clause-taken : goal.returns-in-Loads-clause-taken
unfolding report_text
returns-in-Loads-clause-taken g c = rw c.in-Loads.is (rw c.as_slice-shares.ensures at c.write_loads.ensures.taken)

pub returns-in-Papers-clause-taken : goal.returns-in-Papers-clause-taken
unfolding report_text
returns-in-Papers-clause-taken g c = rw c.in-Papers.is (rw c.as_slice-shares.ensures at c.write_papers.ensures.taken)

pub returns-in-Institutions-clause-taken : goal.returns-in-Institutions-clause-taken
unfolding report_text
returns-in-Institutions-clause-taken g c = rw c.in-Institutions.is (rw c.as_slice-shares.ensures at c.write_institutions.ensures.taken)

pub returns-in-Ticket-clause-taken : goal.returns-in-Ticket-clause-taken
unfolding report_text
returns-in-Ticket-clause-taken g c = rw c.in-Ticket.is c.write_ticket.ensures.taken
