use Rattle.std.proofs.Common.{refl}
use Rattle.std.specs.Fmt.{digits}
use Rattle.text_lines.specs.Texts.{line_of, lines_of}
use Rattle.reports.specs.Institutions.{institution_line}
use Rattle.reports.specs.Lists.{with_commas}
use Rattle.reports.specs.Reports.{report_text}
use Rattle.reports.specs.Tables.{share_line, load_line, paper_line, pair_line}
use Rattle.reports.proofs.examples.worked_reports.Goals as goal

pub returns-clause-shares : goal.returns-clause-shares
unfolding report_text share_line with_commas line_of digits
returns-clause-shares c = refl

pub returns-clause-loads : goal.returns-clause-loads
unfolding report_text load_line with_commas line_of digits
returns-clause-loads c = refl

pub returns-clause-papers : goal.returns-clause-papers
unfolding report_text paper_line with_commas line_of digits
returns-clause-papers c = refl

pub returns-clause-none : goal.returns-clause-none
unfolding report_text line_of lines_of digits
returns-clause-none c = refl

pub returns-clause-first : goal.returns-clause-first
unfolding report_text pair_line with_commas line_of lines_of digits
returns-clause-first c = refl

pub returns-clause-second : goal.returns-clause-second
unfolding report_text pair_line with_commas line_of lines_of digits
returns-clause-second c = refl

pub returns-clause-unshared : goal.returns-clause-unshared
unfolding share_line with_commas line_of digits
returns-clause-unshared c = refl

pub returns-clause-negative : goal.returns-clause-negative
unfolding paper_line with_commas line_of digits
returns-clause-negative c = refl

pub returns-clause-homes : goal.returns-clause-homes
unfolding institution_line with_commas line_of lines_of digits
returns-clause-homes c = refl

pub returns-clause-house : goal.returns-clause-house
unfolding institution_line with_commas line_of lines_of digits
returns-clause-house c = refl
