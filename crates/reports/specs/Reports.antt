-- The reports of a certified lottery.
use Rattle.std.specs.Prelude.{ℕ, ◌<◌, List, []}
use Rattle.std.specs.Option.{option_map_or}
use Rattle.match_rules.specs.declared.answer.Winning.{Winning}
use Rattle.match_rules.specs.declared.lottery.Piece.{Piece}
use Rattle.match_rules.specs.Assignments.{tickets}
use Rattle.match_rules.specs.Drawing.{piece_of}
use Rattle.match_rules.specs.Pieces.{piece_at}
use Rattle.match_rules.specs.Rules.{RulesValue}
use Rattle.reports.specs.declared.kinds.Report.{Report}
use Rattle.reports.specs.declared.kinds.Report.TheVariants.{Shares, Loads, Papers, Institutions, Ticket}
use Rattle.reports.specs.Tables.{shares_text, loads_text, papers_text, assignment_text}
use Rattle.reports.specs.Institutions.{institutions_text}

-- the pairs of the piece that holds a ticket
abbrev pub assignment_of : List Piece → ℕ → List ℕ
assignment_of lottery ticket = option_map_or (λ place. (piece_at lottery place).pairs) (piece_of lottery ticket) []

unfoldable pub report_text : RulesValue → Winning → Report → List ℕ
report_text rules winning Shares = shares_text rules winning.shares
report_text rules winning Loads = loads_text rules winning.shares
report_text rules winning Papers = papers_text rules winning.shares
report_text rules winning Institutions = institutions_text rules winning.shares
report_text rules winning (Ticket ticket) = assignment_text rules (assignment_of winning.lottery ticket)

-- a ticket that is asked for is one of the lottery
abbrev pub IsAskedOf : List Piece → Report → Type 0
IsAskedOf lottery Shares = Unit {0}
IsAskedOf lottery Loads = Unit {0}
IsAskedOf lottery Papers = Unit {0}
IsAskedOf lottery Institutions = Unit {0}
IsAskedOf lottery (Ticket ticket) = ticket < tickets lottery
