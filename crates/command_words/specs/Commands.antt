-- The command that words ask for.
use Rattle.std.specs.Prelude.{ℕ, ◌≤◌, List, [], ◌∷◌, Option, None, Some, Result, Ok, Err, if◌then◌else◌, codes}
use Rattle.std.specs.Option.{option_map}
use Rattle.std.specs.Result.{result_ok}
use Rattle.std.specs.Str.{bytes_eq}
use Rattle.match_rules.specs.declared.answer.Mode.{Mode}
use Rattle.match_rules.specs.declared.answer.Mode.TheVariants.{Whole, Fair}
use Rattle.reports.specs.declared.kinds.Report.{Report as Kind}
use Rattle.reports.specs.declared.kinds.Report.TheVariants.{Shares, Loads, Papers, Institutions, Ticket}
use Rattle.text_lines.specs.declared.fault.LineCode.{LineCode}
use Rattle.text_lines.specs.Forms.{number_from}
use Rattle.command_words.specs.Chairs.{may_be_chairs}
use Rattle.command_words.specs.Hyphens.{are_plain}
use Rattle.command_words.specs.declared.words.TheConstants.{MOST_SEED, MOST_SIZE, MOST_TICKET}
use Rattle.command_words.specs.declared.words.Command.{Command}
use Rattle.command_words.specs.declared.words.Command.TheVariants.{Check, Rules, Solve, Make, Report, Session}

-- the command that one word asks for
abbrev pub command_of_word : List ℕ → Option Command
command_of_word word =
    if bytes_eq word (codes "check") then Some Check else (if bytes_eq word (codes "rules") then Some Rules else None)

-- the mode that a word names
abbrev pub mode_of_word : List ℕ → Option Mode
mode_of_word word =
    if bytes_eq word (codes "whole") then Some Whole else (if bytes_eq word (codes "fair") then Some Fair else None)

-- the report that a word names
abbrev pub report_of_word : List ℕ → Option Kind
report_of_word word =
    if bytes_eq word (codes "shares") then Some Shares else
    (if bytes_eq word (codes "loads") then Some Loads else
    (if bytes_eq word (codes "papers") then Some Papers else
    (if bytes_eq word (codes "institutions") then Some Institutions else None)))

-- the report of a ticket, whose number is spelled with no sign and no zero in front
abbrev pub report_of_ticket : List ℕ → List ℕ → Option Kind
report_of_ticket word number =
    if bytes_eq word (codes "ticket") then option_map Ticket (result_ok (number_from 0 MOST_TICKET number)) else None

-- the command that two words ask for
abbrev pub command_of_two : List ℕ → List ℕ → Option Command
command_of_two word other =
    if bytes_eq word (codes "solve") then option_map Solve (mode_of_word other) else
    (if bytes_eq word (codes "report") then option_map Report (report_of_word other) else None)

-- the making of a seed and a size, where both are read
abbrev pub make_of : Result ℕ LineCode → Result ℕ LineCode → Option Command
make_of (Ok seed) (Ok size) = Some (Make seed size)
make_of (Ok seed) (Err code) = None
make_of (Err code) size = None

-- the command that three words ask for; the seed and the size are spelled with no sign and no zero in front too
abbrev pub command_of_three : List ℕ → List ℕ → List ℕ → Option Command
command_of_three word other third =
    if bytes_eq word (codes "make") then make_of (number_from 0 MOST_SEED other) (number_from 1 MOST_SIZE third) else
    (if bytes_eq word (codes "report") then option_map Report (report_of_ticket other third) else None)

-- the session of these chairs
abbrev pub session_of : List (List ℕ) → Option Command
session_of chairs = if may_be_chairs chairs then Some Session else None

-- the command that a word and at most two behind it ask for
abbrev pub command_of_few : List ℕ → List (List ℕ) → Option Command
command_of_few word [] = command_of_word word
command_of_few word (other ∷ []) = command_of_two word other
command_of_few word (other ∷ third ∷ []) = command_of_three word other third
command_of_few word (other ∷ third ∷ fourth ∷ more) = None

-- the command that a word and those behind it ask for
abbrev pub command_of_words : List ℕ → List (List ℕ) → Option Command
command_of_words word others = if bytes_eq word (codes "session") then session_of others else command_of_few word others

-- the command that words ask for of which none begins with a hyphen
abbrev pub command_of_plain : List (List ℕ) → Option Command
command_of_plain [] = None
command_of_plain (word ∷ others) = command_of_words word others

-- the command that the words behind the program's name ask for
abbrev pub command_of : List (List ℕ) → Option Command
command_of words = if are_plain words then command_of_plain words else None

-- the ticket of a report is within its limit
abbrev pub IsReportWithin : Kind → Type 0
IsReportWithin Shares = Unit {0}
IsReportWithin Loads = Unit {0}
IsReportWithin Papers = Unit {0}
IsReportWithin Institutions = Unit {0}
IsReportWithin (Ticket ticket) = ticket ≤ MOST_TICKET

-- the numbers of a making and the ticket of a report are within their limits
abbrev pub IsWithinLimits : Command → Type 0
IsWithinLimits Check = Unit {0}
IsWithinLimits Rules = Unit {0}
IsWithinLimits (Solve mode) = Unit {0}
IsWithinLimits (Make seed size) = (seed ≤ MOST_SEED) × (1 ≤ size) × (size ≤ MOST_SIZE)
IsWithinLimits (Report what) = IsReportWithin what
IsWithinLimits Session = Unit {0}
