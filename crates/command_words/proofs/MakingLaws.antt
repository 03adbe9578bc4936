-- The numbers of a making and the ticket of a report are within their limits.
use Rattle.std.proofs.Common.{◌≡◌, ℕ, ◌≤◌, Bool, true, false, List, [], ◌∷◌, Option, None, Some, Result, Ok, Err, refl, length, map, subst, arith}
use Rattle.std.specs.Prelude.{IfSome, codes, if◌then◌else◌}
use Rattle.std.specs.Borrow.{Bor}
use Rattle.std.specs.Option.{option_map}
use Rattle.std.specs.Result.{result_ok}
use Rattle.std.specs.Str.{bytes_eq}
use Rattle.match_rules.specs.declared.answer.Mode.{Mode}
use Rattle.text_lines.specs.declared.fault.LineCode.{LineCode}
use Rattle.text_lines.specs.Forms.{number_from}
use Rattle.text_lines.proofs.FormLaws.{number_from_takes}
use Rattle.reports.specs.declared.kinds.Report.{Report as Kind}
use Rattle.reports.specs.declared.kinds.Report.TheVariants.{Shares, Loads, Papers, Institutions, Ticket}
use Rattle.command_words.specs.Chairs.{may_be_chairs}
use Rattle.command_words.specs.Hyphens.{are_plain}
use Rattle.command_words.specs.Commands.{IsReportWithin, IsWithinLimits, command_of, command_of_few, command_of_plain, command_of_three, command_of_two, command_of_word, make_of, mode_of_word, report_of_ticket, report_of_word, session_of}
use Rattle.command_words.specs.declared.words.TheConstants.{MOST_SEED, MOST_SIZE, MOST_TICKET}
use Rattle.command_words.specs.declared.words.Command.{Command}
use Rattle.command_words.specs.declared.words.Command.TheVariants.{Check, Rules, Solve, Report, Session}

-- the command is within its limits, where there is one
abbrev Fits : Option Command → Type 0
Fits command = IfSome command IsWithinLimits

either : (test : Bool) (x y : Option Command) → Fits x → Fits y → Fits (if test then x else y)
either true x y fits others = fits
either false x y fits others = others

-- the ticket of the report is within its limit, where there is a report
abbrev Tells : Option Kind → Type 0
Tells what = IfSome what IsReportWithin

one_of : (test : Bool) (x y : Option Kind) → Tells x → Tells y → Tells (if test then x else y)
one_of true x y tells others = tells
one_of false x y tells others = others

report_fits : (what : Option Kind) → Tells what → Fits (option_map Report what)
report_fits None tells = tt
report_fits (Some what) tells = tells

number_tells : (number : Result ℕ LineCode) → ((n : ℕ) → number ≡ Ok n → n ≤ MOST_TICKET) → Tells (option_map Ticket (result_ok number))
number_tells (Ok n) high = high n refl
number_tells (Err code) high = tt

ticket_tells : (word number : List ℕ) → Tells (report_of_ticket word number)
ticket_tells word number =
    one_of (bytes_eq word (codes "ticket")) (option_map Ticket (result_ok (number_from 0 MOST_TICKET number))) None
    (number_tells (number_from 0 MOST_TICKET number) (λ n e. (number_from_takes 0 MOST_TICKET number n (omega arith) e).2)) tt

word_tells : (word : List ℕ) → Tells (report_of_word word)
word_tells word =
    one_of (bytes_eq word (codes "shares")) (Some Shares)
    (if bytes_eq word (codes "loads") then Some Loads else (if bytes_eq word (codes "papers") then Some Papers else (if bytes_eq word (codes "institutions") then Some Institutions else None))) tt
    (one_of (bytes_eq word (codes "loads")) (Some Loads)
    (if bytes_eq word (codes "papers") then Some Papers else (if bytes_eq word (codes "institutions") then Some Institutions else None)) tt
    (one_of (bytes_eq word (codes "papers")) (Some Papers) (if bytes_eq word (codes "institutions") then Some Institutions else None) tt
    (one_of (bytes_eq word (codes "institutions")) (Some Institutions) None tt tt)))

solve_fits : (mode : Option Mode) → Fits (option_map Solve mode)
solve_fits None = tt
solve_fits (Some mode) = tt

make_fits : (seed size : Result ℕ LineCode) → ((n : ℕ) → seed ≡ Ok n → n ≤ MOST_SEED) → ((n : ℕ) → size ≡ Ok n → (1 ≤ n) × (n ≤ MOST_SIZE)) → Fits (make_of seed size)
make_fits (Ok seed) (Ok size) low high = (low seed refl, (high size refl).0, (high size refl).1)
make_fits (Ok seed) (Err code) low high = tt
make_fits (Err code) size low high = tt

word_fits : (word : List ℕ) → Fits (command_of_word word)
word_fits word =
    either (bytes_eq word (codes "check")) (Some Check) (if bytes_eq word (codes "rules") then Some Rules else None) tt
    (either (bytes_eq word (codes "rules")) (Some Rules) None tt tt)

two_fit : (word other : List ℕ) → Fits (command_of_two word other)
two_fit word other =
    either (bytes_eq word (codes "solve")) (option_map Solve (mode_of_word other)) (if bytes_eq word (codes "report") then option_map Report (report_of_word other) else None)
    (solve_fits (mode_of_word other))
    (either (bytes_eq word (codes "report")) (option_map Report (report_of_word other)) None (report_fits (report_of_word other) (word_tells other)) tt)

three_fit : (word other third : List ℕ) → Fits (command_of_three word other third)
three_fit word other third =
    either (bytes_eq word (codes "make")) (make_of (number_from 0 MOST_SEED other) (number_from 1 MOST_SIZE third)) (if bytes_eq word (codes "report") then option_map Report (report_of_ticket other third) else None)
    (make_fits (number_from 0 MOST_SEED other) (number_from 1 MOST_SIZE third)
    (λ n e. (number_from_takes 0 MOST_SEED other n (omega arith) e).2)
    (λ n e. let size_takes = number_from_takes 1 MOST_SIZE third n (omega arith) e in (size_takes.1, size_takes.2)))
    (either (bytes_eq word (codes "report")) (option_map Report (report_of_ticket other third)) None (report_fits (report_of_ticket other third) (ticket_tells other third)) tt)

few_fit : (word : List ℕ) (others : List (List ℕ)) → Fits (command_of_few word others)
few_fit word [] = word_fits word
few_fit word (other ∷ []) = two_fit word other
few_fit word (other ∷ third ∷ []) = three_fit word other third
few_fit word (other ∷ third ∷ fourth ∷ more) = tt

plain_fit : (words : List (List ℕ)) → Fits (command_of_plain words)
plain_fit [] = tt
plain_fit (word ∷ others) =
    either (bytes_eq word (codes "session")) (session_of others) (command_of_few word others)
    (either (may_be_chairs others) (Some Session) None tt tt) (few_fit word others)

all_fit : (words : List (List ℕ)) → Fits (command_of words)
all_fit words = either (are_plain words) (command_of_plain words) None (plain_fit words) tt

-- whatever words ask for is within its limits
pub command_fits : (words : List (List ℕ)) (command : Command) → command_of words ≡ Some command → IsWithinLimits command
command_fits words command is = subst Fits is (all_fit words)

-- three words and more behind a word ask for nothing
pub many_ask_nothing : (word : List ℕ) (others : List (Bor (List ℕ))) → 3 ≤ length others → command_of_few word (map (λ other. other.now) others) ≡ None
many_ask_nothing word [] many = absurd (omega (arith, many))
many_ask_nothing word (other ∷ []) many = absurd (omega (arith, many))
many_ask_nothing word (other ∷ third ∷ []) many = absurd (omega (arith, many))
many_ask_nothing word (other ∷ third ∷ fourth ∷ more) many = refl
