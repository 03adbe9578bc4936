-- What is due behind the lines of a text: of rules, of an answer, and of a certificate, which is both.
use Rattle.std.specs.Prelude.{ℕ, ℤ, List, length, codes}
use Rattle.match_rules.specs.declared.answer.Mode.{Mode}
use Rattle.match_rules.specs.declared.rules.RulePaper.{RulePaper}
use Rattle.match_rules.specs.declared.rules.RuleReviewer.{RuleReviewer}
use Rattle.match_rules.specs.declared.rules.RulePair.{RulePair}
use Rattle.match_rules.specs.declared.rules.TheConstants.{RULES_TICKETS, MOST_TICKETS, MOST_PAPERS, MOST_REVIEWERS, MOST_PAIRS, MOST_LIMIT}
use Rattle.match_rules.specs.declared.sizes.Sizes.{Sizes}
use Rattle.match_rules.specs.Rules.{RulesValue, rules_value}
use Rattle.match_rules.specs.Sound.{sizes_of}
use Rattle.text_lines.specs.declared.number.TheConstants.{MOST_AMOUNT}
use Rattle.text_lines.specs.Fields.{fields}
use Rattle.text_lines.specs.FirstFault.{Due, no_line, line_then, words_then, count_then, section_then}
use Rattle.text_lines.specs.LineTests.{part}
use Rattle.text_lines.specs.Numbers.{value, signed_value}
use Rattle.publication.specs.declared.answer_forms.AnswerKind.{AnswerKind}
use Rattle.publication.specs.declared.answer_forms.AnswerKind.TheVariants as kinds
use Rattle.publication.specs.declared.asked_forms.Asked.{Asked}
use Rattle.publication.specs.declared.asked_forms.Asked.TheVariants as asked
use Rattle.publication.specs.AnswerTests.{kind_tests, kind_from, mode_tests, mode_from, threshold_tests, threshold_from, side_tests, total_tests, price_tests, share_tests, piece_tests, piece_from, marks_tests}
use Rattle.publication.specs.RulesTests.{paper_tests, paper_from, reviewer_tests, reviewer_from, pair_tests, pair_from}

-- ---- rules

-- the three lists
abbrev pub lists_then : (List RulePaper × List RuleReviewer × List RulePair → Due) → Due
lists_then then =
    section_then (codes "papers") 0 MOST_PAPERS paper_tests (λ line. paper_from (fields line)) (λ papers.
    section_then (codes "reviewers") 0 MOST_REVIEWERS reviewer_tests (λ line. reviewer_from (fields line)) (λ reviewers.
    section_then (codes "pairs") 0 MOST_PAIRS (pair_tests (length papers) (length reviewers)) (λ line. pair_from (fields line)) (λ pairs.
    then (papers, reviewers, pairs))))

-- rules, and then what they ask for
unfoldable pub rules_then : (RulesValue → Due) → Due
rules_then then =
    words_then (codes "rules 1") (
    words_then (codes "tickets 10000") (
    count_then (codes "limit") 1 MOST_LIMIT (λ limit.
    lists_then (λ lists.
    words_then (codes "end rules") (
    then (rules_value RULES_TICKETS limit lists.0 lists.1 lists.2))))))

-- ---- the cut of an answer

abbrev pub marks_then : List ℕ → ℕ → Due → Due
marks_then word count then = line_then (marks_tests word count) (λ line. then)

abbrev pub cut_then : Sizes → Due → Due
cut_then sizes then =
    line_then side_tests (λ line.
    marks_then (codes "marked-papers") sizes.papers (
    marks_then (codes "marked-groups") sizes.groups (
    marks_then (codes "marked-reviewers") sizes.reviewers then)))

-- ---- a lottery, behind its first line

abbrev pub price_list_then : List ℕ → ℕ → Due → Due
price_list_then word count then = section_then word count count (λ (before : List ℤ). price_tests) (λ line. signed_value (part 0 (fields line))) (λ prices. then)

abbrev pub prices_then : Sizes → Due → Due
prices_then sizes then =
    price_list_then (codes "paper-prices") sizes.papers (
    price_list_then (codes "group-prices") sizes.groups (
    price_list_then (codes "reviewer-prices") sizes.reviewers then))

abbrev pub shares_then : Sizes → Due → Due
shares_then sizes then = section_then (codes "shares") sizes.pairs sizes.pairs (λ (before : List ℕ). share_tests) (λ line. value (part 0 (fields line))) (λ shares. then)

abbrev pub pieces_then : Sizes → Due → Due
pieces_then sizes then =
    section_then (codes "pieces") 0 MOST_TICKETS (piece_tests sizes.pairs) (λ line. piece_from (fields line)) (λ pieces.
    words_then (codes "end lottery") then)

-- the threshold, and then what it asks for
abbrev pub threshold_then : Mode → (Asked → Due) → Due
threshold_then mode then = line_then (threshold_tests mode) (λ line. then (threshold_from mode line))

-- the mode and the threshold
abbrev pub asked_then : (Asked → Due) → Due
asked_then then = line_then mode_tests (λ line. threshold_then (mode_from line) then)

-- the cut of a threshold, which only one with a score has
abbrev pub level_then : Sizes → Asked → Due → Due
level_then sizes asked.Whole then = words_then (codes "cut none") then
level_then sizes asked.Free then = words_then (codes "cut none") then
level_then sizes (asked.At score) then = cut_then sizes then

abbrev pub worth_then : Sizes → Due → Due
worth_then sizes then = line_then total_tests (λ line. prices_then sizes then)

unfoldable pub lottery_then : Sizes → Due → Due
lottery_then sizes then =
    asked_then (λ found.
    worth_then sizes (
    shares_then sizes (
    level_then sizes found (
    pieces_then sizes then))))

-- ---- a cut that forbids all lotteries, behind its first line

abbrev pub sums_then : Due → Due
sums_then then =
    count_then (codes "need") 0 MOST_AMOUNT (λ need.
    count_then (codes "room") 0 MOST_AMOUNT (λ room.
    words_then (codes "end infeasible") then))

unfoldable pub infeasible_then : Sizes → Due → Due
infeasible_then sizes then = line_then mode_tests (λ line. cut_then sizes (sums_then then))

-- ---- whole texts

-- an answer of this kind, behind its first line
abbrev pub behind_then : Sizes → AnswerKind → Due → Due
behind_then sizes kinds.Lottery then = lottery_then sizes then
behind_then sizes kinds.Infeasible then = infeasible_then sizes then

unfoldable pub answer_then : Sizes → Due → Due
answer_then sizes then = line_then kind_tests (λ line. behind_then sizes (kind_from line) then)

-- the text of rules, and nothing behind it
unfoldable pub rules_due : Due
rules_due = rules_then (λ rules. no_line)

-- the text of an answer to rules of these sizes, and nothing behind it
unfoldable pub answer_due : Sizes → Due
answer_due sizes = answer_then sizes no_line

-- the text of rules and of an answer to them, and nothing behind it
unfoldable pub certificate_due : Due
certificate_due = rules_then (λ rules. answer_then (sizes_of rules) no_line)
