-- Reading the text of rules goes along with what is due behind its lines.
use Rattle.std.proofs.Common.{ℕ, List, length, Result, Ok}
use Rattle.std.specs.Prelude.{codes}
use Rattle.match_rules.specs.declared.rules.RulePaper.{RulePaper}
use Rattle.match_rules.specs.declared.rules.RuleReviewer.{RuleReviewer}
use Rattle.match_rules.specs.declared.rules.RulePair.{RulePair}
use Rattle.match_rules.specs.declared.rules.TheConstants.{RULES_TICKETS, MOST_PAPERS, MOST_REVIEWERS, MOST_PAIRS, MOST_LIMIT}
use Rattle.match_rules.specs.Rules.{rules_value}
use Rattle.text_lines.specs.declared.fault.TextFault.{TextFault}
use Rattle.text_lines.specs.Fields.{fields}
use Rattle.text_lines.specs.FirstFault.{Due, words_then, count_then, section_then}
use Rattle.text_lines.specs.Forms.{fixed, number_after, section_at}
use Rattle.text_lines.specs.Reading.{◌>>=◌, Cursor, due}
use Rattle.text_lines.proofs.FaultLaws.{Tracks, tracks_done, tracks_then}
use Rattle.text_lines.proofs.FormFaults.{tracks_words, tracks_count, tracks_section}
use Rattle.publication.specs.DueLines.{lists_then, rules_then}
use Rattle.publication.specs.RulesReading.{paper_of, reviewer_of, pair_of, head_at, lists_at, rules_at}
use Rattle.publication.specs.RulesTests.{paper_tests, paper_from, reviewer_tests, reviewer_from, pair_tests, pair_from}
use Rattle.publication.proofs.RulesAgree.{papers_agree, reviewers_agree, pairs_agree}

abbrev head_shape : (ℕ → Due) → Due
head_shape then = words_then (codes "rules 1") (words_then (codes "tickets 10000") (count_then (codes "limit") 1 MOST_LIMIT then))

head_tracks : Tracks head_at head_shape
unfolding head_at
head_tracks =
    tracks_then (due (fixed (codes "rules 1"))) (λ then. words_then (codes "rules 1") (then tt)) (λ x at. due (fixed (codes "tickets 10000")) at >>= λ tickets. due (number_after (codes "limit") 1 MOST_LIMIT) tickets.1) (λ x then. words_then (codes "tickets 10000") (count_then (codes "limit") 1 MOST_LIMIT then))
    (tracks_words (codes "rules 1")) (λ x.
    tracks_then (due (fixed (codes "tickets 10000"))) (λ then. words_then (codes "tickets 10000") (then tt)) (λ y. due (number_after (codes "limit") 1 MOST_LIMIT)) (λ y. count_then (codes "limit") 1 MOST_LIMIT)
    (tracks_words (codes "tickets 10000")) (λ y. tracks_count (codes "limit") 1 MOST_LIMIT))

abbrev pairs_shape : List RulePaper → List RuleReviewer → (List RulePaper × List RuleReviewer × List RulePair → Due) → Due
pairs_shape papers reviewers then = section_then (codes "pairs") 0 MOST_PAIRS (pair_tests (length papers) (length reviewers)) (λ line. pair_from (fields line)) (λ pairs. then (papers, reviewers, pairs))

abbrev pairs_read : List RulePaper → List RuleReviewer → Cursor → Result ((List RulePaper × List RuleReviewer × List RulePair) × Cursor) TextFault
pairs_read papers reviewers at = section_at (codes "pairs") 0 MOST_PAIRS (pair_of (length papers) (length reviewers)) at >>= λ pairs. Ok ((papers, reviewers, pairs.0), pairs.1)

pairs_track : (papers : List RulePaper) (reviewers : List RuleReviewer) → Tracks (pairs_read papers reviewers) (pairs_shape papers reviewers)
pairs_track papers reviewers =
    tracks_then (section_at (codes "pairs") 0 MOST_PAIRS (pair_of (length papers) (length reviewers))) (section_then (codes "pairs") 0 MOST_PAIRS (pair_tests (length papers) (length reviewers)) (λ line. pair_from (fields line))) (λ pairs at. Ok ((papers, reviewers, pairs), at)) (λ pairs then. then (papers, reviewers, pairs))
    (tracks_section (codes "pairs") 0 MOST_PAIRS (pair_of (length papers) (length reviewers)) (pair_tests (length papers) (length reviewers)) (λ line. pair_from (fields line)) (pairs_agree (length papers) (length reviewers))) (λ pairs. tracks_done (papers, reviewers, pairs))

lists_track : Tracks lists_at lists_then
unfolding lists_at
lists_track =
    tracks_then (section_at (codes "papers") 0 MOST_PAPERS paper_of) (section_then (codes "papers") 0 MOST_PAPERS paper_tests (λ line. paper_from (fields line))) (λ papers at. section_at (codes "reviewers") 0 MOST_REVIEWERS reviewer_of at >>= λ reviewers. pairs_read papers reviewers.0 reviewers.1) (λ papers then. section_then (codes "reviewers") 0 MOST_REVIEWERS reviewer_tests (λ line. reviewer_from (fields line)) (λ reviewers. pairs_shape papers reviewers then))
    (tracks_section (codes "papers") 0 MOST_PAPERS paper_of paper_tests (λ line. paper_from (fields line)) papers_agree) (λ papers.
    tracks_then (section_at (codes "reviewers") 0 MOST_REVIEWERS reviewer_of) (section_then (codes "reviewers") 0 MOST_REVIEWERS reviewer_tests (λ line. reviewer_from (fields line))) (λ reviewers. pairs_read papers reviewers) (λ reviewers. pairs_shape papers reviewers)
    (tracks_section (codes "reviewers") 0 MOST_REVIEWERS reviewer_of reviewer_tests (λ line. reviewer_from (fields line)) reviewers_agree) (λ reviewers. pairs_track papers reviewers))

pub rules_track : Tracks rules_at rules_then
unfolding rules_at rules_then
rules_track =
    tracks_then head_at head_shape (λ limit at. lists_at at >>= λ lists. due (fixed (codes "end rules")) lists.1 >>= λ end. Ok (rules_value RULES_TICKETS limit lists.0.0 lists.0.1 lists.0.2, end.1)) (λ limit then. lists_then (λ lists. words_then (codes "end rules") (then (rules_value RULES_TICKETS limit lists.0 lists.1 lists.2))))
    head_tracks (λ limit.
    tracks_then lists_at lists_then (λ lists at. due (fixed (codes "end rules")) at >>= λ end. Ok (rules_value RULES_TICKETS limit lists.0 lists.1 lists.2, end.1)) (λ lists then. words_then (codes "end rules") (then (rules_value RULES_TICKETS limit lists.0 lists.1 lists.2)))
    lists_track (λ lists.
    tracks_then (due (fixed (codes "end rules"))) (λ then. words_then (codes "end rules") (then tt)) (λ x at. Ok (rules_value RULES_TICKETS limit lists.0 lists.1 lists.2, at)) (λ x then. then (rules_value RULES_TICKETS limit lists.0 lists.1 lists.2))
    (tracks_words (codes "end rules")) (λ x. tracks_done (rules_value RULES_TICKETS limit lists.0 lists.1 lists.2))))
