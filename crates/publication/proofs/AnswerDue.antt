-- Reading the text of an answer goes along with what is due behind its lines.
use Rattle.std.proofs.Common.{ℕ, ℤ, List, Result, Ok, map, drop}
use Rattle.std.specs.Prelude.{codes}
use Rattle.match_rules.specs.declared.answer.Answer.TheVariants.{Lottery, Infeasible}
use Rattle.match_rules.specs.declared.answer.Level.{Level}
use Rattle.match_rules.specs.declared.answer.Level.TheVariants.{Unasked, Free, At}
use Rattle.match_rules.specs.declared.answer.Prices.{Prices}
use Rattle.match_rules.specs.declared.rules.TheConstants.{MOST_TICKETS}
use Rattle.match_rules.specs.declared.sizes.Sizes.{Sizes}
use Rattle.text_lines.specs.declared.fault.TextFault.{TextFault}
use Rattle.text_lines.specs.declared.number.TheConstants.{MOST_AMOUNT}
use Rattle.text_lines.specs.Fields.{fields}
use Rattle.text_lines.specs.FirstFault.{Due, line_then, words_then, count_then, section_then}
use Rattle.text_lines.specs.Forms.{fixed, number_after, section_at}
use Rattle.text_lines.specs.LineTests.{part}
use Rattle.text_lines.specs.Numbers.{value, signed_value}
use Rattle.text_lines.specs.Reading.{◌>>=◌, Cursor, due}
use Rattle.text_lines.proofs.FaultLaws.{Follows, Tracks, follows_done, follows_from, follows_then, follows_tracked, tracks_due, tracks_then}
use Rattle.text_lines.proofs.FormFaults.{tracks_words, tracks_count, tracks_section}
use Rattle.publication.specs.declared.answer_forms.AnswerKind.{AnswerKind}
use Rattle.publication.specs.declared.answer_forms.AnswerKind.TheVariants as kinds
use Rattle.publication.specs.AnswerForms.{kind_of, price_of, share_of, total_of, piece_of}
use Rattle.publication.specs.AnswerReading.{asked_at, price_list_at, prices_at, no_cut_at, level_at, dealt_at, pieces_at, worth_at, lottery_with, lottery_at, winning_of, answer_behind, answer_at}
use Rattle.publication.specs.AnswerTests.{kind_tests, kind_from, mode_tests, mode_from, threshold_tests, threshold_from, side_tests, total_tests, price_tests, share_tests, piece_tests, piece_from, marks_tests}
use Rattle.publication.specs.declared.asked_forms.Asked.{Asked}
use Rattle.publication.specs.declared.asked_forms.Asked.TheVariants as asked
use Rattle.publication.specs.AskedForms.{mode_of, threshold_of}
use Rattle.publication.specs.CutForms.{side_of, marks_of}
use Rattle.publication.specs.DueLines.{price_list_then, prices_then, shares_then, pieces_then, threshold_then, asked_then, level_then, worth_then, lottery_then, marks_then, cut_then, sums_then, infeasible_then, behind_then, answer_then}
use Rattle.publication.specs.InfeasibleReading.{marked_at, cut_of, cut_at, sums_at, blocked_of, infeasible_at}
use Rattle.publication.proofs.AnswerAgree.{kinds_agree, modes_agree, thresholds_agree, sides_agree, side_from, totals_agree, prices_agree, shares_agree, pieces_agree, marks_agree}

words_follow : (words : List ℕ) → Follows (due (fixed words)) (words_then words)
words_follow words = follows_from (due (fixed words)) (λ then. words_then words (then tt)) (tracks_words words)

-- ---- the mode and the threshold

modes_track : Tracks (due mode_of) (λ then. line_then mode_tests (λ line. then (mode_from line)))
modes_track = tracks_due mode_of mode_tests mode_from modes_agree

asked_tracks : Tracks asked_at asked_then
unfolding asked_at
asked_tracks =
    tracks_then (due mode_of) (λ then. line_then mode_tests (λ line. then (mode_from line))) (λ mode at. due (threshold_of mode) at) threshold_then
    modes_track (λ mode. tracks_due (threshold_of mode) (threshold_tests mode) (threshold_from mode) (thresholds_agree mode))

-- ---- a cut

marks_follow : (word : List ℕ) (count : ℕ) → Follows (due (marks_of word count)) (marks_then word count)
marks_follow word count =
    follows_from (due (marks_of word count)) (λ then. line_then (marks_tests word count) (λ line. then (map value (drop 1 (fields line))))) (tracks_due (marks_of word count) (marks_tests word count) (λ line. map value (drop 1 (fields line))) (marks_agree word count))

abbrev last_marked : Sizes → List ℕ → List ℕ → Cursor → Result ((List ℕ × List ℕ × List ℕ) × Cursor) TextFault
last_marked sizes papers groups at = due (marks_of (codes "marked-reviewers") sizes.reviewers) at >>= λ reviewers. Ok ((papers, groups, reviewers.0), reviewers.1)

abbrev marked_then : Sizes → Due → Due
marked_then sizes then = marks_then (codes "marked-papers") sizes.papers (marks_then (codes "marked-groups") sizes.groups (marks_then (codes "marked-reviewers") sizes.reviewers then))

marked_follow : (sizes : Sizes) → Follows (marked_at sizes) (marked_then sizes)
unfolding marked_at
marked_follow sizes =
    follows_then (due (marks_of (codes "marked-papers") sizes.papers)) (marks_then (codes "marked-papers") sizes.papers) (λ papers at. due (marks_of (codes "marked-groups") sizes.groups) at >>= λ groups. last_marked sizes papers groups.0 groups.1) (λ then. marks_then (codes "marked-groups") sizes.groups (marks_then (codes "marked-reviewers") sizes.reviewers then))
    (marks_follow (codes "marked-papers") sizes.papers) (λ papers.
    follows_then (due (marks_of (codes "marked-groups") sizes.groups)) (marks_then (codes "marked-groups") sizes.groups) (λ groups. last_marked sizes papers groups) (marks_then (codes "marked-reviewers") sizes.reviewers)
    (marks_follow (codes "marked-groups") sizes.groups) (λ groups.
    follows_then (due (marks_of (codes "marked-reviewers") sizes.reviewers)) (marks_then (codes "marked-reviewers") sizes.reviewers) (λ reviewers at. Ok ((papers, groups, reviewers), at)) (λ then. then)
    (marks_follow (codes "marked-reviewers") sizes.reviewers) (λ reviewers. follows_done {A = List ℕ × List ℕ × List ℕ} (papers, groups, reviewers))))

cut_follows : (sizes : Sizes) → Follows (cut_at sizes) (cut_then sizes)
unfolding cut_at
cut_follows sizes =
    follows_tracked (due side_of) (λ then. line_then side_tests (λ line. then (side_from line))) (λ side at. marked_at sizes at >>= λ marked. Ok (cut_of side marked.0, marked.1)) (λ side. marked_then sizes)
    (tracks_due side_of side_tests side_from sides_agree) (λ side.
    follows_then (marked_at sizes) (marked_then sizes) (λ marked at. Ok (cut_of side marked, at)) (λ then. then) (marked_follow sizes) (λ marked. follows_done (cut_of side marked)))

-- ---- a lottery

price_list_follows : (word : List ℕ) (count : ℕ) → Follows (price_list_at word count) (price_list_then word count)
unfolding price_list_at
price_list_follows word count =
    follows_from (section_at word count count (λ before. price_of)) (section_then word count count (λ (before : List ℤ). price_tests) (λ line. signed_value (part 0 (fields line))))
    (tracks_section word count count (λ before. price_of) (λ before. price_tests) (λ line. signed_value (part 0 (fields line))) (λ before. prices_agree))

abbrev last_prices : Sizes → List ℤ → List ℤ → Cursor → Result (Prices × Cursor) TextFault
last_prices sizes papers groups at = price_list_at (codes "reviewer-prices") sizes.reviewers at >>= λ reviewers. Ok (record { papers = papers; groups = groups; reviewers = reviewers.0 }, reviewers.1)

prices_follow : (sizes : Sizes) → Follows (prices_at sizes) (prices_then sizes)
unfolding prices_at
prices_follow sizes =
    follows_then (price_list_at (codes "paper-prices") sizes.papers) (price_list_then (codes "paper-prices") sizes.papers) (λ papers at. price_list_at (codes "group-prices") sizes.groups at >>= λ groups. last_prices sizes papers groups.0 groups.1) (λ then. price_list_then (codes "group-prices") sizes.groups (price_list_then (codes "reviewer-prices") sizes.reviewers then))
    (price_list_follows (codes "paper-prices") sizes.papers) (λ papers.
    follows_then (price_list_at (codes "group-prices") sizes.groups) (price_list_then (codes "group-prices") sizes.groups) (λ groups. last_prices sizes papers groups) (price_list_then (codes "reviewer-prices") sizes.reviewers)
    (price_list_follows (codes "group-prices") sizes.groups) (λ groups.
    let made : List ℤ → Prices = λ reviewers. record { papers = papers; groups = groups; reviewers = reviewers } in
    follows_then (price_list_at (codes "reviewer-prices") sizes.reviewers) (price_list_then (codes "reviewer-prices") sizes.reviewers) (λ reviewers at. Ok (made reviewers, at)) (λ then. then)
    (price_list_follows (codes "reviewer-prices") sizes.reviewers) (λ reviewers. follows_done (made reviewers))))

shares_follow : (sizes : Sizes) → Follows (section_at (codes "shares") sizes.pairs sizes.pairs (λ before. share_of)) (shares_then sizes)
shares_follow sizes =
    follows_from (section_at (codes "shares") sizes.pairs sizes.pairs (λ before. share_of)) (section_then (codes "shares") sizes.pairs sizes.pairs (λ (before : List ℕ). share_tests) (λ line. value (part 0 (fields line)))) (tracks_section (codes "shares") sizes.pairs sizes.pairs (λ before. share_of) (λ before. share_tests) (λ line. value (part 0 (fields line))) (λ before. shares_agree))

no_cut_follows : (level : Level) → Follows (no_cut_at level) (words_then (codes "cut none"))
no_cut_follows level =
    follows_then (due (fixed (codes "cut none"))) (words_then (codes "cut none")) (λ x at. Ok (level, at)) (λ then. then) (words_follow (codes "cut none")) (λ x. follows_done level)

level_follows : (sizes : Sizes) (found : Asked) → Follows (level_at sizes found) (level_then sizes found)
level_follows sizes asked.Whole = no_cut_follows Unasked
level_follows sizes asked.Free = no_cut_follows Free
level_follows sizes (asked.At score) =
    follows_then (cut_at sizes) (cut_then sizes) (λ cut at. Ok (At score cut, at)) (λ then. then) (cut_follows sizes) (λ cut. follows_done (At score cut))

dealt_follows : (sizes : Sizes) (found : Asked) → Follows (dealt_at sizes found) (λ then. shares_then sizes (level_then sizes found then))
unfolding dealt_at
dealt_follows sizes found =
    follows_then (section_at (codes "shares") sizes.pairs sizes.pairs (λ before. share_of)) (shares_then sizes) (λ shares at. level_at sizes found at >>= λ level. Ok ((shares, level.0), level.1)) (level_then sizes found)
    (shares_follow sizes) (λ shares.
    follows_then (level_at sizes found) (level_then sizes found) (λ level at. Ok ((shares, level), at)) (λ then. then) (level_follows sizes found) (λ level. follows_done {A = List ℕ × Level} (shares, level)))

abbrev piece_items : Sizes → Due → Due
piece_items sizes then = section_then (codes "pieces") 0 MOST_TICKETS (piece_tests sizes.pairs) (λ line. piece_from (fields line)) (λ pieces. then)

pieces_follow : (sizes : Sizes) → Follows (pieces_at sizes) (pieces_then sizes)
unfolding pieces_at
pieces_follow sizes =
    follows_then (section_at (codes "pieces") 0 MOST_TICKETS (piece_of sizes.pairs)) (piece_items sizes) (λ pieces at. due (fixed (codes "end lottery")) at >>= λ end. Ok (pieces, end.1)) (words_then (codes "end lottery"))
    (follows_from (section_at (codes "pieces") 0 MOST_TICKETS (piece_of sizes.pairs)) (section_then (codes "pieces") 0 MOST_TICKETS (piece_tests sizes.pairs) (λ line. piece_from (fields line))) (tracks_section (codes "pieces") 0 MOST_TICKETS (piece_of sizes.pairs) (piece_tests sizes.pairs) (λ line. piece_from (fields line)) (pieces_agree sizes.pairs))) (λ pieces.
    follows_then (due (fixed (codes "end lottery"))) (words_then (codes "end lottery")) (λ x at. Ok (pieces, at)) (λ then. then) (words_follow (codes "end lottery")) (λ x. follows_done pieces))

worth_follows : (sizes : Sizes) → Follows (worth_at sizes) (worth_then sizes)
unfolding worth_at
worth_follows sizes =
    follows_tracked (due total_of) (λ then. line_then total_tests (λ line. then (signed_value (part 1 (fields line))))) (λ total at. prices_at sizes at >>= λ prices. Ok ((total, prices.0), prices.1)) (λ total. prices_then sizes)
    (tracks_due total_of total_tests (λ line. signed_value (part 1 (fields line))) totals_agree) (λ total.
    follows_then (prices_at sizes) (prices_then sizes) (λ prices at. Ok ((total, prices), at)) (λ then. then) (prices_follow sizes) (λ prices. follows_done {A = ℤ × Prices} (total, prices)))

abbrev with_then : Sizes → Asked → Due → Due
with_then sizes found then = worth_then sizes (shares_then sizes (level_then sizes found (pieces_then sizes then)))

with_follows : (sizes : Sizes) (found : Asked) → Follows (lottery_with sizes found) (with_then sizes found)
unfolding lottery_with
with_follows sizes found =
    follows_then (worth_at sizes) (worth_then sizes) (λ worth at. dealt_at sizes found at >>= λ dealt. pieces_at sizes dealt.1 >>= λ pieces. Ok (winning_of worth dealt.0 pieces.0, pieces.1)) (λ then. shares_then sizes (level_then sizes found (pieces_then sizes then)))
    (worth_follows sizes) (λ worth.
    follows_then (dealt_at sizes found) (λ then. shares_then sizes (level_then sizes found then)) (λ dealt at. pieces_at sizes at >>= λ pieces. Ok (winning_of worth dealt pieces.0, pieces.1)) (pieces_then sizes)
    (dealt_follows sizes found) (λ dealt.
    follows_then (pieces_at sizes) (pieces_then sizes) (λ pieces at. Ok (winning_of worth dealt pieces, at)) (λ then. then) (pieces_follow sizes) (λ pieces. follows_done (winning_of worth dealt pieces))))

lottery_follows : (sizes : Sizes) → Follows (lottery_at sizes) (lottery_then sizes)
unfolding lottery_at lottery_then
lottery_follows sizes = follows_tracked asked_at asked_then (lottery_with sizes) (with_then sizes) asked_tracks (with_follows sizes)

-- ---- an answer without a lottery

counts_follow : (word : List ℕ) (least most : ℕ) → Follows (due (number_after word least most)) (λ then. count_then word least most (λ count. then))
counts_follow word least most = follows_from (due (number_after word least most)) (count_then word least most) (tracks_count word least most)

abbrev end_then : Due → Due
end_then then = words_then (codes "end infeasible") then

sums_follow : Follows sums_at sums_then
unfolding sums_at
sums_follow =
    follows_then (due (number_after (codes "need") 0 MOST_AMOUNT)) (λ then. count_then (codes "need") 0 MOST_AMOUNT (λ need. then)) (λ need at. due (number_after (codes "room") 0 MOST_AMOUNT) at >>= λ room. due (fixed (codes "end infeasible")) room.1 >>= λ end. Ok ((need, room.0), end.1)) (λ then. count_then (codes "room") 0 MOST_AMOUNT (λ room. end_then then))
    (counts_follow (codes "need") 0 MOST_AMOUNT) (λ need.
    follows_then (due (number_after (codes "room") 0 MOST_AMOUNT)) (λ then. count_then (codes "room") 0 MOST_AMOUNT (λ room. then)) (λ room at. due (fixed (codes "end infeasible")) at >>= λ end. Ok ((need, room), end.1)) end_then
    (counts_follow (codes "room") 0 MOST_AMOUNT) (λ room.
    follows_then (due (fixed (codes "end infeasible"))) end_then (λ end at. Ok ((need, room), at)) (λ then. then) (words_follow (codes "end infeasible")) (λ end. follows_done {A = ℕ × ℕ} (need, room))))

infeasible_follows : (sizes : Sizes) → Follows (infeasible_at sizes) (infeasible_then sizes)
unfolding infeasible_at infeasible_then
infeasible_follows sizes =
    follows_tracked (due mode_of) (λ then. line_then mode_tests (λ line. then (mode_from line))) (λ mode at. cut_at sizes at >>= λ cut. sums_at cut.1 >>= λ sums. Ok (blocked_of mode cut.0 sums.0, sums.1)) (λ mode then. cut_then sizes (sums_then then))
    modes_track (λ mode.
    follows_then (cut_at sizes) (cut_then sizes) (λ cut at. sums_at at >>= λ sums. Ok (blocked_of mode cut sums.0, sums.1)) sums_then
    (cut_follows sizes) (λ cut.
    follows_then sums_at sums_then (λ sums at. Ok (blocked_of mode cut sums, at)) (λ then. then) sums_follow (λ sums. follows_done (blocked_of mode cut sums))))

-- ---- an answer

behind_follows : (sizes : Sizes) (kind : AnswerKind) → Follows (answer_behind sizes kind) (behind_then sizes kind)
behind_follows sizes kinds.Lottery =
    follows_then (lottery_at sizes) (lottery_then sizes) (λ winning at. Ok (Lottery winning, at)) (λ then. then) (lottery_follows sizes) (λ winning. follows_done (Lottery winning))
behind_follows sizes kinds.Infeasible =
    follows_then (infeasible_at sizes) (infeasible_then sizes) (λ blocked at. Ok (Infeasible blocked, at)) (λ then. then) (infeasible_follows sizes) (λ blocked. follows_done (Infeasible blocked))

pub answer_follows : (sizes : Sizes) → Follows (answer_at sizes) (answer_then sizes)
unfolding answer_at answer_then
answer_follows sizes =
    follows_tracked (due kind_of) (λ then. line_then kind_tests (λ line. then (kind_from line))) (λ kind. answer_behind sizes kind) (λ kind. behind_then sizes kind)
    (tracks_due kind_of kind_tests kind_from kinds_agree) (behind_follows sizes)
