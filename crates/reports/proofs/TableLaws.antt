-- Lines of counted sums are lines of the sums that they count.
use Rattle.std.proofs.Common.{◌≡◌, ℕ, ◌<◌, ◌≤◌, ◌^◌, ◌==◌, List, [], length, ap, ◌∙◌, sym, arith}
use Rattle.std.specs.Prelude.{ℤ, pos, slice_index, slice_index_or}
use Rattle.match_rules.specs.declared.rules.RulePaper.{RulePaper}
use Rattle.match_rules.specs.declared.rules.RuleReviewer.{RuleReviewer}
use Rattle.match_rules.specs.Answers.{SharesMatch}
use Rattle.match_rules.specs.Rules.{RulesValue, AreRules, paper_in, reviewer_in, pair_at}
use Rattle.match_rules.specs.SharesFit.{reviewer_shares}
use Rattle.match_rules.specs.Sums.{when}
use Rattle.match_rules.proofs.SumLaws.{count_below-same}
use Rattle.match_rules.specs.Sound.{AreCounts}
use Rattle.text_lines.specs.Texts.{line_of, lines_of}
use Rattle.reports.specs.Institutions.{institution_line, institution_shares, institutions, is_at, sum_at}
use Rattle.reports.specs.Lists.{AreScores, texts_below}
use Rattle.reports.specs.Tables.{load_line, paper_line}
use Rattle.reports.proofs.CountLaws.{sum-fits}
use Rattle.reports.proofs.TextLaws.{texts_below-same, lines_below}

pub load_lines : (reviewers : List RuleReviewer) (loads : List ℕ) (amount : ℕ → ℕ) → AreCounts loads (length reviewers) amount
    → texts_below (length reviewers) (λ r. line_of (load_line (reviewer_in reviewers r) (slice_index loads r))) ≡ texts_below (length reviewers) (λ r. line_of (load_line (reviewer_in reviewers r) (amount r)))
load_lines reviewers loads amount are =
    texts_below-same (length reviewers) (λ r. line_of (load_line (reviewer_in reviewers r) (slice_index loads r))) (λ r. line_of (load_line (reviewer_in reviewers r) (amount r)))
    (λ r h. let size = are.size in ap (λ n. line_of (load_line (reviewer_in reviewers r) n)) (are.each r (omega (arith, h, size))))

pub paper_lines : (papers : List RulePaper) (scores : List ℤ) (score : ℕ → ℤ) → AreScores scores (length papers) score
    → texts_below (length papers) (λ p. line_of (paper_line (paper_in papers p) (slice_index_or scores p (pos 0)))) ≡ texts_below (length papers) (λ p. line_of (paper_line (paper_in papers p) (score p)))
paper_lines papers scores score are =
    texts_below-same (length papers) (λ p. line_of (paper_line (paper_in papers p) (slice_index_or scores p (pos 0)))) (λ p. line_of (paper_line (paper_in papers p) (score p)))
    (λ p h. let size = are.size in ap (λ z. line_of (paper_line (paper_in papers p) z)) (are.each p (omega (arith, h, size))))

pub institution_lines : (names : List (List ℕ)) (sums : List ℕ) (amount : List ℕ → ℕ)
    → ((i : ℕ) → i < length names → slice_index sums i ≡ amount (slice_index_or names i []))
    → texts_below (length names) (λ i. line_of (institution_line (slice_index_or names i []) (slice_index sums i))) ≡ lines_of (λ name. institution_line name (amount name)) names
institution_lines names sums amount each =
    texts_below-same (length names) (λ i. line_of (institution_line (slice_index_or names i []) (slice_index sums i))) (λ i. line_of (institution_line (slice_index_or names i []) (amount (slice_index_or names i []))))
    (λ i h. ap (λ n. line_of (institution_line (slice_index_or names i []) n)) (each i h))
    ∙ sym (lines_below (λ name. institution_line name (amount name)) names [])

-- a load fits what sums of loads may take
pub load-small : (rules : RulesValue) (shares loads : List ℕ) (r : ℕ) → AreRules rules → SharesMatch rules shares → AreCounts loads (length rules.reviewers) (reviewer_shares rules shares)
    → r < length loads → slice_index loads r ≤ 2 ^ 40
load-small rules shares loads r are matching counts within =
    let sum = sum-fits (λ e. (pair_at rules e).reviewer == r) (slice_index shares) 10000 (length rules.pairs)
    (λ e h. let s = matching.1 e 0 (omega (arith, h, matching.0)) in omega (arith, s, are.tickets)) in
    let counted = counts.each r within in
    let few = are.pairs.few in
    omega (arith, sum, counted, few)

sum_at-same : (name : List ℕ) (reviewers : List RuleReviewer) (loads : List ℕ) (amount : ℕ → ℕ) → AreCounts loads (length reviewers) amount
    → sum_at name reviewers (λ r. slice_index loads r) ≡ sum_at name reviewers amount
sum_at-same name reviewers loads amount are =
    count_below-same (length reviewers) (λ r. when (is_at name (reviewer_in reviewers r)) (slice_index loads r)) (λ r. when (is_at name (reviewer_in reviewers r)) (amount r))
    (λ r h. let size = are.size in ap (λ n. when (is_at name (reviewer_in reviewers r)) n) (are.each r (omega (arith, h, size))))

-- the lines of the counted sums of institutions
pub institution_table : (rules : RulesValue) (shares loads sums : List ℕ) (names : List (List ℕ)) (count : ℕ)
    → AreCounts loads (length rules.reviewers) (reviewer_shares rules shares) → names ≡ institutions rules.reviewers → count ≡ length names → length sums ≡ count
    → ((i : ℕ) → i < length sums → slice_index sums i ≡ sum_at (slice_index_or names i []) rules.reviewers (λ r. slice_index loads r))
    → texts_below count (λ i. line_of (institution_line (slice_index_or names i []) (slice_index sums i))) ≡ lines_of (λ name. institution_line name (institution_shares rules shares name)) (institutions rules.reviewers)
institution_table rules shares loads sums names count counts are long size each =
    ap (λ n. texts_below n (λ i. line_of (institution_line (slice_index_or names i []) (slice_index sums i)))) long
    ∙ institution_lines names sums (institution_shares rules shares)
    (λ i h. each i (omega (arith, h, long, size)) ∙ sum_at-same (slice_index_or names i []) rules.reviewers loads (reviewer_shares rules shares) counts)
    ∙ ap (lines_of (λ name. institution_line name (institution_shares rules shares name))) are
