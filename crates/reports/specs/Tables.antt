-- The tables over the shares of a certified lottery and over one of its pieces: each a line of its columns, and lines in the
-- order of places.
use Rattle.std.specs.Prelude.{ℕ, ℤ, pos, ◌*ℤ◌, ◌==◌, nat_le, if◌then◌else◌, List, [], ◌∷◌, ◌++◌, length, slice_index, codes, decimal}
use Rattle.std.specs.Fmt.{signed_decimal}
use Rattle.match_rules.specs.declared.rules.RulePaper.{RulePaper}
use Rattle.match_rules.specs.declared.rules.RuleReviewer.{RuleReviewer}
use Rattle.match_rules.specs.Rules.{RulesValue, paper_at, reviewer_at, pair_at}
use Rattle.match_rules.specs.SharesFit.{reviewer_shares}
use Rattle.match_rules.specs.Sums.{sum_below, int_when}
use Rattle.text_lines.specs.Texts.{line_of, lines_of}
use Rattle.reports.specs.Lists.{with_commas, texts_below}

-- the ids of the paper and of the reviewer of a pair
abbrev pub paper_of : RulesValue → ℕ → List ℕ
paper_of rules e = (paper_at rules (pair_at rules e).paper).id

abbrev pub reviewer_of : RulesValue → ℕ → List ℕ
reviewer_of rules e = (reviewer_at rules (pair_at rules e).reviewer).id

-- ---- shares

-- a pair, with its score and its share
unfoldable pub share_line : RulesValue → List ℕ → ℕ → List ℕ
share_line rules shares e = with_commas (paper_of rules e ∷ reviewer_of rules e ∷ signed_decimal (pair_at rules e).score ∷ decimal (slice_index shares e) ∷ [])

-- the line of a pair that has a share of at least 1
abbrev pub share_text : RulesValue → List ℕ → ℕ → List ℕ
share_text rules shares e = if nat_le 1 (slice_index shares e) then line_of (share_line rules shares e) else []

abbrev pub shares_text : RulesValue → List ℕ → List ℕ
shares_text rules shares = line_of (codes "paper,reviewer,score,tickets") ++ texts_below (length rules.pairs) (share_text rules shares)

-- ---- loads

-- a reviewer, with the least and the greatest load, and tickets
unfoldable pub load_line : RuleReviewer → ℕ → List ℕ
load_line reviewer tickets = with_commas (reviewer.id ∷ decimal reviewer.least ∷ decimal reviewer.greatest ∷ decimal tickets ∷ [])

-- each reviewer, with the sum of the shares of their pairs
abbrev pub loads_text : RulesValue → List ℕ → List ℕ
loads_text rules shares = line_of (codes "reviewer,least,greatest,tickets") ++ texts_below (length rules.reviewers) (λ r. line_of (load_line (reviewer_at rules r) (reviewer_shares rules shares r)))

-- ---- papers

-- the scores of the pairs of a paper, each times its share
abbrev pub paper_score : RulesValue → List ℕ → ℕ → ℤ
paper_score rules shares p = sum_below (length rules.pairs) (λ e. int_when ((pair_at rules e).paper == p) (pos (slice_index shares e) *ℤ (pair_at rules e).score))

-- a paper, with its demand and a score
unfoldable pub paper_line : RulePaper → ℤ → List ℕ
paper_line paper score = with_commas (paper.id ∷ decimal paper.demand ∷ signed_decimal score ∷ [])

-- each paper, with that score
abbrev pub papers_text : RulesValue → List ℕ → List ℕ
papers_text rules shares = line_of (codes "paper,demand,score") ++ texts_below (length rules.papers) (λ p. line_of (paper_line (paper_at rules p) (paper_score rules shares p)))

-- ---- the pairs of one assignment

unfoldable pub pair_line : RulesValue → ℕ → List ℕ
pair_line rules e = with_commas (paper_of rules e ∷ reviewer_of rules e ∷ [])

abbrev pub assignment_text : RulesValue → List ℕ → List ℕ
assignment_text rules places = line_of (codes "paper,reviewer") ++ lines_of (pair_line rules) places
