-- The text of rules.
use Rattle.std.specs.Prelude.{ℕ, List, [], ◌∷◌, ◌++◌, codes, decimal, option_to_list}
use Rattle.std.specs.Fmt.{signed_decimal}
use Rattle.match_rules.specs.declared.rules.RulePaper.{RulePaper}
use Rattle.match_rules.specs.declared.rules.RuleReviewer.{RuleReviewer}
use Rattle.match_rules.specs.declared.rules.RulePair.{RulePair}
use Rattle.match_rules.specs.Rules.{RulesValue}
use Rattle.text_lines.specs.Fields.{with_spaces}
use Rattle.text_lines.specs.Forms.{count_line, section_text}
use Rattle.text_lines.specs.Texts.{line_of}

-- id and demand
unfoldable pub paper_line : RulePaper → List ℕ
paper_line paper = with_spaces (paper.id ∷ decimal paper.demand ∷ [])

-- id, least and greatest load, and the institution where there is one
unfoldable pub reviewer_line : RuleReviewer → List ℕ
reviewer_line reviewer = with_spaces (reviewer.id ∷ decimal reviewer.least ∷ decimal reviewer.greatest ∷ option_to_list reviewer.institution)

-- places of the paper and the reviewer, score, floor and cap
unfoldable pub pair_line : RulePair → List ℕ
pair_line pair = with_spaces (decimal pair.paper ∷ decimal pair.reviewer ∷ signed_decimal pair.score ∷ decimal pair.floor ∷ decimal pair.cap ∷ [])

-- the kind of text, the tickets and the limit
unfoldable pub head_text : ℕ → ℕ → List ℕ
head_text tickets limit = line_of (codes "rules 1") ++ (line_of (count_line (codes "tickets") tickets) ++ line_of (count_line (codes "limit") limit))

-- the papers, the reviewers and the pairs
unfoldable pub lists_text : List RulePaper → List RuleReviewer → List RulePair → List ℕ
lists_text papers reviewers pairs = section_text (codes "papers") paper_line papers ++ (section_text (codes "reviewers") reviewer_line reviewers ++ section_text (codes "pairs") pair_line pairs)

unfoldable pub rules_text : RulesValue → List ℕ
rules_text rules = head_text rules.tickets rules.limit ++ (lists_text rules.papers rules.reviewers rules.pairs ++ line_of (codes "end rules"))
