-- The table of institutions: each institution of a reviewer of the rules once, in the order of their bytes.
use Rattle.std.specs.Prelude.{ℕ, Bool, false, List, [], ◌∷◌, ◌++◌, length, codes, decimal}
use Rattle.std.specs.List.{filter_map}
use Rattle.std.specs.Option.{option_map_or}
use Rattle.std.specs.Ordering.{match_ordering}
use Rattle.std.specs.Str.{bytes_eq}
use Rattle.match_rules.specs.declared.rules.RuleReviewer.{RuleReviewer}
use Rattle.match_rules.specs.Rules.{RulesValue, reviewer_in, id_cmp}
use Rattle.match_rules.specs.SharesFit.{reviewer_shares}
use Rattle.match_rules.specs.Sums.{count_below, when}
use Rattle.text_lines.specs.Texts.{line_of, lines_of}
use Rattle.reports.specs.Lists.{with_commas}

-- the institutions of those reviewers who have one
abbrev pub names_of : List RuleReviewer → List (List ℕ)
names_of reviewers = filter_map (λ (reviewer : RuleReviewer). reviewer.institution) reviewers

-- an ascending list of names with one more
abbrev pub put_name : List ℕ → List (List ℕ) → List (List ℕ)
put_name new [] = new ∷ []
put_name new (name ∷ names) = match_ordering (id_cmp new name) (new ∷ (name ∷ names)) (name ∷ names) (name ∷ put_name new names)

-- names in the order of their bytes, each once
abbrev pub in_order : List (List ℕ) → List (List ℕ)
in_order [] = []
in_order (name ∷ names) = put_name name (in_order names)

-- the institutions of some reviewers, in the order of their bytes, each once
abbrev pub institutions : List RuleReviewer → List (List ℕ)
institutions reviewers = in_order (names_of reviewers)

-- whether a reviewer has the institution
abbrev pub is_at : List ℕ → RuleReviewer → Bool
is_at name reviewer = option_map_or (bytes_eq name) reviewer.institution false

-- the sum of what each reviewer of the institution has
abbrev pub sum_at : List ℕ → List RuleReviewer → (ℕ → ℕ) → ℕ
sum_at name reviewers amount = count_below (length reviewers) (λ r. when (is_at name (reviewer_in reviewers r)) (amount r))

-- the sum of the shares of its reviewers' pairs
abbrev pub institution_shares : RulesValue → List ℕ → List ℕ → ℕ
institution_shares rules shares name = sum_at name rules.reviewers (reviewer_shares rules shares)

-- an institution, with tickets
unfoldable pub institution_line : List ℕ → ℕ → List ℕ
institution_line name tickets = with_commas (name ∷ decimal tickets ∷ [])

-- each institution, with that sum
abbrev pub institutions_text : RulesValue → List ℕ → List ℕ
institutions_text rules shares = line_of (codes "institution,tickets") ++ lines_of (λ name. institution_line name (institution_shares rules shares name)) (institutions rules.reviewers)
