-- A small venue, over which the definitions are computed.
use Rattle.std.specs.Prelude.{ℕ, List, [], ◌∷◌, codes, Option, Some, None, ℤ, pos}
use Rattle.match_rules.specs.Rules.{RulesValue, rules_value}
use Rattle.match_rules.specs.declared.rules.RulePair.{RulePair}
use Rattle.match_rules.specs.declared.rules.TheConstants.{RULES_TICKETS}
use Rattle.match_rules.specs.declared.rules.RuleReviewer.{RuleReviewer}
use Rattle.roster.specs.declared.rows.PaperRow.{PaperRow}
use Rattle.roster.specs.declared.rows.ReviewerRow.{ReviewerRow}
use Rattle.score_spec.specs.PairTables.{Entry, PairsValue}
use Rattle.bid_import.specs.Settings.{default_settings}
use Rattle.venue_rules.specs.Venues.{VenueValue}

abbrev pub entry : {V : Type 0} → List ℕ → V → Entry V
entry id value = record { id = id; value = value }

-- a table of the pairs of the one paper
abbrev pub of_paper : List (Entry ℤ) → PairsValue ℤ
of_paper entries = entry (codes "p") entries ∷ []

abbrev pub reviewer : List ℕ → Option (List ℕ) → ReviewerRow
reviewer id institution = record { id = id; institution = institution; load = Some (record { least = 0; greatest = 1 }) }

-- a paper with authors of these institutions, and three reviewers, the first of this institution; a value for each pair
abbrev pub small : List (List ℕ) → Option (List ℕ) → PairsValue ℤ → PairsValue ℤ → VenueValue
small authors institution marks caps = record {
  settings = default_settings;
  papers = record { id = codes "p"; demand = Some 1; authors = authors } ∷ [];
  reviewers = reviewer (codes "a") institution ∷ reviewer (codes "b") None ∷ reviewer (codes "c") None ∷ [];
  scores = record { values = entry (codes "affinity") (of_paper (entry (codes "a") (pos 10000) ∷ entry (codes "b") (pos 5000) ∷ entry (codes "c") (pos 8000) ∷ [])) ∷ []; bids = [] };
  marks = marks;
  caps = caps;
}

abbrev pub pair : ℕ → ℕ → ℕ → ℕ → RulePair
pair reviewer score floor cap = record { paper = 0; reviewer = reviewer; score = pos score; floor = floor; cap = cap }

abbrev pub rule_reviewer : List ℕ → RuleReviewer
rule_reviewer id = record { id = id; institution = None; least = 0; greatest = 1 }

abbrev pub small_rules : List RulePair → RulesValue
small_rules pairs = rules_value RULES_TICKETS 1500
    (record { id = codes "p"; demand = 1 } ∷ [])
    (rule_reviewer (codes "a") ∷ rule_reviewer (codes "b") ∷ rule_reviewer (codes "c") ∷ [])
    pairs
